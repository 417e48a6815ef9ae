use Rattle.std.proofs.Common.{List, ap, ◌∙◌}
use Rattle.hc_records.specs.Lists.{changed_at}
use Rattle.hc_owed.specs.declared.area.JudgedArea.{JudgedArea}
use Rattle.hc_owed.specs.Areas.{area_written}
use Rattle.hc_owed.proofs.Counting.{area-set, written-put}
use Rattle.hc_plan.proofs.lemmas.Replaced.{set-changed}
use Rattle.hc_owed.proofs.readiness.Readiness.write_area.Goals as goal

pub returns : goal.returns
returns c =
    set-changed c.args.n c.written.result c.self.inside.areas.items ∙ ap (λ (a : JudgedArea). changed_at c.args.n (λ _. a) c.self.inside.areas.items) c.written.ensures
    ∙ ap (λ (l : List JudgedArea). changed_at c.args.n (λ _. area_written c.args.area) l) c.self.view_is

pub invariant_of-self : goal.invariant_of-self
invariant_of-self c =
    area-set c.self.inside.areas.items c.args.self.now c.self.inside.tally c.self.inside.tally c.args.n c.args.area (area_written c.args.area) c.written.result c.self.view_is c.requires c.written.ensures c.self.invariant
    (written-put c.self.inside.tally c.args.area)
