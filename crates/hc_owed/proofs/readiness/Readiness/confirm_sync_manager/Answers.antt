use Rattle.std.proofs.Common.{List, ap, ◌∙◌}
use Rattle.hc_records.specs.Lists.{changed_at}
use Rattle.hc_owed.specs.declared.area.JudgedArea.{JudgedArea}
use Rattle.hc_owed.specs.Areas.{sync_manager_confirmed}
use Rattle.hc_owed.proofs.Counting.{area-set, can-put-at}
use Rattle.hc_plan.proofs.lemmas.Replaced.{set-changed}
use Rattle.hc_owed.proofs.readiness.Readiness.confirm_sync_manager.Goals as goal

pub confirm_sync_manager-requires : goal.confirm_sync_manager-requires
confirm_sync_manager-requires c = can-put-at c.self.inside.areas.items c.args.self.now c.self.inside.tally c.args.n c.args.area c.self.view_is c.requires c.self.invariant

pub returns : goal.returns
returns c =
    set-changed c.args.n c.sync_manager_confirmed.result c.self.inside.areas.items ∙ ap (λ (a : JudgedArea). changed_at c.args.n (λ _. a) c.self.inside.areas.items) c.sync_manager_confirmed.ensures
    ∙ ap (λ (l : List JudgedArea). changed_at c.args.n (λ _. sync_manager_confirmed c.args.area) l) c.self.view_is

pub invariant_of-self : goal.invariant_of-self
invariant_of-self c =
    area-set c.self.inside.areas.items c.args.self.now c.self.inside.tally c.confirm_sync_manager.new.self c.args.n c.args.area (sync_manager_confirmed c.args.area) c.sync_manager_confirmed.result c.self.view_is c.requires c.sync_manager_confirmed.ensures c.self.invariant
    c.confirm_sync_manager.ensures
