use Rattle.std.proofs.Common.{◌∙◌, ap, rules}
use Rattle.hc_records.specs.Lists.{changed_at}
use Rattle.hc_owed.specs.declared.area.JudgedArea.{JudgedArea}
use Rattle.hc_owed.proofs.AreaChanges.{length-changed-from, turn-more}
use Rattle.hc_owed.proofs.readiness.Readiness.turn.Goals as goal

pub area-area-requires : goal.area-area-requires
area-area-requires c = search (rules, length-changed-from)

pub set_area-requires : goal.set_area-requires
set_area-requires c = search (rules, length-changed-from)

pub loop-n-preserved : goal.loop-n-preserved
loop-n-preserved c =
    c.set_area.ensures ∙ ap (λ (a : JudgedArea). changed_at c.loop-n.n (λ _. a) c.loop-n.self) c.after.ensures
    ∙ turn-more c.args.turn c.args.from c.loop-n.n c.args.self.now c.loop-n.self c.area-area.result c.loop-n.auto.n c.loop-n.invariant c.area-area.ensures
