use Rattle.std.proofs.Common.{length, sym, subst}
use Rattle.hc_records.specs.Line.{State}
use Rattle.hc_registers.specs.RankPlaces.{stations}
use Rattle.hc_owed.specs.EditWaits.{areas_cleared}
use Rattle.hc_owed.specs.ReadinessLaws.{AreWaiting}
use Rattle.hc_core.proofs.Followed.{can-admit_areas, can-foretell, declared-next, declares-with}
use Rattle.hc_core.proofs.declaring.foretell.Goals as goal

pub will_wait-requires : goal.will_wait-requires
will_wait-requires c =
    can-foretell c.args.owed.now c.args.readiness.now c.args.edit.now c.args.slaves.now c.gone.result c.blocks-in-None.result.now c.requires c.in-None.is c.gone.ensures.gone c.blocks-in-None.ensures.blocks

pub returns-in-Some : goal.returns-in-Some
returns-in-Some c = λ can.
    let edit = c.args.edit.now in
    let with = declares-with (length (stations edit.old)) edit.report.swap.edit c.args.slaves.now _ can.slaves c.in-Some.is in
    subst (λ (state : State). AreWaiting (areas_cleared can.known can.held can.unplugged edit.old state) c.waiting_tasks.result) (sym (declared-next edit with.group can.prepared with.named))
    (c.waiting_tasks.ensures.declared _ (can-admit_areas c.args.owed.now c.args.readiness.now edit c.args.slaves.now _ can c.in-Some.is))

pub returns-in-None : goal.returns-in-None
returns-in-None c = λ can.
    c.will_wait.ensures
    (can-foretell c.args.owed.now c.args.readiness.now c.args.edit.now c.args.slaves.now c.gone.result c.blocks-in-None.result.now can c.in-None.is c.gone.ensures.gone c.blocks-in-None.ensures.blocks)
