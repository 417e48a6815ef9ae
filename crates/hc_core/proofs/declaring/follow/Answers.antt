use Rattle.std.proofs.Common.{length, ap, sym, ◌∙◌}
use Rattle.hc_records.specs.Line.{State}
use Rattle.hc_registers.specs.RankPlaces.{stations}
use Rattle.hc_owed.specs.Readiness.{readiness_of}
use Rattle.hc_owed.specs.ReadinessSteps.{held_over, unplugged_over}
use Rattle.hc_owed.specs.RegisterState.{register_state_of}
use Rattle.hc_owed.specs.Laws.{known_over}
use Rattle.hc_owed.proofs.lemmas.TaskSums.{none-has}
use Rattle.hc_core.proofs.Followed.{blocks-edited, can-admit, can-admit_areas, can-change, can-change_areas, declared-blocks, declared-next, declares-with}
use Rattle.hc_core.proofs.declaring.follow.Goals as goal

pub admit-requires : goal.admit-requires
admit-requires c = can-admit c.args.owed.now c.args.readiness.now c.args.edit.now c.args.slaves c.in-Some.room c.requires c.in-Some.is

pub admit-requires-in-Some : goal.admit-requires-in-Some
admit-requires-in-Some c = can-admit_areas c.args.owed.now c.args.readiness.now c.args.edit.now c.args.slaves c.in-Some.room c.requires c.in-Some.is

pub change-requires : goal.change-requires
change-requires c = record {
  edited = can-change c.args.owed.now c.args.readiness.now c.args.edit.now c.args.slaves c.gone.result c.blocks-in-None.result.now c.requires c.in-None.is c.gone.ensures.gone c.blocks-in-None.ensures.blocks;
}

pub change-requires-in-None : goal.change-requires-in-None
change-requires-in-None c =
    let edit = c.args.edit.now in
    can-change_areas c.args.owed.now c.args.readiness.now edit c.args.slaves c.change.new.self c.gone-in-None.result c.blocks-in-None-2.result.now c.requires c.in-None.is c.gone-in-None.ensures.gone c.blocks-in-None-2.ensures.blocks
    (c.change.ensures (can-change c.args.owed.now c.args.readiness.now edit c.args.slaves c.gone.result c.blocks-in-None.result.now c.requires c.in-None.is c.gone.ensures.gone c.blocks-in-None.ensures.blocks))

pub returns-in-Some-clause-known : goal.returns-in-Some-clause-known
returns-in-Some-clause-known c = λ can.
    let edit = c.args.edit.now in
    let with = declares-with (length (stations edit.old)) edit.report.swap.edit c.args.slaves c.in-Some.room can.slaves c.in-Some.is in
    c.admit.ensures (can-admit c.args.owed.now c.args.readiness.now edit c.args.slaves c.in-Some.room can c.in-Some.is)
    ∙ ap (register_state_of (known_over edit.old can.known)) (sym (declared-next edit with.group can.prepared with.named))

pub returns-in-Some-clause-ready : goal.returns-in-Some-clause-ready
returns-in-Some-clause-ready c = λ can.
    let edit = c.args.edit.now in
    let with = declares-with (length (stations edit.old)) edit.report.swap.edit c.args.slaves c.in-Some.room can.slaves c.in-Some.is in
    c.admit-in-Some.ensures (can-admit_areas c.args.owed.now c.args.readiness.now edit c.args.slaves c.in-Some.room can c.in-Some.is)
    ∙ ap (λ (state : State). readiness_of (known_over edit.old can.known) (held_over edit.old state can.held) (unplugged_over state can.unplugged) state) (sym (declared-next edit with.group can.prepared with.named))

pub returns-in-None-clause-known : goal.returns-in-None-clause-known
returns-in-None-clause-known c = λ can.
    c.change.ensures (can-change c.args.owed.now c.args.readiness.now c.args.edit.now c.args.slaves c.gone.result c.blocks-in-None.result.now can c.in-None.is c.gone.ensures.gone c.blocks-in-None.ensures.blocks)

pub returns-in-None-clause-ready : goal.returns-in-None-clause-ready
returns-in-None-clause-ready c = λ can.
    let edit = c.args.edit.now in
    c.change-in-None.ensures.areas
    (can-change_areas c.args.owed.now c.args.readiness.now edit c.args.slaves c.change.new.self c.gone-in-None.result c.blocks-in-None-2.result.now can c.in-None.is c.gone-in-None.ensures.gone c.blocks-in-None-2.ensures.blocks
    (c.change.ensures (can-change c.args.owed.now c.args.readiness.now edit c.args.slaves c.gone.result c.blocks-in-None.result.now can c.in-None.is c.gone.ensures.gone c.blocks-in-None.ensures.blocks)))

pub returns-in-Some-clause-tasks : goal.returns-in-Some-clause-tasks
returns-in-Some-clause-tasks c = λ task low.
    let edit = c.args.edit.now in
    let can = c.requires in
    let with = declares-with (length (stations edit.old)) edit.report.swap.edit c.args.slaves c.in-Some.room can.slaves c.in-Some.is in
    none-has task c.none.result low c.none.ensures ∙ sym (declared-blocks edit with.group task can.prepared with.named)

pub returns-in-None-clause-tasks : goal.returns-in-None-clause-tasks
returns-in-None-clause-tasks c = λ task low.
    c.change-in-None.ensures.tasks
    (blocks-edited c.args.owed.now c.args.readiness.now c.args.edit.now c.args.slaves c.gone-in-None.result c.blocks-in-None-2.result.now c.requires c.gone-in-None.ensures.gone c.blocks-in-None-2.ensures.blocks) task low
