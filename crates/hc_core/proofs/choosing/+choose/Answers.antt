use Rattle.std.proofs.Common.{◌+◌, ◌-◌, ℕ, subst, ap, arith, rules}
use Rattle.std.proofs.lemmas.Bool.{not-true}
use Rattle.hc_owed.specs.Laws.{owed_from}
use Rattle.hc_sendings.specs.WriteFrames.{WriteFrame}
use Rattle.hc_sendings.specs.declared.write_frames.PlacedBlock.{PlacedBlock}
use Rattle.hc_core.specs.Chosen.{IsChosenFrom}
use Rattle.hc_core.proofs.ChosenBlocks.{chosen-full, chosen-more, chosen-over, chosen-zero, place-low, placed-sized}
use Rattle.hc_core.proofs.choosing.+choose.Goals as goal

pub returns-then-most-eq0 : goal.returns-then-most-eq0
returns-then-most-eq0 t c = λ unchanged. chosen-zero (owed_from unchanged.known unchanged.state) unchanged.state c.args.place c.args.most c.args.frame.now (search rules)

pub returns-in_default : goal.returns-in_default
returns-in_default t c = λ unchanged. chosen-over (owed_from unchanged.known unchanged.state) unchanged.state c.args.place c.args.most c.args.frame.now (c.in_default.ensures unchanged)

pub returns-then-not-has_room : goal.returns-then-not-has_room
returns-then-not-has_room t c = λ unchanged.
    chosen-full (owed_from unchanged.known unchanged.state) unchanged.state c.args.place c.args.most c.args.frame.now c.in-Some.next (c.in-Some.ensures unchanged) (search (rules, not-true, c.has_room.ensures, c.bytes.ensures))

pub overflow_add-after : goal.overflow_add-after
overflow_add-after t c =
    let is = c.in-Some.ensures c.requires in
    let low = place-low c.requires.state c.in-Some.next.place c.in-Some.next.block c.requires.project is.at in
    let place = ap (λ (one : PlacedBlock). one.place) c.next.view_is in
    omega (arith, low, place)

pub join-requires-clause-least : goal.join-requires-clause-least
join-requires-clause-least t c =
    let is = c.in-Some.ensures c.requires in
    placed-sized c.requires.state c.in-Some.next.place c.in-Some.next.block c.requires.project is.at

pub returns : goal.returns
returns t c = λ unchanged.
    let is = c.in-Some.ensures unchanged in
    let place = ap (λ (one : PlacedBlock). one.place) c.next.view_is in
    let new = c.choose.new.frame in
    let step = subst (λ (n : ℕ). IsChosenFrom (owed_from unchanged.known unchanged.state) unchanged.state (n + 1) (c.args.most - 1) c.join.new.self new) place (c.choose.ensures unchanged) in
    chosen-more (owed_from unchanged.known unchanged.state) unchanged.state c.args.place c.args.most (c.args.most - 1) c.args.frame.now new c.in-Some.next is (search (rules, c.has_room.ensures, c.bytes.ensures)) (search rules)
    (subst (λ (frame : WriteFrame). IsChosenFrom (owed_from unchanged.known unchanged.state) unchanged.state (c.in-Some.next.place + 1) (c.args.most - 1) frame new) c.join.ensures step)
