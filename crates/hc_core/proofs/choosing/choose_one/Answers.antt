use Rattle.std.proofs.Common.{◌+◌, refl, sym, subst, rules}
use Rattle.hc_owed.specs.Laws.{owed_from}
use Rattle.hc_sendings.specs.WriteFrames.{WriteFrame, block_joined}
use Rattle.hc_core.specs.Chosen.{IsChosenFrom}
use Rattle.hc_core.proofs.ChosenBlocks.{chosen-more, chosen-zero, placed-sized}
use Rattle.hc_core.proofs.choosing.choose_one.Goals as goal

pub join-requires-clause-least : goal.join-requires-clause-least
join-requires-clause-least c =
    let is = c.in-Some.ensures c.requires in
    placed-sized c.requires.state c.in-Some.next.place c.in-Some.next.block c.requires.project is.at

pub returns-then-has_room : goal.returns-then-has_room
returns-then-has_room c = λ unchanged.
    let next = c.in-Some.next in
    let old = c.args.frame.now in
    let joined = block_joined next old in
    let is = c.in-Some.ensures unchanged in
    let over = chosen-zero (owed_from unchanged.known unchanged.state) unchanged.state (next.place + 1) 0 joined refl in
    subst (λ (frame : WriteFrame). IsChosenFrom (owed_from unchanged.known unchanged.state) unchanged.state 0 1 old frame) (sym c.join.ensures)
    (chosen-more (owed_from unchanged.known unchanged.state) unchanged.state 0 1 0 old joined next is (search (rules, c.has_room.ensures, c.bytes.ensures)) (search rules) over)
