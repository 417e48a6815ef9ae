use Rattle.std.proofs.Common.{◌≡◌, ◌⊎◌, List, ◌∷◌, length, map, replicate, sym, ap, subst, ◌∙◌}
use mathlib.Core.List.{IsPrefix}
use Rattle.hc_events.specs.declared.change.Change.{Change}
use Rattle.hc_conductor.specs.declared.seat.TaskSeat.{TaskSeat}
use Rattle.hc_conductor.specs.Conducting.{conductor_published}
use Rattle.hc_conductor.specs.Seats.{seat_known}
use Rattle.hc_conductor.specs.Learning.{CanLearn}
use Rattle.hc_conductor.proofs.Learnt.{learnt}
use Rattle.hc_conductor.proofs.one_thread.learning.+learn_all.Goals as goal

pub returns-clause-known : goal.returns-clause-known
returns-clause-known t c =
    let cut = c.in-Some.ensures.cases.0 in
    let can = subst (CanLearn c.args.conductor.now) cut c.requires in
    let changes_since = c.note.ensures.carried in
    let list = conductor_published c.args.conductor.now in
    let new = seat_known c.learn.new.self in
    let one = learnt (seat_known c.in-Some.seat.now) list new can.1 (subst (λ (l : List Change). (new ≡ seat_known c.in-Some.seat.now) ⊎ (new ≡ l)) changes_since c.learn.ensures.one)
    (subst (λ (l : List Change). IsPrefix l new) changes_since c.learn.ensures.changes_since) in
    ap (λ (l : List Change). l ∷ map seat_known c.learn_all.new.seats) one
    ∙ (ap (λ (ls : List (List Change)). list ∷ ls) c.learn_all.ensures.known ∙ sym (ap (λ (ss : List TaskSeat). replicate (length ss) list) cut))
