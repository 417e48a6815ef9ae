use Rattle.std.proofs.Common.{◌≡◌, ℕ, List, [], length, map, replicate, sym, ap, ◌∙◌, None}
use Rattle.std.proofs.lemmas.List.{length-map}
use Rattle.std.proofs.lemmas.List.FromFn.{length-range_with_len}
use Rattle.hc_events.specs.declared.change.Change.{Change}
use Rattle.hc_publish.specs.Seats as inner
use Rattle.hc_conductor.specs.Conducting.{conductor_origin}
use Rattle.hc_conductor.specs.Seats.{seat_of, sender}
use Rattle.hc_conductor.proofs.Seated.{fresh-known, fresh-origins, map-twice, unused-held, unused-waiting}
use Rattle.hc_conductor.proofs.one_thread.opening.open.Goals as goal

pub invariant_of-result : goal.invariant_of-result
invariant_of-result g c =
    let seats = c.in_ok-conductor.seats.items in
    let answer_given = c.in_ok-conductor.ensures in
    let tasks = sym (map-twice inner.task_of seat_of seats) ∙ answer_given.tasks in
    let eight : length seats ≡ 8 = sym (length-map seats (λ s. inner.task_of (seat_of s))) ∙ (ap length tasks ∙ length-range_with_len 0 8) in
    record {
      tasks = tasks;
      known = fresh-known (conductor_origin c.in_ok-conductor.conductor) seats answer_given.fresh ∙ (ap (λ (n : ℕ). replicate n []) eight ∙ ap (λ (l : List Change). replicate 8 l) (sym answer_given.lists.0));
      origins = fresh-origins (conductor_origin c.in_ok-conductor.conductor) seats answer_given.fresh ∙ ap (λ (n : ℕ). replicate n (conductor_origin c.in_ok-conductor.conductor)) eight;
      none_held = unused-held seats answer_given.unused ∙ ap (λ (n : ℕ). replicate n None) eight;
      whole = answer_given.whole;
    }

pub returns-clause-waiting : goal.returns-clause-waiting
returns-clause-waiting g c =
    let seats = c.in_ok-conductor.seats.items in
    let answer_given = c.in_ok-conductor.ensures in
    let tasks = sym (map-twice inner.task_of seat_of seats) ∙ answer_given.tasks in
    let eight : length seats ≡ 8 = sym (length-map seats (λ s. inner.task_of (seat_of s))) ∙ (ap length tasks ∙ length-range_with_len 0 8) in
    unused-waiting (map sender seats) c.in_ok-conductor.conductor.rings answer_given.whole answer_given.unused ∙ ap (λ (n : ℕ). replicate n []) (length-map seats sender ∙ eight)
