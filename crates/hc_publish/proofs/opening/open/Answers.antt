use Rattle.std.proofs.Common.{◌≡◌, [], ◌∷◌, ◌++◌, ◌+◌, map, rules, arith, sym, ◌∙◌, ap, subst}
use Rattle.std.specs.List.{All, range_with_len}
use Rattle.std.proofs.lemmas.List.{map-append}
use Rattle.std.proofs.lemmas.List.Elements.{All-push}
use Rattle.hc_records.specs.declared.limits.TheConstants.{TASKS}
use Rattle.hc_publish.specs.PublishedState.{origin_of}
use Rattle.hc_publish.specs.Seats.{SeatIsAtOpening, task_of}
use Rattle.hc_publish.proofs.Rising.{range_more}
use Rattle.hc_publish.proofs.opening.open.Goals as goal

pub loop-task-preserved : goal.loop-task-preserved
loop-task-preserved g c =
    let first = c.in_ok-publisher.publisher in
    let i = c.loop-task.invariant in
    let knows = c.in-Ok.ensures.knows in
    let same = c.in-Ok.ensures.same in
    let items = c.push_reserved.ensures.items in
    let P = SeatIsAtOpening (origin_of first) in
    let tasks : map task_of (c.loop-task.seats.items ++ c.in-Ok.seat ∷ []) ≡ range_with_len 0 (c.loop-task.task + 1) =
    map-append task_of c.loop-task.seats.items (c.in-Ok.seat ∷ []) ∙ (cc (i.1, knows.2) ∙ sym (range_more c.loop-task.task)) in (
      (same.0 ∙ i.0.0, same.1 ∙ i.0.1, same.2 ∙ i.0.2),
      ap (map task_of) items ∙ tasks,
      subst (All P) (sym items) (All-push P c.loop-task.seats.items c.in-Ok.seat i.2 (knows.0 ∙ (i.0.0 ∙ c.in_ok-publisher.ensures.0), knows.1 ∙ i.0.2)),
      search rules,
      search rules,
    )

pub returns-clause-tasks : goal.returns-clause-tasks
returns-clause-tasks g c =
    let end : c.loop-task.task ≡ TASKS = omega arith in
    c.loop-task.invariant.1 ∙ ap (λ n. range_with_len 0 n) end

pub returns-clause-at_opening : goal.returns-clause-at_opening
returns-clause-at_opening g c = subst (λ o. All (SeatIsAtOpening o) c.loop-task.seats.items) (sym c.loop-task.invariant.0.2) c.loop-task.invariant.2
