use Rattle.std.proofs.Common.{◌≡◌, ◌≤◌, ℕ, All, length, map, arith, sym, subst, ◌∙◌, ap}
use Rattle.std.specs.List.{range_with_len}
use Rattle.std.specs.Prelude.{reverse}
use Rattle.std.proofs.lemmas.List.{length-map}
use Rattle.std.proofs.lemmas.List.Elements.{All-weaker}
use Rattle.std.proofs.lemmas.List.FromFn.{length-range_with_len}
use Rattle.hc_records.specs.declared.limits.TheConstants.{TASKS}
use Rattle.hc_records.specs.Line.{State, groups_of, line, opened}
use Rattle.hc_places.specs.Table.{Table, table_of}
use Rattle.hc_events.specs.Points.{state_of}
use Rattle.hc_publish.specs.ChangesSince.{IsOpening}
use Rattle.hc_publish.proofs.lemmas.Openings.{is-opening, opened-groups}
use Rattle.hc_publish.specs.PublishedState as published_state
use Rattle.hc_publish.specs.Seats.{SeatIsAtOpening, seat_origin, task_of}
use Rattle.hc_rings.specs.declared.post_buffer.TheConstants.{LARGEST_IMAGE}
use Rattle.hc_conductor.specs.Openings.{AreEnds, IsOpenable, IsUnused, output_bytes}
use Rattle.hc_conductor.proofs.lemmas.Images.{opened-short}
use Rattle.hc_conductor.proofs.Lists.{is_placed-opened}
use Rattle.hc_conductor.proofs.Refusals.{refusal-answer_given}
use Rattle.hc_conductor.specs.Together.{EachRing, LostNoBuffer}
use Rattle.hc_conductor.proofs.opening.open.Goals as goal

pub open-requires : goal.open-requires
open-requires g c =
    subst IsOpening (sym (c.plan.ensures.state ∙ ap (λ s. state_of s.history) c.in_ok-core.ensures.opened)) (is-opening c.args.project)

pub task_seats-seats-requires-clause-room : goal.task_seats-seats-requires-clause-room
task_seats-seats-requires-clause-room g c =
    let seats = c.in_ok-publisher.seats in
    omega (arith, seats.ok.0, length-map seats.items task_of, ap length c.in_ok-publisher.ensures.tasks, c.in_ok-room.ensures.capacity)

pub task_seats-seats-requires-clause-senders : goal.task_seats-seats-requires-clause-senders
task_seats-seats-requires-clause-senders g c =
    let seats = c.in_ok-publisher.seats in
    omega (arith, length-map seats.items task_of, ap length c.in_ok-publisher.ensures.tasks, length-range_with_len 0 TASKS, c.in_ok-senders.ensures.count.0)

pub task_seats-seats-requires-clause-few : goal.task_seats-seats-requires-clause-few
task_seats-seats-requires-clause-few g c =
    let seats = c.in_ok-publisher.seats in
    omega (arith, length-map seats.items task_of, ap length c.in_ok-publisher.ensures.tasks, length-range_with_len 0 TASKS)

pub task_seats-seats-requires-clause-openable : goal.task_seats-seats-requires-clause-openable
task_seats-seats-requires-clause-openable g c =
    let origin = published_state.origin_of c.in_ok-publisher.publisher in
    let groups : origin.groups ≡ c.args.project =
    c.in_ok-publisher.ensures.published.2
    ∙ (ap (λ (s : State). groups_of s.groups) (c.plan.ensures.state ∙ ap (λ s. state_of s.history) c.in_ok-core.ensures.opened) ∙ opened-groups c.args.project) in
    let own : IsOpenable origin.groups = subst IsOpenable (sym groups) c.in_ok-core.ensures.openable in
    All-weaker (SeatIsAtOpening origin) (λ seat. IsOpenable (seat_origin seat).groups) (λ seat fresh. subst (λ o. IsOpenable o.groups) (sym fresh.1) own) c.in_ok-publisher.seats.items c.in_ok-publisher.ensures.at_opening

pub task_seats-seats-requires-clause-fits : goal.task_seats-seats-requires-clause-fits
task_seats-seats-requires-clause-fits g c =
    let state : c.plan-2.result.now ≡ opened c.args.project = c.plan-2.ensures.state ∙ ap (λ s. state_of s.history) c.in_ok-core.ensures.opened in
    let table : c.places.result.now ≡ table_of (line (opened c.args.project)) = c.places.ensures.table ∙ ap (λ (s : State). table_of (line s)) state in
    λ task. subst (λ (t : Table). output_bytes t task ≤ LARGEST_IMAGE) (sym table) (opened-short c.args.project c.in_ok-core.ensures.openable task)

pub invariant_of-conductor : goal.invariant_of-conductor
invariant_of-conductor g c =
    let groups =
    c.in_ok-publisher.ensures.published.2
    ∙ (ap (λ (s : State). groups_of s.groups) (c.plan.ensures.state ∙ ap (λ s. state_of s.history) c.in_ok-core.ensures.opened) ∙ opened-groups c.args.project) in
    is_placed-opened _ c.args.project c.in_ok-core.ensures.opened groups c.in_ok-publisher.ensures.published.0 c.in_ok-publisher.ensures.published.1 (ap reverse c.new.ensures.items) c.in_ok-senders.ensures.count.1

pub returns-clause-groups : goal.returns-clause-groups
returns-clause-groups g c =
    c.in_ok-publisher.ensures.published.2
    ∙ (ap (λ (s : State). groups_of s.groups) (c.plan.ensures.state ∙ ap (λ s. state_of s.history) c.in_ok-core.ensures.opened) ∙ opened-groups c.args.project)

pub returns-clause-fresh : goal.returns-clause-fresh
returns-clause-fresh g c =
    subst (All (SeatIsAtOpening (published_state.origin_of c.in_ok-publisher.publisher))) (sym c.task_seats-seats.ensures.seats) c.in_ok-publisher.ensures.at_opening

pub returns-clause-rings : goal.returns-clause-rings
returns-clause-rings g c = subst (λ ss. AreEnds ss c.in_ok-senders.rings.items) (sym c.task_seats-seats.ensures.senders) c.in_ok-senders.ensures.ends

pub returns-clause-unused : goal.returns-clause-unused
returns-clause-unused g c = subst (All IsUnused) (sym c.task_seats-seats.ensures.senders) c.in_ok-senders.ensures.unused

pub returns-clause-sizes : goal.returns-clause-sizes
returns-clause-sizes g c =
    let seats = c.in_ok-publisher.seats in
    let state : c.plan-2.result.now ≡ opened c.args.project = c.plan-2.ensures.state ∙ ap (λ s. state_of s.history) c.in_ok-core.ensures.opened in
    let table : c.places.result.now ≡ table_of (line (opened c.args.project)) = c.places.ensures.table ∙ ap (λ (s : State). table_of (line s)) state in
    let eight : length seats.items ≡ TASKS = omega (arith, length-map seats.items task_of, ap length c.in_ok-publisher.ensures.tasks, length-range_with_len 0 TASKS) in
    c.task_seats-seats.ensures.sizes
    ∙ (ap (λ (n : ℕ). map (output_bytes c.places.result.now) (range_with_len 0 n)) eight ∙ ap (λ (t : Table). map (output_bytes t) (range_with_len 0 TASKS)) table)

pub returns-clause-whole : goal.returns-clause-whole
returns-clause-whole g c = subst (λ ss. EachRing LostNoBuffer ss c.in_ok-senders.rings.items) (sym c.task_seats-seats.ensures.senders) c.in_ok-senders.ensures.whole

pub returns-in_err-publisher-clause-refused : goal.returns-in_err-publisher-clause-refused
returns-in_err-publisher-clause-refused g c =
    refusal-answer_given c.args.project c.from_residual-in_err-publisher.result c.in_err-publisher.field-0.0 c.in_ok-core.ensures.openable c.in_err-publisher.ensures.refused c.from_residual-in_err-publisher.ensures.1
