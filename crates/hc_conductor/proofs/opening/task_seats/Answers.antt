use Rattle.std.proofs.Common.{◌≡◌, ◌≤◌, ℕ, [], ◌∷◌, All, length, refl, ap, subst, sym, ◌∙◌, arith}
use Rattle.std.specs.Vec.Iter.{into_iter_items}
use Rattle.std.proofs.lemmas.List.Elements.{All-append, All-cons, All-head, All-nil, All-tail}
use Rattle.hc_publish.specs.declared.seat.Seat.{Seat}
use Rattle.hc_publish.specs.Seats.{seat_origin}
use Rattle.hc_rings.specs.declared.post_buffer.TheConstants.{LARGEST_IMAGE}
use Rattle.hc_conductor.specs.Openings.{IsOpenable, output_bytes}
use Rattle.hc_conductor.specs.Seats.{seat_epoch, seat_of, sender, outputs_size}
use Rattle.hc_conductor.specs.declared.seat.TaskSeat.{TaskSeat}
use Rattle.hc_conductor.proofs.Seatings.{moved-on, answer_given-on}
use Rattle.hc_conductor.proofs.opening.task_seats.Goals as goal

abbrev Openable : Seat → Type 0
Openable seat = IsOpenable (seat_origin seat).groups

pub invariant_of-viewer : goal.invariant_of-viewer
invariant_of-viewer c =
    let seats = subst (All Openable) c.in-Some.ensures.steps.0 c.loop-seat.invariant.openable in
    record {
      openable = All-head Openable c.in-Some.seat (into_iter_items c.next.new.self) seats;
      fits = subst (λ (n : ℕ). n ≤ LARGEST_IMAGE) (sym (ap (λ p. p.0) c.part-size.ensures)) (c.requires.fits c.len.result);
    }

pub loop-seat-preserved : goal.loop-seat-preserved
loop-seat-preserved c =
    let i = c.loop-seat.invariant in
    let old = c.loop-seat.all.items in
    let more = c.push_reserved.new.self.items in
    let pushed = c.push_reserved.ensures.items in
    let step = c.in-Some.ensures.steps.0 in
    let step' = c.in-Some-next.ensures.items in
    let size : c.part-size.result.0 ≡ output_bytes c.args.places.now (length old) = ap (λ p. p.0) c.part-size.ensures ∙ ap (output_bytes c.args.places.now) (c.len.ensures ∙ c.loop-seat.all.ok.0) in
    record {
      seats = moved-on seat_of old more _ _ _ _ pushed step i.seats;
      room = omega (arith, i.room, c.in-Some.ensures.steps.1, c.push_reserved.ensures.len, c.push_reserved.ensures.capacity);
      few = omega (arith, i.few, c.in-Some.ensures.steps.1, c.push_reserved.ensures.len);
      senders = moved-on sender old more _ _ _ _ pushed step' i.senders;
      pairs = omega (arith, i.pairs, ap length step, ap length step');
      epochs = subst (All (λ (seat : TaskSeat). seat_epoch seat ≡ 0)) (sym pushed) (All-append (λ (seat : TaskSeat). seat_epoch seat ≡ 0) old (_ ∷ []) i.epochs (All-cons (λ (seat : TaskSeat). seat_epoch seat ≡ 0) _ [] refl (All-nil (λ (seat : TaskSeat). seat_epoch seat ≡ 0))));
      sizes = answer_given-on outputs_size (output_bytes c.args.places.now) old more _ pushed size i.sizes;
      openable = All-tail Openable c.in-Some.seat (into_iter_items c.next.new.self) (subst (All Openable) step i.openable);
    }
