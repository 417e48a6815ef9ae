use Rattle.std.proofs.Common.{◌≡◌, ◌+◌, ◌-◌, ◌^◌, ◌≤◌, ◌<◌, ◌++◌, ◌∙◌, ◌∷◌, ap, ap₂, arith, sym, subst, List, ℕ, length, map, get_or}
use Rattle.std.specs.Prelude.{IfSome, Option, Some, None}
use Rattle.std.specs.List.{range_with_len}
use Rattle.hc_records.specs.Line.{line}
use Rattle.hc_events.specs.Sendings.{Frame, Named}
use Rattle.hc_places.specs.declared.table.Datagram.{Datagram}
use Rattle.hc_places.specs.Table.{Table, datagrams_in}
use Rattle.hc_sendings.specs.Framing.{closed, framed_from, open_in}
use Rattle.hc_sendings.proofs.Framed.{framed-more, numbers-more, serial-more}
use Rattle.hc_sendings.proofs.lemmas.Listed.{listed-count, listed-length}
use Rattle.hc_sendings.proofs.framing.place_task.Goals as goal

abbrev blank : Datagram
blank = record { address = 0; length = 0; expected = 0; offset = 0 }

-- below a bound a serial more can be reported
bounded : (last : Option Frame) (bound number most : ℕ) → IfSome last (λ frame. frame.serial ≤ bound + number) → number < most → bound + most < 2 ^ 64
    → IfSome last (λ frame. frame.serial + 1 < 2 ^ 64)
bounded None bound number most held few fits = tt
bounded (Some frame) bound number most held few fits = omega (arith, held)

below : (last : Option Frame) (most bound : ℕ) → IfSome last (λ frame. frame.serial + most < 2 ^ 64) → bound + most + 1 ≡ 2 ^ 64 → IfSome last (λ frame. frame.serial ≤ bound)
below None most bound held is = tt
below (Some frame) most bound held is = omega (arith, held)

pub place-requires-clause-serial : goal.place-requires-clause-serial
place-requires-clause-serial c =
    let bound : ℕ = 2 ^ 64 - 17 in
    let few = c.datagrams-datagrams.ensures.few in
    bounded (open_in c.loop-number.frames.items) bound c.loop-number.number 16
    (c.loop-number.invariant.serials bound (omega (arith, c.requires.serial)) (below (open_in c.args.frames.now.items) 16 bound c.requires.last (omega arith)))
    (omega (arith, few, c.loop-number-test.true))
    (omega arith)

pub loop-number-preserved : goal.loop-number-preserved
loop-number-preserved c =
    let members = line c.args.plan.now in
    let number = c.loop-number.number in
    let frames = c.loop-number.frames.items in
    let listed = c.datagrams-datagrams.ensures.datagrams ∙ ap (λ (table : Table). datagrams_in table c.args.task) c.places.ensures.table in
    let bytes : ℕ = (get_or c.datagrams-datagrams.result.now number blank).length in
    let length = listed-length c.args.plan.now c.args.task number c.datagrams-datagrams.result.now blank c.places.ensures.project listed c.loop-number-test.true in
    record {
      framed = λ rest.
          ap₂ (λ (frames : List Frame) (last : Option Frame). frames ++ framed_from members c.args.serial last rest) c.in_ok-place.ensures.done c.in_ok-place.ensures.open
          ∙ framed-more members c.args.serial (closed frames) (open_in frames) (c.args.task, number) bytes rest length
          ∙ c.loop-number.invariant.framed ((c.args.task, number) ∷ rest)
          ∙ ap (λ (names : List Named). closed c.args.frames.now.items ++ framed_from members c.args.serial (open_in c.args.frames.now.items) names) (numbers-more c.args.task number rest);
      serials = λ bound low held.
          let more = serial-more c.args.serial (open_in frames) (c.args.task, number) bytes (bound + number) (omega (arith, low)) (c.loop-number.invariant.serials bound low held) in
          subst (λ (last : Option Frame). IfSome last (λ frame. frame.serial ≤ bound + (number + 1))) (sym c.in_ok-place.ensures.open) (omega (arith, more));
      more = omega (arith, c.place.ensures.more, c.loop-number.invariant.more);
      room = omega (arith, c.place.ensures.room, c.loop-number.invariant.room);
    }

pub returns-clause-framed : goal.returns-clause-framed
returns-clause-framed c =
    let members = line c.args.plan.now in
    let listed = c.datagrams-datagrams.ensures.datagrams ∙ ap (λ (table : Table). datagrams_in table c.args.task) c.places.ensures.table in
    let count = listed-count c.args.plan.now c.args.task c.datagrams-datagrams.result.now c.places.ensures.project listed in
    let all : c.loop-number.number ≡ length c.datagrams-datagrams.result.now = omega (arith, c.loop-number-test.false) in
    λ rest.
    c.loop-number.invariant.framed rest
    ∙ ap (λ (n : ℕ). closed c.args.frames.now.items ++ framed_from members c.args.serial (open_in c.args.frames.now.items) (map (λ d. (c.args.task, d)) (range_with_len 0 n) ++ rest)) (all ∙ count)
