use Rattle.std.proofs.Common.{◌≡◌, ◌∙◌, ◌+◌, ℕ, false, true, ap, arith, sym}
use Rattle.hc_sendings.specs.Waiting.{is_newest_awaited}
use Rattle.hc_sendings.specs.declared.write_frames.PlacedBlock.{PlacedBlock}
use Rattle.hc_core.specs.Chosen.{further_from}
use Rattle.hc_core.proofs.ChosenBlocks.{further-next, further-skips, place-low}
use Rattle.hc_core.proofs.choosing.next_further.Goals as goal

pub overflow_add-from : goal.overflow_add-from
overflow_add-from c =
    let is = c.in-Some.ensures c.requires in
    let low = place-low c.requires.state c.in-Some.next.place c.in-Some.next.block c.requires.project is.at in
    let place = ap (λ (one : PlacedBlock). one.place) c.next.view_is in
    omega (arith, low, place)

pub returns-then-not-is_newest_awaited : goal.returns-then-not-is_newest_awaited
returns-then-not-is_newest_awaited c = λ unchanged.
    let next = c.in-Some.next in
    let waiting = c.args.awaited.now in
    let waits : is_newest_awaited next.block.station next.block.number waiting ≡ false =
    sym (ap (λ (one : PlacedBlock). is_newest_awaited one.block.station one.block.number waiting) c.next.view_is) ∙ sym c.is_newest_awaited.ensures ∙ c.if-not-is_newest_awaited.true in
    further-next unchanged.known unchanged.state waiting c.args.place c.loop-next.from next c.loop-next.invariant.0 (c.loop-next.invariant.1 unchanged) (c.in-Some.ensures unchanged) waits

pub loop-next-preserved : goal.loop-next-preserved
loop-next-preserved c =
    let next = c.in-Some.next in
    let waiting = c.args.awaited.now in
    let is = c.in-Some.ensures c.requires in
    let from = is.from in
    let above = c.loop-next.invariant.0 in
    let place : c.next.inside.0.0 ≡ next.place = ap (λ (one : PlacedBlock). one.place) c.next.view_is in
    let waits : is_newest_awaited next.block.station next.block.number waiting ≡ true =
    sym (ap (λ (one : PlacedBlock). is_newest_awaited one.block.station one.block.number waiting) c.next.view_is) ∙ sym c.is_newest_awaited.ensures ∙ c.if-not-is_newest_awaited.false in (
      omega (arith, above, from, place),
      λ unchanged.
          c.loop-next.invariant.1 unchanged ∙ further-skips unchanged.known unchanged.state waiting c.loop-next.from next (c.in-Some.ensures unchanged) waits
          ∙ ap (λ (n : ℕ). further_from unchanged.known unchanged.state waiting (n + 1)) (sym place),
    )

pub loop-next-smaller : goal.loop-next-smaller
loop-next-smaller c =
    let is = c.in-Some.ensures c.requires in
    let from = is.from in
    let low = place-low c.requires.state c.in-Some.next.place c.in-Some.next.block c.requires.project is.at in
    let place = ap (λ (one : PlacedBlock). one.place) c.next.view_is in
    omega (arith, from, low, place)
