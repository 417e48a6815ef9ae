use Rattle.std.proofs.Common.{◌+◌, ◌++◌, List, [], ◌∷◌, slice_index_or, refl, sym, ap, ◌∙◌, arith, append_assoc}
use Rattle.hc_records.specs.declared.keys.TheConstants.Key.{START, END}
use Rattle.hc_records.specs.Packing.{Placed}
use Rattle.hc_cuts.specs.Walk.{span_places}
use Rattle.hc_cuts.proofs.Whole.{is-span_at, own-boundaries, places_from, spans-begin, spans-end}
use Rattle.hc_cuts.proofs.cuts.Cuts.places.Goals as goal

pub loop-i-init : goal.loop-i-init
loop-i-init c = grind (arith, own-boundaries, spans-begin)

pub add_span-requires-clause-ends : goal.add_span-requires-clause-ends
add_span-requires-clause-ends c =
    let all = own-boundaries c.args.self.now _ c.as_slice-starts.result.now c.self.view_is c.as_slice-starts.ensures.value c.requires in
    (is-span_at c.self.inside.tree c.as_slice-starts.result.now c.loop-i.i _ c.end_of.result START c.self.invariant all c.loop-i-test.true refl c.end_of.ensures).ends

pub loop-i-preserved : goal.loop-i-preserved
loop-i-preserved c =
    let starts = c.as_slice-starts.result.now in
    let at = c.loop-i.i in
    let tree = c.self.inside.tree in
    let from = slice_index_or starts at START in
    let all = own-boundaries c.args.self.now _ starts c.self.view_is c.as_slice-starts.ensures.value c.requires in
    let span = is-span_at tree starts at from c.end_of.result START c.self.invariant all c.loop-i-test.true refl c.end_of.ensures in
    rw c.in_ok-add_span.ensures
    (append_assoc c.loop-i.places.items (span_places at from tree.list) (places_from (at + 1) (starts ++ END ∷ []) tree.list)
    ∙ ap (λ (rest : List Placed). c.loop-i.places.items ++ rest) (sym span.rest)
    ∙ c.loop-i.invariant)

pub returns : goal.returns
returns c = grind (arith, spans-end)
