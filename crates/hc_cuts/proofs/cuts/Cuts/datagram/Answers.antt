use Rattle.std.proofs.Common.{◌≡◌, ◌++◌, ℕ, List, Some, refl, ap, subst, ◌∙◌, arith, slice_index_or}
use Rattle.std.specs.Prelude.{slice_get}
use Rattle.hc_records.specs.declared.keys.TheConstants.Key.{START}
use Rattle.hc_records.specs.Boundaries.{boundaries, spans}
use Rattle.hc_records.specs.Image.{inside}
use Rattle.hc_records.specs.Packing.{Placed, empty_front, packed}
use Rattle.hc_cuts.specs.Starts.{TaskCuts}
use Rattle.hc_cuts.specs.Walk.{span_places}
use Rattle.hc_cuts.proofs.Whole.{after_it-starts, is-span_at, own-boundaries}
use Rattle.hc_cuts.proofs.lemmas.Datagrams.{span-inside}
use Rattle.hc_cuts.proofs.cuts.Cuts.datagram.Goals as goal

pub returns-then-first-starts : goal.returns-then-first-starts
returns-then-first-starts c = grind (arith, own-boundaries, after_it-starts)

pub add_span-requires-clause-ends : goal.add_span-requires-clause-ends
add_span-requires-clause-ends c =
    let starts = c.as_slice-starts.result.now in
    let all = own-boundaries c.args.self.now _ starts c.self.view_is c.as_slice-starts.ensures.value c.requires in
    (is-span_at c.self.inside.tree starts c.from-first.result _ c.end_of.result START c.self.invariant all (omega arith) refl c.end_of.ensures).ends

pub returns : goal.returns
returns c =
    let starts = c.as_slice-starts.result.now in
    let tree = c.self.inside.tree in
    let from = slice_index_or starts c.from-first.result START in
    let all = own-boundaries c.args.self.now _ starts c.self.view_is c.as_slice-starts.ensures.value c.requires in
    let span = is-span_at tree starts c.from-first.result from c.end_of.result START c.self.invariant all (omega arith) refl c.end_of.ensures in
    let numbered = subst (λ (n : ℕ). slice_get (spans (boundaries tree.list)) n ≡ Some (from, c.end_of.result)) c.from-first.ensures span.numbered in
    c.in_ok-add_span.ensures
    ∙ ap (λ (before : List Placed). before ++ span_places c.args.number from tree.list) c.new-places.ensures.items
    ∙ span-inside tree.list c.args.number (from, c.end_of.result) c.self.invariant.list numbered
    ∙ ap (λ (unchanged : TaskCuts). inside c.args.number (packed empty_front unchanged.tree.list)) c.self.view_is
