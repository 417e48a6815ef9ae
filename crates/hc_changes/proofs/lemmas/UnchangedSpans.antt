-- A kept datagram carries the areas that it carried.
use Rattle.std.proofs.Common.{◌≡◌, ℕ, zero, suc, true, false, List, [], ◌∷◌, ◌++◌, Option, Some, refl, sym, ap, ◌∙◌, rules}
use Rattle.std.specs.Prelude.{map, slice_get, ◌&&◌}
use Rattle.std.specs.Option.{option_map_or}
use Rattle.std.specs.List.{zip}
use Rattle.std.proofs.lemmas.Bool.{and_parts}
use Rattle.hc_records.specs.declared.keys.Key.{Key}
use Rattle.hc_records.specs.declared.keys.TheConstants.Key.{START, END}
use Rattle.hc_records.specs.Keys.{is_before, same_key}
use Rattle.hc_records.specs.TaskList.{Keyed}
use Rattle.hc_records.specs.Packing.{empty_front, packed}
use Rattle.hc_records.specs.Image.{inside}
use Rattle.hc_records.specs.Boundaries.{Interval, boundaries, is_settled, later_keys, spans}
use Rattle.hc_records.specs.SpanLaws.{IsTaskList, seen_area}
use Rattle.hc_records.proofs.lemmas.KeyOrder.{before-other, other-sym, same_key-same}
use Rattle.hc_records.proofs.lemmas.SettledSpans.{settled-stays}
use Rattle.hc_records.proofs.lemmas.SpanCuts.{span-alone, span-begins}
use Rattle.hc_records.proofs.lemmas.SpanDatagrams.{span-datagram}
use Rattle.hc_cuts.specs.Keeping.{begins_at, is_unchanged}
use Rattle.hc_cuts.proofs.lemmas.Datagrams.{at-contained, inside-numbered, shown, unseen}

-- a span begins at each boundary but END
begun : (first : Key) (later : List Key) (i : ℕ) (key : Key) → slice_get (first ∷ (later ++ END ∷ [])) i ≡ Some key → (key ≡ END → ⊥)
    → (next : Key) × (slice_get (zip (first ∷ (later ++ END ∷ [])) (later ++ END ∷ [])) i ≡ Some (key, next))
begun first [] zero key is other = (END, let same : first ≡ key = cc in ap (λ (k : Key). Some (k, END)) same)
begun first [] (suc zero) key is other = absurd (other (let same : END ≡ key = cc in sym same))
begun first [] (suc (suc i)) key is other = cc
begun first (next ∷ later) zero key is other = (next, let same : first ≡ key = cc in ap (λ (k : Key). Some (k, next)) same)
begun first (next ∷ later) (suc i) key is other = begun next later i key is other

-- what is said of a datagram that is kept
record IsUnchanged (old new : List Keyed) (datagram : ℕ) : Type 0 where
  pub span : Interval
  pub is_placed : slice_get (spans (boundaries new)) datagram ≡ Some span
  pub settled : is_settled old new span ≡ true
  pub began : slice_get (boundaries old) datagram ≡ Some span.0

began-by : (first : Option Key) (key : Key) → option_map_or (same_key key) first false ≡ true → first ≡ Some key
began-by first key is = search (rules, same_key-same)

unchanged-by : (old new : List Keyed) (datagram : ℕ) (span : Option Interval) → slice_get (spans (boundaries new)) datagram ≡ span
    → option_map_or (λ s. is_settled old new s && begins_at old datagram s.0) span false ≡ true → IsUnchanged old new datagram
unchanged-by old new datagram span is_placed is = search (rules, and_parts, began-by)

unchanged-parts : (old new : List Keyed) (datagram : ℕ) → is_unchanged old new datagram ≡ true → IsUnchanged old new datagram
unchanged-parts old new datagram is = unchanged-by old new datagram (slice_get (spans (boundaries new)) datagram) refl is

-- its span has the same number in the old list
unchanged-number : (old new : List Keyed) (datagram : ℕ) → IsTaskList old → IsTaskList new → (unchanged : IsUnchanged old new datagram) → slice_get (spans (boundaries old)) datagram ≡ Some unchanged.span
unchanged-number old new datagram is is' unchanged =
    let span = unchanged.span in
    let contains = at-contained (spans (boundaries new)) datagram span unchanged.is_placed in
    let same = settled-stays old new span is is' contains unchanged.settled in
    let before : is_before span.0 END ≡ true = span-begins new span is' contains in
    let other : span.0 ≡ END → ⊥ = search (rules, other-sym, before-other) in
    let found = begun START (later_keys old) datagram span.0 unchanged.began other in
    let one = span-alone old (span.0, found.0) is (at-contained (spans (boundaries old)) datagram (span.0, found.0) found.1) in
    let two = span-alone old span is same.was_span in
    found.1 ∙ ap (λ (k : Key). Some (span.0, k)) (one.next ∙ sym two.next)

-- a kept datagram carries the same areas at the same bits
pub unchanged-inside : (old new : List Keyed) (datagram : ℕ) → IsTaskList old → IsTaskList new → is_unchanged old new datagram ≡ true
    → inside datagram (packed empty_front new) ≡ inside datagram (packed empty_front old)
unchanged-inside old new datagram is is' test =
    let unchanged = unchanged-parts old new datagram test in
    let span = unchanged.span in
    let same = settled-stays old new span is is' (at-contained (spans (boundaries new)) datagram span unchanged.is_placed) unchanged.settled in
    let after = span-datagram new datagram span is' unchanged.is_placed in
    let before = span-datagram old datagram span is (unchanged-number old new datagram is is' unchanged) in
    let seen : map seen_area (inside datagram (packed empty_front new)) ≡ map seen_area (inside datagram (packed empty_front old)) = search rules in
    sym (shown datagram (inside datagram (packed empty_front new)) (inside-numbered datagram (packed empty_front new)))
    ∙ ap (map (unseen datagram)) seen
    ∙ shown datagram (inside datagram (packed empty_front old)) (inside-numbered datagram (packed empty_front old))
