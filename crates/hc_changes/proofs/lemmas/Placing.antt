-- An area in a datagram that is kept up to it has the place that it had.
use Rattle.std.proofs.Common.{◌≡◌, ℕ, zero, suc, ◌+◌, ◌<◌, ◌≤◌, ◌==◌, true, List, [], ◌∷◌, ◌++◌, Contains, Some, length, refl, sym, subst, ◌∙◌, arith, rules}
use Rattle.std.specs.Prelude.{All, AllPairs, IsTrue, filter, find, slice_get, slice_index_or}
use Rattle.std.specs.List.{zip}
use Rattle.std.proofs.lemmas.Bool.{and_parts, eq-eqb}
use Rattle.std.proofs.lemmas.List.Elements.{All-contains, filter_passes}
use Rattle.hc_records.specs.declared.keys.Key.{Key}
use Rattle.hc_records.specs.declared.keys.TheConstants.Key.{START, END}
use Rattle.hc_records.specs.Boundaries.{Interval, later_keys}
use Rattle.hc_records.specs.Keys.{is_before, is_within, same_key}
use Rattle.hc_records.specs.TaskList.{Keyed}
use Rattle.hc_records.specs.Packing.{Placed, empty_front, packed}
use Rattle.hc_records.specs.Image.{datagram_count, inside}
use Rattle.hc_records.specs.SpanLaws.{IsTaskList, lies_in}
use Rattle.hc_records.proofs.lemmas.KeyOrder.{before-other, same_key-refl, same_key-same}
use Rattle.hc_records.proofs.lemmas.Greatest.{greatest-all}
use Rattle.hc_records.proofs.lemmas.Lists.{All-unmap, AllPairs-unmap, AllPairs-weaker}
use Rattle.hc_records.proofs.lemmas.Packed.{area_of, packed-areas}
use Rattle.hc_records.proofs.lemmas.SpanDatagrams.{span-datagram}
use Rattle.hc_cuts.specs.Keeping.{is_unchanged_up_to}
use Rattle.hc_cuts.specs.Place.{place_of}
use Rattle.hc_cuts.proofs.lemmas.UnchangedPlaces.{unchanged-place as unchanged-at}
use Rattle.hc_changes.proofs.lemmas.Lists.{contains-filtered, find-only, found-among}
use Rattle.hc_changes.proofs.lemmas.Recut.{own-counted}

-- of places in order, no two have the same key

never-twice : (a b key : Key) → is_before a b ≡ true → same_key a key ≡ true → same_key b key ≡ true → ⊥
never-twice a b key before is is' = search (rules, same_key-same, before-other, same_key-refl)

pub placed-found : (list : List Keyed) (key : Key) (placed : Placed) → IsTaskList list → Contains (packed empty_front list) placed → same_key placed.key key ≡ true
    → find (λ p. same_key p.key key) (packed empty_front list) ≡ Some placed
placed-found list key placed is at passes =
    let pairs : AllPairs (λ a b. IsTrue (is_before a.key b.key)) (packed empty_front list) =
    AllPairs-unmap (λ a b. IsTrue (is_before a.0 b.0)) area_of (packed empty_front list) (subst (λ (l : List Keyed). AllPairs (λ a b. IsTrue (is_before a.0 b.0)) l) (sym (packed-areas empty_front list)) is.ascends) in
    search (rules, find-only, AllPairs-weaker, never-twice)

-- the boundaries between which a datagram's areas lie

span-keys : (first : Key) (later : List Key) (datagram : ℕ) → datagram < length later + 1
    → slice_get (zip (first ∷ (later ++ END ∷ [])) (later ++ END ∷ [])) datagram ≡ Some (slice_index_or (first ∷ later) datagram END, slice_index_or (first ∷ later) (suc datagram) END)
span-keys first [] zero low = refl
span-keys first (next ∷ later) zero low = refl
span-keys first [] (suc datagram) low = absurd (omega arith)
span-keys first (next ∷ later) (suc datagram) low = span-keys next later datagram (omega arith)

pub placed-between : (list : List Keyed) (placed : Placed) → IsTaskList list → Contains (packed empty_front list) placed
    → (placed.datagram < length (START ∷ later_keys list))
    × (is_within (slice_index_or (START ∷ later_keys list) placed.datagram END) placed.key ≡ true)
    × (is_before placed.key (slice_index_or (START ∷ later_keys list) (placed.datagram + 1) END) ≡ true)
placed-between list placed is among =
    let datagram = placed.datagram in
    let places = packed empty_front list in
    let counted : datagram + 1 ≤ datagram_count places = All-contains (λ (p : Placed). p.datagram + 1 ≤ datagram_count places) places placed (greatest-all (λ (p : Placed). p.datagram + 1) 0 places) among in
    let low : datagram < length (later_keys list) + 1 = own-counted list datagram is (omega arith) in
    let span : Interval = (slice_index_or (START ∷ later_keys list) datagram END, slice_index_or (START ∷ later_keys list) (suc datagram) END) in
    let same : inside datagram places ≡ filter (lies_in span) places = span-datagram list datagram span is (span-keys START (later_keys list) datagram low) in
    let own : Contains (filter (lies_in span) places) placed =
    subst (λ (areas : List Placed). Contains areas placed) same (contains-filtered (λ (p : Placed). p.datagram == datagram) places placed among (eq-eqb datagram datagram refl)) in
    let lies : lies_in span placed ≡ true = All-contains (λ (p : Placed). lies_in span p ≡ true) (filter (lies_in span) places) placed (filter_passes (lies_in span) places) own in
    let parts = and_parts (is_within span.0 placed.key) (is_before placed.key span.1) lies in
    let next : suc datagram ≡ datagram + 1 = omega arith in
    (omega (arith, low), parts.0, subst (λ (n : ℕ). is_before placed.key (slice_index_or (START ∷ later_keys list) n END) ≡ true) next parts.1)

-- and its key comes before END
pub placed-below : (list : List Keyed) (placed : Placed) → IsTaskList list → Contains (packed empty_front list) placed → is_before placed.key END ≡ true
placed-below list placed is among =
    All-contains (λ (p : Placed). is_before p.key END ≡ true) (packed empty_front list) placed
    (All-unmap (λ (area : Keyed). is_before area.0 END ≡ true) area_of (packed empty_front list)
    (subst (λ (areas : List Keyed). All (λ (area : Keyed). is_before area.0 END ≡ true) areas) (sym (packed-areas empty_front list)) is.between.below))
    among

-- if its datagram is kept up to it, an area has the place that it had
pub unchanged-place : (old new : List Keyed) (key : Key) (placed : Placed) → IsTaskList old → IsTaskList new
    → find (λ p. same_key p.key key) (packed empty_front new) ≡ Some placed → is_unchanged_up_to old new placed.datagram placed.key ≡ true
    → find (λ p. same_key p.key key) (packed empty_front old) ≡ Some placed
unchanged-place old new key placed is is' found unchanged =
    let here = found-among (λ (p : Placed). same_key p.key key) (packed empty_front new) placed found in
    let same = same_key-same placed.key key here.passes in
    let stays : place_of placed.key old ≡ place_of placed.key new = unchanged-at old new placed.datagram placed.key is is' unchanged (placed-between new placed is' here.among).1 in
    subst (λ (k : Key). place_of k old ≡ place_of k new) same stays ∙ found
