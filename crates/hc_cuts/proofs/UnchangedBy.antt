-- Which datagrams of a task an edit keeps, by the keys where they begin and by hulls.
use Rattle.std.proofs.Common.{arith}
use Rattle.std.proofs.Common.{◌≡◌, ℕ, zero, suc, true, false, Bool, List, [], ◌∷◌, ◌++◌, Contains, Option, Some, None, refl, sym, ap, ◌∙◌}
use Rattle.std.specs.Prelude.{◌&&◌, ◌||◌, not, drop, slice_get, option_map}
use Rattle.std.specs.Option.{option_map_or}
use Rattle.std.specs.List.{list_any, zip}
use Rattle.std.proofs.lemmas.Option.{get_or_from_slice_get, slice_get_within}
use Rattle.std.proofs.lemmas.Bool.{and_right}
use Rattle.hc_records.specs.declared.keys.Key.{Key}
use Rattle.hc_records.specs.declared.keys.TheConstants.Key.{END}
use Rattle.hc_records.specs.declared.records.Dir.TheVariants.{Out, In}
use Rattle.hc_records.specs.Keys.{is_before, is_within, same_key}
use Rattle.hc_records.specs.TaskList.{Keyed}
use Rattle.hc_records.specs.Boundaries.{Interval, boundaries, hull, is_settled, is_touched, meets_hull, spans, touched}
use Rattle.hc_records.specs.SpanLaws.{IsTaskList}
use Rattle.hc_records.proofs.lemmas.KeyOrder.{before-apart, before-other, other-sym, within-else}
use Rattle.hc_records.proofs.lemmas.SpanCuts.{span-begins}
use Rattle.hc_cuts.specs.declared.hulls.Hulls.{Hulls}
use Rattle.hc_cuts.specs.Hulls.{AreHulls}
use Rattle.hc_cuts.specs.Keeping.{begins_at, is_unchanged, is_unchanged_by, is_unchanged_up_to, is_unchanged_up_to_by, span_from}
use Rattle.hc_cuts.specs.Repair.{meets_either}
use Rattle.hc_cuts.proofs.lemmas.HullKeys.{hulls-are}

-- spans are counted from the first one
shifted : (first : Key) (starts : List Key) (datagram : ℕ) (start : Option Key)
    → option_map (span_from (first ∷ starts) (suc datagram)) start ≡ option_map (span_from starts datagram) start
shifted first starts datagram start = grind arith

-- the span with a number goes from the key where its datagram begins to the next boundary
span-at : (starts : List Key) (datagram : ℕ)
    → slice_get (zip (starts ++ END ∷ []) (drop 1 (starts ++ END ∷ []))) datagram ≡ option_map (span_from starts datagram) (slice_get starts datagram)
span-at [] datagram = refl
span-at (first ∷ []) zero = refl
span-at (first ∷ []) (suc datagram) = refl
span-at (first ∷ next ∷ starts) zero = refl
span-at (first ∷ next ∷ starts) (suc datagram) = span-at (next ∷ starts) datagram ∙ sym (shifted first (next ∷ starts) datagram (slice_get (next ∷ starts) datagram))

-- a key that isn't END is the boundary with a number exactly where the datagram with that number begins at it
begun-at : (starts : List Key) (datagram : ℕ) (key : Key) → same_key key END ≡ false
    → option_map_or (same_key key) (slice_get (starts ++ END ∷ []) datagram) false ≡ option_map_or (same_key key) (slice_get starts datagram) false
begun-at [] zero key other = other
begun-at [] (suc datagram) key other = refl
begun-at (first ∷ starts) zero key other = refl
begun-at (first ∷ starts) (suc datagram) key other = begun-at starts datagram key other

or-true : (b : Bool) → (b || true) ≡ true
or-true b = grind arith

-- a boundary with a number is one of the boundaries
one-of : (keys : List Key) (datagram : ℕ) (key : Key) → option_map_or (same_key key) (slice_get keys datagram) false ≡ true → list_any (same_key key) keys ≡ true
one-of [] datagram key is = is
one-of (first ∷ keys) zero key is = rw is refl
one-of (first ∷ keys) (suc datagram) key is = rw (one-of keys datagram key is) (or-true (same_key key first))

-- of a span that begins at a boundary, what decides whether it is settled is the hulls
settles : (any begins meets : Bool) → (begins ≡ true → any ≡ true) → ((any && not meets) && begins) ≡ (begins && not meets)
settles any begins meets so = grind arith

contained : (keys : List Interval) (i : ℕ) (x : Interval) → slice_get keys i ≡ Some x → Contains keys x
contained keys i x is = (i, slice_get_within keys i x is, get_or_from_slice_get keys i x x is)

-- so an interval from a boundary on is settled, with the datagram of the same number beginning there, exactly where the datagram did begin there and the interval meets no hull
settled-from : (hulls : Hulls) (old new : List Keyed) (starts : List Key) (datagram : ℕ) (start reach : Key) → same_key start END ≡ false → AreHulls (is_touched old new) hulls
    → starts ++ END ∷ [] ≡ boundaries old
    → (is_settled old new (start, reach) && begins_at old datagram start) ≡ (option_map_or (same_key start) (slice_get starts datagram) false && not (meets_either hulls (start, reach)))
settled-from hulls old new starts datagram start reach other are same =
    let both = hulls-are old new hulls are in
    let span : Interval = (start, reach) in
    let begins = ap (λ (keys : List Key). option_map_or (same_key start) (slice_get keys datagram) false) (sym same) ∙ begun-at starts datagram start other in
    let any = list_any (same_key start) (boundaries old) in
    let meets : (meets_hull (hull Out (touched old new)) span || meets_hull (hull In (touched old new)) span) ≡ meets_either hulls span = rw (both.0, both.1) refl in
    ap (λ (m : Bool). (any && not m) && begins_at old datagram start) meets
    ∙ settles any (begins_at old datagram start) (meets_either hulls span) (one-of (boundaries old) datagram start)
    ∙ ap (λ (b : Bool). b && not (meets_either hulls span)) begins

-- no span begins at END
start-apart : (new : List Keyed) (datagram : ℕ) (span : Interval) → IsTaskList new → slice_get (spans (boundaries new)) datagram ≡ Some span → same_key span.0 END ≡ false
start-apart new datagram span is is_placed = other-sym END span.0 (before-other span.0 END (span-begins new span is (contained (spans (boundaries new)) datagram span is_placed)))

-- the span of a datagram of the new list, by the keys where its datagrams begin
span-answer_given : (starts : List Key) (new : List Keyed) (datagram : ℕ) → starts ++ END ∷ [] ≡ boundaries new
    → slice_get (spans (boundaries new)) datagram ≡ option_map (span_from starts datagram) (slice_get starts datagram)
span-answer_given starts new datagram same = ap (λ (keys : List Key). slice_get (spans keys) datagram) (sym same) ∙ span-at starts datagram

-- so what is said of that span may be given by the key where the datagram begins, where it says the same of each key but END
answer_given-by : (starts : List Key) (new : List Keyed) (datagram : ℕ) (by_start : Key → Bool) (by_span : Interval → Bool) → IsTaskList new → starts ++ END ∷ [] ≡ boundaries new
    → ((start : Key) → same_key start END ≡ false → by_span (span_from starts datagram start) ≡ by_start start)
    → option_map_or by_start (slice_get starts datagram) false ≡ option_map_or by_span (slice_get (spans (boundaries new)) datagram) false
answer_given-by starts new datagram by_start by_span is same each = by (slice_get starts datagram) refl
  where
    by : (start : Option Key) → slice_get starts datagram ≡ start
        → option_map_or by_start (slice_get starts datagram) false ≡ option_map_or by_span (slice_get (spans (boundaries new)) datagram) false
    by None found =
        let none : slice_get (spans (boundaries new)) datagram ≡ None = span-answer_given starts new datagram same ∙ ap (option_map (span_from starts datagram)) found in
        rw (found, none) refl
    by (Some start) found =
        let span = span_from starts datagram start in
        let is_placed : slice_get (spans (boundaries new)) datagram ≡ Some span = span-answer_given starts new datagram same ∙ ap (option_map (span_from starts datagram)) found in
        rw (found, is_placed) (sym (each start (start-apart new datagram span is is_placed)))

-- an edit keeps a datagram exactly where it is kept by its hulls
pub unchanged-by : (hulls : Hulls) (old_starts new_starts : List Key) (datagram : ℕ) (old new : List Keyed) → IsTaskList new → old_starts ++ END ∷ [] ≡ boundaries old
    → new_starts ++ END ∷ [] ≡ boundaries new → AreHulls (is_touched old new) hulls → is_unchanged_by hulls old_starts new_starts datagram ≡ is_unchanged old new datagram
unchanged-by hulls old_starts new_starts datagram old new is same same' are =
    grind (arith, answer_given-by, settled-from)

-- and up to a key
pub unchanged-up_to : (hulls : Hulls) (old_starts new_starts : List Key) (datagram : ℕ) (old new : List Keyed) → IsTaskList new → old_starts ++ END ∷ [] ≡ boundaries old
    → new_starts ++ END ∷ [] ≡ boundaries new → AreHulls (is_touched old new) hulls → (key : Key)
    → is_unchanged_up_to_by hulls old_starts new_starts datagram key ≡ is_unchanged_up_to old new datagram key
unchanged-up_to hulls old_starts new_starts datagram old new is same same' are key =
    grind (arith, answer_given-by, settled-from)

-- a datagram that is kept whole is kept up to each of its keys

-- a key is before another exactly where that one isn't it or before it
not-within : (a b : Key) → is_before b a ≡ not (is_within a b)
not-within a b = grind arith

both-true : (a b : Bool) → b ≡ true → (a && b) ≡ a
both-true a b is = grind arith

-- where the hull ends before the interval begins, none does
pub met-never : (hull : Interval) (start key : Key) → is_before hull.1 start ≡ true → is_before key END ≡ true → is_before key END ≡ not (meets_hull (Some hull) (start, key))
met-never hull start key ends low =
    low ∙ sym (ap not (and_right (is_within hull.0 key) (is_within start hull.1) (before-apart hull.1 start ends)))

-- else the hull's first key does
pub met-first : (hull : Interval) (start key : Key) → is_before hull.1 start ≡ false → is_before key hull.0 ≡ not (meets_hull (Some hull) (start, key))
met-first hull start key ends =
    not-within hull.0 key ∙ sym (ap not (both-true (is_within hull.0 key) (is_within start hull.1) (within-else hull.1 start ends)))

-- of two hulls, that which is met first
pub met-either : {first second : Bool} (outputs inputs : Bool) → first ≡ not outputs → second ≡ not inputs → (first && second) ≡ not (outputs || inputs)
met-either outputs inputs is h3 = grind arith
