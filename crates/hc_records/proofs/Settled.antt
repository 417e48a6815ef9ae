-- A list that an edit leaves as it was has no span that isn't settled.
use Rattle.std.proofs.Common.{◌≡◌, Bool, true, false, List, [], ◌∷◌, ◌++◌, length, refl, sym, ap, ◌∙◌}
use Rattle.std.specs.Prelude.{filter, map, drop, not, ◌==◌}
use Rattle.std.specs.List.{list_any, zip}
use Rattle.std.proofs.lemmas.Bool.{eq-eqb, or_left, or_right}
use Rattle.std.proofs.lemmas.List.{append_assoc}
use Rattle.hc_records.specs.declared.keys.Key.{Key}
use Rattle.hc_records.specs.Keys.{same_key}
use Rattle.hc_records.specs.TaskList.{Keyed}
use Rattle.hc_records.specs.Boundaries.{Interval, boundaries, is_touched, touched, width_in, is_settled, unsettled_spans}
use Rattle.hc_records.proofs.lemmas.KeyOrder.{same_key-refl}

-- a test that no element passes keeps none
filter_none : {X : Type 0} (test : X → Bool) (xs : List X) → ((x : X) → test x ≡ false) → filter test xs ≡ []
filter_none test [] none = refl
filter_none test (x ∷ xs) none = rw (none x) (filter_none test xs none)

untouched : (list : List Keyed) → touched list list ≡ []
untouched list =
    filter_none (is_touched list list) (map (λ area. area.0) (list ++ list))
    (λ key. let same : (width_in list key == width_in list key) ≡ true = eq-eqb (width_in list key) (width_in list key) refl in rw same refl)

-- where no key is touched, a span is settled that begins at an old boundary
untouched-settled : (list : List Keyed) (span : Interval) → list_any (same_key span.0) (boundaries list) ≡ true → is_settled list list span ≡ true
untouched-settled list span begins = rw (untouched list, begins) refl

-- each key of a list is one of the list that it is the rest of
any-append : (before : List Key) (key : Key) (rest : List Key) → list_any (same_key key) (before ++ key ∷ rest) ≡ true
any-append [] key rest = or_left (same_key key key) (list_any (same_key key) rest) (same_key-refl key)
any-append (first ∷ before) key rest = or_right (same_key key first) (list_any (same_key key) (before ++ key ∷ rest)) (any-append before key rest)

spans-settled : (list : List Keyed) (before keys next : List Key) → before ++ keys ≡ boundaries list →
    filter (λ span. not (is_settled list list span)) (zip keys next) ≡ []
spans-settled list before [] next whole = refl
spans-settled list before (key ∷ keys) [] whole = refl
spans-settled list before (key ∷ keys) (end ∷ next) whole =
    let begins : list_any (same_key key) (boundaries list) ≡ true = ap (list_any (same_key key)) (sym whole) ∙ any-append before key keys in
    let settled : is_settled list list (key, end) ≡ true = untouched-settled list (key, end) begins in
    rw settled (spans-settled list (before ++ key ∷ []) keys next (append_assoc before (key ∷ []) keys ∙ whole))

pub untouched-spans : (list : List Keyed) → unsettled_spans list list ≡ 0
untouched-spans list = ap length (spans-settled list [] (boundaries list) (drop 1 (boundaries list)) refl)
