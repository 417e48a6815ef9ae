-- The widths of a task's list: they give the list, and setting one changes no other.
use Rattle.std.specs.Prelude.{All, filter}
use Rattle.std.proofs.Common.{◌≡◌, ℕ, ◌==◌, ◌⊎◌, inl, inr, Bool, true, false, List, [], ◌∷◌, ◌++◌, refl, sym, ap, subst, ◌∙◌, arith, if◌then◌else◌, append_assoc}
use Rattle.std.proofs.lemmas.Bool.{cond-false, cond-true}
use Rattle.std.proofs.lemmas.List.Elements.{All-cons, All-filter, All-head, All-tail, All-weaker}
use Rattle.hc_records.specs.declared.keys.Key.{Key}
use Rattle.hc_records.specs.declared.keys.TheConstants.Key.{START}
use Rattle.hc_records.specs.Keys.{same_key, is_before}
use Rattle.hc_records.specs.TaskList.{Keyed}
use Rattle.hc_records.specs.Boundaries.{width_in}
use Rattle.hc_records.specs.Laws.{IsPackable}
use Rattle.hc_records.specs.SpanLaws.{IsTaskList}
use Rattle.hc_records.proofs.lemmas.KeyOrder.{before-other, before-trans, key-order, other-sym, same_key-refl, within-apart, within-from_before, within-refl}
use Rattle.hc_records.proofs.lemmas.SpanCuts.{task-list-from}
use Rattle.hc_records.proofs.lemmas.Spans.{IsListFrom, list-after_it, list-tail, width-here, agree-by, width-before}
use Rattle.hc_bitsum.specs.Tree.{with_width}

-- a list of areas with a width is given by its widths, if no key is another's

-- the first area of one list isn't before all of the other
first-later : (first : Key) (x : Keyed) (xs ys : List Keyed) → IsListFrom first (x ∷ xs) → All (λ area. is_before x.0 area.0 ≡ true) ys
    → width_in (x ∷ xs) x.0 ≡ width_in ys x.0 → ⊥
first-later first x xs ys is after_it same =
    grind (arith, width-before, width-here, same_key-refl, All-head)

-- a key before the first area of a list is before all of it
all-later : (first : Key) (key : Key) (y : Keyed) (ys : List Keyed) → IsListFrom first (y ∷ ys) → is_before key y.0 ≡ true → All (λ area. is_before key area.0 ≡ true) (y ∷ ys)
all-later first key y ys is before =
    All-cons (λ area. is_before key area.0 ≡ true) y ys before
    (All-weaker (λ area. is_before y.0 area.0 ≡ true) (λ area. is_before key area.0 ≡ true) (λ area after_it. before-trans key y.0 area.0 before after_it) ys (list-after_it first y ys is))

-- lists of one first area
heads-by : (x y : Keyed) → x.0 ≡ y.0 → x.1 ≡ y.1 → x ≡ y
heads-by (k, n) (l, m) keys bits = cc

-- what is left after one first area is given by its widths too
rest-answer_given : (first : Key) (x y : Keyed) (xs ys : List Keyed) → x ≡ y → IsListFrom first (x ∷ xs) → IsListFrom first (y ∷ ys)
    → ((key : Key) → width_in (x ∷ xs) key ≡ width_in (y ∷ ys) key) → (key : Key) → width_in xs key ≡ width_in ys key
rest-answer_given first x y xs ys head is is' same key =
    let also : IsListFrom first (x ∷ ys) = subst (λ (area : Keyed). IsListFrom first (area ∷ ys)) (sym head) is' in
    agree-by (same_key x.0 key) first x xs ys key refl is also (same key ∙ ap (λ (area : Keyed). width_in (area ∷ ys) key) (sym head))

head-answer_given : (first : Key) (x y : Keyed) (xs ys : List Keyed) → IsListFrom first (x ∷ xs) → IsListFrom first (y ∷ ys)
    → ((key : Key) → width_in (x ∷ xs) key ≡ width_in (y ∷ ys) key) → (is_before x.0 y.0 ≡ true) ⊎ ((is_before y.0 x.0 ≡ true) ⊎ (x.0 ≡ y.0)) → x ≡ y
head-answer_given first x y xs ys is is' same (inl before) = absurd (first-later first x xs (y ∷ ys) is (all-later first x.0 y ys is' before) (same x.0))
head-answer_given first x y xs ys is is' same (inr (inl before)) = absurd (first-later first y ys (x ∷ xs) is' (all-later first y.0 x xs is before) (sym (same y.0)))
head-answer_given first x y xs ys is is' same (inr (inr keys)) =
    heads-by x y keys
    (sym (width-here x xs x.0 (same_key-refl x.0)) ∙ same x.0 ∙ ap (width_in (y ∷ ys)) keys ∙ width-here y ys y.0 (same_key-refl y.0))

both-answer_given : (x y : Keyed) (xs ys : List Keyed) → x ≡ y → xs ≡ ys → x ∷ xs ≡ y ∷ ys
both-answer_given x y xs ys head rest = cc

pub answer_given-from : (first : Key) (xs ys : List Keyed) → IsListFrom first xs → IsListFrom first ys → ((key : Key) → width_in xs key ≡ width_in ys key) → xs ≡ ys
answer_given-from first [] [] is is' same = refl
answer_given-from first [] (y ∷ ys) is is' same = absurd (first-later first y ys [] is' (λ k d within. absurd (omega arith)) (sym (same y.0)))
answer_given-from first (x ∷ xs) [] is is' same = absurd (first-later first x xs [] is (λ k d within. absurd (omega arith)) (same x.0))
answer_given-from first (x ∷ xs) (y ∷ ys) is is' same =
    let head = head-answer_given first x y xs ys is is' same (key-order x.0 y.0) in
    both-answer_given x y xs ys head
    (answer_given-from first xs ys (list-tail first x xs is) (list-tail first y ys is') (rest-answer_given first x y xs ys head is is' same))

pub answer_given-by_widths : (xs ys : List Keyed) → IsTaskList xs → IsTaskList ys → ((key : Key) → width_in xs key ≡ width_in ys key) → xs ≡ ys
answer_given-by_widths xs ys is is' same = answer_given-from START xs ys (task-list-from xs is) (task-list-from ys is') same

-- a width set

-- what a filter by keys leaves of a key's width

pub width-filter : (p : Key → Bool) (list : List Keyed) (key : Key) → width_in (filter (λ area. p area.0) list) key ≡ (if p key then width_in list key else 0)
width-filter p [] key = grind arith
width-filter p (x ∷ xs) key = grind (arith, width-filter p xs key)

-- a width in lists in a row: the first one's, unless it has none

width-append : (xs ys : List Keyed) (key : Key) → All IsPackable xs → width_in (xs ++ ys) key ≡ (if width_in xs key == 0 then width_in ys key else width_in xs key)
width-append [] ys key all = refl
width-append (x ∷ xs) ys key all =
    grind (arith, All-head, All-tail, width-append xs ys key (All-tail IsPackable x xs all))

-- the area that is set, before others
set-by : (none same : Bool) (key other : Key) (bits : ℕ) (xs : List Keyed) → (bits == 0) ≡ none → same_key key other ≡ same
    → width_in ((if none then [] else (key, bits) ∷ []) ++ xs) other ≡ (if same then (if none then width_in xs other else bits) else width_in xs other)
set-by none same key other bits xs test h7 = grind arith

zero-or : (bits : ℕ) → (if bits == 0 then 0 else bits) ≡ bits
zero-or bits = grind arith

-- by the position of the other key: below, above, or the same
set-parts : (key other : Key) (bits : ℕ) (list : List Keyed) (low high same : Bool) → All IsPackable list
    → is_before other key ≡ low → is_before key other ≡ high → same_key key other ≡ same
    → width_in (with_width key bits list) other
    ≡ (let lower = (if low then width_in list other else 0) in
    let higher = (if high then width_in list other else 0) in
    let rest = (if same then (if bits == 0 then higher else bits) else higher) in
    (if lower == 0 then rest else lower))
set-parts key other bits list low high same all below above is =
    let front = filter (λ area. is_before area.0 key) list in
    let back = filter (λ area. is_before key area.0) list in
    let own = if bits == 0 then [] else (key, bits) ∷ [] in
    ap (λ (areas : List Keyed). width_in areas other) (append_assoc front own back)
    ∙ width-append front (own ++ back) other (All-filter (λ area. is_before area.0 key) IsPackable list all)
    ∙ rw (width-filter (λ k. is_before k key) list other, set-by (bits == 0) same key other bits back refl is, width-filter (λ k. is_before key k) list other, below, above) refl

pub width-set : (key other : Key) (bits : ℕ) (list : List Keyed) → IsTaskList list
    → width_in (with_width key bits list) other ≡ (if same_key key other then bits else width_in list other)
width-set key other bits list is =
    grind (arith, key-order, other-sym, before-other, within-apart, within-from_before, set-parts, cond-false, zero-or, within-refl, same_key-refl, cond-true)
