-- The areas of some rows.
use Rattle.std.specs.Prelude.{All}
use Rattle.std.proofs.Common.{◌≡◌, ℕ, zero, suc, ◌+◌, ◌*◌, ◌<◌, ◌≤◌, List, [], ◌∷◌, ◌++◌, length, get_or, refl, sym, ap, ◌∙◌, arith, append_assoc, append-nil, length-append}
use Rattle.std.proofs.lemmas.List.Elements.{All-nil, All-cons, All-head, All-tail, All-append, All-get_or}
use Rattle.hc_records.specs.declared.records.Dir.{Dir}
use Rattle.hc_bitsum.specs.Places.{AreFrom}
use Rattle.hc_bitsum.specs.Rows.{IsRow, part, row_areas}
use Rattle.hc_bitsum.specs.Slots.{IsNarrow}
use Rattle.hc_bitsum.proofs.Listed.{AreFrom-append}

pub length-row : (dir : Dir) (place : ℕ) (row : List ℕ) → length (row_areas dir place row) ≡ length row
length-row dir place [] = refl
length-row dir place (bits ∷ row) = ap suc (length-row dir (place + 1) row)

narrow-row : (dir : Dir) (place : ℕ) (row : List ℕ) → All (λ bits. bits ≤ 11888) row → All IsNarrow (row_areas dir place row)
narrow-row dir place [] all = All-nil IsNarrow
narrow-row dir place (bits ∷ row) all =
    grind (arith, All-cons, All-head, All-tail, narrow-row dir (place + 1) row (All-tail (λ b. b ≤ 11888) bits row all))

are_placed-row : (dir : Dir) (place : ℕ) (row : List ℕ) → AreFrom dir place (row_areas dir place row)
are_placed-row dir place [] = tt
are_placed-row dir place (bits ∷ row) = (refl, are_placed-row dir (place + 1) row)

pub part-split : (dir : Dir) (rows : List (List ℕ)) (first x y : ℕ) → part dir rows first (x + y) ≡ part dir rows first x ++ part dir rows (first + x) y
part-split dir rows first zero y = let none : first + 0 ≡ first = omega arith in let all : 0 + y ≡ y = omega arith in rw (none, all) refl
part-split dir rows first (suc x) y =
    let more : suc x + y ≡ suc (x + y) = omega arith in
    let there : first + suc x ≡ first + 1 + x = omega arith in
    let own = row_areas dir (8 * first) (get_or rows first []) in
    rw (more, there)
    (ap (λ areas. own ++ areas) (part-split dir rows (first + 1) x y) ∙ sym (append_assoc own (part dir rows (first + 1) x) (part dir rows (first + 1 + x) y)))

pub part-one : (dir : Dir) (rows : List (List ℕ)) (first : ℕ) → part dir rows first 1 ≡ row_areas dir (8 * first) (get_or rows first [])
part-one dir rows first = append-nil (row_areas dir (8 * first) (get_or rows first []))

row-of : (rows : List (List ℕ)) (i : ℕ) → All IsRow rows → i < length rows → IsRow (get_or rows i [])
row-of rows i each h = All-get_or IsRow rows i [] h each

pub length-part : (dir : Dir) (rows : List (List ℕ)) (first more : ℕ) → All IsRow rows → first + more ≤ length rows → length (part dir rows first more) ≡ 8 * more
length-part dir rows first zero each h = refl
length-part dir rows first (suc more) each h =
    grind (arith, length-row, row-of, length-append, length-part dir rows (first + 1) more each (omega arith))

pub narrow-part : (dir : Dir) (rows : List (List ℕ)) (first more : ℕ) → All IsRow rows → first + more ≤ length rows → All IsNarrow (part dir rows first more)
narrow-part dir rows first zero each h = All-nil IsNarrow
narrow-part dir rows first (suc more) each h =
    let row = get_or rows first [] in
    All-append IsNarrow (row_areas dir (8 * first) row) (part dir rows (first + 1) more)
    (narrow-row dir (8 * first) row (row-of rows first each (omega arith)).narrow) (narrow-part dir rows (first + 1) more each (omega arith))

pub are_placed-part : (dir : Dir) (rows : List (List ℕ)) (first more : ℕ) → All IsRow rows → first + more ≤ length rows → AreFrom dir (8 * first) (part dir rows first more)
are_placed-part dir rows first zero each h = tt
are_placed-part dir rows first (suc more) each h =
    grind (arith, length-row, row-of, AreFrom-append, are_placed-row, are_placed-part dir rows (first + 1) more each (omega arith))

-- rows that agree have the same areas
pub part-same : (dir : Dir) (rows others : List (List ℕ)) (first more : ℕ)
    → ((i : ℕ) → first ≤ i → i < first + more → get_or rows i [] ≡ get_or others i []) → part dir rows first more ≡ part dir others first more
part-same dir rows others first zero same = refl
part-same dir rows others first (suc more) same =
    grind (arith, part-same dir rows others (first + 1) more (λ i low high. same i (omega arith) (omega arith)))
