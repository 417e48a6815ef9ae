-- A width set in a row: the areas, the sums that stay, and those that are made anew.
use Rattle.std.specs.Prelude.{All}
use Rattle.std.proofs.Common.{◌≡◌, ◌≢◌, ℕ, zero, suc, ◌+◌, ◌-◌, ◌*◌, ◌/◌, ◌%◌, ◌<◌, ◌≤◌, List, [], ◌∷◌, ◌++◌, length, drop, get_or, set, refl, sym, ap, ◌∙◌, arith, length-set, get_or-set_other, get_or-set_same}
use Rattle.std.proofs.lemmas.List.Elements.{All-get_or, All-set}
use Rattle.std.proofs.Math.Seq.{drop-append-add}
use Rattle.std.proofs.lemmas.List.{drop-append-le}
use Rattle.std.proofs.lemmas.Bool.Decides.{nat_tests}
use Rattle.hc_records.specs.declared.records.Dir.{Dir}
use Rattle.hc_records.specs.TaskList.{Keyed}
use Rattle.hc_bitsum.specs.declared.sum.Sum.{Sum}
use Rattle.hc_bitsum.specs.declared.sum.Sum.TheVariants.{Empty}
use Rattle.hc_bitsum.specs.Branch.{AreForks, AreRowSums}
use Rattle.hc_bitsum.specs.Rows.{IsRow, part, row_areas}
use Rattle.hc_bitsum.specs.Slots.{bits_at, key_at, set_at}
use Rattle.hc_bitsum.specs.Sums.{sums_joined, sum_of}
use Rattle.hc_bitsum.proofs.Parts.{length-part, part-one, part-same, part-split}
use Rattle.hc_bitsum.proofs.Read.{bits-back, bits-front}
use Rattle.hc_bitsum.proofs.Shape.{set_at-back, set_at-front}

row-set : (dir : Dir) (place j bits : ℕ) (row : List ℕ) → j < length row → row_areas dir place (set row j bits) ≡ set_at j bits (row_areas dir place row)
row-set dir place j bits [] h = absurd (omega arith)
row-set dir place zero bits (x ∷ row) h = refl
row-set dir place (suc j) bits (x ∷ row) h = ap (λ areas. (key_at dir place, x) ∷ areas) (row-set dir (place + 1) j bits row (omega arith))

-- a row that is set is one still
pub set-row : (row : List ℕ) (j bits : ℕ) → IsRow row → bits ≤ 11888 → IsRow (set row j bits)
set-row row j bits is h = record { many = simp length-set is.many; narrow = All-set (λ b. b ≤ 11888) row j bits h is.narrow }

split : (dir : Dir) (rows : List (List ℕ)) (r rest : ℕ) → length rows ≡ r + (1 + rest)
    → part dir rows 0 (length rows) ≡ part dir rows 0 r ++ (part dir rows r 1 ++ part dir rows (r + 1) rest)
split dir rows r rest all = grind (arith, part-split)

set-split : (at j bits : ℕ) (front middle back : List Keyed) → at ≡ length front + j → j < length middle
    → set_at at bits (front ++ (middle ++ back)) ≡ front ++ (set_at j bits middle ++ back)
set-split at j bits front middle back place inside =
    rw place (set_at-back front (middle ++ back) j bits ∙ ap (λ areas. front ++ areas) (set_at-front middle back j bits inside))

-- the areas of the rows then
pub part-set : (dir : Dir) (rows : List (List ℕ)) (at bits : ℕ) → All IsRow rows → at < 8 * length rows
    → part dir (set rows (at / 8) (set (get_or rows (at / 8) []) (at % 8) bits)) 0 (length rows) ≡ set_at at bits (part dir rows 0 (length rows))
part-set dir rows at bits each h =
    let r = at / 8 in
    let j = at % 8 in
    let row = get_or rows r [] in
    let new = set rows r (set row j bits) in
    let inside : r < length rows = omega arith in
    let rest = length rows - (r + 1) in
    let all : length rows ≡ r + (1 + rest) = omega arith in
    let still : length new ≡ length rows = length-set rows r (set row j bits) in
    let many : length row ≡ 8 = (All-get_or IsRow rows r [] inside each).many in
    let front : part dir new 0 r ≡ part dir rows 0 r = part-same dir new rows 0 r (λ i low high. let other : i ≢ r = omega arith in get_or-set_other rows r i (set row j bits) [] other) in
    let own : get_or new r [] ≡ set row j bits = get_or-set_same rows r (set row j bits) [] inside in
    let middle : part dir new r 1 ≡ set_at j bits (part dir rows r 1) =
    part-one dir new r ∙ ap (row_areas dir (8 * r)) own ∙ row-set dir (8 * r) j bits row (omega arith) ∙ ap (set_at j bits) (sym (part-one dir rows r)) in
    let back : part dir new (r + 1) rest ≡ part dir rows (r + 1) rest =
    part-same dir new rows (r + 1) rest (λ i low high. let other : i ≢ r = omega arith in get_or-set_other rows r i (set row j bits) [] other) in
    let before : length (part dir rows 0 r) ≡ 8 * r = length-part dir rows 0 r each (omega arith) in
    let size : length (part dir rows r 1) ≡ 8 = length-part dir rows r 1 each (omega arith) in
    let place : at ≡ length (part dir rows 0 r) + j = omega arith in
    ap (part dir new 0) (sym still) ∙ split dir new r rest (still ∙ all)
    ∙ rw (front, middle, back) (sym (set-split at j bits (part dir rows 0 r) (part dir rows r 1) (part dir rows (r + 1) rest) place (omega arith)))
    ∙ ap (set_at at bits) (sym (split dir rows r rest all))

-- a row's sum is put
pub leaves-put : (dir : Dir) (rows : List (List ℕ)) (sums : List Sum) (r : ℕ) (own : Sum) → length sums ≡ 2 * length rows → r < length rows
    → AreRowSums (λ i. i ≢ r) dir rows sums → own ≡ sum_of (part dir rows r 1) → AreRowSums (λ i. Unit {0}) dir rows (set sums (length rows + r) own)
leaves-put dir rows sums r own nodes inside others is i h some =
    grind (arith, nat_tests, get_or-set_same, get_or-set_other)

-- the forks that aren't above a node stay
pub forks-stay : (last : ℕ) (sums : List Sum) (node : ℕ) (own : Sum) → AreForks (λ k. Unit {0}) last sums → last ≤ node → AreForks (λ k. k ≢ node / 2) last (set sums node own)
forks-stay last sums node own forks after_it k some less other = grind (arith, get_or-set_other)

-- a fork is made anew
pub forks-put : (last : ℕ) (sums : List Sum) (node : ℕ) → AreForks (λ k. k ≢ node) last sums → 1 ≤ node → node < length sums
    → AreForks (λ k. k ≢ node / 2) last (set sums node (sums_joined (get_or sums (2 * node) Empty) (get_or sums (2 * node + 1) Empty)))
forks-put last sums node forks top inside k some less other =
    grind (arith, nat_tests, get_or-set_same, get_or-set_other)

-- a node above the rows changes none of their sums
pub leaves-stay : (dir : Dir) (rows : List (List ℕ)) (sums : List Sum) (node : ℕ) (own : Sum) → AreRowSums (λ i. Unit {0}) dir rows sums → node < length rows
    → AreRowSums (λ i. Unit {0}) dir rows (set sums node own)
leaves-stay dir rows sums node own leaves above i h some = grind (arith, get_or-set_other)

-- from some forks to fewer
pub fewer-forks : (last : ℕ) (sums : List Sum) (node : ℕ) → AreForks (λ k. k ≢ node) last sums → AreForks (λ k. node < k) last sums
fewer-forks last sums node forks k some less after_it = forks k some less (omega arith)

bits-row : (dir : Dir) (place j : ℕ) (row : List ℕ) → j < length row → get_or row j 0 ≡ bits_at j (row_areas dir place row)
bits-row dir place j [] h = absurd (omega arith)
bits-row dir place zero (bits ∷ row) h = refl
bits-row dir place (suc j) (bits ∷ row) h = bits-row dir (place + 1) j row (omega arith)

-- the width at a place of the rows
pub bits-part : (dir : Dir) (rows : List (List ℕ)) (at : ℕ) → All IsRow rows → at < 8 * length rows
    → get_or (get_or rows (at / 8) []) (at % 8) 0 ≡ bits_at at (part dir rows 0 (length rows))
bits-part dir rows at each h =
    let r = at / 8 in
    let j = at % 8 in
    let row = get_or rows r [] in
    let inside : r < length rows = omega arith in
    let rest = length rows - (r + 1) in
    let all : length rows ≡ r + (1 + rest) = omega arith in
    let many : length row ≡ 8 = (All-get_or IsRow rows r [] inside each).many in
    let before : length (part dir rows 0 r) ≡ 8 * r = length-part dir rows 0 r each (omega arith) in
    let size : length (part dir rows r 1) ≡ 8 = length-part dir rows r 1 each (omega arith) in
    let place : length (part dir rows 0 r) + j ≡ at = omega arith in
    bits-row dir (8 * r) j row (omega arith)
    ∙ ap (bits_at j) (sym (part-one dir rows r))
    ∙ bits-front (part dir rows r 1) (part dir rows (r + 1) rest) j (omega arith)
    ∙ bits-back (part dir rows 0 r) (part dir rows r 1 ++ part dir rows (r + 1) rest) j
    ∙ ap (λ n. bits_at n (part dir rows 0 r ++ (part dir rows r 1 ++ part dir rows (r + 1) rest))) place
    ∙ ap (bits_at at) (sym (split dir rows r rest all))

-- the areas from a place of the rows on: the rest of a row, and the rows after it
pub drop-part : (dir : Dir) (rows : List (List ℕ)) (at : ℕ) → All IsRow rows → at < 8 * length rows
    → drop at (part dir rows 0 (length rows))
    ≡ drop (at % 8) (row_areas dir (8 * (at / 8)) (get_or rows (at / 8) [])) ++ part dir rows (at / 8 + 1) (length rows - (at / 8 + 1))
drop-part dir rows at each h =
    let r = at / 8 in
    let j = at % 8 in
    let rest = length rows - (r + 1) in
    let all : length rows ≡ r + (1 + rest) = omega arith in
    let before : length (part dir rows 0 r) ≡ 8 * r = length-part dir rows 0 r each (omega arith) in
    let size : length (part dir rows r 1) ≡ 8 = length-part dir rows r 1 each (omega arith) in
    let place : at ≡ length (part dir rows 0 r) + j = omega arith in
    ap (drop at) (split dir rows r rest all)
    ∙ ap (λ n. drop n (part dir rows 0 r ++ (part dir rows r 1 ++ part dir rows (r + 1) rest))) place
    ∙ drop-append-add (part dir rows 0 r) (part dir rows r 1 ++ part dir rows (r + 1) rest) j
    ∙ drop-append-le j (part dir rows r 1) (part dir rows (r + 1) rest) (omega arith)
    ∙ ap (λ areas. drop j areas ++ part dir rows (r + 1) rest) (part-one dir rows r)
