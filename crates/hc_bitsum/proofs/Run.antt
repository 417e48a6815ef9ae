-- The sum of a row, area by area, and its areas.
use Rattle.std.specs.Prelude.{slice_index}
use Rattle.std.proofs.Common.{◌≡◌, ℕ, zero, suc, ◌+◌, ◌*◌, ◌<◌, ◌≤◌, nat_le, Bool, true, false, List, [], ◌∷◌, ◌++◌, length, take, drop, get_or, refl, sym, ap, ◌∙◌, arith, add-one, if◌then◌else◌}
use Rattle.std.proofs.Math.Seq.{take-suc}
use Rattle.std.proofs.lemmas.Bool.Decides.{nat_tests}
use Rattle.hc_records.specs.declared.records.Dir.{Dir}
use Rattle.hc_records.specs.Keys.{is_turn}
use Rattle.hc_records.specs.TaskList.{Keyed}
use Rattle.hc_bitsum.specs.declared.sum.Sum.{Sum}
use Rattle.hc_bitsum.specs.declared.sum.Sum.TheVariants.{Empty, Run}
use Rattle.hc_bitsum.specs.declared.filled.Filled.{Filled}
use Rattle.hc_bitsum.specs.declared.row.Fit.TheVariants.{Found}
use Rattle.hc_bitsum.specs.Filling.{filled_with_area}
use Rattle.hc_bitsum.specs.Rows.{row_areas}
use Rattle.hc_bitsum.specs.Search.{scan}
use Rattle.hc_bitsum.specs.Slots.{key_at}
use Rattle.hc_bitsum.specs.Sums.{area_end, end_from, ends_by, sums_joined, start_at, sum_of, sum_of_area}
use Rattle.hc_bitsum.proofs.Ends.{area-bit, ends_by-at, joined-Empty, sum_of-append}
use Rattle.hc_bitsum.proofs.Scan.{le-no, le-yes}

-- a run of one direction, or none
abbrev pub run_of : Bool → Dir → List ℕ → Sum
run_of is_run dir ends = if is_run then Run dir dir ends else Empty

ends_by-below : (f g : ℕ → ℕ) → ((bit : ℕ) → bit < 8 → f bit ≡ g bit) → ends_by f ≡ ends_by g
ends_by-below f g h = grind arith

no-turn : (dir : Dir) → is_turn dir dir ≡ false
no-turn dir = grind arith

small-end : (ends : List ℕ) (bit : ℕ) → bit < 8 → end_from ends bit ≡ slice_index ends bit
small-end ends bit h = grind arith

-- an area of a run's direction after it
with-run : (dir : Dir) (ends : List ℕ) (bits : ℕ)
    → sums_joined (Run dir dir ends) (Run dir dir (ends_by (area_end bits))) ≡ Run dir dir (ends_by (λ bit. area_end bits (slice_index ends bit)))
with-run dir ends bits =
    ap (Run dir dir) (ends_by-below (λ bit. end_from (ends_by (area_end bits)) (start_at (is_turn dir dir) (end_from ends bit))) (λ bit. area_end bits (slice_index ends bit)) (λ bit h.
    rw (no-turn dir, small-end ends bit h) (one (nat_le 8 bits) (slice_index ends bit) refl)))
  where
    one : (wide : Bool) (x : ℕ) → nat_le 8 bits ≡ wide → end_from (ends_by (area_end bits)) x ≡ area_end bits x
    one true x test = rw test (area-bit false true bits x)
    one false x test = rw test (area-bit false false bits x)

pub after_it-by : (is_run : Bool) (dir : Dir) (ends : List ℕ) (bits : ℕ) → 0 < bits → (is_run ≡ false → ends ≡ 0 ∷ 1 ∷ 2 ∷ 3 ∷ 4 ∷ 5 ∷ 6 ∷ 7 ∷ [])
    → sums_joined (run_of is_run dir ends) (sum_of_area dir bits) ≡ run_of true dir (ends_by (λ bit. area_end bits (slice_index ends bit)))
after_it-by is_run dir ends bits some fresh = grind (arith, nat_tests, with-run)

row_areas-append : (dir : Dir) (place : ℕ) (xs ys : List ℕ) → row_areas dir place (xs ++ ys) ≡ row_areas dir place xs ++ row_areas dir (place + length xs) ys
row_areas-append dir place [] ys = let none : place + 0 ≡ place = omega arith in rw none refl
row_areas-append dir place (x ∷ xs) ys = grind (arith, row_areas-append dir (place + 1) xs ys)

-- one more area of a row
pub run-step : (dir : Dir) (row : List ℕ) (i place : ℕ) (before after : Sum) → i < length row → before ≡ sum_of (row_areas dir place (take i row))
    → sums_joined before (sum_of_area dir (get_or row i 0)) ≡ after → after ≡ sum_of (row_areas dir place (take (i + 1) row))
run-step dir row i place before after h is both =
    let taken = take i row in
    let last = get_or row i 0 in
    let more : take (i + 1) row ≡ taken ++ (last ∷ []) = rw (add-one) (take-suc row i 0 h) in
    sym both
    ∙ rw (is, more, row_areas-append dir place taken (last ∷ []), sum_of-append (row_areas dir place taken) ((key_at dir (place + length taken), last) ∷ []))
    (ap (sums_joined (sum_of (row_areas dir place taken))) (sym (joined-Empty (sum_of_area dir last))))

-- the areas of a row from one of them on
pub row-drop : (dir : Dir) (place i : ℕ) (row : List ℕ) → i < length row
    → drop i (row_areas dir place row) ≡ (key_at dir (place + i), get_or row i 0) ∷ drop (i + 1) (row_areas dir place row)
row-drop dir place i [] h = absurd (omega arith)
row-drop dir place zero (bits ∷ row) h = let none : place + 0 ≡ place = omega arith in rw none refl
row-drop dir place (suc i) (bits ∷ row) h =
    grind (arith, row-drop dir (place + 1) i row (omega arith))

-- ends grow by no more than an area and the bits before a byte
area-low : (bits x : ℕ) → bits ≤ 11888 → area_end bits x ≤ x + 11895
area-low bits x h = grind arith

pub low-after_it : (ends : List ℕ) (bits count : ℕ) → bits ≤ 11888 → ((k : ℕ) → k < 8 → slice_index ends k ≤ k + 11895 * count)
    → (k : ℕ) → k < 8 → slice_index (ends_by (λ bit. area_end bits (slice_index ends bit))) k ≤ k + 11895 * (count + 1)
low-after_it ends bits count narrow low k h =
    let own = ends_by-at (λ bit. area_end bits (slice_index ends bit)) k h in
    let more = area-low bits (slice_index ends k) narrow in
    omega arith

-- the area that is read ends past the room, or within it

pub scan-out : (room : ℕ) (filled end : Filled) (area : Keyed) (areas : List Keyed) → end ≡ filled_with_area filled area → room < end.bit → scan room filled (area ∷ areas) ≡ Found area.0
scan-out room filled end area areas is out = rw (← is, le-no end.bit room out) refl

pub scan-in : (room : ℕ) (filled end : Filled) (area : Keyed) (areas : List Keyed) → end ≡ filled_with_area filled area → end.bit ≤ room → scan room filled (area ∷ areas) ≡ scan room end areas
scan-in room filled end area areas is within = rw (← is, le-yes end.bit room within) refl
