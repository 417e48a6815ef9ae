-- Rows of no bits.
use Rattle.std.specs.Prelude.{All, filter, replicate}
use Rattle.std.proofs.Common.{◌≡◌, ℕ, zero, suc, ◌+◌, ◌*◌, ◌^◌, ◌≤◌, List, [], ◌∷◌, length, get_or, refl, sym, ap, subst, ◌∙◌, arith}
use Rattle.std.proofs.lemmas.Bool.Decides.{nat_tests}
use Rattle.std.proofs.lemmas.List.{get_or-replicate, length-replicate}
use Rattle.std.proofs.lemmas.List.Elements.{All-append, All-cons, All-get_or, All-head, All-nil, All-replicate, All-tail, All-weaker}
use Rattle.hc_records.specs.declared.records.Dir.{Dir}
use Rattle.hc_records.specs.TaskList.{Keyed}
use Rattle.hc_bitsum.specs.Places.{IsOfSlave, KeepsSlaves, AreFrom}
use Rattle.hc_bitsum.specs.declared.sum.Sum.TheVariants.{Empty}
use Rattle.hc_bitsum.specs.Branch.{AreSums}
use Rattle.hc_bitsum.specs.Rows.{IsRow, blank_slots, part, row_areas}
use Rattle.hc_bitsum.specs.Tree.{has_width}
use Rattle.hc_bitsum.proofs.Nodes.{eight}
use Rattle.hc_bitsum.proofs.Parts.{length-part, narrow-part, are_placed-part}

-- an area of no bits
abbrev IsNone : Keyed → Type 0
IsNone area = area.1 ≡ 0

none-row : (dir : Dir) (place : ℕ) (row : List ℕ) → All (λ bits. bits ≡ 0) row → All IsNone (row_areas dir place row)
none-row dir place [] all = All-nil IsNone
none-row dir place (bits ∷ row) all =
    grind (arith, All-cons, All-head, All-tail, none-row dir (place + 1) row (All-tail (λ b. b ≡ 0) bits row all))

none-part : (dir : Dir) (rows : List (List ℕ)) (first more : ℕ) → All (All (λ bits. bits ≡ 0)) rows → first + more ≤ length rows → All IsNone (part dir rows first more)
none-part dir rows first zero each h = All-nil IsNone
none-part dir rows first (suc more) each h =
    All-append IsNone (row_areas dir (8 * first) (get_or rows first [])) (part dir rows (first + 1) more)
    (none-row dir (8 * first) (get_or rows first []) (All-get_or (All (λ bits. bits ≡ 0)) rows first [] (omega arith) each))
    (none-part dir rows (first + 1) more each (omega arith))

none-wide : (areas : List Keyed) → All IsNone areas → filter has_width areas ≡ []
none-wide [] all = refl
none-wide (area ∷ areas) all =
    grind (arith, All-head, nat_tests, All-tail, none-wide areas (All-tail IsNone area areas all))

abbrev pub blank_rows : ℕ → List (List ℕ)
blank_rows levels = replicate (2 ^ levels) (replicate 8 0)

pub blank-each : (levels : ℕ) → All IsRow (blank_rows levels)
blank-each levels = All-replicate IsRow (2 ^ levels) (replicate 8 0) (record { many = refl; narrow = All-replicate (λ b. b ≤ 11888) 8 0 (omega arith) })

pub blank-many : (levels : ℕ) → length (blank_rows levels) ≡ 2 ^ levels
blank-many levels = length-replicate (2 ^ levels) (replicate 8 0)

blank-none : (dir : Dir) (levels first more : ℕ) → first + more ≤ 2 ^ levels → All IsNone (part dir (blank_rows levels) first more)
blank-none dir levels first more within =
    let many = blank-many levels in
    none-part dir (blank_rows levels) first more (All-replicate (All (λ bits. bits ≡ 0)) (2 ^ levels) (replicate 8 0) (All-replicate (λ b. b ≡ 0) 8 0 refl)) (omega arith)

pub blank-empty : (dir : Dir) (levels : ℕ) → filter has_width (blank_slots dir levels).areas ≡ []
blank-empty dir levels = none-wide (part dir (blank_rows levels) 0 (2 ^ levels)) (blank-none dir levels 0 (2 ^ levels) (omega arith))

pub blank-stays : (dir : Dir) (slaves levels : ℕ) → slaves ≤ 2 ^ levels → levels ≤ 11 → KeepsSlaves dir slaves (blank_slots dir levels)
blank-stays dir slaves levels room low =
    let many = blank-many levels in
    let each = blank-each levels in
    let size = length-part dir (blank_rows levels) 0 (2 ^ levels) each (omega arith) in
    let wide : 2 ^ (levels + 3) ≡ 8 * 2 ^ levels = ap (λ n. 2 ^ n) (omega arith) ∙ eight levels in
    let front : 8 * 0 ≡ 0 = omega arith in
    record {
      keys = subst (λ p. AreFrom dir p (part dir (blank_rows levels) 0 (2 ^ levels))) front (are_placed-part dir (blank_rows levels) 0 (2 ^ levels) each (omega arith));
      room = omega arith;
      shape = record { many = size ∙ sym wide; low = omega arith; narrow = narrow-part dir (blank_rows levels) 0 (2 ^ levels) each (omega arith) };
      places =
          All-weaker IsNone (IsOfSlave slaves) (λ area none wide. absurd (grind (arith, nat_tests))) (part dir (blank_rows levels) 0 (2 ^ levels))
          (blank-none dir levels 0 (2 ^ levels) (omega arith));
    }

-- their sums are none
pub blank-sums : (dir : Dir) (levels : ℕ) → AreSums dir (blank_rows levels) (replicate (2 * 2 ^ levels) Empty)
blank-sums dir levels = record {
  leaves = λ i h some. grind (arith, get_or-replicate, blank-many);
  forks = λ k some h all. grind (arith, get_or-replicate, blank-many);
}
