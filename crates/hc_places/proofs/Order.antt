-- Rows in the order of their numbers: what a search by halves asks of them.
use Rattle.std.proofs.Common.{◌≡◌, ◌∙◌, ap, ℕ, ◌≤◌, true, false, List, arith}
use Rattle.std.specs.Prelude.{Option, find, nat_lt, option_and_then, slice_get, ◌==◌}
use Rattle.std.specs.List.Sorted.{IsNonDecreasingBy, IsPartitionPoint}
use Rattle.std.proofs.lemmas.Bool.Decides.{nat_tests}
use Rattle.hc_cuts.proofs.lemmas.Found.{unchanged, find-reached}
use Rattle.hc_places.specs.Table.{VariableRow}

number-apart : (a b : ℕ) → nat_lt a b ≡ true → (a == b) ≡ false
number-apart a b below = grind (arith, nat_tests)

number-after_it : (a b c : ℕ) → a ≤ b → nat_lt a c ≡ false → (a == c) ≡ false → (b == c) ≡ false
number-after_it a b c low reached other = grind (arith, nat_tests)

pub find-row : (rows : List VariableRow) (query first : ℕ) (found : Option VariableRow) → IsNonDecreasingBy (λ row. row.0) rows
    → IsPartitionPoint (λ row. nat_lt row.0 query ≡ true) (λ row. nat_lt row.0 query ≡ false) rows first
    → slice_get rows first ≡ found
    → find (λ row. row.0 == query) rows ≡ option_and_then (unchanged (λ row. row.0 == query)) found
find-row rows query first found order parts is =
    find-reached (λ row. nat_lt row.0 query) (λ row. row.0 == query) (λ a b. a.0 ≤ b.0)
    (λ row below. number-apart row.0 query below) (λ a b low reached other. number-after_it a.0 b.0 query low reached other)
    rows first (λ i j d lower within. order i j d (omega arith) within) parts
    ∙ ap (option_and_then (unchanged (λ row. row.0 == query))) is
