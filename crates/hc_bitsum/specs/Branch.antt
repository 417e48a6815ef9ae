-- The areas of a branch, and its nodes.
use Rattle.std.specs.Prelude.{◌≡◌, ℕ, ◌+◌, ◌-◌, ◌*◌, ◌^◌, ◌<◌, ◌≤◌, All, List, length, get_or}
use Rattle.hc_records.specs.declared.records.Dir.{Dir}
use Rattle.hc_records.specs.TaskList.{Keyed}
use Rattle.hc_bitsum.specs.declared.branch.Branch.{Branch}
use Rattle.hc_bitsum.specs.declared.sum.Sum.{Sum}
use Rattle.hc_bitsum.specs.declared.sum.Sum.TheVariants.{Empty}
use Rattle.hc_bitsum.specs.Rows.{IsRow, part}
use Rattle.hc_bitsum.specs.Slots.{Slots}
use Rattle.hc_bitsum.specs.Sums.{sums_joined, sum_of}

-- the areas of all rows of a branch in their order, those of 0 bits too, under its direction's keys from place 0 on; the height is three more than its levels
abbrev pub branch_slots : Branch → Slots
branch_slots branch = record { height = branch.levels + 3; areas = part branch.dir branch.rows.items 0 (length branch.rows.items) }

-- the sums of some rows are in the last level
abbrev pub AreRowSums : (ℕ → Type 0) → Dir → List (List ℕ) → List Sum → Type 0
AreRowSums Some dir rows sums = (i : ℕ) → i < length rows → Some i → get_or sums (length rows + i) Empty ≡ sum_of (part dir rows i 1)

-- some nodes above the last level have the sum of the two below them
abbrev pub AreForks : (ℕ → Type 0) → ℕ → List Sum → Type 0
AreForks Some last sums = (k : ℕ) → 1 ≤ k → k < last → Some k → get_or sums k Empty ≡ sums_joined (get_or sums (2 * k) Empty) (get_or sums (2 * k + 1) Empty)

-- of n rows, node n + i is the sum of row i, from 0, and each node k from 1 to n - 1 the join of nodes 2k and 2k + 1
pub record AreSums (dir : Dir) (rows : List (List ℕ)) (sums : List Sum) : Type 0 where
  pub leaves : AreRowSums (λ i. Unit {0}) dir rows sums
  pub forks : AreForks (λ k. Unit {0}) (length rows) sums

-- a branch has at most 11 levels, 2 to the power of the levels rows, each of 8 narrow widths (`IsRow`), and twice as many
-- nodes, which hold the sums (`AreSums`)
pub record IsBranch (branch : Branch) : Type 0 where
  pub low : branch.levels ≤ 11
  pub many : length branch.rows.items ≡ 2 ^ branch.levels
  pub nodes : length branch.sums.items ≡ 2 * 2 ^ branch.levels
  pub each : All IsRow branch.rows.items
  pub are : AreSums branch.dir branch.rows.items branch.sums.items

-- a node that is so high above the last level
pub record IsNode (levels height node : ℕ) : Type 0 where
  pub high : height ≤ levels
  pub from : 2 ^ (levels - height) ≤ node
  pub below : node < 2 * 2 ^ (levels - height)

-- the first row below a node, of those that it stands for
abbrev pub first_row_of : ℕ → ℕ → ℕ → ℕ
first_row_of levels height node = (node - 2 ^ (levels - height)) * 2 ^ height

-- the areas that a node stands for
abbrev pub node_areas : Branch → ℕ → ℕ → List Keyed
node_areas branch height node = part branch.dir branch.rows.items (first_row_of branch.levels height node) (2 ^ height)

-- the areas from a row on
abbrev pub areas_after : Branch → ℕ → List Keyed
areas_after branch row = part branch.dir branch.rows.items row (length branch.rows.items - row)
