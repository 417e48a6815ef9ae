-- A walk over rows by the nodes that stand for them.
use Rattle.std.proofs.Common.{◌≡◌, ℕ, zero, suc, ◌+◌, ◌-◌, ◌*◌, ◌/◌, ◌%◌, ◌^◌, ◌<◌, ◌≤◌, ◌++◌, length, get_or, sym, ap, ◌∙◌, arith}
use Rattle.std.proofs.Math.Nat.{le_of_mul-le-mul_right, two-pow-succ}
use Rattle.std.proofs.Math.Pow.{pow_mono}
use Rattle.hc_bitsum.specs.declared.branch.Branch.{Branch}
use Rattle.hc_bitsum.specs.declared.filled.Filled.{Filled}
use Rattle.hc_bitsum.specs.declared.sum.Sum.TheVariants.{Empty}
use Rattle.hc_bitsum.specs.Branch.{IsBranch, IsNode, first_row_of}
use Rattle.hc_bitsum.specs.Filling.{filled_with_areas}
use Rattle.hc_bitsum.specs.Rows.{part}
use Rattle.hc_bitsum.specs.Strides.{BeginsWithRow}
use Rattle.hc_bitsum.specs.Sums.{filled_by_run}
use Rattle.hc_bitsum.proofs.Nodes.{few-rows, read-end}
use Rattle.hc_bitsum.proofs.lemmas.Fillings.{with_areas-append}
use Rattle.hc_bitsum.proofs.Parts.{part-split}
use Rattle.hc_bitsum.proofs.Scan.{with_areas-le}
use Rattle.hc_bitsum.proofs.Sums.{double, level, more-by}

-- from a row's own node

pub is_placed-leaf : (levels row rows : ℕ) → rows ≡ 2 ^ levels → BeginsWithRow levels 0 (rows + row) row
is_placed-leaf levels row rows many =
    let here : 2 ^ (levels - 0) ≡ 2 ^ levels = ap (λ n. 2 ^ n) (omega arith) in
    record { index = row; high = omega arith; here = omega arith; first = omega arith }

-- to the node beside it
pub is_placed-next : (levels height node row : ℕ) → BeginsWithRow levels height node row → BeginsWithRow levels height (node + 1) (row + 2 ^ height)
is_placed-next levels height node row at =
    let here = at.here in
    let first = at.first in
    record { index = at.index + 1; high = at.high; here = omega arith; first = ap (λ n. n + 2 ^ height) first ∙ sym (more-by at.index (2 ^ height)) }

-- to the one above it
pub is_placed-up : (levels height node row : ℕ) → height < levels → node % 2 ≡ 0 → BeginsWithRow levels height node row → BeginsWithRow levels (height + 1) (node / 2) row
is_placed-up levels height node row less even at =
    let here = at.here in
    let above : 2 ^ (levels - height) ≡ 2 ^ (levels - (height + 1)) + 2 ^ (levels - (height + 1)) =
    ap (λ n. 2 ^ n) (omega arith) ∙ two-pow-succ (levels - (height + 1)) in
    let twice : at.index ≡ 2 * (at.index / 2) = omega arith in
    let wide : 2 ^ (height + 1) ≡ 2 ^ height + 2 ^ height = ap (λ n. 2 ^ n) (omega arith) ∙ two-pow-succ height in
    record {
      index = at.index / 2;
      high = omega arith;
      here = omega arith;
      first =
          at.first ∙ ap (λ n. n * 2 ^ height) twice ∙ double (at.index / 2) (2 ^ height)
          ∙ ap (λ n. at.index / 2 * n) (sym wide);
    }

-- to the left one below it
pub is_placed-down : (levels height node row : ℕ) → 0 < height → BeginsWithRow levels height node row → BeginsWithRow levels (height - 1) (node * 2) row
is_placed-down levels height node row some at =
    let here = at.here in
    let high = at.high in
    let below : 2 ^ (levels - (height - 1)) ≡ 2 ^ (levels - height) + 2 ^ (levels - height) = ap (λ n. 2 ^ n) (omega arith) ∙ two-pow-succ (levels - height) in
    let wide : 2 ^ height ≡ 2 ^ (height - 1) + 2 ^ (height - 1) = ap (λ n. 2 ^ n) (omega arith) ∙ two-pow-succ (height - 1) in
    record {
      index = 2 * at.index;
      high = omega arith;
      here = omega arith;
      first = at.first ∙ ap (λ n. at.index * n) wide ∙ sym (double at.index (2 ^ (height - 1)));
    }

-- what begins with a row is a node of its height, if all its rows are rows of the tree
pub is_placed-node : (levels height node row : ℕ) → BeginsWithRow levels height node row → row + 2 ^ height ≤ 2 ^ levels → IsNode levels height node
is_placed-node levels height node row at within =
    let some : 0 < 2 ^ height = pow_mono {i = 0} (omega arith) in
    let all = level levels height at.high in
    let less : at.index + 1 ≤ 2 ^ (levels - height) = le_of_mul-le-mul_right {k = 2 ^ height} (omega arith) some in
    record { high = at.high; from = omega arith; below = omega arith }

is_placed-first : (levels height node row : ℕ) → BeginsWithRow levels height node row → first_row_of levels height node ≡ row
is_placed-first levels height node row at = grind arith

-- the rows up to one are filled in, and then those of a node
pub taken : (branch : Branch) (height node first row : ℕ) (filled so_far end : Filled) → IsBranch branch → BeginsWithRow branch.levels height node row
    → first ≤ row → row + 2 ^ height ≤ length branch.rows.items → so_far ≡ filled_with_areas filled (part branch.dir branch.rows.items first (row - first))
    → end ≡ filled_by_run (get_or branch.sums.items node Empty) so_far
    → end ≡ filled_with_areas filled (part branch.dir branch.rows.items first (row + 2 ^ height - first))
taken branch height node first row filled so_far end is at low within before reads =
    let own = is_placed-node branch.levels height node row at (omega arith) in
    let all : row + 2 ^ height - first ≡ (row - first) + 2 ^ height = omega arith in
    let there : first + (row - first) ≡ row = omega arith in
    let rows = branch.rows.items in
    read-end branch height node so_far end is own reads
    ∙ ap (λ n. filled_with_areas so_far (part branch.dir rows n (2 ^ height))) (is_placed-first branch.levels height node row at)
    ∙ ap (λ (f : Filled). filled_with_areas f (part branch.dir rows row (2 ^ height))) before
    ∙ sym (ap (λ n. filled_with_areas filled (part branch.dir rows first n)) all
    ∙ ap (filled_with_areas filled) (part-split branch.dir rows first (row - first) (2 ^ height) ∙ ap (λ n. part branch.dir rows first (row - first) ++ part branch.dir rows n (2 ^ height)) there)
    ∙ with_areas-append filled (part branch.dir rows first (row - first)) (part branch.dir rows row (2 ^ height)))

-- rows up to one, and those after it
pub rows-on : (branch : Branch) (first row end : ℕ) (filled : Filled) → first ≤ row → row ≤ end
    → filled_with_areas (filled_with_areas filled (part branch.dir branch.rows.items first (row - first))) (part branch.dir branch.rows.items row (end - row))
    ≡ filled_with_areas filled (part branch.dir branch.rows.items first (end - first))
rows-on branch first row end filled low high =
    let rows = branch.rows.items in
    let all : end - first ≡ (row - first) + (end - row) = omega arith in
    let there : first + (row - first) ≡ row = omega arith in
    sym (ap (λ n. filled_with_areas filled (part branch.dir rows first n)) all
    ∙ ap (filled_with_areas filled) (part-split branch.dir rows first (row - first) (end - row) ∙ ap (λ n. part branch.dir rows first (row - first) ++ part branch.dir rows n (end - row)) there)
    ∙ with_areas-append filled (part branch.dir rows first (row - first)) (part branch.dir rows row (end - row)))

pub rows-low : (branch : Branch) (first row end : ℕ) (filled : Filled) → first ≤ row → row ≤ end
    → (filled_with_areas filled (part branch.dir branch.rows.items first (row - first))).bit ≤ (filled_with_areas filled (part branch.dir branch.rows.items first (end - first))).bit
rows-low branch first row end filled low high =
    let same = ap (λ (r : Filled). r.bit) (rows-on branch first row end filled low high) in
    let more = with_areas-le (part branch.dir branch.rows.items row (end - row)) (filled_with_areas filled (part branch.dir branch.rows.items first (row - first))) in
    omega arith

-- two nodes of a height have the rows of one of the next
pub wider : (height : ℕ) → 2 ^ (height + 1) ≡ 2 ^ height + 2 ^ height
wider height = ap (λ n. 2 ^ n) (omega arith) ∙ two-pow-succ height

pub power-some : (height : ℕ) → 1 ≤ 2 ^ height
power-some height = pow_mono {i = 0} (omega arith)

-- only the lowest nodes have one row
pub high-some : (height : ℕ) → 1 < 2 ^ height → 0 < height
high-some zero more = omega (arith, more)
high-some (suc height) more = omega arith

-- no row fills nothing
pub no-rows : (branch : Branch) (first : ℕ) (filled : Filled) → filled ≡ filled_with_areas filled (part branch.dir branch.rows.items first (first - first))
no-rows branch first filled = grind arith

-- a node has few rows
pub is_placed-small : (levels height node row : ℕ) → levels ≤ 11 → BeginsWithRow levels height node row → 2 ^ height ≤ 2048
is_placed-small levels height node row low at = grind (arith, few-rows, pow_mono)
