-- The areas that a branch's nodes stand for, and the searches at them.
use Rattle.std.specs.Prelude.{All}
use Rattle.std.proofs.Common.{◌≡◌, ℕ, suc, ◌+◌, ◌-◌, ◌*◌, ◌/◌, ◌%◌, ◌^◌, ◌<◌, ◌≤◌, List, [], ◌++◌, length, get_or, sym, ap, subst, ◌∙◌, arith}
use Rattle.std.proofs.Math.Nat.{two-pow-succ}
use Rattle.std.proofs.Math.Pow.{pow_mono}
use Rattle.hc_records.specs.declared.records.Dir.{Dir}
use Rattle.hc_records.specs.TaskList.{Keyed}
use Rattle.hc_bitsum.specs.declared.branch.Branch.{Branch}
use Rattle.hc_bitsum.specs.declared.filled.Filled.{Filled}
use Rattle.hc_bitsum.specs.declared.row.Fit.{Fit}
use Rattle.hc_bitsum.specs.declared.sum.Sum.{Sum}
use Rattle.hc_bitsum.specs.declared.sum.Sum.TheVariants.{Empty}
use Rattle.hc_bitsum.specs.Branch.{AreForks, AreRowSums, IsBranch, IsNode, areas_after, first_row_of, node_areas, branch_slots}
use Rattle.hc_bitsum.specs.Filling.{filled_with_areas}
use Rattle.hc_bitsum.specs.Rows.{IsRow, part, row_areas}
use Rattle.hc_bitsum.specs.Search.{IsInRoom, scan}
use Rattle.hc_bitsum.specs.Slots.{IsShaped}
use Rattle.hc_bitsum.specs.Sums.{EndsBelow, filled_by_run, sums_joined, sum_of}
use Rattle.hc_bitsum.proofs.Ends.{sum_of-append}
use Rattle.hc_bitsum.proofs.Parts.{length-part, narrow-part, part-one, part-split}
use Rattle.hc_bitsum.proofs.Room.{EndsBelow-sum_of, with_areas-few}
use Rattle.hc_bitsum.proofs.Scan.{found-both, found-in, unchanged-end, not-through, scan-all, scan-append-through}
use Rattle.hc_bitsum.proofs.Sums.{left-node, next-first, next-node, node-inside, node-parts, node-some, node-sum, node-within, right-node, root-first, up-left, up-right}
use Rattle.hc_bitsum.proofs.lemmas.Fillings.{with_areas-append}

pub few-rows : (levels : ℕ) → levels ≤ 11 → 2 ^ levels ≤ 2048
few-rows levels low = pow_mono {j = 11} low

-- the ends of a node's sum lie low, and so do those of the two below it

pub node-low : (dir : Dir) (rows : List (List ℕ)) (sums : List Sum) (above levels height node : ℕ) → levels ≤ 11 → length rows ≡ 2 ^ levels → All IsRow rows
    → AreRowSums (λ j. Unit {0}) dir rows sums → AreForks (λ k. above < k) (length rows) sums → IsNode levels height node → above < node
    → EndsBelow (2 ^ 31) (get_or sums node Empty)
node-low dir rows sums above levels height node low many each leaves forks is after =
    let within = node-within levels height node is in
    let few = few-rows levels low in
    let first = first_row_of levels height node in
    let size = length-part dir rows first (2 ^ height) each (omega arith) in
    subst (EndsBelow (2 ^ 31)) (sym (node-sum dir rows sums above levels height node many leaves forks is after))
    (EndsBelow-sum_of (2 ^ 31) (part dir rows first (2 ^ height)) (narrow-part dir rows first (2 ^ height) each (omega arith)) (omega arith))

pub forked-low : (dir : Dir) (rows : List (List ℕ)) (sums : List Sum) (levels height node : ℕ) → levels ≤ 11 → length rows ≡ 2 ^ levels → All IsRow rows
    → AreRowSums (λ j. Unit {0}) dir rows sums → AreForks (λ k. node < k) (length rows) sums → IsNode levels height node → 0 < height → 0 < node
    → EndsBelow (2 ^ 31) (sums_joined (get_or sums (2 * node) Empty) (get_or sums (2 * node + 1) Empty))
forked-low dir rows sums levels height node low many each leaves forks is some top =
    let within = node-within levels height node is in
    let few = few-rows levels low in
    let first = first_row_of levels height node in
    let size = length-part dir rows first (2 ^ height) each (omega arith) in
    let left = node-sum dir rows sums node levels (height - 1) (2 * node) many leaves forks (left-node levels height node some is) (omega arith) in
    let right = node-sum dir rows sums node levels (height - 1) (2 * node + 1) many leaves forks (right-node levels height node some is) (omega arith) in
    let both : sum_of (part dir rows first (2 ^ height)) ≡ sums_joined (get_or sums (2 * node) Empty) (get_or sums (2 * node + 1) Empty) =
    rw (left, right) (ap sum_of (node-parts dir rows levels height node some is)
    ∙ sum_of-append (part dir rows (first_row_of levels (height - 1) (2 * node)) (2 ^ (height - 1))) (part dir rows (first_row_of levels (height - 1) (2 * node + 1)) (2 ^ (height - 1)))) in
    subst (EndsBelow (2 ^ 31)) both
    (EndsBelow-sum_of (2 ^ 31) (part dir rows first (2 ^ height)) (narrow-part dir rows first (2 ^ height) each (omega arith)) (omega arith))

-- in a branch

pub is-node-sum : (branch : Branch) (height node : ℕ) → IsBranch branch → IsNode branch.levels height node → 0 < node
    → get_or branch.sums.items node Empty ≡ sum_of (node_areas branch height node)
is-node-sum branch height node is at some = grind (arith, node-sum)

-- what its sum says of an end
node-end : (branch : Branch) (height node : ℕ) (filled : Filled) → IsBranch branch → IsNode branch.levels height node → 0 < node
    → filled_by_run (get_or branch.sums.items node Empty) filled ≡ filled_with_areas filled (node_areas branch height node)
node-end branch height node filled is at some = unchanged-end (get_or branch.sums.items node Empty) (node_areas branch height node) filled (is-node-sum branch height node is at some)

-- which lies low
node-ends-low : (branch : Branch) (height node : ℕ) (filled : Filled) → IsBranch branch → IsNode branch.levels height node → 0 < node
    → filled.bit < 2 ^ 30 → (filled_by_run (get_or branch.sums.items node Empty) filled).bit < 2 ^ 32
node-ends-low branch height node filled is at some low =
    let within = node-within branch.levels height node at in
    let few = few-rows branch.levels is.low in
    let many = is.many in
    let first = first_row_of branch.levels height node in
    let size = length-part branch.dir branch.rows.items first (2 ^ height) is.each (omega arith) in
    let end = with_areas-few (node_areas branch height node) filled (narrow-part branch.dir branch.rows.items first (2 ^ height) is.each (omega arith)) in
    let same = ap (λ (r : Filled). r.bit) (node-end branch height node filled is at some) in
    omega arith

-- the whole of it
pub root-areas : (branch : Branch) → IsBranch branch → node_areas branch branch.levels 1 ≡ (branch_slots branch).areas
root-areas branch is =
    rw (root-first branch.levels) (ap (part branch.dir branch.rows.items 0) (sym is.many))

pub eight : (levels : ℕ) → 2 ^ suc (suc (suc levels)) ≡ 8 * 2 ^ levels
eight levels = let a = two-pow-succ levels in let b = two-pow-succ (suc levels) in let c = two-pow-succ (suc (suc levels)) in omega arith

pub shaped : (branch : Branch) → IsBranch branch → IsShaped (branch_slots branch)
shaped branch is =
    let many = is.many in
    let wide : 2 ^ (branch.levels + 3) ≡ 8 * 2 ^ branch.levels = ap (λ n. 2 ^ n) (omega arith) ∙ eight branch.levels in
    let low = is.low in
    record {
      many = length-part branch.dir branch.rows.items 0 (length branch.rows.items) is.each (omega arith) ∙ omega arith;
      low = omega arith;
      narrow = narrow-part branch.dir branch.rows.items 0 (length branch.rows.items) is.each (omega arith);
    }

-- a search below a node goes into its left part, or through that into its right one

pub into-left : (branch : Branch) (height node room : ℕ) (filled : Filled) → 0 < height → IsNode branch.levels height node → filled.bit ≤ room
    → room < (filled_with_areas filled (node_areas branch (height - 1) (2 * node))).bit
    → scan room filled (node_areas branch (height - 1) (2 * node)) ≡ scan room filled (node_areas branch height node)
into-left branch height node room filled some at here beyond =
    grind (arith, node-parts, found-both, not-through)

pub into-right : (branch : Branch) (height node room : ℕ) (filled end : Filled) → 0 < height → IsNode branch.levels height node
    → end ≡ filled_with_areas filled (node_areas branch (height - 1) (2 * node)) → end.bit ≤ room
    → scan room end (node_areas branch (height - 1) (2 * node + 1)) ≡ scan room filled (node_areas branch height node)
into-right branch height node room filled end some at is within =
    grind (arith, scan-all, node-parts, scan-append-through)

-- what is beyond the room lies in the right part then
pub beyond-right : (branch : Branch) (height node room : ℕ) (filled end : Filled) → 0 < height → IsNode branch.levels height node
    → end ≡ filled_with_areas filled (node_areas branch (height - 1) (2 * node)) → room < (filled_with_areas filled (node_areas branch height node)).bit
    → room < (filled_with_areas end (node_areas branch (height - 1) (2 * node + 1))).bit
beyond-right branch height node room filled end some at is beyond =
    grind (arith, node-parts, with_areas-append)

-- the areas after some rows, part by part
after_it-parts : (branch : Branch) (first more : ℕ) → first + more ≤ length branch.rows.items
    → areas_after branch first ≡ part branch.dir branch.rows.items first more ++ areas_after branch (first + more)
after_it-parts branch first more within =
    let rest : length branch.rows.items - first ≡ more + (length branch.rows.items - (first + more)) = omega arith in
    ap (part branch.dir branch.rows.items first) rest ∙ part-split branch.dir branch.rows.items first more (length branch.rows.items - (first + more))

-- the row of an area
pub row-inside : (branch : Branch) (at : ℕ) → IsBranch branch → at < length (branch_slots branch).areas → at / 8 < length branch.rows.items
row-inside branch at is within = grind (arith, length-part)

-- a node of the last level stands for a row
pub leaf-row : (branch : Branch) (node : ℕ) → IsBranch branch → IsNode branch.levels 0 node → node - length branch.rows.items < length branch.rows.items
leaf-row branch node is at = grind arith

pub leaf-areas : (branch : Branch) (node : ℕ) → IsBranch branch → IsNode branch.levels 0 node
    → row_areas branch.dir (8 * (node - length branch.rows.items)) (get_or branch.rows.items (node - length branch.rows.items) []) ≡ node_areas branch 0 node
leaf-areas branch node is at = grind (arith, part-one)

-- what is read of a node

pub node-index : (branch : Branch) (height node : ℕ) → IsBranch branch → IsNode branch.levels height node → node < length branch.sums.items
node-index branch height node is at =
    let below = node-inside branch.levels height node at in
    omega arith

pub read-low : (branch : Branch) (height node : ℕ) (filled : Filled) → IsBranch branch → IsNode branch.levels height node
    → filled.bit < 2 ^ 30 → (filled_by_run (get_or branch.sums.items node Empty) filled).bit < 2 ^ 32
read-low branch height node filled is at low = node-ends-low branch height node filled is at (node-some branch.levels height node at) low

pub read-end : (branch : Branch) (height node : ℕ) (filled end : Filled) → IsBranch branch → IsNode branch.levels height node
    → end ≡ filled_by_run (get_or branch.sums.items node Empty) filled → end ≡ filled_with_areas filled (node_areas branch height node)
read-end branch height node filled end is at ends = ends ∙ node-end branch height node filled is at (node-some branch.levels height node at)

pub end-beyond : (filled end : Filled) (areas : List Keyed) (room : ℕ) → end ≡ filled_with_areas filled areas → room < end.bit → room < (filled_with_areas filled areas).bit
end-beyond filled end areas room is h = subst (λ (r : Filled). room < r.bit) is h

-- the areas after a node: those of the one beside it, and those after that
after_it-split : (branch : Branch) (height node : ℕ) → IsBranch branch → height < branch.levels → node % 2 ≡ 0 → IsNode branch.levels height node
    → areas_after branch (first_row_of branch.levels height node + 2 ^ height)
    ≡ node_areas branch height (node + 1) ++ areas_after branch (first_row_of branch.levels (height + 1) (node / 2) + 2 ^ (height + 1))
after_it-split branch height node is less even at =
    grind (arith, next-node, next-first, node-within, up-left, after_it-parts)

pub after_it-through : (branch : Branch) (height node room : ℕ) (filled end : Filled) → IsBranch branch → height < branch.levels → node % 2 ≡ 0
    → IsNode branch.levels height node → end ≡ filled_with_areas filled (node_areas branch height (node + 1)) → end.bit ≤ room
    → scan room end (areas_after branch (first_row_of branch.levels (height + 1) (node / 2) + 2 ^ (height + 1)))
    ≡ scan room filled (areas_after branch (first_row_of branch.levels height node + 2 ^ height))
after_it-through branch height node room filled end is less even at ends within =
    grind (arith, scan-all, after_it-split, scan-append-through)

pub after_it-same : (branch : Branch) (height node room : ℕ) (filled : Filled) → height < branch.levels → node % 2 ≡ 1 → IsNode branch.levels height node
    → scan room filled (areas_after branch (first_row_of branch.levels (height + 1) (node / 2) + 2 ^ (height + 1)))
    ≡ scan room filled (areas_after branch (first_row_of branch.levels height node + 2 ^ height))
after_it-same branch height node room filled less odd at = ap (λ n. scan room filled (areas_after branch n)) (up-right branch.levels height node less odd at)

pub after_it-found : (branch : Branch) (height node room : ℕ) (filled : Filled) (answer : Fit) → IsBranch branch → height < branch.levels → node % 2 ≡ 0
    → IsNode branch.levels height node → filled.bit ≤ room → room < (filled_with_areas filled (node_areas branch height (node + 1))).bit
    → answer ≡ scan room filled (node_areas branch height (node + 1))
    → answer ≡ scan room filled (areas_after branch (first_row_of branch.levels height node + 2 ^ height))
after_it-found branch height node room filled answer is less even at here beyond found =
    grind (arith, found-both, not-through, after_it-split)

-- if all areas together end beyond the room, the search finds one
pub beyond-in : (room : ℕ) (filled : Filled) (areas : List Keyed) (answer : Fit) → filled.bit ≤ room → room < (filled_with_areas filled areas).bit
    → answer ≡ scan room filled areas → IsInRoom room answer
beyond-in room filled areas answer here beyond is = found-in room answer (not-through room filled areas answer here beyond is)
