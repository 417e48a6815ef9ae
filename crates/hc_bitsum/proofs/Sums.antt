-- The sums of an array's nodes.
use Rattle.std.proofs.Common.{◌≡◌, ℕ, zero, suc, ◌+◌, ◌-◌, ◌*◌, ◌/◌, ◌%◌, ◌^◌, ◌<◌, ◌≤◌, List, ◌++◌, length, get_or, sym, ap, ◌∙◌, arith}
use Rattle.std.proofs.Math.Nat.{mul-le-mul_right, two-pow-succ}
use Rattle.std.proofs.Math.Pow.{pow_mono}
use Rattle.std.proofs.lemmas.Nat.{pow-add}
use Rattle.hc_records.specs.declared.records.Dir.{Dir}
use Rattle.hc_bitsum.specs.declared.sum.Sum.{Sum}
use Rattle.hc_bitsum.specs.declared.sum.Sum.TheVariants.{Empty}
use Rattle.hc_bitsum.specs.Branch.{AreForks, AreRowSums, IsNode, first_row_of}
use Rattle.hc_bitsum.specs.Rows.{part}
use Rattle.hc_bitsum.specs.Sums.{sum_of}
use Rattle.hc_bitsum.proofs.Ends.{sum_of-append}
use Rattle.hc_bitsum.proofs.Parts.{part-split}

-- twice so many rows, from twice as high up
pub double : (i s : ℕ) → 2 * i * s ≡ i * (s + s)
double i s = grind arith

double-next : (i s : ℕ) → (2 * i + 1) * s ≡ i * (s + s) + s
double-next i s = grind arith

pub more-by : (i s : ℕ) → (i + 1) * s ≡ i * s + s
more-by i s = grind arith

-- the sum at a node, by its index in its level, is that of the areas that it stands for, if it and the forks below it are right
at-index : (dir : Dir) (rows : List (List ℕ)) (sums : List Sum) (above height depth i : ℕ) → length rows ≡ 2 ^ (height + depth)
    → AreRowSums (λ j. Unit {0}) dir rows sums → AreForks (λ k. above < k) (length rows) sums → i < 2 ^ depth → above < 2 ^ depth + i
    → get_or sums (2 ^ depth + i) Empty ≡ sum_of (part dir rows (i * 2 ^ height) (2 ^ height))
at-index dir rows sums above zero depth i many leaves forks h low = grind arith
at-index dir rows sums above (suc height) depth i many leaves forks h low =
    let all : length rows ≡ 2 ^ (height + (depth + 1)) = many ∙ ap (λ n. 2 ^ n) (omega arith) in
    let wide : 2 ^ suc depth ≡ 2 ^ depth + 2 ^ depth = two-pow-succ depth in
    let next : 2 ^ (depth + 1) ≡ 2 ^ depth + 2 ^ depth = ap (λ n. 2 ^ n) (omega arith) ∙ wide in
    let most : 2 ^ (depth + 1) ≤ 2 ^ (height + (depth + 1)) = pow_mono (omega arith) in
    let left : 2 * (2 ^ depth + i) ≡ 2 ^ (depth + 1) + 2 * i = omega arith in
    let right : 2 * (2 ^ depth + i) + 1 ≡ 2 ^ (depth + 1) + (2 * i + 1) = omega arith in
    let both : 2 ^ suc height ≡ 2 ^ height + 2 ^ height = two-pow-succ height in
    let first = at-index dir rows sums above height (depth + 1) (2 * i) all leaves forks (omega arith) (omega arith) in
    let second = at-index dir rows sums above height (depth + 1) (2 * i + 1) all leaves forks (omega arith) (omega arith) in
    let one : get_or sums (2 * (2 ^ depth + i)) Empty ≡ sum_of (part dir rows (i * (2 ^ height + 2 ^ height)) (2 ^ height)) =
    ap (λ n. get_or sums n Empty) left ∙ first ∙ ap (λ n. sum_of (part dir rows n (2 ^ height))) (double i (2 ^ height)) in
    let other : get_or sums (2 * (2 ^ depth + i) + 1) Empty ≡ sum_of (part dir rows (i * (2 ^ height + 2 ^ height) + 2 ^ height) (2 ^ height)) =
    ap (λ n. get_or sums n Empty) right ∙ second ∙ ap (λ n. sum_of (part dir rows n (2 ^ height))) (double-next i (2 ^ height)) in
    forks (2 ^ depth + i) (omega arith) (omega arith) low
    ∙ rw (one, other, both)
    (sym (ap sum_of (part-split dir rows (i * (2 ^ height + 2 ^ height)) (2 ^ height) (2 ^ height))
    ∙ sum_of-append (part dir rows (i * (2 ^ height + 2 ^ height)) (2 ^ height)) (part dir rows (i * (2 ^ height + 2 ^ height) + 2 ^ height) (2 ^ height))))

-- the sum at a node is that of the areas that it stands for, if it and the forks below it are right
pub node-sum : (dir : Dir) (rows : List (List ℕ)) (sums : List Sum) (above levels height node : ℕ) → length rows ≡ 2 ^ levels
    → AreRowSums (λ j. Unit {0}) dir rows sums → AreForks (λ k. above < k) (length rows) sums → IsNode levels height node → above < node
    → get_or sums node Empty ≡ sum_of (part dir rows (first_row_of levels height node) (2 ^ height))
node-sum dir rows sums above levels height node many leaves forks is low =
    let depth = levels - height in
    let all : length rows ≡ 2 ^ (height + depth) = many ∙ ap (λ n. 2 ^ n) (omega arith) in
    let whole : 2 ^ depth + (node - 2 ^ depth) ≡ node = omega arith in
    ap (λ n. get_or sums n Empty) (sym whole) ∙ at-index dir rows sums above height depth (node - 2 ^ depth) all leaves forks (omega arith) (omega arith)

-- a level has so many nodes of so many rows
pub level : (levels height : ℕ) → height ≤ levels → 2 ^ (levels - height) * 2 ^ height ≡ 2 ^ levels
level levels height h = sym (pow-add 2 (levels - height) height) ∙ ap (λ n. 2 ^ n) (omega arith)

-- it stands for some of the rows
pub node-within : (levels height node : ℕ) → IsNode levels height node → first_row_of levels height node + 2 ^ height ≤ 2 ^ levels
node-within levels height node is =
    let high = is.high in
    let all = level levels height high in
    let i = node - 2 ^ (levels - height) in
    let less : (i + 1) * 2 ^ height ≤ 2 ^ (levels - height) * 2 ^ height = mul-le-mul_right (2 ^ height) (omega arith) in
    omega arith

-- the node of a row

pub row-node : (levels row : ℕ) → row < 2 ^ levels → IsNode levels 0 (2 ^ levels + row)
row-node levels row h = grind arith

-- the nodes below a node

down : (levels height : ℕ) → 0 < height → height ≤ levels → 2 ^ (levels - (height - 1)) ≡ 2 ^ (levels - height) + 2 ^ (levels - height)
down levels height some high = ap (λ n. 2 ^ n) (omega arith) ∙ two-pow-succ (levels - height)

halves : (height : ℕ) → 0 < height → 2 ^ height ≡ 2 ^ (height - 1) + 2 ^ (height - 1)
halves height some = ap (λ n. 2 ^ n) (omega arith) ∙ two-pow-succ (height - 1)

pub left-node : (levels height node : ℕ) → 0 < height → IsNode levels height node → IsNode levels (height - 1) (2 * node)
left-node levels height node some is = grind (arith, down)

pub right-node : (levels height node : ℕ) → 0 < height → IsNode levels height node → IsNode levels (height - 1) (2 * node + 1)
right-node levels height node some is = grind (arith, down)

left-first : (levels height node : ℕ) → 0 < height → IsNode levels height node → first_row_of levels (height - 1) (2 * node) ≡ first_row_of levels height node
left-first levels height node some is =
    let high = is.high in
    let more = down levels height some high in
    let i = node - 2 ^ (levels - height) in
    let twice : 2 * node - 2 ^ (levels - (height - 1)) ≡ 2 * i = omega arith in
    ap (λ n. n * 2 ^ (height - 1)) twice ∙ double i (2 ^ (height - 1)) ∙ ap (λ n. i * n) (sym (halves height some))

right-first : (levels height node : ℕ) → 0 < height → IsNode levels height node
    → first_row_of levels (height - 1) (2 * node + 1) ≡ first_row_of levels height node + 2 ^ (height - 1)
right-first levels height node some is =
    let high = is.high in
    let more = down levels height some high in
    let i = node - 2 ^ (levels - height) in
    let twice : 2 * node + 1 - 2 ^ (levels - (height - 1)) ≡ 2 * i + 1 = omega arith in
    ap (λ n. n * 2 ^ (height - 1)) twice ∙ double-next i (2 ^ (height - 1)) ∙ ap (λ n. i * n + 2 ^ (height - 1)) (sym (halves height some))

-- the areas of a node are those of the two below it
pub node-parts : (dir : Dir) (rows : List (List ℕ)) (levels height node : ℕ) → 0 < height → IsNode levels height node
    → part dir rows (first_row_of levels height node) (2 ^ height)
    ≡ part dir rows (first_row_of levels (height - 1) (2 * node)) (2 ^ (height - 1)) ++ part dir rows (first_row_of levels (height - 1) (2 * node + 1)) (2 ^ (height - 1))
node-parts dir rows levels height node some is =
    grind (arith, halves, part-split, left-first, right-first)

-- the node above a node, and the one beside it

up : (levels height : ℕ) → height < levels → 2 ^ (levels - height) ≡ 2 ^ (levels - (height + 1)) + 2 ^ (levels - (height + 1))
up levels height less = ap (λ n. 2 ^ n) (omega arith) ∙ two-pow-succ (levels - (height + 1))

pub up-node : (levels height node : ℕ) → height < levels → IsNode levels height node → IsNode levels (height + 1) (node / 2)
up-node levels height node less is = grind (arith, up)

pub next-node : (levels height node : ℕ) → height < levels → node % 2 ≡ 0 → IsNode levels height node → IsNode levels height (node + 1)
next-node levels height node less even is = omega arith

pub next-first : (levels height node : ℕ) → IsNode levels height node → first_row_of levels height (node + 1) ≡ first_row_of levels height node + 2 ^ height
next-first levels height node is =
    let i = node - 2 ^ (levels - height) in
    let next : node + 1 - 2 ^ (levels - height) ≡ i + 1 = omega arith in
    ap (λ n. n * 2 ^ height) next ∙ more-by i (2 ^ height)

-- the parent of a left node ends with the row with which the node's right neighbour ends

pub up-left : (levels height node : ℕ) → height < levels → node % 2 ≡ 0 → IsNode levels height node
    → first_row_of levels (height + 1) (node / 2) + 2 ^ (height + 1) ≡ first_row_of levels height node + 2 ^ height + 2 ^ height
up-left levels height node less even is =
    let from = is.from in
    let more = up levels height less in
    let i = node / 2 - 2 ^ (levels - (height + 1)) in
    let twice : node - 2 ^ (levels - height) ≡ 2 * i = omega arith in
    let both : 2 ^ (height + 1) ≡ 2 ^ height + 2 ^ height = ap (λ n. 2 ^ n) (omega arith) ∙ two-pow-succ height in
    let same : i * 2 ^ (height + 1) ≡ 2 * i * 2 ^ height = ap (λ n. i * n) both ∙ sym (double i (2 ^ height)) in
    let own : (node - 2 ^ (levels - height)) * 2 ^ height ≡ 2 * i * 2 ^ height = ap (λ n. n * 2 ^ height) twice in
    omega arith

pub up-right : (levels height node : ℕ) → height < levels → node % 2 ≡ 1 → IsNode levels height node
    → first_row_of levels (height + 1) (node / 2) + 2 ^ (height + 1) ≡ first_row_of levels height node + 2 ^ height
up-right levels height node less odd is =
    let from = is.from in
    let more = up levels height less in
    let i = node / 2 - 2 ^ (levels - (height + 1)) in
    let twice : node - 2 ^ (levels - height) ≡ 2 * i + 1 = omega arith in
    let both : 2 ^ (height + 1) ≡ 2 ^ height + 2 ^ height = ap (λ n. 2 ^ n) (omega arith) ∙ two-pow-succ height in
    let same : (2 * i + 1) * 2 ^ height ≡ i * 2 ^ (height + 1) + 2 ^ height = double-next i (2 ^ height) ∙ ap (λ n. i * n + 2 ^ height) (sym both) in
    let own : (node - 2 ^ (levels - height)) * 2 ^ height ≡ (2 * i + 1) * 2 ^ height = ap (λ n. n * 2 ^ height) twice in
    omega arith

-- the root

pub root-node : (levels : ℕ) → IsNode levels levels 1
root-node levels = grind arith

pub root-first : (levels : ℕ) → first_row_of levels levels 1 ≡ 0
root-first levels = grind arith

-- a node has a number, and below the last level one in the first half

pub node-some : (levels height node : ℕ) → IsNode levels height node → 0 < node
node-some levels height node is = omega arith

pub node-low_half : (levels height node : ℕ) → IsNode levels (height + 1) node → node < 2 ^ levels
node-low_half levels height node is =
    let most : 2 ^ (levels - (height + 1) + 1) ≤ 2 ^ levels = pow_mono (omega arith) in
    let twice : 2 ^ (levels - (height + 1) + 1) ≡ 2 ^ (levels - (height + 1)) + 2 ^ (levels - (height + 1)) = ap (λ n. 2 ^ n) (omega arith) ∙ two-pow-succ (levels - (height + 1)) in
    omega arith

pub node-inside : (levels height node : ℕ) → IsNode levels height node → node < 2 * 2 ^ levels
node-inside levels height node is = grind (arith, pow_mono)
