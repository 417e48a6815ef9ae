-- The areas with a width between two keys, one row or place after another.
use Rattle.std.specs.Prelude.{filter}
use Rattle.std.proofs.Common.{◌≡◌, ℕ, ◌+◌, ◌-◌, ◌*◌, ◌<◌, ◌≤◌, List, [], ◌∷◌, ◌++◌, length, refl, sym, ap, ◌∙◌, arith, append_assoc, append-nil}
use Rattle.std.proofs.lemmas.List.Elements.{filter-append}
use Rattle.hc_records.specs.declared.keys.Key.{Key}
use Rattle.hc_records.specs.TaskList.{Keyed}
use Rattle.hc_bitsum.specs.declared.branch.Branch.{Branch}
use Rattle.hc_bitsum.specs.declared.sum.Sum.TheVariants.{Empty}
use Rattle.hc_bitsum.specs.Branch.{IsBranch, branch_slots}
use Rattle.hc_bitsum.specs.Filling.{areas_between}
use Rattle.hc_bitsum.specs.Rows.{part}
use Rattle.hc_bitsum.specs.Slots.{bits_at, key_at, stretch}
use Rattle.hc_bitsum.specs.Sums.{sum_of}
use Rattle.hc_bitsum.specs.Tree.{has_width}
use Rattle.hc_bitsum.proofs.Stretches.{between-append, between-wide, branch-keys, part-stretch, stretch-one, stretch-split}

-- no area of an empty sum has a width

pub sum-none : (areas : List Keyed) → sum_of areas ≡ Empty → filter has_width areas ≡ []
sum-none [] is = refl
sum-none (area ∷ areas) is = grind (arith, sum-none areas)

-- the areas with a width up to a place, and then one more, or a row without any

pub wide-one : (branch : Branch) (first at : ℕ) (old now next : List Keyed) → IsBranch branch → first ≤ at → at < length (branch_slots branch).areas
    → now ≡ old ++ filter has_width (stretch first at (branch_slots branch).areas)
    → next ≡ now ++ filter has_width ((key_at branch.dir at, bits_at at (branch_slots branch).areas) ∷ [])
    → next ≡ old ++ filter has_width (stretch first (at + 1) (branch_slots branch).areas)
wide-one branch first at old now next is low within so_far added =
    let areas = (branch_slots branch).areas in
    let one : List Keyed = (key_at branch.dir at, bits_at at areas) ∷ [] in
    let so_far' : List Keyed = filter has_width (stretch first at areas) in
    let more : filter has_width (stretch first (at + 1) areas) ≡ so_far' ++ filter has_width one =
    ap (filter has_width) (stretch-one branch.dir first at areas (branch-keys branch is) low within) ∙ filter-append has_width (stretch first at areas) one in
    added ∙ ap (λ (xs : List Keyed). xs ++ filter has_width one) so_far ∙ append_assoc old so_far' (filter has_width one) ∙ ap (λ (xs : List Keyed). old ++ xs) (sym more)

pub wide-row : (branch : Branch) (first at index : ℕ) (old now : List Keyed) → IsBranch branch → first ≤ at → at ≡ 8 * index → index < length branch.rows.items
    → now ≡ old ++ filter has_width (stretch first at (branch_slots branch).areas)
    → filter has_width (part branch.dir branch.rows.items index 1) ≡ []
    → now ≡ old ++ filter has_width (stretch first (at + 8) (branch_slots branch).areas)
wide-row branch first at index old now is low at-row within so_far blank =
    let areas = (branch_slots branch).areas in
    let dir = branch.dir in
    let rows = branch.rows.items in
    let one : index + 1 - index ≡ 1 = omega arith in
    let here : 8 * index ≡ at = sym at-row in
    let next : 8 * (index + 1) ≡ at + 8 = omega arith in
    let own : stretch at (at + 8) areas ≡ part dir rows index 1 =
    ap (λ n. stretch n (at + 8) areas) (sym here) ∙ ap (λ n. stretch (8 * index) n areas) (sym next)
    ∙ sym (part-stretch branch index (index + 1) is (omega arith) (omega arith)) ∙ ap (part dir rows index) one in
    so_far
    ∙ ap (λ xs. old ++ xs)
    (sym (ap (filter has_width) (stretch-split first at (at + 8) areas low (omega arith)) ∙ filter-append has_width (stretch first at areas) (stretch at (at + 8) areas)
    ∙ ap (λ xs. filter has_width (stretch first at areas) ++ filter has_width xs) own ∙ ap (λ xs. filter has_width (stretch first at areas) ++ xs) blank
    ∙ append-nil (filter has_width (stretch first at areas))))

-- of an empty part there are none between any keys
pub none-between : (from until : Key) (areas : List Keyed) → filter has_width areas ≡ [] → filter has_width (areas_between from until areas) ≡ []
none-between from until areas none = sym (between-wide from until areas) ∙ ap (areas_between from until) none

-- in both directions
pub both-between : (from until : Key) (outputs inputs : List Keyed)
    → filter has_width (areas_between from until outputs) ++ filter has_width (areas_between from until inputs) ≡ areas_between from until (filter has_width (outputs ++ inputs))
both-between from until outputs inputs = grind (arith, between-wide, between-append, filter-append)
