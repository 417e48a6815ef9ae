-- The steps that keep the shape of a branch.
use Rattle.std.specs.Prelude.{All}
use Rattle.std.proofs.Common.{◌≡◌, ℕ, ◌+◌, ◌^◌, ◌<◌, ◌≤◌, zero, suc, List, [], ◌∷◌, ◌++◌, length, refl, ap, arith, length-append}
use Rattle.std.proofs.Math.Pow.{pow_mono}
use Rattle.std.proofs.lemmas.List.Elements.{All-head, All-tail, All-cons, All-append}
use Rattle.hc_records.specs.TaskList.{Keyed}
use Rattle.hc_bitsum.specs.Sums.{sum_of, sums_joined, EndsBelow}
use Rattle.hc_bitsum.specs.Slots.{Slots, IsNarrow, IsShaped, set_at, with_bits}
use Rattle.hc_bitsum.proofs.Ends.{sum_of-append}
use Rattle.hc_bitsum.proofs.Room.{EndsBelow-sum_of}

pub few : (slots : Slots) → IsShaped slots → length slots.areas ≤ 32768
few slots h = let n = h.many in let m : 2 ^ slots.height ≤ 2 ^ 15 = pow_mono h.low in omega arith

pub sum-low : (slots : Slots) → IsShaped slots → EndsBelow (2 ^ 31) (sum_of slots.areas)
sum-low slots h = let n = few slots h in EndsBelow-sum_of (2 ^ 31) slots.areas h.narrow (omega arith)

pub length-set_at : (at bits : ℕ) (areas : List Keyed) → length (set_at at bits areas) ≡ length areas
length-set_at at bits [] = refl
length-set_at zero bits (area ∷ areas) = refl
length-set_at (suc at) bits (area ∷ areas) = ap suc (length-set_at at bits areas)

set_at-narrow : (at bits : ℕ) (areas : List Keyed) → bits ≤ 11888 → All IsNarrow areas → All IsNarrow (set_at at bits areas)
set_at-narrow at bits [] h all = all
set_at-narrow zero bits (area ∷ areas) h all = All-cons IsNarrow (area.0, bits) areas h (All-tail IsNarrow area areas all)
set_at-narrow (suc at) bits (area ∷ areas) h all =
    All-cons IsNarrow area (set_at at bits areas) (All-head IsNarrow area areas all) (set_at-narrow at bits areas h (All-tail IsNarrow area areas all))

pub with_bits-shaped : (slots : Slots) (at bits : ℕ) → IsShaped slots → bits ≤ 11888 → IsShaped (with_bits slots at bits)
with_bits-shaped slots at bits p h = grind (arith, length-set_at, set_at-narrow)

pub set_at-front : (xs ys : List Keyed) (at bits : ℕ) → at < length xs → set_at at bits (xs ++ ys) ≡ set_at at bits xs ++ ys
set_at-front [] ys at bits h = absurd (omega arith)
set_at-front (x ∷ xs) ys zero bits h = refl
set_at-front (x ∷ xs) ys (suc at) bits h = ap (λ zs. x ∷ zs) (set_at-front xs ys at bits (omega arith))

pub set_at-back : (xs ys : List Keyed) (at bits : ℕ) → set_at (length xs + at) bits (xs ++ ys) ≡ xs ++ set_at at bits ys
set_at-back [] ys at bits = ap (λ n. set_at n bits ys) (omega arith)
set_at-back (x ∷ xs) ys at bits = grind (arith, set_at-back xs ys at bits)

-- two parts in a row end low, whatever their heights
pub both-low : (left right : Slots) → IsShaped left → IsShaped right → EndsBelow (2 ^ 31) (sums_joined (sum_of left.areas) (sum_of right.areas))
both-low left right p q =
    let l = few left p in
    let r = few right q in
    let many = length-append left.areas right.areas in
    rw (← sum_of-append left.areas right.areas)
    (EndsBelow-sum_of (2 ^ 31) (left.areas ++ right.areas) (All-append IsNarrow left.areas right.areas p.narrow q.narrow) (omega arith))
