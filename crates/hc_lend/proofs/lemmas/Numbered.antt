-- The parts of a list, numbered.
use Rattle.std.proofs.Common.{◌≡◌, ℕ, zero, suc, ◌<◌, slice_index, slice_index_or, ◌+◌, List, [], ◌∷◌, length, sum, drop, refl, ap, arith, length-drop}
use Rattle.std.proofs.lemmas.List.{length-take-le}
use Rattle.std.proofs.lemmas.List.Sums.{sum_by-cons}
use Rattle.hc_lend.specs.Work.{numbered_parts}

-- there are as many parts as lengths
pub length-numbered_parts : (first : ℕ) (lengths bytes : List ℕ) → length (numbered_parts first lengths bytes) ≡ length lengths
length-numbered_parts first [] bytes = refl
length-numbered_parts first (n ∷ ns) bytes = ap (λ (k : ℕ). suc k) (length-numbered_parts (first + 1) ns (drop n bytes))

-- the parts are numbered in order
pub number-numbered_parts : (first : ℕ) (lengths bytes : List ℕ) (k : ℕ) (d : ℕ × List ℕ) → k < length lengths → (slice_index_or (numbered_parts first lengths bytes) k d).0 ≡ first + k
number-numbered_parts first [] bytes k d below = absurd (omega arith)
number-numbered_parts first (n ∷ ns) bytes zero d below = omega arith
number-numbered_parts first (n ∷ ns) bytes (suc k) d below =
    let below' : k < length ns = omega arith in
    omega (arith, number-numbered_parts (first + 1) ns (drop n bytes) k d below')

-- each part is as long as its length says
pub length-numbered_part : (first : ℕ) (lengths bytes : List ℕ) (k : ℕ) (d : ℕ × List ℕ) → sum lengths ≡ length bytes → k < length lengths
    → length (slice_index_or (numbered_parts first lengths bytes) k d).1 ≡ slice_index lengths k
length-numbered_part first [] bytes k d all below = absurd (omega arith)
length-numbered_part first (n ∷ ns) bytes zero d all below = length-take-le n bytes (omega (arith, all, sum_by-cons (λ (j : ℕ). j) n ns))
length-numbered_part first (n ∷ ns) bytes (suc k) d all below =
    let rest : sum ns ≡ length (drop n bytes) = omega (arith, all, sum_by-cons (λ (j : ℕ). j) n ns, length-drop n bytes) in
    length-numbered_part (first + 1) ns (drop n bytes) k d rest (omega arith)
