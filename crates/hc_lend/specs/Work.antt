-- A list in parts, and the result of work on each.
use Rattle.std.specs.Prelude.{ℕ, List, [], ◌∷◌, take, drop, map, All, ◌≡◌, ◌+◌, ◌^◌, ◌<◌, length, sum}
use Rattle.std.specs.List.{enumerate_from, range_with_len}

-- the parts of these lengths, one after another
abbrev pub parts_of : List ℕ → List ℕ → List (List ℕ)
parts_of [] bytes = []
parts_of (n ∷ ns) bytes = take n bytes ∷ parts_of ns (drop n bytes)

-- each part with its number, from this one on
abbrev pub numbered_parts : ℕ → List ℕ → List ℕ → List (ℕ × List ℕ)
numbered_parts first lengths bytes = enumerate_from first (parts_of lengths bytes)

-- the result of each part, by its number and its bytes
abbrev pub worked_parts : (ℕ → List ℕ → List ℕ) → ℕ → List ℕ → List ℕ → List (List ℕ)
worked_parts leaves first lengths bytes = map (λ part. leaves part.0 part.1) (numbered_parts first lengths bytes)

-- the part with this number and these bytes may be worked on once its worker has passed the gate; work before that is not
-- allowed
abbrev pub CanWorkOnceBegun : (ℕ → Type 0) → (ℕ → List ℕ → Type 0) → ℕ → List ℕ → Type 0
CanWorkOnceBegun passed can part bytes = passed part → can part bytes

-- each part may be worked on, by its number and its bytes
abbrev pub CanWorkOnEach : (ℕ → List ℕ → Type 0) → ℕ → List ℕ → List ℕ → Type 0
CanWorkOnEach can first lengths bytes = All (λ part. can part.0 part.1) (numbered_parts first lengths bytes)

-- these are the lengths of parts that make up some bytes; the parts have numbers from this one on, each a machine number, and each may be worked on
abbrev pub CanWorkOnAll : (ℕ → List ℕ → Type 0) → ℕ → List ℕ → List ℕ → Type 0
CanWorkOnAll can first lengths bytes = (sum lengths ≡ length bytes) × (first + length lengths < 2 ^ 64) × CanWorkOnEach can first lengths bytes

-- `count` workers, from this number on, have passed a gate
abbrev pub HavePassed : (ℕ → Type 0) → ℕ → ℕ → Type 0
HavePassed passed first count = All passed (range_with_len first count)

-- each part is left as its worker leaves it, and each worker has passed a gate
abbrev pub AreWorked : (ℕ → List ℕ → List ℕ) → (ℕ → Type 0) → ℕ → List ℕ → List ℕ → List ℕ → Type 0
AreWorked leaves passed first lengths old new =
    (parts_of lengths new ≡ worked_parts leaves first lengths old) × HavePassed passed first (length lengths)
