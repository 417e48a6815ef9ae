-- Bits in words of 64, the lowest bit of a word first, and their count.
use Rattle.std.specs.Prelude.{◌≡◌, ℕ, zero, suc, ◌+◌, ◌<◌, ◌≤◌, ◌/◌, ◌%◌, ◌==◌, ◌≢◌, Bool, true, false, if◌then◌else◌, List, [], ◌∷◌, length, slice_index, Option, Some, None}
use Rattle.std.specs.Int.{bit_at}

-- flags, and the number of flags that there is room for
pub record Flags : Type 0 where
  pub list : List Bool
  pub room : ℕ

-- the count of a flag: 1 if it is set, otherwise 0
abbrev pub one : Bool → ℕ
one flag = if flag then 1 else 0

-- the number of flags that are set
abbrev pub set_count : List Bool → ℕ
set_count [] = 0
set_count (flag ∷ flags) = one flag + set_count flags

-- among flags that are numbered from `at` on, the number of the set one with an index, from 0; none if fewer are set
abbrev pub nth_set : ℕ → ℕ → List Bool → Option ℕ
nth_set index at [] = None
nth_set index at (false ∷ flags) = nth_set index (at + 1) flags
nth_set zero at (true ∷ flags) = Some at
nth_set (suc index) at (true ∷ flags) = nth_set index (at + 1) flags

-- the bit with a number
abbrev pub flag : List ℕ → ℕ → Bool
flag words n = bit_at (slice_index words (n / 64)) (n % 64) == 1

-- so many bits, from a number on
abbrev pub flags_from : List ℕ → ℕ → ℕ → List Bool
flags_from words zero first = []
flags_from words (suc count) first = flag words first ∷ flags_from words count (first + 1)

-- the bit with a number was set or cleared
pub record SetsFlag (old new : List ℕ) (n : ℕ) (set : Bool) : Type 0 where
  pub words : length new ≡ length old
  pub here : flag new n ≡ set
  pub others : (i : ℕ) → i ≢ n → flag new i ≡ flag old i

-- the lowest bit that is set in a word
pub record IsLowestIn (word place : ℕ) : Type 0 where
  pub inside : place < 64
  pub set : bit_at word place ≡ 1
  pub below : (i : ℕ) → i < place → bit_at word i ≡ 0

-- no bit is set in a word from a place on
abbrev pub IsClearFrom : ℕ → ℕ → Type 0
IsClearFrom word first = (i : ℕ) → first ≤ i → bit_at word i ≡ 0

-- the lowest bit that is set in a word, of those from a place on
pub record IsLowestFrom (word first place : ℕ) : Type 0 where
  pub from : first ≤ place
  pub inside : place < 64
  pub set : bit_at word place ≡ 1
  pub below : (i : ℕ) → first ≤ i → i < place → bit_at word i ≡ 0
