-- Flags in words.
use Rattle.std.proofs.Common.{◌≡◌, ℕ, zero, suc, inl, inr, ◌+◌, ◌-◌, ◌*◌, ◌^◌, ◌<◌, ◌≤◌, ◌==◌, Bool, true, false, cond, List, [], ◌∷◌, ◌++◌, length, take, drop, ◌⊎◌, refl, sym, ap, ◌∙◌, arith, rules}
use Rattle.std.proofs.lemmas.Bool.{cases_lt}
use Rattle.std.proofs.lemmas.List.{append-nil, drop_all, get_or_append_left, take-append-le}
use Rattle.std.proofs.lemmas.Iterator.Adapters.{position_from-zero}
use Rattle.std.proofs.lemmas.Nat.{pow-add}
use Rattle.std.proofs.lemmas.Nat.Bits.{bit_at-zero, bit_at_above}
use Rattle.std.proofs.Math.Nat.{div-div-eq-div-mul, pow-suc}
use Rattle.std.proofs.Math.Seq.{take-length}
use Rattle.std.specs.Int.{bit_at}
use Rattle.std.specs.Int.Count.{ones_step}
use Rattle.std.specs.Int.RustNames.{count_ones}
use Rattle.std.specs.Prelude.{slice_get, slice_index, ◌/◌, ◌%◌, position, Some, None, Option}
use Rattle.std.specs.List.{position_from}
use Rattle.hc_records.specs.Lists.{changed_at}
use Rattle.hc_owed.specs.Flags.{Flags, IsClearFrom, IsLowestFrom, IsLowestIn, SetsFlag, flag, flags_from, nth_set, one, set_count}

abbrev pub flags_of : List Bool → ℕ → Flags
flags_of list room = record { list = list; room = room }

pub length-flags : (words : List ℕ) (first count : ℕ) → length (flags_from words count first) ≡ count
length-flags words first zero = refl
length-flags words first (suc count) = ap suc (length-flags words (first + 1) count)

-- a bit before these, or after them, changes none of them
flags-same : (old new : List ℕ) (first count : ℕ) → ((i : ℕ) → first ≤ i → i < first + count → flag new i ≡ flag old i) → flags_from new count first ≡ flags_from old count first
flags-same old new first zero same = refl
flags-same old new first (suc count) same = search (rules, flags-same old new (first + 1) count (λ i low high. same i (omega arith) (omega arith)))

flags-last : (words : List ℕ) (first count : ℕ) → flags_from words (suc count) first ≡ flags_from words count first ++ flag words (first + count) ∷ []
flags-last words first zero = ap (λ (n : ℕ). flag words n ∷ []) (omega arith)
flags-last words first (suc count) = search (rules, flags-last words (first + 1) count)

-- words that were written over all of them
pub whole : (n : ℕ) (new old : List ℕ) → length new ≡ n → take n (new ++ drop (length new) old) ≡ new
whole n new old long = take-append-le n new (drop (length new) old) (omega (arith, long)) ∙ ap (λ (k : ℕ). take k new) (sym long) ∙ take-length new

pub flags-pushed : (old new : List ℕ) (count : ℕ) (set : Bool) → SetsFlag old new count set → flags_from new (count + 1) 0 ≡ flags_from old count 0 ++ set ∷ []
flags-pushed old new count set sets =
    let next : count + 1 ≡ suc count = omega arith in
    let at : 0 + count ≡ count = omega arith in
    ap (λ (n : ℕ). flags_from new n 0) next ∙ flags-last new 0 count
    ∙ ap (λ (n : ℕ). flags_from new count 0 ++ flag new n ∷ []) at
    ∙ ap (λ (b : Bool). flags_from new count 0 ++ b ∷ []) sets.here
    ∙ ap (λ (bs : List Bool). bs ++ set ∷ []) (flags-same old new 0 count (λ i low high. sets.others i (omega arith)))

flags-set-from : (old new : List ℕ) (first count n : ℕ) (set : Bool) → SetsFlag old new (first + n) set → n < count
    → flags_from new count first ≡ changed_at n (λ b. set) (flags_from old count first)
flags-set-from old new first zero n set sets low = absurd (omega arith)
flags-set-from old new first (suc count) zero set sets low =
    let here : flag new first ≡ set = ap (flag new) (omega arith) ∙ sets.here in
    ap (λ (b : Bool). b ∷ flags_from new count (first + 1)) here
    ∙ ap (λ (bs : List Bool). set ∷ bs) (flags-same old new (first + 1) count (λ i low high. sets.others i (omega arith)))
flags-set-from old new first (suc count) (suc n) set sets low =
    let moved : SetsFlag old new (first + 1 + n) set = record { words = sets.words; here = ap (flag new) (omega arith) ∙ sets.here; others = λ i other. sets.others i (omega arith) } in
    search (rules, flags-set-from old new (first + 1) count n set moved (omega arith))

pub flags-set : (old new : List ℕ) (count n : ℕ) (set : Bool) → SetsFlag old new n set → n < count → flags_from new count 0 ≡ changed_at n (λ b. set) (flags_from old count 0)
flags-set old new count n set sets low = search (rules, flags-set-from)

flags-get-from : (words : List ℕ) (first count n : ℕ) → n < count → slice_get (flags_from words count first) n ≡ Some (flag words (first + n))
flags-get-from words first zero n low = absurd (omega arith)
flags-get-from words first (suc count) zero low = ap (λ (i : ℕ). Some (flag words i)) (omega arith)
flags-get-from words first (suc count) (suc n) low = flags-get-from words (first + 1) count n (omega arith) ∙ ap (λ (i : ℕ). Some (flag words i)) (omega arith)

pub flags-get : (words : List ℕ) (count n : ℕ) → n < count → slice_get (flags_from words count 0) n ≡ Some (flag words n)
flags-get words count n low = flags-get-from words 0 count n low ∙ ap (λ (i : ℕ). Some (flag words i)) (omega arith)

-- words after those that hold the flags change none of them

longer-flag : (words more : List ℕ) (n : ℕ) → n < 64 * length words → flag (words ++ more) n ≡ flag words n
longer-flag words more n low = ap (λ (word : ℕ). bit_at word (n % 64) == 1) (get_or_append_left words more 0 (n / 64) (omega arith))

pub flags-longer : (words more : List ℕ) (count : ℕ) → count ≤ 64 * length words → flags_from (words ++ more) count 0 ≡ flags_from words count 0
flags-longer words more count low = flags-same words (words ++ more) 0 count (λ i first below. longer-flag words more i (omega (arith, below, low)))

-- the first flag that is set, by its number
abbrev from_list : ℕ → List Bool → Option ℕ
from_list at flags = position_from (λ (b : Bool). b) at flags

none-here : (b : Bool) (at : ℕ) (rest : Option ℕ) → b ≡ false → cond b (Some at) rest ≡ rest
none-here b at rest e = search rules

some-here : (b : Bool) (at : ℕ) (rest : Option ℕ) → b ≡ true → cond b (Some at) rest ≡ Some at
some-here b at rest e = search rules

position-none : (words : List ℕ) (first count at : ℕ) → ((i : ℕ) → first ≤ i → i < first + count → flag words i ≡ false) → from_list at (flags_from words count first) ≡ None
position-none words first zero at none = refl
position-none words first (suc count) at none =
    search (rules, none-here, position-none words (first + 1) count (at + 1) (λ i low high. none i (omega arith) (omega arith)))

position-first : (words : List ℕ) (first count n at : ℕ) → n < count → flag words (first + n) ≡ true → ((i : ℕ) → first ≤ i → i < first + n → flag words i ≡ false)
    → from_list at (flags_from words count first) ≡ Some (at + n)
position-first words first zero n at low here none = absurd (omega arith)
position-first words first (suc count) zero at low here none = search (rules, some-here)
position-first words first (suc count) (suc n) at low here none =
    search (rules, none-here, position-first words (first + 1) count n (at + 1) (omega arith) (ap (flag words) (omega arith) ∙ here) (λ i low high. none i (omega arith) (omega arith)))

-- the lowest bit that is set in the first word that isn't 0
pub record IsLowest (words : List ℕ) (at place : ℕ) : Type 0 where
  pub before : (k : ℕ) → k < at → slice_index words k ≡ 0
  pub inside : place < 64
  pub set : bit_at (slice_index words at) place ≡ 1
  pub below : (i : ℕ) → i < place → bit_at (slice_index words at) i ≡ 0

pub lowest-in : (words : List ℕ) (at place word : ℕ) → ((k : ℕ) → k < at → slice_index words k ≡ 0) → word ≡ slice_index words at → IsLowestIn word place → IsLowest words at place
lowest-in words at place word before is lowest = search rules

pub one-more : (words : List ℕ) (at : ℕ) → ((k : ℕ) → k < at → slice_index words k ≡ 0) → slice_index words at ≡ 0 → (k : ℕ) → k < at + 1 → slice_index words k ≡ 0
one-more words at before here k low = search (rules, cases_lt)

clear-word : (words : List ℕ) (i : ℕ) → slice_index words (i / 64) ≡ 0 → flag words i ≡ false
clear-word words i none = ap (λ (w : ℕ). bit_at w (i % 64) == 1) none ∙ ap (λ (b : ℕ). b == 1) (bit_at-zero (i % 64))

clear-place : (words : List ℕ) (i at : ℕ) → i / 64 ≡ at → bit_at (slice_index words at) (i % 64) ≡ 0 → flag words i ≡ false
clear-place words i at same none = ap (λ (k : ℕ). bit_at (slice_index words k) (i % 64) == 1) same ∙ ap (λ (b : ℕ). b == 1) none

below-lowest : (words : List ℕ) (at place i : ℕ) → IsLowest words at place → i < 64 * at + place → flag words i ≡ false
below-lowest words at place i lowest low = search (rules, clear-word, clear-place)

lowest-set : (words : List ℕ) (at place : ℕ) → IsLowest words at place → flag words (64 * at + place) ≡ true
lowest-set words at place lowest = search rules

pub first-inside : (words : List ℕ) (at place count : ℕ) → IsLowest words at place → 64 * at + place < count → position (λ (b : Bool). b) (flags_from words count 0) ≡ Some (64 * at + place)
first-inside words at place count lowest low =
    position_from-zero (λ (b : Bool). b) (flags_from words count 0)
    ∙ position-first words 0 count (64 * at + place) 0 low (ap (flag words) (omega arith) ∙ lowest-set words at place lowest) (λ i above below. below-lowest words at place i lowest (omega (arith, below)))
    ∙ ap Some (omega arith)

pub first-outside : (words : List ℕ) (at place count : ℕ) → IsLowest words at place → count ≤ 64 * at + place → position (λ (b : Bool). b) (flags_from words count 0) ≡ None
first-outside words at place count lowest high =
    position_from-zero (λ (b : Bool). b) (flags_from words count 0)
    ∙ position-none words 0 count 0 (λ i above below. below-lowest words at place i lowest (omega (arith, high, below)))

pub first-none : (words : List ℕ) (count : ℕ) → ((k : ℕ) → k < length words → slice_index words k ≡ 0) → count ≤ 64 * length words → position (λ (b : Bool). b) (flags_from words count 0) ≡ None
first-none words count none fits =
    position_from-zero (λ (b : Bool). b) (flags_from words count 0)
    ∙ position-none words 0 count 0 (λ i above below. clear-word words i (none (i / 64) (omega (arith, fits, below))))

-- what flags say of their fields
pub record AreFlags (words : List ℕ) (len capacity : ℕ) (flags : Flags) : Type 0 where
  pub list : flags.list ≡ flags_from words len 0
  pub length : length flags.list ≡ len
  pub room : flags.room ≡ 64 * capacity

pub are-flags : (words : List ℕ) (len capacity : ℕ) (flags : Flags) → flags_of (flags_from words len 0) (64 * capacity) ≡ flags → AreFlags words len capacity flags
are-flags words len capacity flags same = search (rules, length-flags)

-- the number of flags that are set

pub count-pushed : (flags : List Bool) (flag : Bool) → set_count (flags ++ flag ∷ []) ≡ set_count flags + one flag
count-pushed [] flag = omega arith
count-pushed (f ∷ flags) flag = let rest = count-pushed flags flag in omega (arith, rest)

-- one of them is set, and what it was is taken off
pub count-set : (flags : List Bool) (n : ℕ) (was flag : Bool) → slice_get flags n ≡ Some was → set_count (changed_at n (λ b. flag) flags) + one was ≡ set_count flags + one flag
count-set [] n was flag is = cc
count-set (f ∷ flags) zero was flag is = search rules
count-set (f ∷ flags) (suc n) was flag is = let rest = count-set flags n was flag is in omega (arith, rest)

pub one-le : (flag : Bool) → one flag ≤ 1
one-le flag = search rules

pub count-le : (flags : List Bool) → set_count flags ≤ length flags
count-le [] = omega arith
count-le (f ∷ flags) = search (rules, one-le, count-le flags)

-- the set flag with an index, once the first flags are passed

add_one : (n : ℕ) → n + 1 ≡ suc n
add_one n = omega arith

drop_at : (flags : List Bool) (n : ℕ) (flag : Bool) → slice_get flags n ≡ Some flag → drop n flags ≡ flag ∷ drop (suc n) flags
drop_at [] n flag is = cc
drop_at (f ∷ flags) zero flag is = cc
drop_at (f ∷ flags) (suc n) flag is = drop_at flags n flag is

pub nth-here : (flags : List Bool) (n : ℕ) → slice_get flags n ≡ Some true → nth_set 0 n (drop n flags) ≡ Some n
nth-here flags n is = ap (nth_set 0 n) (drop_at flags n true is)

pub nth-passed : (flags : List Bool) (n left less : ℕ) → slice_get flags n ≡ Some true → left ≡ suc less → nth_set left n (drop n flags) ≡ nth_set less (n + 1) (drop (n + 1) flags)
nth-passed flags n left less is one =
    ap (λ (m : ℕ). nth_set m n (drop n flags)) one ∙ ap (nth_set (suc less) n) (drop_at flags n true is)
    ∙ ap (λ (m : ℕ). nth_set less (n + 1) (drop m flags)) (sym (add_one n))

pub nth-cleared : (flags : List Bool) (n left : ℕ) → slice_get flags n ≡ Some false → nth_set left n (drop n flags) ≡ nth_set left (n + 1) (drop (n + 1) flags)
nth-cleared flags n zero is = ap (nth_set zero n) (drop_at flags n false is) ∙ ap (λ (m : ℕ). nth_set zero (n + 1) (drop m flags)) (sym (add_one n))
nth-cleared flags n (suc left) is = ap (nth_set (suc left) n) (drop_at flags n false is) ∙ ap (λ (m : ℕ). nth_set (suc left) (n + 1) (drop m flags)) (sym (add_one n))

pub nth-over : (flags : List Bool) (n left : ℕ) → length flags ≤ n → nth_set left n (drop n flags) ≡ None
nth-over flags n zero over = ap (nth_set zero n) (drop_all n flags over)
nth-over flags n (suc left) over = ap (nth_set (suc left) n) (drop_all n flags over)

-- the first set flag from a place on

flags-dropped : (words : List ℕ) (first count n : ℕ) → drop n (flags_from words count first) ≡ flags_from words (count - n) (first + n)
flags-dropped words first count zero = let same : first + 0 ≡ first = omega arith in let all : count - 0 ≡ count = omega arith in ap (λ (k : ℕ). flags_from words count k) (sym same) ∙ ap (λ (k : ℕ). flags_from words k (first + 0)) (sym all)
flags-dropped words first zero (suc n) = let none : 0 - suc n ≡ 0 = omega arith in ap (λ (k : ℕ). flags_from words k (first + suc n)) (sym none)
flags-dropped words first (suc count) (suc n) =
    let left : count - n ≡ suc count - suc n = omega arith in
    let at : first + 1 + n ≡ first + suc n = omega arith in
    flags-dropped words (first + 1) count n ∙ ap (λ (k : ℕ). flags_from words k (first + 1 + n)) left ∙ ap (λ (k : ℕ). flags_from words (suc count - suc n) k) at

-- no flag is set from a number on, below another
abbrev pub ClearBetween : List ℕ → ℕ → ℕ → Type 0
ClearBetween words from to = (k : ℕ) → from ≤ k → k < to → flag words k ≡ false

pub next-none : (words : List ℕ) (from to count : ℕ) → ClearBetween words from to → count ≤ to → from_list from (drop from (flags_from words count 0)) ≡ None
next-none words from to count clear over =
    let at : 0 + from ≡ from = omega arith in
    ap (from_list from) (flags-dropped words 0 count from ∙ ap (λ (k : ℕ). flags_from words (count - from) k) at)
    ∙ position-none words from (count - from) from (λ i low high. clear i low (omega (arith, low, high, over)))

pub next-some : (words : List ℕ) (from count n : ℕ) → from ≤ n → n < count → flag words n ≡ true → ClearBetween words from n → from_list from (drop from (flags_from words count 0)) ≡ Some n
next-some words from count n low high set clear =
    let at : 0 + from ≡ from = omega arith in
    let there : from + (n - from) ≡ n = omega (arith, low) in
    ap (from_list from) (flags-dropped words 0 count from ∙ ap (λ (k : ℕ). flags_from words (count - from) k) at)
    ∙ position-first words from (count - from) (n - from) from (omega (arith, low, high)) (ap (flag words) there ∙ set) (λ i above below. clear i above (omega (arith, below, low)))
    ∙ ap Some there

-- a word from its first place that counts on

pub clear-word_from : (words : List ℕ) (from at first word : ℕ) → word ≡ slice_index words at → first ≡ from - 64 * at → IsClearFrom word first → ClearBetween words from (64 * at) → ClearBetween words from (64 * (at + 1))
clear-word_from words from at first word is start clear before k low high = by (cases_lt k (64 * at))
  where
    by : (k < 64 * at) ⊎ (64 * at ≤ k) → flag words k ≡ false
    by (inl below) = before k low below
    by (inr above) =
        let same : k / 64 ≡ at = omega (arith, above, high) in
        clear-place words k at same (ap (λ (w : ℕ). bit_at w (k % 64)) (sym is) ∙ clear (k % 64) (omega (arith, low, above, high, start)))

pub clear-below_from : (words : List ℕ) (from at first word place : ℕ) → word ≡ slice_index words at → first ≡ from - 64 * at → IsLowestFrom word first place → ClearBetween words from (64 * at) → ClearBetween words from (64 * at + place)
clear-below_from words from at first word place is start lowest before k low high = by (cases_lt k (64 * at))
  where
    by : (k < 64 * at) ⊎ (64 * at ≤ k) → flag words k ≡ false
    by (inl below) = before k low below
    by (inr above) =
        let inside = lowest.inside in
        let same : k / 64 ≡ at = omega (arith, above, high, inside) in
        clear-place words k at same (ap (λ (w : ℕ). bit_at w (k % 64)) (sym is) ∙ lowest.below (k % 64) (omega (arith, low, above, high, start, inside)) (omega (arith, above, high, inside)))

pub set-place_from : (words : List ℕ) (at first word place : ℕ) → word ≡ slice_index words at → IsLowestFrom word first place → flag words (64 * at + place) ≡ true
set-place_from words at first word place is lowest =
    let inside = lowest.inside in
    let word-at : (64 * at + place) / 64 ≡ at = omega (arith, inside) in
    let bit : (64 * at + place) % 64 ≡ place = omega (arith, inside) in
    ap (λ (k : ℕ). bit_at (slice_index words k) ((64 * at + place) % 64) == 1) word-at
    ∙ ap (λ (k : ℕ). bit_at (slice_index words at) k == 1) bit
    ∙ ap (λ (w : ℕ). bit_at w place == 1) (sym is)
    ∙ ap (λ (b : ℕ). b == 1) lowest.set

-- the lowest bit of a word that was shifted down

pub bit_at-shifted : (word k i : ℕ) → bit_at (word / 2 ^ k) i ≡ bit_at word (k + i)
bit_at-shifted word k i = ap (λ (n : ℕ). n % 2) (div-div-eq-div-mul word (2 ^ k) (2 ^ i)) ∙ ap (λ (n : ℕ). word / n % 2) (sym (pow-add 2 k i))

bit_at-back : (word k i : ℕ) → k ≤ i → bit_at word i ≡ bit_at (word / 2 ^ k) (i - k)
bit_at-back word k i low =
    let there : k + (i - k) ≡ i = omega (arith, low) in
    ap (bit_at word) (sym there) ∙ sym (bit_at-shifted word k (i - k))

pub clear-shifted : (word first shifted : ℕ) → shifted ≡ word / 2 ^ first → shifted ≡ 0 → IsClearFrom word first
clear-shifted word first shifted is none i low =
    bit_at-back word first i low ∙ ap (λ (w : ℕ). bit_at w (i - first)) (sym is ∙ none) ∙ bit_at-zero (i - first)

pub lowest-shifted : (word first shifted place : ℕ) → shifted ≡ word / 2 ^ first → word < 2 ^ 64 → IsLowestIn shifted place → IsLowestFrom word first (first + place)
lowest-shifted word first shifted place is fits lowest =
    let set : bit_at word (first + place) ≡ 1 = sym (bit_at-shifted word first place) ∙ ap (λ (w : ℕ). bit_at w place) (sym is) ∙ lowest.set in
    record {
      from = omega arith;
      inside = inside (cases_lt (first + place) 64) set;
      set = set;
      below = λ i low high. bit_at-back word first i low ∙ ap (λ (w : ℕ). bit_at w (i - first)) (sym is) ∙ lowest.below (i - first) (omega (arith, low, high));
    }
  where
    inside : (first + place < 64) ⊎ (64 ≤ first + place) → bit_at word (first + place) ≡ 1 → first + place < 64
    inside (inl low) set = low
    inside (inr high) set = let none = bit_at_above word 64 (first + place) fits high in absurd (omega (arith, none, set))

-- the set flags of a word, counted

flag-in : (words : List ℕ) (at j : ℕ) → j < 64 → flag words (64 * at + j) ≡ (bit_at (slice_index words at) j == 1)
flag-in words at j low =
    let word : (64 * at + j) / 64 ≡ at = omega (arith, low) in
    let bit : (64 * at + j) % 64 ≡ j = omega (arith, low) in
    ap (λ (k : ℕ). bit_at (slice_index words k) ((64 * at + j) % 64) == 1) word ∙ ap (λ (k : ℕ). bit_at (slice_index words at) k == 1) bit

one-bit : (n : ℕ) → one (n % 2 == 1) ≡ n % 2
one-bit n = by (n % 2) (omega arith)
  where
    by : (bit : ℕ) → bit < 2 → one (bit == 1) ≡ bit
    by zero low = refl
    by (suc zero) low = refl
    by (suc (suc bit)) low = absurd (omega (arith, low))

-- so many places from one on have at most as many set flags as the word has bits set from there on, and exactly as many if they
-- reach to the word's end
ones-from : (words : List ℕ) (at count j : ℕ) → j + count ≤ 64 → set_count (flags_from words count (64 * at + j)) ≤ count_ones (slice_index words at / 2 ^ j)
ones-from words at zero j low = omega arith
ones-from words at (suc count) j low =
    let word = slice_index words at in
    let here = ap one (flag-in words at j (omega (arith, low))) ∙ one-bit (word / 2 ^ j) in
    let rest = ones-from words at count (j + 1) (omega (arith, low)) in
    let next : 64 * at + (j + 1) ≡ 64 * at + j + 1 = omega arith in
    let more = ap (λ (k : ℕ). set_count (flags_from words count k)) next in
    let half = ap count_ones (div-div-eq-div-mul word (2 ^ j) 2 ∙ ap (λ (n : ℕ). word / n) (sym (pow-suc 2 j)) ∙ ap (λ (k : ℕ). word / 2 ^ k) (sym (add_one j))) in
    let step = ones_step (word / 2 ^ j) in
    omega (arith, here, rest, more, half, step)

ones-whole : (words : List ℕ) (at count j : ℕ) → j + count ≡ 64 → slice_index words at < 2 ^ 64 → set_count (flags_from words count (64 * at + j)) ≡ count_ones (slice_index words at / 2 ^ j)
unfolding count_ones
ones-whole words at zero j all word =
    let end : j ≡ 64 = omega (arith, all) in
    let none : slice_index words at / 2 ^ 64 ≡ 0 = omega (arith, word) in
    sym (ap (λ (k : ℕ). count_ones (slice_index words at / 2 ^ k)) end ∙ ap count_ones none)
ones-whole words at (suc count) j all word =
    let own = slice_index words at in
    let here = ap one (flag-in words at j (omega (arith, all))) ∙ one-bit (own / 2 ^ j) in
    let rest = ones-whole words at count (j + 1) (omega (arith, all)) word in
    let next : 64 * at + (j + 1) ≡ 64 * at + j + 1 = omega arith in
    let more = ap (λ (k : ℕ). set_count (flags_from words count k)) next in
    let half = ap count_ones (div-div-eq-div-mul own (2 ^ j) 2 ∙ ap (λ (n : ℕ). own / n) (sym (pow-suc 2 j)) ∙ ap (λ (k : ℕ). own / 2 ^ k) (sym (add_one j))) in
    let step = ones_step (own / 2 ^ j) in
    omega (arith, here, rest, more, half, step)

-- flags that are skipped

flags-split : (words : List ℕ) (a b first : ℕ) → flags_from words (a + b) first ≡ flags_from words a first ++ flags_from words b (first + a)
flags-split words zero b first =
    let count : 0 + b ≡ b = omega arith in
    let from : first ≡ first + 0 = omega arith in
    ap (λ (k : ℕ). flags_from words k first) count ∙ ap (flags_from words b) from
flags-split words (suc a) b first =
    let count : suc a + b ≡ suc (a + b) = omega arith in
    let from : first + 1 + a ≡ first + suc a = omega arith in
    ap (λ (k : ℕ). flags_from words k first) count
    ∙ ap (λ (rest : List Bool). flag words first ∷ rest) (flags-split words a b (first + 1) ∙ ap (λ (k : ℕ). flags_from words a (first + 1) ++ flags_from words b k) from)

all-skipped : (flags rest : List Bool) (left at : ℕ) → set_count flags ≤ left → nth_set left at (flags ++ rest) ≡ nth_set (left - set_count flags) (at + length flags) rest
all-skipped [] rest left at few =
    let same : left ≡ left - 0 = omega arith in
    let here : at ≡ at + 0 = omega arith in
    ap (λ (k : ℕ). nth_set k at rest) same ∙ ap (λ (k : ℕ). nth_set (left - 0) k rest) here
all-skipped (false ∷ flags) rest left at few =
    let same : left - set_count flags ≡ left - (0 + set_count flags) = omega arith in
    let here : at + 1 + length flags ≡ at + suc (length flags) = omega arith in
    all-skipped flags rest left (at + 1) (omega (arith, few))
    ∙ ap (λ (k : ℕ). nth_set k (at + 1 + length flags) rest) same ∙ ap (λ (k : ℕ). nth_set (left - (0 + set_count flags)) k rest) here
all-skipped (true ∷ flags) rest zero at few = absurd (omega (arith, few))
all-skipped (true ∷ flags) rest (suc left) at few =
    let same : left - set_count flags ≡ suc left - (1 + set_count flags) = omega arith in
    let here : at + 1 + length flags ≡ at + suc (length flags) = omega arith in
    all-skipped flags rest left (at + 1) (omega (arith, few))
    ∙ ap (λ (k : ℕ). nth_set k (at + 1 + length flags) rest) same ∙ ap (λ (k : ℕ). nth_set (suc left - (1 + set_count flags)) k rest) here

pub word-skipped : (words : List ℕ) (len at left word : ℕ) → word ≡ slice_index words at → word < 2 ^ 64 → count_ones word ≤ left
    → nth_set left (64 * at) (drop (64 * at) (flags_from words len 0)) ≡ nth_set (left - count_ones word) (64 * (at + 1)) (drop (64 * (at + 1)) (flags_from words len 0))
word-skipped words len at left word is low few = by (cases_lt (len - 64 * at) 64)
  where
    list : List Bool
    list = flags_from words len 0

    m : ℕ
    m = len - 64 * at

    cut : drop (64 * at) list ≡ flags_from words m (64 * at)
    cut = let from : 0 + 64 * at ≡ 64 * at = omega arith in flags-dropped words 0 len (64 * at) ∙ ap (flags_from words m) from

    start : 64 * at + 0 ≡ 64 * at
    start = omega arith

    whole-word : slice_index words at / 2 ^ 0 ≡ word
    whole-word = omega (arith, is)

    by : (m < 64) ⊎ (64 ≤ m) → nth_set left (64 * at) (drop (64 * at) list) ≡ nth_set (left - count_ones word) (64 * (at + 1)) (drop (64 * (at + 1)) list)
    by (inl short) =
        let seg = flags_from words m (64 * at) in
        let count = ones-from words at m 0 (omega (arith, short)) in
        let from = ap (λ (k : ℕ). set_count (flags_from words m k)) start in
        let all = ap count_ones whole-word in
        let size = length-flags words 0 len in
        let over : drop (64 * (at + 1)) list ≡ [] = drop_all (64 * (at + 1)) list (omega (arith, size, short)) in
        ap (nth_set left (64 * at)) (cut ∙ sym (append-nil seg)) ∙ all-skipped seg [] left (64 * at) (omega (arith, count, from, all, few))
        ∙ sym (ap (nth_set (left - count_ones word) (64 * (at + 1))) over)
    by (inr long) =
        let more = m - 64 in
        let seg = flags_from words 64 (64 * at) in
        let parts : m ≡ 64 + more = omega (arith, long) in
        let count : set_count seg ≡ count_ones word = ap (λ (k : ℕ). set_count (flags_from words 64 k)) (sym start) ∙ ones-whole words at 64 0 (omega arith) (omega (arith, is, low)) ∙ ap count_ones whole-word in
        let next : 64 * at + 64 ≡ 64 * (at + 1) = omega arith in
        let size = length-flags words (64 * at) 64 in
        let step : 64 * at + length seg ≡ 64 * (at + 1) = omega (arith, size) in
        let left-over : len - 64 * (at + 1) ≡ more = omega arith in
        let from : 0 + 64 * (at + 1) ≡ 64 * (at + 1) = omega arith in
        let later : drop (64 * (at + 1)) list ≡ flags_from words more (64 * at + 64) =
        flags-dropped words 0 len (64 * (at + 1)) ∙ ap (flags_from words (len - 64 * (at + 1))) (from ∙ sym next) ∙ ap (λ (k : ℕ). flags_from words k (64 * at + 64)) left-over in
        ap (nth_set left (64 * at)) (cut ∙ ap (λ (k : ℕ). flags_from words k (64 * at)) parts ∙ flags-split words 64 more (64 * at))
        ∙ all-skipped seg (flags_from words more (64 * at + 64)) left (64 * at) (omega (arith, count, few))
        ∙ ap (λ (k : ℕ). nth_set (left - k) (64 * at + length seg) (flags_from words more (64 * at + 64))) count
        ∙ ap (λ (k : ℕ). nth_set (left - count_ones word) k (flags_from words more (64 * at + 64))) step
        ∙ ap (nth_set (left - count_ones word) (64 * (at + 1))) (sym later)
