-- The bits of a slice by their byte, and runs of bits that are replaced in turn.
use Rattle.std.proofs.Common.{rules, ◌≡◌, ◌≢◌, ℕ, ◌+◌, ◌-◌, ◌*◌, ◌/◌, ◌%◌, ◌<◌, ◌≤◌, List, length, get_or, set, take, drop, get_or-set_same, get_or-set_other, refl, sym, ◌∙◌, ap, arith, inl, inr}
use borrow.Rule.Slice.PartMut.{put_mid}
use Rattle.std.specs.Int.{bit_at, to_le_bytes, from_le_bytes, w64}
use Rattle.std.proofs.lemmas.Bool.{cases_lt, cases_eq}
use Rattle.std.proofs.lemmas.Nat.{le_bytes_8}
use Rattle.std.proofs.lemmas.Nat.Bits.{bit_at-lt}
use Rattle.std.proofs.lemmas.List.{places, get_or-take, get_or-drop}
use Rattle.std.proofs.lemmas.Grind.{common_steps}
use Rattle.hc_bits.specs.Bits.{bit_of, ReplacesRun}
use Rattle.hc_bits.proofs.Numbers.{bit_at-byte, get_or-bytes_low_first}

pub bit_of-lt : (bytes : List ℕ) (k : ℕ) → bit_of bytes k < 2
unfolding bit_of
bit_of-lt bytes k = bit_at-lt (get_or bytes (k / 8) 0) (k % 8)

-- bit j of byte i
pub bit_of-byte : (bytes : List ℕ) (i j k : ℕ) → j < 8 → 8 * i + j ≡ k → bit_of bytes k ≡ bit_at (get_or bytes i 0) j
unfolding bit_of
bit_of-byte bytes i j k h e =
    let byte : k / 8 ≡ i = omega arith in
    let place : k % 8 ≡ j = omega arith in
    rw (byte, place) refl

-- the same byte has the same bits, also at another place
pub bit_of-same_byte : (xs ys : List ℕ) (i j k m : ℕ) → get_or xs (i + k / 8) 0 ≡ get_or ys (j + k / 8) 0 → 8 * i + k ≡ m → bit_of xs m ≡ bit_of ys (8 * j + k)
bit_of-same_byte xs ys i j k m same e =
    bit_of-byte xs (i + k / 8) (k % 8) m (omega arith) (omega arith) ∙ ap (λ b. bit_at b (k % 8)) same
    ∙ sym (bit_of-byte ys (j + k / 8) (k % 8) (8 * j + k) (omega arith) (omega arith))

pub bit_of-unchanged : (xs ys : List ℕ) (k : ℕ) → get_or xs (k / 8) 0 ≡ get_or ys (k / 8) 0 → bit_of xs k ≡ bit_of ys k
unfolding bit_of
bit_of-unchanged xs ys k same = ap (λ b. bit_at b (k % 8)) same

-- a run of bits replaced within byte i
pub ReplacesRun-set : (bytes : List ℕ) (i b at n place : ℕ) (run : ℕ → ℕ) → i < length bytes → at + n ≤ 8 → 8 * i + at ≡ place
    → ((k : ℕ) → k < n → bit_at b (at + k) ≡ run k)
    → ((k : ℕ) → k < at → bit_at b k ≡ bit_at (get_or bytes i 0) k)
    → ((k : ℕ) → at + n ≤ k → k < 8 → bit_at b k ≡ bit_at (get_or bytes i 0) k)
    → ReplacesRun bytes (set bytes i b) place n run
ReplacesRun-set bytes i b at n place run within low e inside before after =
    let new : (j k : ℕ) → j < 8 → 8 * i + j ≡ k → bit_of (set bytes i b) k ≡ bit_at b j =
    λ j k h p. bit_of-byte (set bytes i b) i j k h p ∙ ap (λ x. bit_at x j) (get_or-set_same bytes i b 0 within) in
    let unchanged : (j k : ℕ) → j < 8 → 8 * i + j ≡ k → bit_at b j ≡ bit_at (get_or bytes i 0) j → bit_of (set bytes i b) k ≡ bit_of bytes k =
    λ j k h p same. new j k h p ∙ same ∙ sym (bit_of-byte bytes i j k h p) in
    let other : (k : ℕ) → k / 8 ≢ i → bit_of (set bytes i b) k ≡ bit_of bytes k =
    λ k ne. bit_of-unchanged (set bytes i b) bytes k (get_or-set_other bytes i (k / 8) b 0 ne) in
    record {
      inside = λ k h. new (at + k) (place + k) (omega arith) (omega arith) ∙ inside k h;
      before = λ k h. elim (cases_eq (k / 8) i) [
        | inl same ↦ unchanged (k - 8 * i) k (omega arith) (omega arith) (before (k - 8 * i) (omega arith))
        | inr ne ↦ other k ne
      ];
      after = λ k h. elim (cases_eq (k / 8) i) [
        | inl same ↦ unchanged (k - 8 * i) k (omega arith) (omega arith) (after (k - 8 * i) (omega arith) (omega arith))
        | inr ne ↦ other k ne
      ];
    }

pub ReplacesRun-nothing : (bytes : List ℕ) (at : ℕ) (run : ℕ → ℕ) → ReplacesRun bytes bytes at 0 run
ReplacesRun-nothing bytes at run = record { inside = λ k h. absurd (omega arith); before = λ k h. refl; after = λ k h. refl }

-- a run replaced, and then the run that follows it
pub ReplacesRun-then : (a b c : List ℕ) (at n next m whole : ℕ) (run more : ℕ → ℕ) → at + n ≡ next → n + m ≡ whole
    → ReplacesRun a b at n run → ReplacesRun b c next m more → ((k : ℕ) → k < m → more k ≡ run (n + k)) → ReplacesRun a c at whole run
ReplacesRun-then a b c at n next m whole run more e w first second same = record {
  inside = λ k h. elim (cases_lt k n) [
    | inl low ↦ second.before (at + k) (omega arith) ∙ first.inside k low
    | inr high ↦
        let there : next + (k - n) ≡ at + k = omega arith in
        let back : n + (k - n) ≡ k = omega arith in
        ap (bit_of c) (sym there) ∙ second.inside (k - n) (omega arith) ∙ same (k - n) (omega arith) ∙ ap run back
  ];
  before = λ k h. second.before k (omega arith) ∙ first.before k h;
  after = λ k h. second.after k (omega arith) ∙ first.after k (omega arith);
}

-- the same run by other names
pub ReplacesRun-as : (a b : List ℕ) (at at2 n n2 : ℕ) (run run2 : ℕ → ℕ) → at ≡ at2 → n ≡ n2 → ((k : ℕ) → k < n → run k ≡ run2 k)
    → ReplacesRun a b at n run → ReplacesRun a b at2 n2 run2
ReplacesRun-as a b at at2 n n2 run run2 e f same r = record {
  inside = λ k h. ap (bit_of b) (let there : at2 + k ≡ at + k = omega arith in there) ∙ r.inside k (omega arith) ∙ same k (omega arith);
  before = λ k h. r.before k (omega arith);
  after = λ k h. r.after k (omega arith);
}

-- ---- whole bytes
put_mid-before : (xs ys : List ℕ) (a n i : ℕ) → a + n ≤ length xs → length ys ≡ n → i < a → get_or (put_mid a n xs ys) i 0 ≡ get_or xs i 0
put_mid-before xs ys a n i h e p = search (rules, places)

put_mid-inside : (xs ys : List ℕ) (a n i : ℕ) → a + n ≤ length xs → length ys ≡ n → i < n → get_or (put_mid a n xs ys) (a + i) 0 ≡ get_or ys i 0
put_mid-inside xs ys a n i h e p = search (rules, places)

put_mid-after : (xs ys : List ℕ) (a n i : ℕ) → a + n ≤ length xs → length ys ≡ n → a + n ≤ i → get_or (put_mid a n xs ys) i 0 ≡ get_or xs i 0
put_mid-after xs ys a n i h e p = search (rules, places)

-- bytes written into a part of a slice
pub ReplacesRun-put : (old ys : List ℕ) (a n : ℕ) → a + n ≤ length old → length ys ≡ n
    → ReplacesRun old (put_mid a n old ys) (8 * a) (8 * n) (bit_of ys)
ReplacesRun-put old ys a n h e = record {
  inside = λ k p. bit_of-same_byte (put_mid a n old ys) ys a 0 k (8 * a + k) (put_mid-inside old ys a n (k / 8) h e (omega arith) ∙ ap (λ i. get_or ys i 0) (let z : k / 8 ≡ 0 + k / 8 = omega arith in z)) refl
      ∙ ap (bit_of ys) (let z : 8 * 0 + k ≡ k = omega arith in z);
  before = λ k p. bit_of-unchanged (put_mid a n old ys) old k (put_mid-before old ys a n (k / 8) h e (omega arith));
  after = λ k p. bit_of-unchanged (put_mid a n old ys) old k (put_mid-after old ys a n (k / 8) h e (omega arith));
}

-- the bits of a part of a slice
pub bit_of-part : (xs : List ℕ) (a n k : ℕ) → k < 8 * n → bit_of (take n (drop a xs)) k ≡ bit_of xs (8 * a + k)
bit_of-part xs a n k h = bit_of-same_byte (take n (drop a xs)) xs 0 a k k
    (get_or-take n (drop a xs) (0 + k / 8) 0 (omega arith) ∙ get_or-drop a xs (0 + k / 8) 0
    ∙ ap (λ i. get_or xs (a + i) 0) (let z : 0 + k / 8 ≡ k / 8 = omega arith in z))
    (omega arith)

-- a part of bytes is of bytes
pub part-small : (xs : List ℕ) → ((i : ℕ) → get_or xs i 0 < 256) → (a n i : ℕ) → get_or (take n (drop a xs)) i 0 < 256
part-small xs small a n i = grind (arith, common_steps)

-- the bits of the bytes of a word
pub bit_of-to_le_bytes : (word k : ℕ) → k < 64 → bit_of (to_le_bytes w64 word) k ≡ bit_at word k
bit_of-to_le_bytes word k h =
    bit_of-byte (to_le_bytes w64 word) (k / 8) (k % 8) k (omega arith) (omega arith)
    ∙ ap (λ b. bit_at b (k % 8)) (get_or-bytes_low_first 0 8 word (k / 8) (omega arith))
    ∙ bit_at-byte (0 + k / 8) word (k % 8) (omega arith)
    ∙ ap (bit_at word) (let e : 8 * (0 + k / 8) + k % 8 ≡ k = omega arith in e)

pub bit_at-from_le_bytes : (xs : List ℕ) (word k : ℕ) → length xs ≡ 8 → ((i : ℕ) → get_or xs i 0 < 256) → word ≡ from_le_bytes w64 xs → k < 64
    → bit_at word k ≡ bit_of xs k
bit_at-from_le_bytes xs word k len small is h =
    sym (bit_of-to_le_bytes word k h) ∙ ap (λ bytes. bit_of bytes k) (le_bytes_8 xs word len small is)

-- a word with a run replaced, written where it was
module _ (old new : List ℕ) (first at place n word was : ℕ) (run : ℕ → ℕ) (is : 8 * first + place ≡ at) (room : place + n ≤ 64) (put : ReplacesRun old new (8 * first) 64 (bit_at word))
    (known : (k : ℕ) → k < 64 → bit_at was k ≡ bit_of old (8 * first + k)) where
  stays : (k : ℕ) → 8 * first ≤ k → k < 8 * first + 64 → bit_at word (k - 8 * first) ≡ bit_at was (k - 8 * first) → bit_of new k ≡ bit_of old k
  stays k from to same =
      let e : k ≡ 8 * first + (k - 8 * first) = omega (arith, from) in
      ap (bit_of new) e ∙ put.inside (k - 8 * first) (omega (arith, from, to)) ∙ same ∙ known (k - 8 * first) (omega (arith, from, to)) ∙ ap (bit_of old) (sym e)

  pub word-replaced : ((k : ℕ) → k < n → bit_at word (place + k) ≡ run k) → ((k : ℕ) → k < place → bit_at word k ≡ bit_at was k)
      → ((k : ℕ) → place + n ≤ k → k < 64 → bit_at word k ≡ bit_at was k) → ReplacesRun old new at n run
  word-replaced inside before after = record {
    inside = λ k low. ap (bit_of new) (let e : at + k ≡ 8 * first + (place + k) = omega (arith, is) in e) ∙ put.inside (place + k) (omega (arith, low, room)) ∙ inside k low;
    before = λ k low. elim (cases_lt k (8 * first)) [
      | inl below ↦ put.before k below
      | inr above ↦ stays k above (omega (arith, is, low, room)) (before (k - 8 * first) (omega (arith, is, low, above)))
    ];
    after = λ k high. elim (cases_lt k (8 * first + 64)) [
      | inl below ↦ stays k (omega (arith, is, high)) below (after (k - 8 * first) (omega (arith, is, high)) (omega (arith, is, high, below)))
      | inr above ↦ put.after k above
    ];
  }
