-- The lowest FMMU decides.
use Rattle.std.proofs.Common.{◌≡◌, ◌⊎◌, ℕ, zero, suc, ◌+◌, ◌-◌, ◌*◌, ◌/◌, ◌%◌, ◌<◌, ◌≤◌, Bool, true, false, List, [], ◌∷◌, length, get_or, set, refl, sym, ap, ◌∙◌, arith, inl, inr, length-set, get_or-set_other, get_or-set_same}
use Rattle.std.specs.Prelude.{◌&&◌, if◌then◌else◌}
use Rattle.std.specs.Int.{bit_at}
use Rattle.std.proofs.lemmas.Bool.{cases_eq, cases_lt, and_from, and_parts, false_from_ne_true}
use Rattle.std.proofs.lemmas.List.FromFn.{get_or-map-range_with_len, length-map-range_with_len}
use Rattle.std.proofs.lemmas.Nat.Bits.{bit_at-lt}
use Rattle.hc_bits.specs.Bits.{bit_of}
use Rattle.hc_bits.proofs.lemmas.Bits.{bit_of-lt, bit_of-unchanged, bit_of-byte}
use Rattle.hc_machine.specs.declared.fmmu.Fmmu.{Fmmu}
use Rattle.hc_machine.specs.Fmmus.{fmmus_of, idle, is_in_run}
use Rattle.hc_machine.specs.Laws.{Reads, ReadBitsComeFromMemory, UnreadBitsStay, UnwrittenBitsStay, FmmuWrites, WrittenBitsComeFromData}
use Rattle.hc_machine.specs.Logical.{bit_read, bit_written, logical_bit, logical_data, logical_memory, memory_bit}
use Rattle.hc_machine.specs.Memory.{byte_with, bytes_with, with_alias_of}
use Rattle.hc_machine.proofs.Paired.{fmmu-count, read-by, reads-back, within-back, write-by, writes-back}
use Rattle.hc_machine.proofs.Pairs.{within_yes}

-- ---- bytes and their bits
summed : (j b0 b1 b2 b3 b4 b5 b6 b7 : ℕ) (bit : ℕ → ℕ) (at : ℕ) → j < 8 → b0 < 2 → b1 < 2 → b2 < 2 → b3 < 2 → b4 < 2 → b5 < 2 → b6 < 2 → b7 < 2
    → bit (at + 0) ≡ b0 → bit (at + 1) ≡ b1 → bit (at + 2) ≡ b2 → bit (at + 3) ≡ b3 → bit (at + 4) ≡ b4 → bit (at + 5) ≡ b5 → bit (at + 6) ≡ b6 → bit (at + 7) ≡ b7
    → bit_at (b0 + 2 * b1 + 4 * b2 + 8 * b3 + 16 * b4 + 32 * b5 + 64 * b6 + 128 * b7) j ≡ bit (at + j)
summed j b0 b1 b2 b3 b4 b5 b6 b7 bit at low l0 l1 l2 l3 l4 l5 l6 l7 e0 e1 e2 e3 e4 e5 e6 e7 =
    let n : ℕ = b0 + 2 * b1 + 4 * b2 + 8 * b3 + 16 * b4 + 32 * b5 + 64 * b6 + 128 * b7 in
    let v0 : n / 1 % 2 ≡ b0 = omega arith in
    let v1 : n / 2 % 2 ≡ b1 = omega arith in
    let v2 : n / 4 % 2 ≡ b2 = omega arith in
    let v3 : n / 8 % 2 ≡ b3 = omega arith in
    let v4 : n / 16 % 2 ≡ b4 = omega arith in
    let v5 : n / 32 % 2 ≡ b5 = omega arith in
    let v6 : n / 64 % 2 ≡ b6 = omega arith in
    let v7 : n / 128 % 2 ≡ b7 = omega arith in
    elim (cases_eq j 0) [
      | inl e ↦ rw e (v0 ∙ sym e0)
      | inr n0 ↦ elim (cases_eq j 1) [
        | inl e ↦ rw e (v1 ∙ sym e1)
        | inr n1 ↦ elim (cases_eq j 2) [
          | inl e ↦ rw e (v2 ∙ sym e2)
          | inr n2 ↦ elim (cases_eq j 3) [
            | inl e ↦ rw e (v3 ∙ sym e3)
            | inr n3 ↦ elim (cases_eq j 4) [
              | inl e ↦ rw e (v4 ∙ sym e4)
              | inr n4 ↦ elim (cases_eq j 5) [
                | inl e ↦ rw e (v5 ∙ sym e5)
                | inr n5 ↦ elim (cases_eq j 6) [
                  | inl e ↦ rw e (v6 ∙ sym e6)
                  | inr n6 ↦ let e : j ≡ 7 = omega arith in rw e (v7 ∙ sym e7)
                ]
              ]
            ]
          ]
        ]
      ]
    ]

byte-bit : (bit : ℕ → ℕ) (at j : ℕ) → j < 8 → ((k : ℕ) → bit k < 2) → bit_at (byte_with bit at) j ≡ bit (at + j)
byte-bit bit at j low small =
    let first : bit (at + 0) ≡ bit at = ap bit (omega arith) in
    summed j (bit at) (bit (at + 1)) (bit (at + 2)) (bit (at + 3)) (bit (at + 4)) (bit (at + 5)) (bit (at + 6)) (bit (at + 7)) bit at low
    (small at) (small (at + 1)) (small (at + 2)) (small (at + 3)) (small (at + 4)) (small (at + 5)) (small (at + 6)) (small (at + 7))
    first refl refl refl refl refl refl refl

pub length-bytes_with : (n : ℕ) (bit : ℕ → ℕ) → length (bytes_with n bit) ≡ n
unfolding bytes_with
length-bytes_with n bit = length-map-range_with_len (λ i. byte_with bit (8 * i)) 0 n

byte-at : (n : ℕ) (bit : ℕ → ℕ) (i : ℕ) → i < n → get_or (bytes_with n bit) i 0 ≡ byte_with bit (8 * i)
unfolding bytes_with
byte-at n bit i low = get_or-map-range_with_len (λ i. byte_with bit (8 * i)) 0 n i i 0 low (omega arith)

bit_of-bytes_with : (n : ℕ) (bit : ℕ → ℕ) (k : ℕ) → ((j : ℕ) → bit j < 2) → k < 8 * n → bit_of (bytes_with n bit) k ≡ bit k
bit_of-bytes_with n bit k small low =
    let there : 8 * (k / 8) + k % 8 ≡ k = omega arith in
    ap (bit_of (bytes_with n bit)) (sym there) ∙ bit_of-byte (bytes_with n bit) (k / 8) (k % 8) (8 * (k / 8) + k % 8) (omega arith) refl
    ∙ ap (λ (b : ℕ). bit_at b (k % 8)) (byte-at n bit (k / 8) (omega arith)) ∙ byte-bit bit (8 * (k / 8)) (k % 8) (omega arith) small ∙ ap bit there

-- ---- what is read
abbrev pub reads-at : Fmmu → ℕ → Bool
reads-at f x = f.reads && is_in_run f.logical f.width x

read-lowest : (fs : List Fmmu) (i : ℕ) (memory : ℕ → ℕ) (x was : ℕ) → i < length fs → reads-at (get_or fs i idle) x ≡ true → ((j : ℕ) → j < i → reads-at (get_or fs j idle) x ≡ false)
    → bit_read fs memory x was ≡ memory (memory_bit (get_or fs i idle) x)
unfolding bit_read
read-lowest [] i memory x was low here before = absurd (omega arith)
read-lowest (f ∷ fs) zero memory x was low here before = ap (λ (b : Bool). if b then memory (memory_bit f x) else bit_read fs memory x was) here
read-lowest (f ∷ fs) (suc i) memory x was low here before =
    ap (λ (b : Bool). if b then memory (memory_bit f x) else bit_read fs memory x was) (before 0 (omega arith))
    ∙ read-lowest fs i memory x was (omega arith) here (λ j h. before (suc j) (omega arith))

pub read-none : (fs : List Fmmu) (memory : ℕ → ℕ) (x was : ℕ) → ((j : ℕ) → j < length fs → reads-at (get_or fs j idle) x ≡ false) → bit_read fs memory x was ≡ was
unfolding bit_read
read-none [] memory x was none = refl
read-none (f ∷ fs) memory x was none =
    ap (λ (b : Bool). if b then memory (memory_bit f x) else bit_read fs memory x was) (none 0 (omega arith)) ∙ read-none fs memory x was (λ j h. none (suc j) (omega arith))

pub chosen-small : (b : Bool) (m n : ℕ) → m < 2 → n < 2 → (if b then m else n) < 2
chosen-small true m n p q = p
chosen-small false m n p q = q

pub read-small : (fs : List Fmmu) (memory : ℕ → ℕ) (x was : ℕ) → ((k : ℕ) → memory k < 2) → was < 2 → bit_read fs memory x was < 2
unfolding bit_read
read-small [] memory x was small low = low
read-small (f ∷ fs) memory x was small low = chosen-small (reads-at f x) _ _ (small (memory_bit f x)) (read-small fs memory x was small low)

data-bit : (memory bytes : List ℕ) (from k : ℕ) → k < 8 * length bytes → bit_of (logical_data memory from bytes) k ≡ bit_read (fmmus_of memory) (bit_of memory) (from + k) (bit_of bytes k)
unfolding logical_data
data-bit memory bytes from k low =
    bit_of-bytes_with (length bytes) (λ k. bit_read (fmmus_of memory) (bit_of memory) (from + k) (bit_of bytes k)) k
    (λ j. read-small (fmmus_of memory) (bit_of memory) (from + j) (bit_of bytes j) (bit_of-lt memory) (bit_of-lt bytes j)) low

pub not-read : (memory : List ℕ) (j x : ℕ) → j < 16 → ((n : ℕ) → ¬ Reads memory j x n) → reads-at (get_or (fmmus_of memory) j idle) x ≡ false
not-read memory j x low none =
    let f : Fmmu = get_or (fmmus_of memory) j idle in
    false_from_ne_true (reads-at f x) (λ e. let parts = and_parts f.reads (is_in_run f.logical f.width x) e in
    let place = within-back f.logical f.width x parts.1 in
    none (memory_bit f x) (reads-back memory j x (memory_bit f x) low parts.0 (place.0, place.1, refl)))

pub read-from-memory : ReadBitsComeFromMemory
read-from-memory memory bytes from k i m low number reads before =
    let f : Fmmu = get_or (fmmus_of memory) i idle in
    let by = read-by memory i (from + k) m number reads in
    let here : reads-at f (from + k) ≡ true = and_from f.reads (is_in_run f.logical f.width (from + k)) by.0 (within_yes f.logical f.width (from + k) by.1.0 by.1.1) in
    data-bit memory bytes from k low
    ∙ read-lowest (fmmus_of memory) i (bit_of memory) (from + k) (bit_of bytes k) (omega (arith, fmmu-count memory)) here (λ j h. not-read memory j (from + k) (omega arith) (λ n. before j n h))
    ∙ ap (bit_of memory) (sym by.1.2)

pub unread-stays : UnreadBitsStay
unread-stays memory bytes from k low none =
    data-bit memory bytes from k low
    ∙ read-none (fmmus_of memory) (bit_of memory) (from + k) (bit_of bytes k) (λ j h. let number : j < 16 = omega (arith, fmmu-count memory) in not-read memory j (from + k) number (λ n. none j n number))

-- ---- what is written
abbrev pub writes-at : ℕ → ℕ → Fmmu → ℕ → Bool
writes-at from n f m = f.writes && is_in_run f.memory f.width m && is_in_run from n (logical_bit f m)

write-lowest : (fs : List Fmmu) (i : ℕ) (came : ℕ → ℕ) (from n m was : ℕ) → i < length fs → writes-at from n (get_or fs i idle) m ≡ true → ((j : ℕ) → j < i → writes-at from n (get_or fs j idle) m ≡ false)
    → bit_written fs came from n m was ≡ came (logical_bit (get_or fs i idle) m - from)
unfolding bit_written
write-lowest [] i came from n m was low here before = absurd (omega arith)
write-lowest (f ∷ fs) zero came from n m was low here before = ap (λ (b : Bool). if b then came (logical_bit f m - from) else bit_written fs came from n m was) here
write-lowest (f ∷ fs) (suc i) came from n m was low here before =
    ap (λ (b : Bool). if b then came (logical_bit f m - from) else bit_written fs came from n m was) (before 0 (omega arith))
    ∙ write-lowest fs i came from n m was (omega arith) here (λ j h. before (suc j) (omega arith))

pub write-none : (fs : List Fmmu) (came : ℕ → ℕ) (from n m was : ℕ) → ((j : ℕ) → j < length fs → writes-at from n (get_or fs j idle) m ≡ false) → bit_written fs came from n m was ≡ was
unfolding bit_written
write-none [] came from n m was none = refl
write-none (f ∷ fs) came from n m was none =
    ap (λ (b : Bool). if b then came (logical_bit f m - from) else bit_written fs came from n m was) (none 0 (omega arith)) ∙ write-none fs came from n m was (λ j h. none (suc j) (omega arith))

pub write-small : (fs : List Fmmu) (came : ℕ → ℕ) (from n m was : ℕ) → ((k : ℕ) → came k < 2) → was < 2 → bit_written fs came from n m was < 2
unfolding bit_written
write-small [] came from n m was small low = low
write-small (f ∷ fs) came from n m was small low = chosen-small (writes-at from n f m) _ _ (small (logical_bit f m - from)) (write-small fs came from n m was small low)

alias-outside : (old new : List ℕ) (m : ℕ) → (m < 144) ⊎ (160 ≤ m) → bit_of (with_alias_of old new) m ≡ bit_of new m
unfolding with_alias_of
alias-outside old new m (inl low) = bit_of-unchanged _ new m (get_or-set_other _ 19 (m / 8) _ 0 (omega arith) ∙ get_or-set_other new 18 (m / 8) _ 0 (omega arith))
alias-outside old new m (inr high) = bit_of-unchanged _ new m (get_or-set_other _ 19 (m / 8) _ 0 (omega arith) ∙ get_or-set_other new 18 (m / 8) _ 0 (omega arith))

memory-bit : (memory bytes : List ℕ) (from m : ℕ) → m < 8 * length memory → (m < 144) ⊎ (160 ≤ m)
    → bit_of (logical_memory memory from bytes) m ≡ bit_written (fmmus_of memory) (bit_of bytes) from (8 * length bytes) m (bit_of memory m)
unfolding logical_memory
memory-bit memory bytes from m low outside =
    alias-outside memory _ m outside
    ∙ bit_of-bytes_with (length memory) (λ m. bit_written (fmmus_of memory) (bit_of bytes) from (8 * length bytes) m (bit_of memory m)) m
    (λ j. write-small (fmmus_of memory) (bit_of bytes) from (8 * length bytes) j (bit_of memory j) (bit_of-lt bytes) (bit_of-lt memory j)) low

pub not-written : (memory : List ℕ) (from size j m : ℕ) → j < 16 → ((n : ℕ) → n < size → ¬ FmmuWrites memory j (from + n) m) → writes-at from size (get_or (fmmus_of memory) j idle) m ≡ false
not-written memory from size j m low none =
    let f : Fmmu = get_or (fmmus_of memory) j idle in
    false_from_ne_true (writes-at from size f m) (λ e. let outer = and_parts (f.writes && is_in_run f.memory f.width m) (is_in_run from size (logical_bit f m)) e in
    let inner = and_parts f.writes (is_in_run f.memory f.width m) outer.0 in
    let place = within-back f.memory f.width m inner.1 in
    let logical = within-back from size (logical_bit f m) outer.1 in
    let back : f.logical + (m - f.memory) ≡ from + (logical_bit f m - from) = omega arith in
    none (logical_bit f m - from) (omega arith) (writes-back memory j (from + (logical_bit f m - from)) m low inner.0 (omega arith, omega arith, omega arith)))

pub written-from-data : WrittenBitsComeFromData
written-from-data memory bytes from k i m long outside low number writes before =
    let f : Fmmu = get_or (fmmus_of memory) i idle in
    let size : ℕ = 8 * length bytes in
    let by = write-by memory i (from + k) m number writes in
    let start : f.logical ≤ from + k = by.1.0 in
    let end : from + k < f.logical + f.width = by.1.1 in
    let place : m ≡ f.memory + (from + k - f.logical) = by.1.2 in
    let logical : logical_bit f m ≡ from + k = omega arith in
    let inside : m < 8 * length memory = omega (arith, writes.1.inside) in
    let here : writes-at from size f m ≡ true =
    and_from (f.writes && is_in_run f.memory f.width m) (is_in_run from size (logical_bit f m)) (and_from f.writes (is_in_run f.memory f.width m) by.0 (within_yes f.memory f.width m (omega arith) (omega arith)))
    (within_yes from size (logical_bit f m) (omega arith) (omega arith)) in
    let same : logical_bit f m - from ≡ k = omega arith in
    memory-bit memory bytes from m inside outside
    ∙ write-lowest (fmmus_of memory) i (bit_of bytes) from size m (bit_of memory m) (omega (arith, fmmu-count memory)) here (λ j h. not-written memory from size j m (omega arith) (λ n l. before j n h l))
    ∙ ap (bit_of bytes) same

alias-inside : (old new : List ℕ) (m : ℕ) → length new ≡ 12288 → 144 ≤ m → m < 160 → bit_of (with_alias_of old new) m ≡ bit_of old m
unfolding with_alias_of
alias-inside old new m long low high = elim (cases_eq (m / 8) 18) [
  | inl e ↦ bit_of-unchanged _ old m (ap (λ (i : ℕ). get_or (set (set new 18 (get_or old 18 0)) 19 (get_or old 19 0)) i 0) e ∙ get_or-set_other (set new 18 (get_or old 18 0)) 19 18 _ 0 (omega arith)
      ∙ get_or-set_same new 18 (get_or old 18 0) 0 (omega arith) ∙ ap (λ (i : ℕ). get_or old i 0) (sym e))
  | inr n ↦ let e : m / 8 ≡ 19 = omega arith in
      bit_of-unchanged _ old m (ap (λ (i : ℕ). get_or (set (set new 18 (get_or old 18 0)) 19 (get_or old 19 0)) i 0) e ∙ get_or-set_same (set new 18 (get_or old 18 0)) 19 (get_or old 19 0) 0 (omega (arith, length-set {A = ℕ}))
      ∙ ap (λ (i : ℕ). get_or old i 0) (sym e))
]

alias-bit : (memory bytes : List ℕ) (from m : ℕ) → length memory ≡ 12288 → 144 ≤ m → m < 160 → bit_of (logical_memory memory from bytes) m ≡ bit_of memory m
unfolding logical_memory
alias-bit memory bytes from m long low high = alias-inside memory _ m (length-bytes_with (length memory) _ ∙ long) low high

pub unwritten-stays : UnwrittenBitsStay
unwritten-stays memory bytes from m long inside none =
    let size : ℕ = 8 * length bytes in
    let stays : bit_written (fmmus_of memory) (bit_of bytes) from size m (bit_of memory m) ≡ bit_of memory m =
    write-none (fmmus_of memory) (bit_of bytes) from size m (bit_of memory m) (λ j h. let number : j < 16 = omega (arith, fmmu-count memory) in not-written memory from size j m number (λ n l. none j n number l)) in
    elim (cases_lt m 144) [
      | inl low ↦ memory-bit memory bytes from m (omega arith) (inl low) ∙ stays
      | inr high ↦ elim (cases_lt m 160) [
        | inl alias ↦ alias-bit memory bytes from m long high alias
        | inr history ↦ memory-bit memory bytes from m (omega arith) (inr history) ∙ stays
      ]
    ]
