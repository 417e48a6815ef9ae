-- The bytes of a memory after a logical datagram.
use Rattle.std.proofs.Common.{◌≡◌, ℕ, ◌+◌, ◌-◌, ◌*◌, ◌/◌, ◌%◌, ◌<◌, ◌≤◌, ◌∙◌, inl, inr, List, [], ◌∷◌, length, get_or, set, refl, sym, ap, subst, arith, length-set, get_or-set_other, get_or-set_same, lit<}
use Rattle.std.specs.Prelude.{◌&&◌, if◌then◌else◌}
use Rattle.std.specs.Int.{bit_at}
use Rattle.std.proofs.lemmas.Bool.{cases_eq}
use Rattle.std.proofs.lemmas.List.FromFn.{get_or-map-range_with_len}
use Rattle.hc_bits.specs.Bits.{AreBytes, bit_of}
use Rattle.hc_bits.proofs.lemmas.Bits.{bit_of-lt, bit_of-byte}
use Rattle.hc_machine.specs.Fmmus.{fmmus_of}
use Rattle.hc_machine.specs.Logical.{bit_read, bit_written, logical_data, logical_memory}
use Rattle.hc_machine.specs.Memory.{byte_with, bytes_with, with_alias_of}
use Rattle.hc_machine.proofs.Bytes.{byte-bits}
use Rattle.hc_machine.proofs.Lowest.{length-bytes_with, read-small, write-small}

pub length-data : (memory bytes : List ℕ) (from : ℕ) → length (logical_data memory from bytes) ≡ length bytes
unfolding logical_data
length-data memory bytes from = length-bytes_with (length bytes) _

pub length-memory : (memory bytes : List ℕ) (from : ℕ) → length (logical_memory memory from bytes) ≡ length memory
unfolding logical_memory with_alias_of
length-memory memory bytes from =
    length-set (set (bytes_with (length memory) _) 18 (get_or memory 18 0)) 19 (get_or memory 19 0) ∙ length-set (bytes_with (length memory) _) 18 (get_or memory 18 0)
    ∙ length-bytes_with (length memory) _

byte-small : (bit : ℕ → ℕ) (at : ℕ) → ((k : ℕ) → bit k < 2) → byte_with bit at < 256
byte-small bit at low =
    let b0 = low at in
    let b1 = low (at + 1) in
    let b2 = low (at + 2) in
    let b3 = low (at + 3) in
    let b4 = low (at + 4) in
    let b5 = low (at + 5) in
    let b6 = low (at + 6) in
    let b7 = low (at + 7) in
    omega arith

spelled-small : (n : ℕ) (bit : ℕ → ℕ) (i : ℕ) → i < n → ((k : ℕ) → bit k < 2) → get_or (bytes_with n bit) i 0 < 256
unfolding bytes_with
spelled-small n bit i within low =
    subst (λ (x : ℕ). x < 256) (sym (get_or-map-range_with_len (λ (j : ℕ). byte_with bit (8 * j)) 0 n i i 0 (omega arith) (omega arith))) (byte-small bit (8 * i) low)

alias-small : (old new : List ℕ) (i : ℕ) → 20 ≤ length new → get_or old 18 0 < 256 → get_or old 19 0 < 256 → get_or new i 0 < 256 → get_or (with_alias_of old new) i 0 < 256
unfolding with_alias_of
alias-small old new i long low high small =
    let first : List ℕ = set new 18 (get_or old 18 0) in
    elim (cases_eq i 19) [
      | inl at ↦ subst (λ (x : ℕ). x < 256) (sym (ap (λ (n : ℕ). get_or (set first 19 (get_or old 19 0)) n 0) at ∙ get_or-set_same first 19 (get_or old 19 0) 0 (omega (arith, length-set {A = ℕ})))) high
      | inr other ↦ elim (cases_eq i 18) [
        | inl at ↦ subst (λ (x : ℕ). x < 256)
            (sym (get_or-set_other first 19 i (get_or old 19 0) 0 other ∙ ap (λ (n : ℕ). get_or first n 0) at ∙ get_or-set_same new 18 (get_or old 18 0) 0 (omega arith))) low
        | inr neither ↦ subst (λ (x : ℕ). x < 256)
            (sym (get_or-set_other first 19 i (get_or old 19 0) 0 other ∙ get_or-set_other new 18 i (get_or old 18 0) 0 neither)) small
      ]
    ]

-- each of its numbers is a byte
pub memory-bytes : (memory bytes : List ℕ) (from : ℕ) → length memory ≡ 12288 → AreBytes memory → AreBytes (logical_memory memory from bytes)
unfolding logical_memory
memory-bytes memory bytes from long small i within =
    let bit : ℕ → ℕ = λ m. bit_written (fmmus_of memory) (bit_of bytes) from (8 * length bytes) m (bit_of memory m) in
    let low : (k : ℕ) → bit k < 2 = λ k. write-small (fmmus_of memory) (bit_of bytes) from (8 * length bytes) k (bit_of memory k) (λ j. bit_of-lt bytes j) (bit_of-lt memory k) in
    let count = length-bytes_with (length memory) bit in
    let inside : i < length memory = omega (arith, within, length-memory memory bytes from) in
    alias-small memory (bytes_with (length memory) bit) i (omega arith) (small 18 (omega arith)) (small 19 (omega arith)) (spelled-small (length memory) bit i inside low)

-- so is each number of the data
pub data-bytes : (memory bytes : List ℕ) (from : ℕ) → AreBytes (logical_data memory from bytes)
unfolding logical_data
data-bytes memory bytes from i within =
    let bit : ℕ → ℕ = λ k. bit_read (fmmus_of memory) (bit_of memory) (from + k) (bit_of bytes k) in
    let count = length-bytes_with (length bytes) bit in
    spelled-small (length bytes) bit i (omega (arith, within, count)) (λ k. read-small (fmmus_of memory) (bit_of memory) (from + k) (bit_of bytes k) (bit_of-lt memory) (bit_of-lt bytes k))

-- bytes are the same where their bits are

same-bits : (x y : ℕ) → x < 256 → y < 256 → ((j : ℕ) → j < 8 → bit_at x j ≡ bit_at y j) → x ≡ y
same-bits x y small small' same =
    let e0 : x / 1 % 2 ≡ y / 1 % 2 = same 0 (lit< tt) in
    let e1 : x / 2 % 2 ≡ y / 2 % 2 = same 1 (lit< tt) in
    let e2 : x / 4 % 2 ≡ y / 4 % 2 = same 2 (lit< tt) in
    let e3 : x / 8 % 2 ≡ y / 8 % 2 = same 3 (lit< tt) in
    let e4 : x / 16 % 2 ≡ y / 16 % 2 = same 4 (lit< tt) in
    let e5 : x / 32 % 2 ≡ y / 32 % 2 = same 5 (lit< tt) in
    let e6 : x / 64 % 2 ≡ y / 64 % 2 = same 6 (lit< tt) in
    let e7 : x / 128 % 2 ≡ y / 128 % 2 = same 7 (lit< tt) in
    let whole = byte-bits x small in
    let whole' = byte-bits y small' in
    omega arith

pub same-byte : (xs ys : List ℕ) (r : ℕ) → get_or xs r 0 < 256 → get_or ys r 0 < 256 → ((j : ℕ) → j < 8 → bit_of xs (8 * r + j) ≡ bit_of ys (8 * r + j)) → get_or xs r 0 ≡ get_or ys r 0
same-byte xs ys r small small' same =
    same-bits (get_or xs r 0) (get_or ys r 0) small small' (λ j low. sym (bit_of-byte xs r j (8 * r + j) low refl) ∙ same j low ∙ bit_of-byte ys r j (8 * r + j) low refl)
