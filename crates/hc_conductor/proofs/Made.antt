-- The bytes that a post is made of.
use Rattle.std.proofs.Common.{◌≡◌, ℕ, ◌+◌, ◌-◌, ◌*◌, ◌/◌, ◌%◌, ◌<◌, ◌≤◌, Bool, true, false, cond, List, length, get_or, replicate, refl, sym, ap, ◌∙◌, arith, inl, inr, lit<, Option, Some}
use Rattle.std.specs.Prelude.{◌&&◌, nat_le, nat_lt}
use Rattle.std.specs.Option.{option_map_or}
use Rattle.std.specs.Int.{bit_at}
use Rattle.std.proofs.lemmas.Bool.{cases_lt}
use Rattle.std.proofs.lemmas.Bool.Decides.{nat_tests}
use Rattle.std.proofs.lemmas.List.{ext_get_or, length-replicate}
use Rattle.std.proofs.lemmas.List.FromFn.{length-map-range_with_len, get_or-map-range_with_len}
use Rattle.hc_bits.specs.Bits.{AreBytes, ReplacesRun, bit_of, number_of}
use Rattle.hc_bits.proofs.lemmas.Bits.{bit_of-byte}
use Rattle.hc_events.specs.Outputs.{byte_of, bytes_of_bits}
use Rattle.hc_rings.specs.Post.{overwritten}
use Rattle.hc_records.specs.Image.{VariablePlace}
use Rattle.hc_places.specs.Table.{Table}
use Rattle.hc_images.specs.Packed.{offset_in}
use Rattle.hc_images.specs.Values.{table_image_bit}
use Rattle.hc_records.specs.declared.setting.Setting.{Setting}
use Rattle.hc_conductor.specs.Posting.{covers, set_bit}
use Rattle.hc_conductor.specs.Viewing.{viewed_place}
use Rattle.hc_conductor.proofs.Takings.{whole-list}

-- a byte is the number that its bits spell
byte-bits : (x : ℕ) → x < 256 → x ≡ x / 1 % 2 + 2 * (x / 2 % 2 + 2 * (x / 4 % 2 + 2 * (x / 8 % 2 + 2 * (x / 16 % 2 + 2 * (x / 32 % 2 + 2 * (x / 64 % 2 + 2 * (x / 128 % 2 + 2 * 0)))))))
byte-bits x small = omega arith

byte-answer_given : (x n : ℕ) (bit : ℕ → ℕ) → x < 256 → ((j : ℕ) → j < 8 → bit (8 * n + j) ≡ bit_at x j) → x ≡ byte_of bit n
unfolding number_of
byte-answer_given x n bit small same =
    let e0 : bit (8 * n + 0) ≡ x / 1 % 2 = same 0 (lit< tt) in
    let e1 : bit (8 * n + 1) ≡ x / 2 % 2 = same 1 (lit< tt) in
    let e2 : bit (8 * n + 2) ≡ x / 4 % 2 = same 2 (lit< tt) in
    let e3 : bit (8 * n + 3) ≡ x / 8 % 2 = same 3 (lit< tt) in
    let e4 : bit (8 * n + 4) ≡ x / 16 % 2 = same 4 (lit< tt) in
    let e5 : bit (8 * n + 5) ≡ x / 32 % 2 = same 5 (lit< tt) in
    let e6 : bit (8 * n + 6) ≡ x / 64 % 2 = same 6 (lit< tt) in
    let e7 : bit (8 * n + 7) ≡ x / 128 % 2 = same 7 (lit< tt) in
    byte-bits x small ∙ rw (e0, e1, e2, e3, e4, e5, e6, e7) refl

-- bytes are given by their bits
pub answer_given-by-bits : (xs : List ℕ) (n : ℕ) (bit : ℕ → ℕ) → AreBytes xs → length xs ≡ n → ((k : ℕ) → bit_of xs k ≡ bit k) → xs ≡ bytes_of_bits bit n
answer_given-by-bits xs n bit small len same =
    ext_get_or 0 xs _ (len ∙ sym (length-map-range_with_len (byte_of bit) 0 n)) (λ i h.
    byte-answer_given (get_or xs i 0) i bit (small i h) (λ j low. sym (same (8 * i + j)) ∙ bit_of-byte xs i j (8 * i + j) low refl)
    ∙ sym (get_or-map-range_with_len (byte_of bit) 0 n i i 0 (omega arith) (omega arith)))

-- where a run lies, before it and after it
within : (x bits k : ℕ) → x ≤ k → k < x + bits → (nat_le (x + 0) k && nat_lt k (x + bits)) ≡ true
within x bits k from below = grind (arith, nat_tests)

before : (x bits k : ℕ) → k < x → (nat_le (x + 0) k && nat_lt k (x + bits)) ≡ false
before x bits k low = grind (arith, nat_tests)

after_it : (x bits k : ℕ) → x + bits ≤ k → (nat_le (x + 0) k && nat_lt k (x + bits)) ≡ false
after_it x bits k high = grind (arith, nat_tests)

-- a bit once a run is put
bit_put : (x bits k : ℕ) (old new : List ℕ) (run : ℕ → ℕ) → ReplacesRun old new (x + 0) bits run → bit_of new k ≡ cond (nat_le (x + 0) k && nat_lt k (x + bits)) (run (k - (x + 0))) (bit_of old k)
bit_put x bits k old new run put =
    let chosen = λ (test : Bool). cond test (run (k - (x + 0))) (bit_of old k) in
    elim (cases_lt k x) [
      | inl low ↦ put.before k (omega arith) ∙ sym (ap chosen (before x bits k low))
      | inr from ↦ elim (cases_lt k (x + bits)) [
        | inl below ↦
            let whole : x + 0 + (k - (x + 0)) ≡ k = omega arith in
            ap (bit_of new) (sym whole) ∙ put.inside (k - (x + 0)) (omega arith) ∙ sym (ap chosen (within x bits k from below))
        | inr high ↦ put.after k (omega arith) ∙ sym (ap chosen (after_it x bits k high))
      ]
    ]

-- a value that is put where its variable is
pub value-set : (table : Table) (old new : List ℕ) (place : VariablePlace) (setting : Setting) → viewed_place table setting.variable ≡ Some place
    → ReplacesRun old new (table_image_bit table place 0) place.bits (bit_at setting.value) → (k : ℕ) → bit_of new k ≡ set_bit table k (bit_of old k) setting
value-set table old new place setting there put k =
    bit_put (8 * offset_in table place.task place.datagram + place.bit) place.bits k old new (bit_at setting.value) put
    ∙ ap (λ (found : Option VariablePlace). option_map_or (λ p. cond (covers table p k) (bit_at setting.value (k - table_image_bit table p 0)) (bit_of old k)) found (bit_of old k)) (sym there)

-- as many bytes whole-list over zeros are what then is there
pub written_over : (size : ℕ) (bytes : List ℕ) → length bytes ≡ size → overwritten (replicate size 0) bytes ≡ bytes
written_over size bytes same = whole-list bytes _ (length (replicate size 0)) (same ∙ sym (length-replicate size 0))
