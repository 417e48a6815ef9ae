-- The bits of sent data.
use Rattle.std.proofs.Common.{◌≡◌, ℕ, zero, suc, ◌+◌, ◌-◌, ◌*◌, ◌/◌, ◌%◌, ◌<◌, Bool, true, false, cond, get_or, List, [], ◌∷◌, length, map, sym, ap, ◌∙◌, subst, arith, Option, Some, None}
use Rattle.std.specs.Prelude.{find, is_some}
use Rattle.std.specs.Option.{option_map_or}
use Rattle.std.specs.Int.{bit_at}
use Rattle.std.specs.List.{range_with_len}
use Rattle.std.proofs.lemmas.List.FromFn.{get_or-map-range_with_len, length-map-range_with_len}
use Rattle.hc_bits.specs.Bits.{AreBytes, bit_of, number_of}
use Rattle.hc_bits.proofs.lemmas.Bits.{bit_of-lt, bit_at-number_of}
use Rattle.hc_records.specs.Line.{Member}
use Rattle.hc_records.specs.Image.{VariablePlace, variable_place}
use Rattle.hc_events.specs.Entries.{History, Opened, Edited, Posted, Sent, Wrote, Came, Forgot, Cleared, Unplugged}
use Rattle.hc_events.specs.Points.{line_of}
use Rattle.hc_events.specs.Sendings.{line_data_length}
use Rattle.hc_events.specs.Outputs.{byte_of, bytes_of_bits, has_bit, image_bit, is_posted, outputs_in, posted_bit, sent_bit, sent_data, value_bit}

-- each bit is 0 or 1

chosen_small : (own : Bool) (a b : ℕ) → a < 2 → b < 2 → cond own a b < 2
chosen_small true a b p q = p
chosen_small false a b p q = q

posted_small : (line : List Member) (task : ℕ) (bytes : List ℕ) (k : ℕ) (place : Option VariablePlace) (before : ℕ) → before < 2 → posted_bit line task bytes k place before < 2
posted_small line task bytes k None before small = small
posted_small line task bytes k (Some found) before small =
    chosen_small (is_posted task found) (bit_of bytes (image_bit line found k)) before (bit_of-lt bytes (image_bit line found k)) small

zero_small : 0 < 2
zero_small = omega arith

value_small : (history : History) (variable k : ℕ) → value_bit history variable k < 2
value_small [] variable k = zero_small
value_small (Opened groups ∷ history) variable k = zero_small
value_small (Edited edit ∷ history) variable k =
    chosen_small (is_some (variable_place variable (line_of history))) (value_bit history variable k) 0 (value_small history variable k) zero_small
value_small (Posted task bytes ∷ history) variable k =
    posted_small (line_of history) task bytes k (variable_place variable (line_of history)) (value_bit history variable k) (value_small history variable k)
value_small (Forgot station ∷ history) variable k = value_small history variable k
value_small (Cleared station ∷ history) variable k = value_small history variable k
value_small (Unplugged station ∷ history) variable k = value_small history variable k
value_small (Sent frame ∷ history) variable k = value_small history variable k
value_small (Wrote blocks ∷ history) variable k = value_small history variable k
value_small (Came arrival ∷ history) variable k = value_small history variable k

found_small : (history : History) (k : ℕ) (found : Option (ℕ × VariablePlace)) → option_map_or (λ pair. value_bit history pair.0 (k - pair.1.bit)) found 0 < 2
found_small history k None = zero_small
found_small history k (Some pair) = value_small history pair.0 (k - pair.1.bit)

sent_small : (history : History) (outputs : List (ℕ × VariablePlace)) (k : ℕ) → sent_bit history outputs k < 2
sent_small history outputs k = found_small history k (find (has_bit k) outputs)

-- the bits of bytes that are made of bits

eight_small : (bit : ℕ → ℕ) → ((k : ℕ) → bit k < 2) → (n first count i : ℕ) → get_or (map (λ k. bit (8 * n + k)) (range_with_len first count)) i 0 < 2
eight_small bit small n first zero i = zero_small
eight_small bit small n first (suc count) zero = small (8 * n + first)
eight_small bit small n first (suc count) (suc i) = eight_small bit small n (first + 1) count i

byte_bit : (bit : ℕ → ℕ) → ((k : ℕ) → bit k < 2) → (n i : ℕ) → i < 8 → bit_at (byte_of bit n) i ≡ bit (8 * n + i)
byte_bit bit small n i below =
    bit_at-number_of (map (λ k. bit (8 * n + k)) (range_with_len 0 8)) i (eight_small bit small n 0 8)
    ∙ get_or-map-range_with_len (λ k. bit (8 * n + k)) 0 8 i i 0 below (omega arith)

made_bit : (bit : ℕ → ℕ) → ((k : ℕ) → bit k < 2) → (size k : ℕ) → k < 8 * size → bit_of (bytes_of_bits bit size) k ≡ bit k
unfolding bit_of
made_bit bit small size k below =
    let inside : k / 8 < size = omega arith in
    let low : k % 8 < 8 = omega arith in
    let whole : 8 * (k / 8) + k % 8 ≡ k = omega arith in
    ap (λ byte. bit_at byte (k % 8)) (get_or-map-range_with_len (byte_of bit) 0 size (k / 8) (k / 8) 0 inside (omega arith))
    ∙ byte_bit bit small (k / 8) (k % 8) low
    ∙ ap bit whole

-- the bytes that are made of sent bits
pub record HasBits (history : History) (task d : ℕ) (bytes : List ℕ) : Type 0 where
  pub size : length bytes ≡ line_data_length (line_of history) (task, d)
  pub bits : (k : ℕ) → k < 8 * line_data_length (line_of history) (task, d) → bit_of bytes k ≡ sent_bit history (outputs_in (line_of history) task d) k

pub sent-data : (history : History) (task d : ℕ) → HasBits history task d (sent_data history task d)
sent-data history task d =
    let outputs = outputs_in (line_of history) task d in
    let size = line_data_length (line_of history) (task, d) in
    record {
      size = length-map-range_with_len (byte_of (sent_bit history outputs)) 0 size;
      bits = λ k below. made_bit (sent_bit history outputs) (sent_small history outputs) size k below;
    }

-- each of them is a byte

number_small : (bit : ℕ → ℕ) → ((k : ℕ) → bit k < 2) → (n : ℕ) → byte_of bit n < 256
unfolding number_of
number_small bit small n =
    let b0 = small (8 * n + 0) in
    let b1 = small (8 * n + 1) in
    let b2 = small (8 * n + 2) in
    let b3 = small (8 * n + 3) in
    let b4 = small (8 * n + 4) in
    let b5 = small (8 * n + 5) in
    let b6 = small (8 * n + 6) in
    let b7 = small (8 * n + 7) in
    omega arith

pub sent-bytes : (history : History) (task d : ℕ) → AreBytes (sent_data history task d)
sent-bytes history task d i within =
    let bit = sent_bit history (outputs_in (line_of history) task d) in
    let size = line_data_length (line_of history) (task, d) in
    let low : i < size = omega (arith, within, length-map-range_with_len (byte_of bit) 0 size) in
    subst (λ (n : ℕ). n < 256) (sym (get_or-map-range_with_len (byte_of bit) 0 size i i 0 low (omega arith))) (number_small bit (sent_small history (outputs_in (line_of history) task d)) i)
