-- The stored bytes of the outputs are the data that the record sends.
use Rattle.std.proofs.Common.{◌≡◌, ◌⊎◌, inl, inr, ℕ, ◌+◌, ◌-◌, ◌*◌, ◌<◌, ◌≤◌, List, [], ◌∷◌, length, map, sym, ap, ◌∙◌, subst, arith, refl, None, rules}
use Rattle.std.specs.Prelude.{All}
use Rattle.std.proofs.lemmas.List.Elements.{All-head, All-tail}
use Rattle.std.proofs.lemmas.List.FromFn.{get_or-map-range_with_len}
use Rattle.hc_bits.specs.Bits.{AreBytes, bit_of, number_of}
use Rattle.hc_bits.proofs.lemmas.Places.{same_bytes_from_bits}
use Rattle.hc_bits.proofs.lemmas.Bits.{bit_of-lt}
use Rattle.hc_records.specs.declared.limits.TheConstants.{MOST_DATAGRAMS, TASKS}
use Rattle.hc_records.specs.Edits.{over_limit_task}
use Rattle.hc_records.specs.Image.{datagram_count, logical_address, task_places}
use Rattle.hc_records.specs.Line.{groups_of}
use Rattle.hc_records.specs.Project.{lowest_fault}
use Rattle.hc_records.proofs.lemmas.Addresses.{uncrowded-few}
use Rattle.hc_places.specs.Table.{table_of}
use Rattle.hc_places.proofs.lemmas.Ascends.{table-ascends}
use Rattle.hc_frames.specs.FrameText.{lrw}
use Rattle.hc_events.specs.Accepted.{IsInLine}
use Rattle.hc_events.specs.Entries.{History}
use Rattle.hc_events.specs.Outputs.{byte_of, sent_data, value_bit}
use Rattle.hc_events.specs.DataLaws.{IsSentData}
use Rattle.hc_events.specs.Points.{line_of, state_of}
use Rattle.hc_events.specs.Sendings.{Frame, Named}
use Rattle.hc_events.specs.Steps.{sent_datagram, sent_text}
use Rattle.hc_events.proofs.lemmas.SentBits.{sent-data}
use Rattle.hc_events.proofs.lemmas.SentValues.{sent-values}
use Rattle.hc_images.specs.Packed.{Bytes, Carries, Packed, sent_bytes, slot_bytes}
use Rattle.hc_images.proofs.lemmas.Bits.{HasBit, HasNoBit, bit-lies, carried-bit, sent-there}
use Rattle.hc_images.proofs.lemmas.LaidOut.{length-of_line, place-of_line}
use Rattle.hc_sendings.specs.Texts.{datagram_with_data, frame_text_of}
use Rattle.hc_core.specs.Values.{HoldsValues}

-- the data that the record sends are bytes

byte_small : (bit : ℕ → ℕ) (n : ℕ) → ((j : ℕ) → j < 8 → bit (8 * n + j) < 2) → byte_of bit n < 256
unfolding number_of
byte_small bit n small = search rules

bytes-sent : (history : History) (task d : ℕ) → AreBytes (sent_data history task d)
bytes-sent history task d i inside = search (rules, sent-data, get_or-map-range_with_len, byte_small, bit_of-lt)

-- bit for bit the same

bit_same : (history : History) (bytes : Bytes) (task d k : ℕ) → task < TASKS → d < MOST_DATAGRAMS → Carries (table_of (line_of history)) (value_bit history) bytes → IsSentData history task d (sent_data history task d)
    → k < 8 * length (sent_data history task d) → HasBit (table_of (line_of history)) task d k ⊎ HasNoBit (table_of (line_of history)) task d k
    → bit_of (slot_bytes bytes task d) k ≡ bit_of (sent_data history task d) k
bit_same history bytes task d k low few carries sent below (inl has) =
    let place = has.place in
    let inside : k - place.bit < place.bits = omega arith in
    let whole : place.bit + (k - place.bit) ≡ k = omega arith in
    carried-bit (table_of (line_of history)) (value_bit history) bytes task d k carries has
    ∙ sym (sent.values has.variable (k - place.bit) place
    (record {
      there = sym (place-of_line (line_of history) has.variable) ∙ has.is.there;
      task_is = has.lies.task_is;
      datagram = has.lies.datagram;
      output = has.is.output;
    })
    inside)
    ∙ ap (bit_of (sent_data history task d)) whole
bit_same history bytes task d k low few carries sent below (inr none) =
    carries.others task d k low few none
    ∙ sym (sent.others k below
    (λ variable place is lies. none variable place (record { there = place-of_line (line_of history) variable ∙ is.there; output = is.output })
    (record { task_is = is.task_is; datagram = is.datagram; from = lies.from; below = lies.below })))

data-same : (history : History) (bytes : Bytes) (task d : ℕ) → lowest_fault (groups_of (state_of history).groups) ≡ None → task < TASKS → d < MOST_DATAGRAMS → IsInLine (line_of history) (task, d)
    → Carries (table_of (line_of history)) (value_bit history) bytes → slot_bytes bytes task d ≡ sent_data history task d
data-same history bytes task d project low few is_placed carries =
    let sent = sent-values history task d project low in
    same_bytes_from_bits (slot_bytes bytes task d) (sent_data history task d) (carries.all_bytes task d low few) (bytes-sent history task d)
    (carries.sizes task d low few ∙ length-of_line (line_of history) task d low is_placed ∙ sym sent.size)
    (λ k below. bit_same history bytes task d k low few carries sent
    (subst (λ n. k < 8 * n) (carries.sizes task d low few ∙ length-of_line (line_of history) task d low is_placed ∙ sym sent.size) below)
    (bit-lies (table_of (line_of history)) task d k (table-ascends (state_of history).groups project)))

-- the sent data of each datagram of the line

pub data-sent : (history : History) (packed : Packed) (task d : ℕ) → lowest_fault (groups_of (state_of history).groups) ≡ None → over_limit_task (line_of history) ≡ None → task < TASKS → IsInLine (line_of history) (task, d)
    → HoldsValues history packed → sent_bytes packed task d ≡ sent_data history task d
data-sent history packed task d project uncrowded low is_placed holds =
    let most : datagram_count (task_places task (line_of history)) ≤ MOST_DATAGRAMS = uncrowded-few (line_of history) task uncrowded low in
    let few : d < MOST_DATAGRAMS = omega (arith, is_placed) in
    sent-there packed task d low few ∙ data-same history packed.sent task d project low few is_placed holds.sent

-- a frame's text is the one that the record sends

carried_same : (history : History) (packed : Packed) (names : List Named) → lowest_fault (groups_of (state_of history).groups) ≡ None → over_limit_task (line_of history) ≡ None
    → All (λ named. named.0 < TASKS) names → All (IsInLine (line_of history)) names → HoldsValues history packed
    → map (datagram_with_data (sent_bytes packed)) names ≡ map (sent_datagram history) names
carried_same history packed [] project uncrowded low is_placed holds = refl
carried_same history packed (named ∷ names) project uncrowded low is_placed holds =
    ap (λ bytes. lrw (logical_address named.0 named.1) bytes ∷ map (datagram_with_data (sent_bytes packed)) names)
    (data-sent history packed named.0 named.1 project uncrowded (All-head (λ (n : Named). n.0 < TASKS) named names low) (All-head (IsInLine (line_of history)) named names is_placed) holds)
    ∙ ap (λ rest. sent_datagram history named ∷ rest)
    (carried_same history packed names project uncrowded (All-tail (λ (n : Named). n.0 < TASKS) named names low) (All-tail (IsInLine (line_of history)) named names is_placed) holds)

pub text-sent : (history : History) (packed : Packed) (frame : Frame) → lowest_fault (groups_of (state_of history).groups) ≡ None → over_limit_task (line_of history) ≡ None
    → All (λ named. named.0 < TASKS) frame.datagrams → All (IsInLine (line_of history)) frame.datagrams → HoldsValues history packed
    → frame_text_of (sent_bytes packed) frame ≡ sent_text history frame
text-sent history packed frame project uncrowded low is_placed holds = search (rules, carried_same)
