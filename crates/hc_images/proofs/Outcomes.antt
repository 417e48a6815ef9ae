-- What the bytes carry after each call, by what they carried before.
use Rattle.std.proofs.Common.{◌≡◌, ◌≢◌, inl, inr, ℕ, ◌+◌, ◌*◌, ◌/◌, ◌%◌, ◌<◌, ◌≤◌, ◌==◌, Bool, true, false, cond, get_or, List, [], drop, length, min, sym, ap, ◌∙◌, subst, arith, Option, Some, rules}
use Rattle.std.specs.Prelude.{slice_get}
use Rattle.std.specs.Option.{option_and_then, option_map_or}
use Rattle.std.proofs.lemmas.Bool.{cases_eq, cases_lt, eq-eqb, ne_eqb}
use Rattle.std.proofs.lemmas.List.{get_or_past, length-replicate}
use Rattle.std.proofs.lemmas.Option.{slice_get_past}
use Rattle.hc_bits.specs.Bits.{AreBytes, bit_of}
use Rattle.hc_bits.proofs.lemmas.Places.{bit_of-drop, bit_of-zeros}
use Rattle.hc_bits.proofs.lemmas.Bits.{bit_of-lt}
use Rattle.hc_records.specs.declared.limits.TheConstants.{MOST_DATAGRAMS, TASKS}
use Rattle.hc_records.specs.Image.{VariablePlace}
use Rattle.hc_places.specs.Table.{Table, TaskTable, datagrams_in, place_in}
use Rattle.hc_images.specs.Packed.{Bytes, Carries, HasSizes, IsLaidOut, IsOutput, MasksFitBytes, length_in, offset_in, slot_bytes}
use Rattle.hc_images.specs.Pieces.{AreBlank, Posts}
use Rattle.hc_images.specs.Values.{table_image_bit, posted_values}
use Rattle.hc_images.proofs.Masks.{zero-bytes}

-- each place below 128 is a datagram's

at_datagram : (P : ℕ → Type 0) → ((task d : ℕ) → task < TASKS → d < MOST_DATAGRAMS → P (MOST_DATAGRAMS * task + d)) → (n : ℕ) → n < MOST_DATAGRAMS * TASKS → P n
at_datagram P each n low =
    let whole : MOST_DATAGRAMS * (n / MOST_DATAGRAMS) + n % MOST_DATAGRAMS ≡ n = omega arith in
    let task : n / MOST_DATAGRAMS < TASKS = omega arith in
    let d : n % MOST_DATAGRAMS < MOST_DATAGRAMS = omega arith in
    subst P whole (each (n / MOST_DATAGRAMS) (n % MOST_DATAGRAMS) task d)

both_past : (a b : Bytes) (n : ℕ) → length a ≤ n → length b ≤ n → length (get_or b n []) ≡ length (get_or a n [])
both_past a b n history history' = search (rules, get_or_past)

pub are-whole : (table : Table) (sent masks : Bytes) → length sent ≡ MOST_DATAGRAMS * TASKS → length masks ≡ MOST_DATAGRAMS * TASKS → HasSizes table sent → HasSizes table masks
    → MasksFitBytes (record { sent = sent; masks = masks })
are-whole table sent masks all all' sizes sizes' = record {
  sent = all;
  masks = all';
  sizes = λ n. elim (cases_lt n (MOST_DATAGRAMS * TASKS)) [
    | inl low ↦
        at_datagram (λ m. length (get_or masks m []) ≡ length (get_or sent m []))
        (λ task d t e. sizes' task d t e ∙ sym (sizes task d t e)) n low
    | inr history ↦ both_past sent masks n (omega arith) (omega arith)
  ];
}

-- zeros carry zeros

pub blank-bit : (table : Table) (bytes : Bytes) (k n : ℕ) → AreBlank table bytes → bit_of (get_or bytes n []) k ≡ 0
blank-bit table bytes k n blank = elim (cases_lt n (MOST_DATAGRAMS * TASKS)) [
  | inl low ↦
      at_datagram (λ m. bit_of (get_or bytes m []) k ≡ 0)
      (λ task d t e. ap (λ own. bit_of own k) (blank.zeros task d t e) ∙ bit_of-zeros (length_in table task d) k) n low
  | inr history ↦
      ap (λ own. bit_of own k) (get_or_past bytes n [] (omega arith)) ∙ bit_of-zeros 0 k
]

pub blank-sizes : (table : Table) (bytes : Bytes) → AreBlank table bytes → HasSizes table bytes
blank-sizes table bytes blank = λ task d t e. ap (λ own. length own) (blank.zeros task d t e) ∙ length-replicate (length_in table task d) 0

pub blank-carries : (table : Table) (bytes : Bytes) → AreBlank table bytes → Carries table (λ variable k. 0) bytes
blank-carries table bytes blank = record {
  sizes = blank-sizes table bytes blank;
  all_bytes = λ task d t e. subst AreBytes (sym (blank.zeros task d t e)) (zero-bytes (length_in table task d));
  values = λ variable k place is low. blank-bit table bytes (place.bit + k) (MOST_DATAGRAMS * place.task + place.datagram) blank;
  others = λ task d k t e misses. blank-bit table bytes k (MOST_DATAGRAMS * task + d) blank;
}

-- after a post

under_one : (b m : ℕ) → b < 2 → m ≡ 1 → min b m ≡ b
under_one b m small one = omega arith

under_zero : (b m : ℕ) → m ≡ 0 → min b m ≡ 0
under_zero b m none = omega arith

no_datagram : (found : Option TaskTable) (d : ℕ) → length (option_map_or (λ (t : TaskTable). t.datagrams) found []) ≤ d
    → option_map_or (λ datagram. datagram.length) (option_and_then (λ (t : TaskTable). slice_get t.datagrams d) found) 0 ≡ 0
no_datagram found d history = search (rules, slice_get_past)

nothing_there : (table : Table) (task d : ℕ) → length (datagrams_in table task) ≤ d → length_in table task d ≡ 0
nothing_there table task d history = no_datagram (slice_get table.tasks task) d history

abbrev TakesPost : Table → Bytes → Bytes → List ℕ → ℕ → Type 0
TakesPost table new masks bytes task =
    (d k : ℕ) → d < length (datagrams_in table task)
    → bit_of (slot_bytes new task d) k ≡ min (bit_of (drop (offset_in table task d) bytes) k) (bit_of (slot_bytes masks task d) k)

posted_there : (table : Table) (task : ℕ) (bytes : List ℕ) (value : ℕ → ℕ → ℕ) (variable k : ℕ) (place : VariablePlace) (own : Bool) → place_in table variable ≡ Some place → (place.task == task) ≡ own
    → posted_values table task bytes value variable k ≡ cond own (bit_of bytes (table_image_bit table place k)) (value variable k)
posted_there table task bytes value variable k place own there is = search rules

post_taken : (table : Table) (new masks : Bytes) (bytes : List ℕ) (variable k : ℕ) (place : VariablePlace) → IsLaidOut table → TakesPost table new masks bytes place.task
    → Carries table (λ v j. 1) masks → IsOutput table variable place → k < place.bits
    → bit_of (slot_bytes new place.task place.datagram) (place.bit + k) ≡ bit_of bytes (table_image_bit table place k)
post_taken table new masks bytes variable k place out takes ones is low = elim (cases_lt place.datagram (length (datagrams_in table place.task))) [
  | inl inside ↦
      let offset = offset_in table place.task place.datagram in
      let order : 8 * offset + (place.bit + k) ≡ 8 * offset + place.bit + k = omega arith in
      takes place.datagram (place.bit + k) inside
      ∙ under_one (bit_of (drop offset bytes) (place.bit + k)) (bit_of (slot_bytes masks place.task place.datagram) (place.bit + k)) (bit_of-lt (drop offset bytes) (place.bit + k)) (ones.values variable k place is low)
      ∙ bit_of-drop bytes offset (place.bit + k)
      ∙ ap (bit_of bytes) order
  | inr history ↦
      let lies = out.inside variable place is.there in
      let none : length_in table place.task place.datagram ≡ 0 = nothing_there table place.task place.datagram history in
      absurd (omega arith)
]

pub posted-carries : (table : Table) (task : ℕ) (bytes : List ℕ) (value : ℕ → ℕ → ℕ) (sent new masks : Bytes) → IsLaidOut table → Carries table value sent → Carries table (λ v j. 1) masks
    → Posts table sent new masks task bytes → Carries table (posted_values table task bytes value) new
posted-carries table task bytes value sent new masks out carries ones posts = record {
  sizes = λ t d low few. posts.sizes (MOST_DATAGRAMS * t + d) ∙ carries.sizes t d low few;
  all_bytes = search (rules, cases_eq, cases_lt);
  values = λ variable k place is low. elim (cases_eq place.task task) [
    | inl same ↦
        post_taken table new masks bytes variable k place out (subst (TakesPost table new masks bytes) (sym same) posts.own) ones is low
        ∙ sym (posted_there table task bytes value variable k place true is.there (eq-eqb place.task task same))
    | inr other ↦
        ap (λ own. bit_of own (place.bit + k)) (posts.rest place.task place.datagram (out.inside variable place is.there).datagram (inl other))
        ∙ carries.values variable k place is low
        ∙ sym (posted_there table task bytes value variable k place false is.there (ne_eqb place.task task other))
  ];
  others = search (rules, cases_eq, cases_lt, under_zero);
}
