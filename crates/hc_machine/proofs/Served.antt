-- Datagrams that are served one after another.
use Rattle.std.proofs.Common.{◌≡◌, ℕ, ◌+◌, ◌-◌, ◌*◌, ◌%◌, ◌<◌, ◌≤◌, Bool, true, false, List, [], ◌∷◌, ◌++◌, length, take, drop, refl, sym, ap, ap₂, ◌∙◌, append-nil, arith, length-append, length-take, length-drop}
use Rattle.std.specs.Prelude.{if◌then◌else◌, slice_range}
use Rattle.std.specs.Int.{w16, w32, to_le_bytes}
use Rattle.std.proofs.lemmas.Bool.Decides.{nat_tests}
use Rattle.std.proofs.lemmas.List.{take_at, get_or-take}
use Rattle.std.proofs.lemmas.List.Elements.{All-head, All-tail}
use Rattle.std.proofs.lemmas.List.FromFn.{length-map-range_with_len}
use Rattle.hc_frames.specs.declared.commands.Command.{Command}
use Rattle.hc_frames.specs.declared.commands.Command.TheVariants.{Aprd, Apwr, Fpwr, Lrw}
use Rattle.hc_frames.specs.Arrived.{datagram_carried, data_size, is_whole, word_at}
use Rattle.hc_frames.specs.FrameText.{WireDatagram, carried_text, carried_texts, has_more}
use Rattle.hc_frames.specs.Returned.{FitsLine}
use Rattle.hc_frames.proofs.lemmas.Opening.{drop_twice}
use Rattle.hc_frames.proofs.lemmas.Readings.{after_it-read, carried-read, size-read}
use Rattle.hc_frames.proofs.lemmas.Replaced.{first_text}
use Rattle.hc_frames.proofs.lemmas.Texts.{length-carried_text}
use Rattle.hc_machine.specs.Commands.{address_after, counter_added, data_after, memory_after_command, is_at_position, memory_after_datagram, register_of, served}
use Rattle.hc_machine.specs.Frames.{memory_after_datagrams, all_served}
use Rattle.hc_machine.specs.Logical.{logical_data}
use Rattle.hc_machine.specs.Memory.{bytes_with, with_part}
use Rattle.hc_machine.specs.Rewriting.{ServesTexts, rewritten}
use Rattle.hc_machine.proofs.Rewritten.{text-rewritten}

-- the number of data bytes is in the head
pub size-taken : (n : ℕ) (bytes : List ℕ) → 8 ≤ n → data_size (take n bytes) ≡ data_size bytes
size-taken n bytes long = rw (get_or-take n bytes 6 0 (omega arith), get_or-take n bytes 7 0 (omega arith)) refl

pub whole-short : (bytes : List ℕ) → is_whole bytes ≡ true → data_size bytes ≤ 1486
whole-short bytes whole = grind (arith, nat_tests)

-- data keep their size
length-logical : (memory bytes : List ℕ) (from : ℕ) → length (logical_data memory from bytes) ≡ length bytes
unfolding logical_data bytes_with
length-logical memory bytes from = length-map-range_with_len _ 0 (length bytes)

length-read : (b : Bool) (memory bytes : List ℕ) (register : ℕ) → length memory ≡ 12288 → (b ≡ true → register + length bytes ≤ 12288)
    → length (if b then slice_range memory register (register + length bytes) else bytes) ≡ length bytes
length-read true memory bytes register long within =
    let end : register + length bytes ≤ 12288 = within refl in
    omega (arith, length-take (register + length bytes - register) (drop register memory), length-drop register memory)
length-read false memory bytes register long within = refl

pub length-data : (command : Command) (memory : List ℕ) (address : ℕ) (bytes : List ℕ) → length memory ≡ 12288 → length (data_after command memory address bytes) ≡ length bytes
length-data Aprd memory address bytes long = length-read (is_at_position address (length bytes)) memory bytes (register_of address) long (λ e. grind (arith, nat_tests))
length-data Apwr memory address bytes long = refl
length-data Fpwr memory address bytes long = refl
length-data Lrw memory address bytes long = length-logical memory bytes (8 * address)

more-served : (memory : List ℕ) (ds : List WireDatagram) → has_more (all_served memory ds) ≡ has_more ds
more-served memory [] = refl
more-served memory (d ∷ ds) = refl

served-text : (serial : ℕ) (more : Bool) (memory : List ℕ) (d : WireDatagram) → length memory ≡ 12288 → rewritten (carried_text serial more d) (served memory d) ≡ carried_text serial more (served memory d)
unfolding served
served-text serial more memory d long = text-rewritten serial more d (served memory d) refl refl (length-data d.command memory d.address d.bytes long)

-- a datagram's fields are read, and its address, data and counter are put back
module _ (memory old : List ℕ) (command : Command) (address : ℕ) (exact : length old ≡ 12 + data_size old)
    (is_command : command ≡ (datagram_carried old).command) (is_address : address ≡ (datagram_carried old).address) where
  abbrev taken : List ℕ
  taken = take (length old - 2 - 10) (drop 10 old)

  taken-data : taken ≡ (datagram_carried old).bytes
  taken-data = let count : length old - 2 - 10 ≡ 10 + data_size old - 10 = omega arith in ap (λ (n : ℕ). take n (drop 10 old)) count

  pub unchanged-in-place : (memory' : List ℕ) → memory' ≡ memory_after_command command memory address taken → memory' ≡ memory_after_datagram memory (datagram_carried old)
  unfolding memory_after_datagram
  unchanged-in-place memory' is =
      is ∙ ap (λ (c : Command). memory_after_command c memory address taken) is_command ∙ ap (λ (a : ℕ). memory_after_command (datagram_carried old).command memory a taken) is_address
      ∙ ap (memory_after_command (datagram_carried old).command memory (datagram_carried old).address) taken-data

  pub served-in-place : (counter count address' : ℕ) (data' mid last : List ℕ) → counter ≡ word_at old (length old - 2)
      → data' ≡ data_after command memory address taken → length data' ≡ length old - 2 - 10
      → count ≡ counter_added command memory address (length taken) → address' ≡ address_after command address
      → mid ≡ with_part 2 (to_le_bytes w32 address') (take 10 old ++ (data' ++ drop (length old - 2 - 10) (drop 10 old)))
      → last ≡ with_part (length old - 2) (to_le_bytes w16 ((counter + count) % 65536)) mid
      → last ≡ rewritten old (served memory (datagram_carried old))
  unfolding served
  served-in-place counter count address' data' mid last is_counter is_data long is_count is_next is_mid is_last =
      let d : WireDatagram = datagram_carried old in
      let all : ℕ → ℕ → ℕ → List ℕ → List ℕ = λ end k a x. with_part end (to_le_bytes w16 k) (with_part 2 (to_le_bytes w32 a) (with_part 10 x old)) in
      let data_is : data' ≡ data_after d.command memory d.address d.bytes =
      is_data ∙ ap (λ (c : Command). data_after c memory address taken) is_command ∙ ap (λ (a : ℕ). data_after d.command memory a taken) is_address
      ∙ ap (data_after d.command memory d.address) taken-data in
      let count_is : count ≡ counter_added d.command memory d.address (length d.bytes) =
      is_count ∙ ap (λ (c : Command). counter_added c memory address (length taken)) is_command ∙ ap (λ (a : ℕ). counter_added d.command memory a (length taken)) is_address
      ∙ ap (λ (xs : List ℕ). counter_added d.command memory d.address (length xs)) taken-data in
      let next_is : address' ≡ address_after d.command d.address = is_next ∙ ap (λ (c : Command). address_after c address) is_command ∙ ap (address_after d.command) is_address in
      let end_is : length old - 2 ≡ 10 + length data' = omega arith in
      let end_size : length old - 2 ≡ 10 + data_size old = omega arith in
      let counter_is : counter ≡ d.counter = is_counter ∙ ap (word_at old) end_size in
      let rest : 10 + (length old - 2 - 10) ≡ 10 + length data' = omega arith in
      let put : take 10 old ++ (data' ++ drop (length old - 2 - 10) (drop 10 old)) ≡ with_part 10 data' old =
      ap (λ (xs : List ℕ). take 10 old ++ (data' ++ xs)) (drop_twice 10 (length old - 2 - 10) old ∙ ap (λ (n : ℕ). drop n old) rest) in
      is_last
      ∙ ap (with_part (length old - 2) (to_le_bytes w16 ((counter + count) % 65536))) (is_mid ∙ ap (with_part 2 (to_le_bytes w32 address')) put)
      ∙ ap (λ (n : ℕ). all n ((counter + count) % 65536) address' data') end_is
      ∙ ap (λ (x : List ℕ). all (10 + length x) ((counter + count) % 65536) address' x) data_is
      ∙ ap (λ (a : ℕ). all (10 + length (data_after d.command memory d.address d.bytes)) ((counter + count) % 65536) a (data_after d.command memory d.address d.bytes)) next_is
      ∙ ap₂ (λ (k n : ℕ). all (10 + length (data_after d.command memory d.address d.bytes)) ((k + n) % 65536) (address_after d.command d.address) (data_after d.command memory d.address d.bytes)) counter_is count_is

-- the first datagram is served, then the others
pub texts-served : (memory unchanged_first unchanged_last region first rest first' rest' : List ℕ) → length memory ≡ 12288 → 0 < length region
    → first ≡ take (12 + data_size region) region → rest ≡ drop (12 + data_size region) region
    → first' ≡ rewritten first (served memory (datagram_carried first)) → unchanged_first ≡ memory_after_datagram memory (datagram_carried first)
    → ServesTexts unchanged_first unchanged_last rest rest' → ServesTexts memory unchanged_last region (first' ++ rest')
texts-served memory unchanged_first unchanged_last region first rest first' rest' long some is_first is_rest is_served is_unchanged others serial [] fits text = absurd (omega (arith, ap length text))
texts-served memory unchanged_first unchanged_last region first rest first' rest' long some is_first is_rest is_served is_unchanged others serial (d ∷ ds) fits text =
    let more : Bool = has_more ds in
    let here : List ℕ = carried_text serial more d in
    let after_it : List ℕ = carried_texts serial ds in
    let good : FitsLine d = All-head FitsLine d ds fits in
    let region_is : region ≡ here ++ after_it = text ∙ first_text serial d ds in
    let size : 12 + data_size region ≡ length here = ap (λ (xs : List ℕ). 12 + data_size xs) region_is ∙ ap (λ (n : ℕ). 12 + n) (size-read serial more d after_it good) ∙ sym (length-carried_text serial more d) in
    let here_first : first ≡ here = is_first ∙ ap (λ (n : ℕ). take n region) size ∙ ap (take (length here)) region_is ∙ take_at here after_it (length here) refl in
    let here_rest : rest ≡ after_it = is_rest ∙ ap (λ (xs : List ℕ). drop (12 + data_size xs) xs) region_is ∙ after_it-read serial more d after_it good in
    let read : datagram_carried first ≡ d = ap datagram_carried (here_first ∙ sym (append-nil here)) ∙ carried-read serial more d [] good in
    let unchanged_is : unchanged_first ≡ memory_after_datagram memory d = is_unchanged ∙ ap (memory_after_datagram memory) read in
    let done : first' ≡ carried_text serial more (served memory d) =
    is_served ∙ ap (λ (xs : List ℕ). rewritten xs (served memory (datagram_carried first))) here_first ∙ ap (λ (c : WireDatagram). rewritten here (served memory c)) read ∙ served-text serial more memory d long in
    let left = others serial ds (All-tail FitsLine d ds fits) here_rest in
    let left_text : rest' ≡ carried_texts serial (all_served (memory_after_datagram memory d) ds) = left.0 ∙ ap (λ (m : List ℕ). carried_texts serial (all_served m ds)) unchanged_is in (
      ap₂ (λ (xs ys : List ℕ). xs ++ ys) done left_text
          ∙ ap (λ (b : Bool). carried_text serial b (served memory d) ++ carried_texts serial (all_served (memory_after_datagram memory d) ds)) (sym (more-served (memory_after_datagram memory d) ds))
          ∙ sym (first_text serial (served memory d) (all_served (memory_after_datagram memory d) ds)),
      left.1 ∙ ap (λ (m : List ℕ). memory_after_datagrams m ds) unchanged_is,
    )

pub none-served : (memory region : List ℕ) → length region ≡ 0 → ServesTexts memory memory region region
none-served memory region none serial [] fits text = (text, refl)
none-served memory region none serial (d ∷ ds) fits text =
    let long : length (carried_text serial (has_more ds) d ++ carried_texts serial ds) ≡ 0 = ap length (sym (text ∙ first_text serial d ds)) ∙ none in
    absurd (omega (arith, length-carried_text serial (has_more ds) d, length-append (carried_text serial (has_more ds) d) (carried_texts serial ds)))
