-- What is read of datagrams and frames that were spelled.
use Rattle.std.proofs.Common.{◌≡◌, ◌==◌, ℕ, ◌+◌, ◌*◌, ◌/◌, ◌%◌, ◌<◌, ◌≤◌, Bool, true, false, ◌&&◌, ◌||◌, not, All, nat_lt, nat_le, List, [], ◌∷◌, ◌++◌, length, take, drop, map, refl, sym, ap, ◌∙◌, subst, append_assoc, append-nil, arith, length-append, add-zero, Option, Some, None, unwrap_or, is_none}
use Rattle.std.specs.Prelude.{slice_index}
use Rattle.std.specs.List.{list_all, list_any, slice_range}
use Rattle.std.specs.Int.{w16, to_le_bytes}
use Rattle.std.proofs.Math.Seq.{drop-append_seam}
use Rattle.std.proofs.lemmas.List.{get_or-append-add, take_at}
use Rattle.std.proofs.lemmas.List.Elements.{All-head, All-tail}
use Rattle.std.proofs.lemmas.List.Sums.{sum_by-cons}
use Rattle.std.proofs.lemmas.Bool.Decides.{nat_tests}
use Rattle.hc_frames.specs.declared.commands.Command.{Command}
use Rattle.hc_frames.specs.declared.commands.Command.TheVariants.{Aprd, Apwr, Fpwr, Lrw}
use Rattle.hc_frames.specs.declared.limits.TheConstants.{MAX_DATA}
use Rattle.hc_frames.specs.Commands.{code_of, command_of}
use Rattle.hc_frames.specs.Laws.{CanBeCarried, CarriedFramesAreRead}
use Rattle.hc_frames.specs.Sizes.{text_size}
use Rattle.hc_frames.specs.FrameText.{WireDatagram, carried_frame, carried_head, carried_text, carried_texts, length_field}
use Rattle.hc_frames.specs.Arrived.{datagram_carried, circulates, data_size, datagram_bytes, datagram_tails, fault_in, fill_region, reading_of, region, serial_in, has_other_index, is_unknown, is_whole, long_at, more_at_end, more_between, says_more, word_at}
use Rattle.hc_frames.specs.Returned.{FitsLine}
use Rattle.hc_frames.proofs.lemmas.Datagrams.{datagrams-none, datagrams-some, whole-long}
use Rattle.hc_frames.proofs.lemmas.Texts.{carried-cut, length-carried_text, length-carried_texts}
use Rattle.hc_frames.proofs.Faults.{no_fault}

-- numbers in two and in four bytes
word_back : (n : ℕ) → n < 65536 → n % 256 + 256 * (n / 256 % 256) ≡ n
word_back n fits = omega arith

long_back : (n : ℕ) → n < 4294967296 → n % 256 + 256 * (n / 256 % 256) + 65536 * (n / 65536 % 256 + 256 * (n / 16777216 % 256)) ≡ n
long_back n fits = omega arith

field_low : (more : Bool) (n : ℕ) → n ≤ 1486 → length_field n more < 65536
field_low true n h = omega arith
field_low false n h = omega arith

field_size : (more : Bool) (n : ℕ) → n ≤ 1486 → length_field n more % 2048 ≡ n
field_size true n h = omega arith
field_size false n h = omega arith

field_spare : (more : Bool) (n : ℕ) → n ≤ 1486 → length_field n more / 2048 % 8 ≡ 0
field_spare true n h = omega arith
field_spare false n h = omega arith

field_turn : (more : Bool) (n : ℕ) → n ≤ 1486 → length_field n more / 16384 % 2 ≡ 0
field_turn true n h = omega arith
field_turn false n h = omega arith

field_more : (more : Bool) (n : ℕ) → n ≤ 1486 → nat_le 32768 (length_field n more) ≡ more
field_more true n h = grind (arith, nat_tests)
field_more false n h = grind (arith, nat_tests)

command_back : (command : Command) → command_of (code_of command) ≡ Some command
command_back Aprd = refl
command_back Apwr = refl
command_back Fpwr = refl
command_back Lrw = refl

index_same : (n : ℕ) → not (n == n) ≡ false
index_same n = grind (arith, nat_tests)

module _ (serial : ℕ) (more : Bool) (d : WireDatagram) (after_it : List ℕ) (fits : FitsLine d) where
  abbrev bytes : List ℕ
  bytes = carried_text serial more d ++ after_it

  abbrev field : ℕ
  field = length_field (length d.bytes) more

  field_read : word_at bytes 6 ≡ field
  field_read = word_back field (field_low more (length d.bytes) fits.size)

  pub size-read : data_size bytes ≡ length d.bytes
  size-read = ap (λ (n : ℕ). n % 2048) field_read ∙ field_size more (length d.bytes) fits.size

  pub more-read : says_more bytes ≡ more
  more-read = ap (λ (n : ℕ). nat_le 32768 n) field_read ∙ field_more more (length d.bytes) fits.size

  pub turn-read : circulates bytes ≡ false
  turn-read = ap (λ (n : ℕ). n / 16384 % 2 == 1) field_read ∙ ap (λ (n : ℕ). n == 1) (field_turn more (length d.bytes) fits.size)

  pub unknown-read : is_unknown bytes ≡ false
  unknown-read = ap is_none (command_back d.command)

  pub index-read : has_other_index (serial % 256) bytes ≡ false
  index-read = index_same (serial % 256)

  pub length-bytes : length bytes ≡ 12 + length d.bytes + length after_it
  length-bytes = length-append (carried_text serial more d) after_it ∙ ap (λ (n : ℕ). n + length after_it) (length-carried_text serial more d)

  pub whole-read : is_whole bytes ≡ true
  whole-read =
      whole_from (data_size bytes) (word_at bytes 6 / 2048 % 8) (length bytes) size-read (ap (λ (n : ℕ). n / 2048 % 8) field_read ∙ field_spare more (length d.bytes) fits.size) (omega (arith, length-bytes))
    where
      whole_from : (n spare long : ℕ) → n ≡ length d.bytes → spare ≡ 0 → 12 + length d.bytes ≤ long → (nat_le 1 n && (nat_le n MAX_DATA && ((spare == 0) && nat_le (12 + n) long))) ≡ true
      whole_from n spare long e s l = let filled : 1 ≤ length d.bytes = fits.filled in let most : length d.bytes ≤ 1486 = fits.size in grind (arith, nat_tests)

  pub after_it-read : drop (12 + data_size bytes) bytes ≡ after_it
  after_it-read =
      ap (λ (n : ℕ). drop n bytes) (ap (λ (n : ℕ). 12 + n) size-read ∙ sym (length-carried_text serial more d)) ∙ drop-append_seam (carried_text serial more d) after_it

  -- the ten bytes before the data
  abbrev front : List ℕ
  front = carried_head (serial % 256) d.command d.address (length d.bytes) more d.interrupt

  data_read : slice_range bytes 10 (10 + data_size bytes) ≡ d.bytes
  data_read =
      ap (λ (n : ℕ). slice_range bytes 10 (10 + n)) size-read
      ∙ ap (λ (xs : List ℕ). slice_range xs 10 (10 + length d.bytes)) (carried-cut serial more d after_it)
      ∙ ap (λ (n : ℕ). take n (d.bytes ++ (to_le_bytes w16 d.counter ++ after_it))) (omega arith)
      ∙ take_at d.bytes (to_le_bytes w16 d.counter ++ after_it) (length d.bytes) refl

  byte_after : (i : ℕ) → slice_index bytes (10 + data_size bytes + i) ≡ slice_index (to_le_bytes w16 d.counter ++ after_it) i
  byte_after i =
      let tail : List ℕ = to_le_bytes w16 d.counter ++ after_it in
      let long : length (front ++ d.bytes) ≡ 10 + length d.bytes = length-append front d.bytes in
      ap (λ (n : ℕ). slice_index bytes (10 + n + i)) size-read
      ∙ ap (λ (xs : List ℕ). slice_index xs (10 + length d.bytes + i)) (carried-cut serial more d after_it ∙ sym (append_assoc front d.bytes tail))
      ∙ ap (λ (n : ℕ). slice_index ((front ++ d.bytes) ++ tail) (n + i)) (sym long)
      ∙ get_or-append-add (front ++ d.bytes) tail i 0

  counter_read : word_at bytes (10 + data_size bytes) ≡ d.counter
  counter_read =
      ap (λ (n : ℕ). slice_index bytes n + 256 * slice_index bytes (10 + data_size bytes + 1)) (sym (add-zero (10 + data_size bytes)))
      ∙ ap (λ (n : ℕ). n + 256 * slice_index bytes (10 + data_size bytes + 1)) (byte_after 0)
      ∙ ap (λ (n : ℕ). d.counter % 256 + 256 * n) (byte_after 1)
      ∙ word_back d.counter fits.counter

  address_read : long_at bytes 2 ≡ d.address
  address_read = long_back d.address fits.address

  interrupt_read : word_at bytes 8 ≡ d.interrupt
  interrupt_read = word_back d.interrupt fits.interrupt

  pub carried-read : datagram_carried bytes ≡ d
  carried-read =
      ap (λ (c : Command). record { command = c; address = long_at bytes 2; interrupt = word_at bytes 8; bytes = slice_range bytes 10 (10 + data_size bytes); counter = word_at bytes (10 + data_size bytes) }) (ap (λ (o : Option Command). unwrap_or o Lrw) (command_back d.command))
      ∙ ap (λ (n : ℕ). record { command = d.command; address = n; interrupt = word_at bytes 8; bytes = slice_range bytes 10 (10 + data_size bytes); counter = word_at bytes (10 + data_size bytes) }) address_read
      ∙ ap (λ (n : ℕ). record { command = d.command; address = d.address; interrupt = n; bytes = slice_range bytes 10 (10 + data_size bytes); counter = word_at bytes (10 + data_size bytes) }) interrupt_read
      ∙ ap (λ (xs : List ℕ). record { command = d.command; address = d.address; interrupt = d.interrupt; bytes = xs; counter = word_at bytes (10 + data_size bytes) }) data_read
      ∙ ap (λ (n : ℕ). record { command = d.command; address = d.address; interrupt = d.interrupt; bytes = d.bytes; counter = n }) counter_read

-- a datagram at the front of some bytes, and what is after it
record HeadRead (serial : ℕ) (more : Bool) (d : WireDatagram) (after_it bytes : List ℕ) : Type 0 where
  whole : is_whole bytes ≡ true
  promise : says_more bytes ≡ more
  turn : circulates bytes ≡ false
  unknown : is_unknown bytes ≡ false
  index : has_other_index (serial % 256) bytes ≡ false
  fields : datagram_carried bytes ≡ d
  rest : drop (12 + data_size bytes) bytes ≡ after_it

head_read : (serial : ℕ) (more : Bool) (d : WireDatagram) (after_it : List ℕ) → FitsLine d → HeadRead serial more d after_it (carried_text serial more d ++ after_it)
head_read serial more d after_it fits = record {
  whole = whole-read serial more d after_it fits;
  promise = more-read serial more d after_it fits;
  turn = turn-read serial more d after_it fits;
  unknown = unknown-read serial more d after_it fits;
  index = index-read serial more d after_it fits;
  fields = carried-read serial more d after_it fits;
  rest = after_it-read serial more d after_it fits;
}

abbrev follow : List WireDatagram → Bool
follow [] = false
follow (e ∷ ds) = true

head_of : (serial : ℕ) (d : WireDatagram) (ds : List WireDatagram) → FitsLine d → HeadRead serial (follow ds) d (carried_texts serial ds) (carried_texts serial (d ∷ ds))
head_of serial d [] fits = let P : List ℕ → Type 0 = λ bytes. HeadRead serial false d [] bytes in subst P (append-nil (carried_text serial false d)) (head_read serial false d [] fits)
head_of serial d (e ∷ ds) fits = head_read serial true d (carried_texts serial (e ∷ ds)) fits

-- the bytes from each datagram on
abbrev starts : ℕ → List WireDatagram → List (List ℕ)
starts serial [] = []
starts serial (d ∷ ds) = carried_texts serial (d ∷ ds) ∷ starts serial ds

starts_in : (serial : ℕ) (ds : List WireDatagram) → All FitsLine ds → datagram_tails (carried_texts serial ds) ≡ starts serial ds
starts_in serial [] fits = datagrams-none [] refl
starts_in serial (d ∷ ds) fits =
    let bytes : List ℕ = carried_texts serial (d ∷ ds) in
    let head = head_of serial d ds (All-head FitsLine d ds fits) in
    let long : 12 + data_size bytes ≤ length bytes = whole-long bytes head.whole in
    datagrams-some bytes (omega arith)
    ∙ ap (λ (rest : List ℕ). bytes ∷ datagram_tails rest) head.rest
    ∙ ap (λ (ds : List (List ℕ)). bytes ∷ ds) (starts_in serial ds (All-tail FitsLine d ds fits))

all_whole : (serial : ℕ) (ds : List WireDatagram) → All FitsLine ds → list_all is_whole (starts serial ds) ≡ true
all_whole serial [] fits = refl
all_whole serial (d ∷ ds) fits = ap (λ (b : Bool). b && list_all is_whole (starts serial ds)) (head_of serial d ds (All-head FitsLine d ds fits)).whole ∙ all_whole serial ds (All-tail FitsLine d ds fits)

all_promised : (serial : ℕ) (ds : List WireDatagram) → All FitsLine ds → more_between (starts serial ds) ≡ true
all_promised serial [] fits = refl
all_promised serial (d ∷ []) fits = refl
all_promised serial (d ∷ e ∷ ds) fits = ap (λ (b : Bool). b && more_between (starts serial (e ∷ ds))) (head_of serial d (e ∷ ds) (All-head FitsLine d (e ∷ ds) fits)).promise ∙ all_promised serial (e ∷ ds) (All-tail FitsLine d (e ∷ ds) fits)

none_promised : (serial : ℕ) (ds : List WireDatagram) → All FitsLine ds → more_at_end (starts serial ds) ≡ false
none_promised serial [] fits = refl
none_promised serial (d ∷ []) fits = (head_of serial d [] (All-head FitsLine d [] fits)).promise
none_promised serial (d ∷ e ∷ ds) fits = none_promised serial (e ∷ ds) (All-tail FitsLine d (e ∷ ds) fits)

none_turned : (serial : ℕ) (ds : List WireDatagram) → All FitsLine ds → list_any circulates (starts serial ds) ≡ false
none_turned serial [] fits = refl
none_turned serial (d ∷ ds) fits = ap (λ (b : Bool). b || list_any circulates (starts serial ds)) (head_of serial d ds (All-head FitsLine d ds fits)).turn ∙ none_turned serial ds (All-tail FitsLine d ds fits)

none_unknown : (serial : ℕ) (ds : List WireDatagram) → All FitsLine ds → list_any is_unknown (starts serial ds) ≡ false
none_unknown serial [] fits = refl
none_unknown serial (d ∷ ds) fits = ap (λ (b : Bool). b || list_any is_unknown (starts serial ds)) (head_of serial d ds (All-head FitsLine d ds fits)).unknown ∙ none_unknown serial ds (All-tail FitsLine d ds fits)

none_other : (serial : ℕ) (ds : List WireDatagram) → All FitsLine ds → list_any (has_other_index (serial % 256)) (starts serial ds) ≡ false
none_other serial [] fits = refl
none_other serial (d ∷ ds) fits = ap (λ (b : Bool). b || list_any (has_other_index (serial % 256)) (starts serial ds)) (head_of serial d ds (All-head FitsLine d ds fits)).index ∙ none_other serial ds (All-tail FitsLine d ds fits)

all_carried : (serial : ℕ) (ds : List WireDatagram) → All FitsLine ds → map datagram_carried (starts serial ds) ≡ ds
all_carried serial [] fits = refl
all_carried serial (d ∷ ds) fits = ap (λ (c : WireDatagram). c ∷ map datagram_carried (starts serial ds)) (head_of serial d ds (All-head FitsLine d ds fits)).fields ∙ ap (λ (cs : List WireDatagram). d ∷ cs) (all_carried serial ds (All-tail FitsLine d ds fits))

pub parts-read : (serial : ℕ) (ds : List WireDatagram) → All FitsLine ds → map datagram_carried (datagram_tails (carried_texts serial ds)) ≡ ds
parts-read serial ds fits = ap (map datagram_carried) (starts_in serial ds fits) ∙ all_carried serial ds fits

less : (m n : ℕ) → m < n → nat_lt m n ≡ true
less m n h = grind (arith, nat_tests)

filled_by : (serial : ℕ) (ds : List WireDatagram) → All FitsLine ds → 0 < length ds → fill_region (datagram_tails (carried_texts serial ds)) ≡ true
filled_by serial [] fits some = absurd (omega arith)
filled_by serial (d ∷ ds) fits some =
    ap fill_region (starts_in serial (d ∷ ds) fits)
    ∙ ap (λ (b : Bool). b && (list_all is_whole (starts serial (d ∷ ds)) && more_between (starts serial (d ∷ ds)))) (less 0 (length (starts serial (d ∷ ds))) (omega arith))
    ∙ ap (λ (b : Bool). b && more_between (starts serial (d ∷ ds))) (all_whole serial (d ∷ ds) fits)
    ∙ all_promised serial (d ∷ ds) fits

serial_back : (n : ℕ) → n < 1099511627776 → n % 256 + 256 * (n / 256 % 256 + 256 * (n / 65536 % 256 + 256 * (n / 16777216 % 256 + 256 * (n / 4294967296 % 256)))) ≡ n
serial_back n low = omega arith

header_type : (n : ℕ) → n ≤ 1498 → (n + 4096) / 2048 ≡ 2
header_type n h = omega arith

header_size : (n : ℕ) → n ≤ 1498 → (n + 4096) % 2048 ≡ n
header_size n h = omega arith

least : (ds : List WireDatagram) → All FitsLine ds → 0 < length ds → 13 ≤ text_size ds
least [] fits some = absurd (omega arith)
least (d ∷ ds) fits some = let filled : 1 ≤ length d.bytes = (All-head FitsLine d ds fits).filled in omega (arith, sum_by-cons (λ (x : WireDatagram). 12 + length x.bytes) d ds)

not_less : (m n : ℕ) → n ≤ m → nat_lt m n ≡ false
not_less m n h = grind (arith, nat_tests)

module _ (a b c d e f first serial : ℕ) (parts : List WireDatagram) (after_it : List ℕ) (can : CanBeCarried serial parts) where
  abbrev frame : List ℕ
  frame = carried_frame (a ∷ b ∷ c ∷ d ∷ e ∷ f ∷ []) first serial parts after_it

  abbrev text : List ℕ
  text = carried_texts serial parts

  size_is : length text ≡ text_size parts
  size_is = length-carried_texts serial parts

  most : length text ≤ 1498
  most = let within : text_size parts ≤ 1498 = can.within in omega (arith, size_is)

  header_read : word_at frame 14 ≡ length text + 4096
  header_read = let low : length text ≤ 1498 = most in word_back (length text + 4096) (omega arith)

  bytes_read : datagram_bytes frame ≡ length text
  bytes_read = ap (λ (n : ℕ). n % 2048) header_read ∙ header_size (length text) most

  region_read : region frame ≡ text
  region_read = ap (λ (n : ℕ). take n (text ++ after_it)) bytes_read ∙ take_at text after_it (length text) refl

  serial_read : serial_in frame ≡ serial
  serial_read = serial_back serial can.low

  long_frame : 16 + length text ≤ length frame
  long_frame = omega (arith, length-append text after_it)

  pub six-read : (fault_in frame ≡ None) × (reading_of frame ≡ record { serial = serial; parts = parts })
  six-read =
      let filled : fill_region (datagram_tails (region frame)) ≡ true = ap (λ (bytes : List ℕ). fill_region (datagram_tails bytes)) region_read ∙ filled_by serial parts can.fits can.some in
      let thirteen : 13 ≤ text_size parts = least parts can.fits can.some in
      let size : length text ≡ text_size parts = size_is in
      let long : 16 + length text ≤ length frame = long_frame in
      let count : datagram_bytes frame ≡ length text = bytes_read in
      let within : length text ≤ 1498 = most in (
        no_fault frame
            (not_less (length frame) 28 (omega arith))
            refl
            (ap (λ (n : ℕ). not (n / 2048 == 2)) header_read ∙ ap (λ (n : ℕ). not (n == 2)) (header_type (length text) most))
            (ap (λ (x : Bool). x || (nat_lt (length frame) (16 + datagram_bytes frame) || not (fill_region (datagram_tails (region frame))))) (not_less 1498 (datagram_bytes frame) (omega arith))
            ∙ ap (λ (x : Bool). x || not (fill_region (datagram_tails (region frame)))) (not_less (length frame) (16 + datagram_bytes frame) (omega arith))
            ∙ ap not filled)
            (ap (λ (bytes : List ℕ). list_any circulates (datagram_tails bytes)) region_read ∙ ap (list_any circulates) (starts_in serial parts can.fits) ∙ none_turned serial parts can.fits)
            (ap (λ (bytes : List ℕ). more_at_end (datagram_tails bytes)) region_read ∙ ap more_at_end (starts_in serial parts can.fits) ∙ none_promised serial parts can.fits)
            (ap (λ (bytes : List ℕ). list_any is_unknown (datagram_tails bytes)) region_read ∙ ap (list_any is_unknown) (starts_in serial parts can.fits) ∙ none_unknown serial parts can.fits)
            (ap (λ (n : ℕ). list_any (has_other_index (n % 256)) (datagram_tails (region frame))) serial_read
            ∙ ap (λ (bytes : List ℕ). list_any (has_other_index (serial % 256)) (datagram_tails bytes)) region_read ∙ ap (list_any (has_other_index (serial % 256))) (starts_in serial parts can.fits) ∙ none_other serial parts can.fits),
        ap (λ (n : ℕ). record { serial = n; parts = map datagram_carried (datagram_tails (region frame)) }) serial_read
            ∙ ap (λ (bytes : List ℕ). record { serial = serial; parts = map datagram_carried (datagram_tails bytes) }) region_read
            ∙ ap (λ (ps : List WireDatagram). record { serial = serial; parts = ps }) (parts-read serial parts can.fits),
      )

-- a list of six
by_six : (P : List ℕ → Type 0) → ((a b c d e f : ℕ) → P (a ∷ b ∷ c ∷ d ∷ e ∷ f ∷ [])) → (xs : List ℕ) → length xs ≡ 6 → P xs
by_six P each [] long = absurd (omega arith)
by_six P each (a ∷ []) long = absurd (omega arith)
by_six P each (a ∷ b ∷ []) long = absurd (omega arith)
by_six P each (a ∷ b ∷ c ∷ []) long = absurd (omega arith)
by_six P each (a ∷ b ∷ c ∷ d ∷ []) long = absurd (omega arith)
by_six P each (a ∷ b ∷ c ∷ d ∷ e ∷ []) long = absurd (omega arith)
by_six P each (a ∷ b ∷ c ∷ d ∷ e ∷ f ∷ []) long = each a b c d e f
by_six P each (a ∷ b ∷ c ∷ d ∷ e ∷ f ∷ g ∷ xs) long = absurd (omega arith)

-- a frame is read as it was spelled
pub frame-read : CarriedFramesAreRead
frame-read destination first serial parts after_it long can =
    let P : List ℕ → Type 0 = λ there. let bytes = carried_frame there first serial parts after_it in (fault_in bytes ≡ None) × (reading_of bytes ≡ record { serial = serial; parts = parts }) in
    by_six P (λ a b c d e f. six-read a b c d e f first serial parts after_it can) destination long
