-- Data that are put in place of zeros.
use Rattle.std.proofs.Common.{◌≡◌, ℕ, ◌+◌, ◌%◌, ◌<◌, ◌≤◌, All, None, subst, true, false, List, [], ◌∷◌, ◌++◌, length, take, drop, map, replicate, refl, sym, ap, ◌∙◌, append_assoc, append-nil, arith, length-append}
use Rattle.std.specs.Prelude.{slice_index}
use Rattle.std.specs.List.{flat_map}
use Rattle.std.proofs.lemmas.List.{length-replicate, length-take, map-append, take_at}
use Rattle.std.proofs.lemmas.List.Sums.{sum_by-cons}
use Rattle.hc_frames.specs.declared.commands.Command.TheVariants.{Lrw}
use Rattle.hc_frames.specs.FrameText.{WireDatagram, Datagram, carried_text, carried_texts, datagram_head, frame_head, frame_text, has_more, head_to, carried_frame, lrw, padding, sent_on_wire}
use Rattle.hc_frames.specs.Arrived.{datagram_bytes, fault_in, reading_of, serial_in}
use Rattle.hc_frames.specs.Laws.{BlankDatagramsAreFilled, BlankFramesAreFilled, CanBeCarried, PartsAreReplaced}
use Rattle.hc_frames.specs.Returned.{FitsLine}
use Rattle.hc_frames.proofs.Faults.{clear_of}
use Rattle.hc_frames.proofs.lemmas.Readings.{frame-read}
use Rattle.hc_frames.proofs.lemmas.Spelling.{frame-carried}
use Rattle.std.proofs.lemmas.List.Elements.{All-cons, All-head, All-tail}
use Rattle.hc_frames.specs.Sizes.{text_size}
use Rattle.hc_frames.proofs.Spelled.{datagram_cut}
use Rattle.hc_frames.proofs.lemmas.Opening.{drop_front}
use Rattle.hc_frames.proofs.lemmas.Texts.{carried_texts-append, length-carried_text}

-- the middle of three lists, replaced
pub middle-replaced : (front mid back new : List ℕ) (at size : ℕ) → length front ≡ at → length mid ≡ size
    → take at (front ++ (mid ++ back)) ++ new ++ drop (at + size) (front ++ (mid ++ back)) ≡ front ++ (new ++ back)
middle-replaced front mid back new at size before within =
    ap (λ (xs : List ℕ). xs ++ new ++ drop (at + size) (front ++ (mid ++ back))) (take_at front (mid ++ back) at before)
    ∙ ap (λ (xs : List ℕ). front ++ new ++ drop (at + size) xs) (sym (append_assoc front mid back))
    ∙ ap (λ (xs : List ℕ). front ++ new ++ xs) (drop_front (front ++ mid) back (at + size) (length-append front mid ∙ ap (λ (n : ℕ). n + length mid) before ∙ ap (λ (n : ℕ). at + n) within))
    ∙ append_assoc front new back

pub datagram-filled : BlankDatagramsAreFilled
datagram-filled serial more d bytes e =
    let zeros : List ℕ = replicate d.1 0 in
    let long : length zeros ≡ d.1 = length-replicate d.1 0 in
    let front : List ℕ = datagram_head (serial % 256) Lrw d.0 d.1 more in
    ap (λ (text : List ℕ). take 10 text ++ bytes ++ drop (10 + d.1) text) (datagram_cut serial d.0 d.1 more zeros long)
    ∙ middle-replaced front zeros (0 ∷ 0 ∷ []) bytes 10 d.1 refl long
    ∙ sym (datagram_cut serial d.0 d.1 more bytes e)

pub first_text : (serial : ℕ) (d : WireDatagram) (ds : List WireDatagram) → carried_texts serial (d ∷ ds) ≡ carried_text serial (has_more ds) d ++ carried_texts serial ds
first_text serial d [] = sym (append-nil (carried_text serial false d))
first_text serial d (e ∷ ds) = refl

length-followed : (serial : ℕ) (ds : List WireDatagram) → length (flat_map (carried_text serial true) ds) ≡ text_size ds
length-followed serial [] = refl
length-followed serial (d ∷ ds) =
    length-append (carried_text serial true d) (flat_map (carried_text serial true) ds)
    ∙ ap (λ (n : ℕ). n + length (flat_map (carried_text serial true) ds)) (length-carried_text serial true d)
    ∙ ap (λ (n : ℕ). 12 + length d.bytes + n) (length-followed serial ds)
    ∙ sym (sum_by-cons (λ (x : WireDatagram). 12 + length x.bytes) d ds)

regrouped : (h x front bytes z y p : List ℕ) → (h ++ (x ++ ((front ++ (bytes ++ z)) ++ y))) ++ p ≡ ((h ++ x) ++ front) ++ (bytes ++ (z ++ (y ++ p)))
regrouped h x front bytes z y p = simp append_assoc

module _ (serial : ℕ) (before after : List Datagram) (address size : ℕ) where
  abbrev first_texts : List ℕ
  first_texts = flat_map (carried_text serial true) (map sent_on_wire before)

  abbrev last_texts : List ℕ
  last_texts = carried_texts serial (map sent_on_wire after)

  abbrev here : List ℕ
  here = datagram_head (serial % 256) Lrw address size (has_more (map sent_on_wire after))

  abbrev whole : ℕ
  whole = length first_texts + (12 + size + length last_texts)

  abbrev before_data : List ℕ
  before_data = (frame_head serial whole ++ first_texts) ++ here

  abbrev after_data : List ℕ
  after_data = 0 ∷ 0 ∷ [] ++ (last_texts ++ padding whole)

  -- a frame round the data of one of its datagrams
  frame_round : (bytes : List ℕ) → length bytes ≡ size → frame_text serial (before ++ lrw address bytes ∷ after) ≡ before_data ++ (bytes ++ after_data)
  frame_round bytes e =
      let text : List ℕ = first_texts ++ ((here ++ (bytes ++ 0 ∷ 0 ∷ [])) ++ last_texts) in
      let spelled : List ℕ → List ℕ = λ xs. (frame_head serial (length xs) ++ xs) ++ padding (length xs) in
      let texts : carried_texts serial (map sent_on_wire (before ++ lrw address bytes ∷ after)) ≡ text =
      ap (carried_texts serial) (map-append sent_on_wire before (lrw address bytes ∷ after))
      ∙ carried_texts-append serial (map sent_on_wire before) (sent_on_wire (lrw address bytes)) (map sent_on_wire after)
      ∙ ap (λ (xs : List ℕ). first_texts ++ xs) (first_text serial (sent_on_wire (lrw address bytes)) (map sent_on_wire after))
      ∙ ap (λ (xs : List ℕ). first_texts ++ (xs ++ last_texts)) (datagram_cut serial address size (has_more (map sent_on_wire after)) bytes e) in
      let long : length text ≡ whole =
      length-append first_texts ((here ++ (bytes ++ 0 ∷ 0 ∷ [])) ++ last_texts)
      ∙ ap (λ (n : ℕ). length first_texts + n) (length-append (here ++ (bytes ++ 0 ∷ 0 ∷ [])) last_texts)
      ∙ ap (λ (n : ℕ). length first_texts + (n + length last_texts)) (omega (arith, length-append bytes (0 ∷ 0 ∷ []))) in
      ap spelled texts
      ∙ ap (λ (n : ℕ). (frame_head serial n ++ text) ++ padding n) long
      ∙ regrouped (frame_head serial whole) first_texts here bytes (0 ∷ 0 ∷ []) last_texts (padding whole)

  before_size : length before_data ≡ 26 + text_size (map sent_on_wire before)
  before_size =
      length-append (frame_head serial whole ++ first_texts) here
      ∙ ap (λ (n : ℕ). n + 10) (length-append (frame_head serial whole) first_texts)
      ∙ ap (λ (n : ℕ). 16 + n + 10) (length-followed serial (map sent_on_wire before))
      ∙ omega arith

pub frame-filled : BlankFramesAreFilled
frame-filled serial before d after bytes e =
    let zeros : List ℕ = replicate d.1 0 in
    let long : length zeros ≡ d.1 = length-replicate d.1 0 in
    let at : ℕ = 26 + text_size (map sent_on_wire before) in
    ap (λ (text : List ℕ). take at text ++ bytes ++ drop (at + d.1) text) (frame_round serial before after d.0 d.1 zeros long)
    ∙ middle-replaced (before_data serial before after d.0 d.1) zeros (after_data serial before after d.0 d.1) bytes at d.1 (before_size serial before after d.0 d.1) long
    ∙ sym (frame_round serial before after d.0 d.1 bytes e)

regrouped_part : (h x part y b : List ℕ) → (h ++ (x ++ (part ++ y))) ++ b ≡ (h ++ x) ++ (part ++ (y ++ b))
regrouped_part h x part y b = simp append_assoc

module _ (destination : List ℕ) (first serial : ℕ) (before after : List WireDatagram) (size : ℕ) (after_it : List ℕ) where
  abbrev texts_before : List ℕ
  texts_before = flat_map (carried_text serial true) before

  abbrev texts_after : List ℕ
  texts_after = carried_texts serial after

  abbrev all_of : ℕ
  all_of = length texts_before + (12 + size + length texts_after)

  abbrev before_part : List ℕ
  before_part = head_to destination first serial all_of ++ texts_before

  -- a frame round one of its datagrams
  part_round : (part : WireDatagram) → length part.bytes ≡ size → carried_frame destination first serial (before ++ part ∷ after) after_it ≡ before_part ++ (carried_text serial (has_more after) part ++ (texts_after ++ after_it))
  part_round part e =
      let here : List ℕ = carried_text serial (has_more after) part in
      let text : List ℕ = texts_before ++ (here ++ texts_after) in
      let spelled : List ℕ → List ℕ = λ xs. (head_to destination first serial (length xs) ++ xs) ++ after_it in
      let texts : carried_texts serial (before ++ part ∷ after) ≡ text =
      carried_texts-append serial before part after ∙ ap (λ (xs : List ℕ). texts_before ++ xs) (first_text serial part after) in
      let long : length text ≡ all_of =
      length-append texts_before (here ++ texts_after)
      ∙ ap (λ (n : ℕ). length texts_before + n) (length-append here texts_after)
      ∙ ap (λ (n : ℕ). length texts_before + (n + length texts_after)) (length-carried_text serial (has_more after) part ∙ ap (λ (n : ℕ). 12 + n) e) in
      ap spelled texts
      ∙ ap (λ (n : ℕ). (head_to destination first serial n ++ text) ++ after_it) long
      ∙ regrouped_part (head_to destination first serial all_of) texts_before here texts_after after_it

  part_start : length destination ≡ 6 → length before_part ≡ 16 + text_size before
  part_start six =
      length-append (head_to destination first serial all_of) texts_before
      ∙ ap (λ (n : ℕ). n + length texts_before) (head_long (length destination) six)
      ∙ ap (λ (n : ℕ). 16 + n) (length-followed serial before)
    where
      head_long : (n : ℕ) → n ≡ 6 → length (head_to destination first serial all_of) ≡ 16
      head_long n e = simp length-append (omega arith)

text_size-replaced : (before : List WireDatagram) (old new : WireDatagram) (after : List WireDatagram) → length new.bytes ≡ length old.bytes → text_size (before ++ new ∷ after) ≡ text_size (before ++ old ∷ after)
text_size-replaced [] old new after e =
    sum_by-cons (λ (x : WireDatagram). 12 + length x.bytes) new after ∙ ap (λ (n : ℕ). 12 + n + text_size after) e ∙ sym (sum_by-cons (λ (x : WireDatagram). 12 + length x.bytes) old after)
text_size-replaced (d ∷ before) old new after e =
    sum_by-cons (λ (x : WireDatagram). 12 + length x.bytes) d (before ++ new ∷ after)
    ∙ ap (λ (n : ℕ). 12 + length d.bytes + n) (text_size-replaced before old new after e)
    ∙ sym (sum_by-cons (λ (x : WireDatagram). 12 + length x.bytes) d (before ++ old ∷ after))

fits-replaced : (before : List WireDatagram) (old new : WireDatagram) (after : List WireDatagram) → FitsLine new → All FitsLine (before ++ old ∷ after) → All FitsLine (before ++ new ∷ after)
fits-replaced [] old new after fits all = All-cons FitsLine new after fits (All-tail FitsLine old after all)
fits-replaced (d ∷ before) old new after fits all =
    All-cons FitsLine d (before ++ new ∷ after) (All-head FitsLine d (before ++ old ∷ after) all) (fits-replaced before old new after fits (All-tail FitsLine d (before ++ old ∷ after) all))

some-parts : (before : List WireDatagram) (part : WireDatagram) (after : List WireDatagram) → 0 < length (before ++ part ∷ after)
some-parts before part after = omega (arith, length-append before (part ∷ after))

pub part-replaced : PartsAreReplaced
part-replaced bytes all none before old after e new fits same =
    let serial : ℕ = serial_in bytes in
    let start : ℕ = 16 + text_size before in
    let size : ℕ = length old.bytes in
    let destination : List ℕ = take 6 bytes in
    let first : ℕ = slice_index bytes 6 in
    let after_it : List ℕ = drop (16 + datagram_bytes bytes) bytes in
    let carried_so = frame-carried bytes all none in
    let C : List WireDatagram → Type 0 = CanBeCarried serial in
    let can : CanBeCarried serial (before ++ old ∷ after) = subst C e carried_so.0 in
    let here : bytes ≡ carried_frame destination first serial (before ++ old ∷ after) after_it = carried_so.1 ∙ ap (λ (ps : List WireDatagram). carried_frame destination first serial ps after_it) e in
    let six : length destination ≡ 6 = six_of bytes none in
    let part : List ℕ = carried_text serial (has_more after) new in
    let round : List ℕ → List ℕ = λ xs. take start xs ++ part ++ drop (start + (12 + size)) xs in
    let changed : round bytes ≡ carried_frame destination first serial (before ++ new ∷ after) after_it =
    ap round (here ∙ part_round destination first serial before after size after_it old refl)
    ∙ middle-replaced (before_part destination first serial before after size after_it) (carried_text serial (has_more after) old) (texts_after destination first serial before after size after_it ++ after_it) part start (12 + size)
    (part_start destination first serial before after size after_it six) (length-carried_text serial (has_more after) old)
    ∙ sym (part_round destination first serial before after size after_it new same) in
    let within : text_size (before ++ old ∷ after) ≤ 1498 = can.within in
    let read = frame-read destination first serial (before ++ new ∷ after) after_it six
    (record { some = some-parts before new after; low = can.low; fits = fits-replaced before old new after fits can.fits; within = omega (arith, text_size-replaced before old new after same) }) in
    (ap fault_in changed ∙ read.0, ap reading_of changed ∙ read.1)
  where
    six_of : (bytes : List ℕ) → fault_in bytes ≡ None → length (take 6 bytes) ≡ 6
    six_of bytes none = let long : 28 ≤ length bytes = (clear_of bytes none).long in omega (arith, length-take 6 bytes)
