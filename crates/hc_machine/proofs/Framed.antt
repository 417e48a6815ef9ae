-- A frame whose datagrams were served.
use Rattle.std.proofs.Common.{◌≡◌, ℕ, ◌+◌, ◌<◌, ◌≤◌, Bool, true, false, All, List, ◌++◌, length, take, drop, refl, sym, ap, ap₂, ◌∙◌, append_assoc, arith, length-append, length-take, length-drop, ◌&&◌, ◌||◌, not, nat_lt, Option, Some, None, is_none, Result, Ok, Err, is_ok, get_or}
use Rattle.std.specs.Prelude.{if◌then◌else◌, slice_index}
use Rattle.std.specs.List.{list_all}
use Rattle.std.proofs.lemmas.Bool.Decides.{nat_tests}
use Rattle.std.proofs.lemmas.Grind.{get_or_default_zero}
use Rattle.std.proofs.lemmas.List.{take_at}
use Rattle.hc_frames.specs.declared.limits.TheConstants.{MAX_DATAGRAMS}
use Rattle.hc_frames.specs.declared.reading.faults.FrameFault.{FrameFault}
use Rattle.hc_frames.specs.declared.reading.faults.FrameFault.TheVariants.{Short, NotEtherCat, BadType, BadLength}
use Rattle.hc_frames.specs.Arrived.{Answers, Reading, datagram_bytes, datagram_tails, fault_in, fill_region, has_bad_length, has_bad_type, is_not_ethercat, is_short, is_whole, more_between, reading_of, region}
use Rattle.hc_frames.specs.FrameText.{WireDatagram, carried_frame, carried_texts, head_to}
use Rattle.hc_frames.proofs.lemmas.Opening.{drop_front, drop_twice}
use Rattle.hc_frames.proofs.lemmas.Spelling.{frame-carried}
use Rattle.hc_machine.specs.Frames.{memory_after_datagrams, all_served, frame_after, memory_after}
use Rattle.hc_machine.specs.Rewriting.{ServesTexts}

-- what the reader answers
pub ok-unless-fault : (frame : List ℕ) (result : Result Reading FrameFault) → Answers frame result → is_ok result ≡ is_none (fault_in frame)
ok-unless-fault frame (Ok reading) read = sym (ap is_none read.0)
ok-unless-fault frame (Err fault) faulty = sym (ap is_none faulty)

pub no-fault : (fault : Option FrameFault) → is_none fault ≡ true → fault ≡ None
no-fault None none = refl
no-fault (Some fault) none = cc

-- where no condition holds the fourth doesn't
abbrev first-of : Bool → Bool → Bool → Bool → Option FrameFault → Option FrameFault
first-of a b c d later = if a then Some Short else (if b then Some NotEtherCat else (if c then Some BadType else (if d then Some BadLength else later)))

fourth-off : (a b c d : Bool) (later : Option FrameFault) → first-of a b c d later ≡ None → d ≡ false
fourth-off true b c d later none = cc
fourth-off false true c d later none = cc
fourth-off false false true d later none = cc
fourth-off false false false true later none = cc
fourth-off false false false false later none = refl

good-length : (bytes : List ℕ) → fault_in bytes ≡ None → has_bad_length bytes ≡ false
good-length bytes none = fourth-off (is_short bytes) (is_not_ethercat bytes) (has_bad_type bytes) (has_bad_length bytes) _ none

neither : (a b : Bool) → (a || b) ≡ false → (a ≡ false) × (b ≡ false)
neither true b none = cc
neither false b none = (refl, none)

both : (a b : Bool) → (a && b) ≡ true → (a ≡ true) × (b ≡ true)
both true b holds = (refl, holds)
both false b holds = cc

turned : (a : Bool) → not a ≡ false → a ≡ true
turned true e = refl
turned false e = cc

least : (m n : ℕ) → nat_lt m n ≡ false → n ≤ m
least m n e = grind (arith, nat_tests)

-- the datagrams of a frame that is read lie in it, and are whole
pub readable-long : (bytes : List ℕ) → is_none (fault_in bytes) ≡ true → 16 + datagram_bytes bytes ≤ length bytes
readable-long bytes none = least (length bytes) (16 + datagram_bytes bytes) (neither _ _ (neither _ _ (good-length bytes (no-fault _ none))).1).0

pub readable-whole : (bytes : List ℕ) → is_none (fault_in bytes) ≡ true → list_all is_whole (datagram_tails (region bytes)) ≡ true
readable-whole bytes none =
    let ds : List (List ℕ) = datagram_tails (region bytes) in
    let long = neither (nat_lt MAX_DATAGRAMS (datagram_bytes bytes)) _ (good-length bytes (no-fault _ none)) in
    let filled : fill_region ds ≡ true = turned _ (neither (nat_lt (length bytes) (16 + datagram_bytes bytes)) _ long.1).1 in
    (both (list_all is_whole ds) (more_between ds) (both (nat_lt 0 (length ds)) (list_all is_whole ds && more_between ds) filled).1).0

pub all-bytes : (xs : List ℕ) → ((i : ℕ) → get_or xs i 0 < 256) → All (λ b. b < 256) xs
all-bytes xs small = λ k d inside. rw (get_or_default_zero xs k d inside) (small k)

pub head-long : (destination : List ℕ) (first serial size : ℕ) → length destination ≡ 6 → length (head_to destination first serial size) ≡ 16
head-long destination first serial size six = simp length-append (omega arith)

-- a frame round its datagrams
module _ (bytes : List ℕ) (all : All (λ b. b < 256) bytes) (none : is_none (fault_in bytes) ≡ true) where
  abbrev serial : ℕ
  serial = (reading_of bytes).serial

  abbrev parts : List WireDatagram
  parts = (reading_of bytes).parts

  abbrev text : List ℕ
  text = carried_texts serial parts

  abbrev head : ℕ → List ℕ
  head size = head_to (take 6 bytes) (slice_index bytes 6) serial size

  abbrev after_it : List ℕ
  after_it = drop (16 + datagram_bytes bytes) bytes

  whole-frame : bytes ≡ head (length text) ++ (text ++ after_it)
  whole-frame = (frame-carried bytes all (no-fault _ none)).1 ∙ append_assoc (head (length text)) text after_it

  head-size : (n : ℕ) → length (head n) ≡ 16
  head-size n =
      let long : 16 + datagram_bytes bytes ≤ length bytes = readable-long bytes none in
      head-long (take 6 bytes) (slice_index bytes 6) serial n (omega (arith, length-take 6 bytes))

  text-size : length text ≡ datagram_bytes bytes
  text-size =
      let long : 16 + datagram_bytes bytes ≤ length bytes = readable-long bytes none in
      let size : length bytes ≡ 16 + (length text + length after_it) =
      ap length whole-frame ∙ length-append (head (length text)) (text ++ after_it) ∙ ap₂ (λ (m n : ℕ). m + n) (head-size (length text)) (length-append text after_it) in
      omega (arith, length-drop (16 + datagram_bytes bytes) bytes)

  region-text : region bytes ≡ text
  region-text =
      ap (take (datagram_bytes bytes)) (ap (drop 16) whole-frame ∙ drop_front (head (length text)) (text ++ after_it) 16 (head-size (length text)))
      ∙ take_at text after_it (datagram_bytes bytes) text-size

  head-text : take 16 bytes ≡ head (length text)
  head-text = ap (take 16) whole-frame ∙ take_at (head (length text)) (text ++ after_it) 16 (head-size (length text))

  module _ (memory memory' region' : List ℕ) (same : length region' ≡ length (region bytes)) (serves : ServesTexts memory memory' (region bytes) region') where
    done : (region' ≡ carried_texts serial (all_served memory parts)) × (memory' ≡ memory_after_datagrams memory parts)
    done = serves serial parts (frame-carried bytes all (no-fault _ none)).0.fits region-text

    pub frame-served : (n : ℕ) → n ≡ datagram_bytes bytes → take 16 bytes ++ (region' ++ drop n (drop 16 bytes)) ≡ frame_after memory bytes
    unfolding frame_after
    frame-served n is =
        let new : List ℕ = carried_texts serial (all_served memory parts) in
        let size : length text ≡ length new = sym (ap length region-text) ∙ sym same ∙ ap length done.0 in
        ap₂ (λ (h r : List ℕ). h ++ (r ++ drop n (drop 16 bytes))) (head-text ∙ ap head size) done.0
        ∙ ap (λ (b : List ℕ). head (length new) ++ (new ++ b)) (drop_twice 16 n bytes ∙ ap (λ (k : ℕ). drop (16 + k) bytes) is)
        ∙ sym (append_assoc (head (length new)) new after_it)
        ∙ sym (ap (λ (b : Bool). if b then carried_frame (take 6 bytes) (slice_index bytes 6) serial (all_served memory parts) after_it else bytes) none)

    pub memory-served : memory' ≡ memory_after memory bytes
    unfolding memory_after
    memory-served = done.1 ∙ sym (ap (λ (b : Bool). if b then memory_after_datagrams memory parts else memory) none)
