-- A task's part of a frame: its bytes, and its text in three pieces.
use Rattle.std.proofs.Common.{◌≡◌, ◌∙◌, ◌+◌, ◌-◌, ◌≤◌, ◌==◌, ℕ, Bool, true, false, cond, not, List, [], ◌∷◌, ◌++◌, refl, sym, ap, arith, append_assoc, length, length-append, get_or, replicate, Option, Some, None}
use Rattle.std.specs.Prelude.{slice_get, sum_by}
use Rattle.std.proofs.lemmas.Bool.{eq-eqb, ne_eqb}
use Rattle.std.proofs.lemmas.List.{length-replicate}
use Rattle.std.proofs.lemmas.List.Concat.{length-flat_map}
use Rattle.std.proofs.lemmas.List.Sums.{sum_by-cons}
use Rattle.hc_frames.specs.FrameText.{sent_datagram_text, frame_head, padding}
use Rattle.hc_records.specs.Line.{Member}
use Rattle.hc_events.specs.Sendings.{Frame, Named, line_data_length}
use Rattle.hc_sendings.specs.PartTexts.{frame_part_text, own_bytes_of, own_texts, part_text, share_text, text_if}
use Rattle.hc_sendings.specs.Parts.{frame_part, if_of, own_bytes, own_share, padding_bytes, part_size, share}
use Rattle.hc_sendings.specs.Texts.{Data, datagram_with_data, carried_bytes}
use Rattle.hc_sendings.proofs.Sums.{sum-same}
use Rattle.hc_sendings.proofs.Written.{others, others-is}

pub first-own : (bytes : Data) (task : ℕ) (datagrams : List Named) → 1 ≤ length datagrams
    → own_bytes_of bytes task datagrams
    ≡ if_of task (12 + length (bytes (get_or datagrams 0 (0, 0)).0 (get_or datagrams 0 (0, 0)).1)) (get_or datagrams 0 (0, 0)) + own_bytes_of bytes task (others datagrams)
first-own bytes task [] some = absurd (omega (arith, some))
first-own bytes task (datagram ∷ datagrams) some =
    sum_by-cons (λ (named : Named). if_of task (12 + length (bytes named.0 named.1)) named) datagram datagrams
    ∙ ap (λ (names : List Named). if_of task (12 + length (bytes datagram.0 datagram.1)) datagram + own_bytes_of bytes task names) (sym (others-is datagram datagrams))

-- lengths

length_if : (own : Bool) (text : List ℕ) (size : ℕ) → length text ≡ size → length (cond own text []) ≡ cond own size 0
length_if true text size is = is
length_if false text size is = refl

length_share : (task size : ℕ) (text : List ℕ) (found : Option Named) → length text ≡ size → length (share_text task text found) ≡ share task size found
length_share task size text None is = refl
length_share task size text (Some named) is = length_if (named.0 == task) text size is

datagram_length : (bytes : Data) (serial : ℕ) (more : Bool) (named : Named) → length (sent_datagram_text serial more (datagram_with_data bytes named)) ≡ 12 + length (bytes named.0 named.1)
datagram_length bytes serial more named = grind (arith, length-append)

own_length : (bytes : Data) (serial task : ℕ) (names : List Named) → length (own_texts bytes serial task names) ≡ own_bytes_of bytes task names
own_length bytes serial task [] = refl
own_length bytes serial task (named ∷ rest) =
    let text = sent_datagram_text serial (not (length rest == 0)) (datagram_with_data bytes named) in
    let own = length_if (named.0 == task) text (12 + length (bytes named.0 named.1)) (datagram_length bytes serial (not (length rest == 0)) named) in
    let sum = sum_by-cons (λ (n : Named). if_of task (12 + length (bytes n.0 n.1)) n) named rest in
    let after_it = own_length bytes serial task rest in
    let both = length-append (text_if task named.0 text) (own_texts bytes serial task rest) in
    omega (arith, own, sum, after_it, both)

pub part-length : (bytes : Data) (task : ℕ) (frame : Frame)
    → length (frame_part_text bytes task frame)
    ≡ share task 16 (slice_get frame.datagrams 0) + own_bytes_of bytes task frame.datagrams
    + share task (padding_bytes (carried_bytes bytes frame.datagrams)) (slice_get frame.datagrams (length frame.datagrams - 1))
part-length bytes task frame =
    let names = frame.datagrams in
    let size = carried_bytes bytes names in
    let first = share_text task (frame_head frame.serial size) (slice_get names 0) in
    let own = own_texts bytes frame.serial task names in
    let last = share_text task (padding size) (slice_get names (length names - 1)) in
    length-append (first ++ own) last
    ∙ ap (λ n. n + length last) (length-append first own)
    ∙ ap (λ n. n + length own + length last) (length_share task 16 (frame_head frame.serial size) (slice_get names 0) refl)
    ∙ ap (λ n. share task 16 (slice_get names 0) + n + length last) (own_length bytes frame.serial task names)
    ∙ ap (λ n. share task 16 (slice_get names 0) + own_bytes_of bytes task names + n)
    (length_share task (padding_bytes size) (padding size) (slice_get names (length names - 1)) (length-replicate {A = ℕ} (padding_bytes size) 0))

-- data with the datagrams' lengths make parts of the sizes that the line gives

frame_sized : (bytes : Data) (line : List Member) (task : ℕ) (frame : Frame) → ((t d : ℕ) → length (bytes t d) ≡ line_data_length line (t, d))
    → length (frame_part_text bytes task frame) ≡ frame_part line task frame.datagrams
frame_sized bytes line task frame sized =
    let names = frame.datagrams in
    let last = slice_get names (length names - 1) in
    let own : own_bytes_of bytes task names ≡ sum_by (own_share line task) names =
    sum-same (λ (named : Named). if_of task (12 + length (bytes named.0 named.1)) named) (own_share line task) names
    (λ i d within. ap (λ (n : ℕ). if_of task (12 + n) (get_or names i d)) (sized (get_or names i d).0 (get_or names i d).1)) in
    let size : carried_bytes bytes names ≡ sum_by (own_bytes line) names =
    sum-same (λ (named : Named). 12 + length (bytes named.0 named.1)) (own_bytes line) names
    (λ i d within. ap (λ (n : ℕ). 12 + n) (sized (get_or names i d).0 (get_or names i d).1)) in
    part-length bytes task frame
    ∙ ap (λ (n : ℕ). share task 16 (slice_get names 0) + n + share task (padding_bytes (carried_bytes bytes names)) last) own
    ∙ ap (λ (n : ℕ). share task 16 (slice_get names 0) + sum_by (own_share line task) names + share task (padding_bytes n) last) size

pub parts-sized : (bytes : Data) (line : List Member) (task : ℕ) (frames : List Frame) → ((t d : ℕ) → length (bytes t d) ≡ line_data_length line (t, d))
    → length (part_text bytes task frames) ≡ part_size line task frames
parts-sized bytes line task frames sized =
    length-flat_map (frame_part_text bytes task) frames
    ∙ sum-same (λ (frame : Frame). length (frame_part_text bytes task frame)) (λ (frame : Frame). frame_part line task frame.datagrams) frames
    (λ i d within. frame_sized bytes line task (get_or frames i d) sized)

-- the three pieces

head_if : (own : Bool) (n : ℕ) (text : List ℕ) → n ≡ cond own 16 0 → cond (n == 0) [] text ≡ cond own text []
head_if true n text is = ap (λ b. cond b [] text) (ne_eqb n 0 (λ none. absurd (omega (arith, is, none))))
head_if false n text is = ap (λ b. cond b [] text) (eq-eqb n 0 is)

head-text : (task n : ℕ) (text : List ℕ) (found : Option Named) → n ≡ share task 16 found → cond (n == 0) [] text ≡ share_text task text found
head-text task n text None is = ap (λ b. cond b [] text) (eq-eqb n 0 is)
head-text task n text (Some named) is = head_if (named.0 == task) n text is

zeros_if : (own : Bool) (size : ℕ) → replicate {A = ℕ} (cond own size 0) 0 ≡ cond own (replicate {A = ℕ} size 0) []
zeros_if true size = refl
zeros_if false size = refl

padding-text : (task size : ℕ) (found : Option Named) → replicate {A = ℕ} (share task (padding_bytes size) found) 0 ≡ share_text task (padding size) found
padding-text task size None = refl
padding-text task size (Some named) = zeros_if (named.0 == task) (padding_bytes size)

pub frame-filled : (bytes : Data) (task : ℕ) (frame : Frame) (first n : ℕ) (head own pad : List ℕ)
    → first ≡ share task 16 (slice_get frame.datagrams 0)
    → head ≡ cond (first == 0) [] (frame_head frame.serial (carried_bytes bytes frame.datagrams))
    → own ≡ own_texts bytes frame.serial task frame.datagrams
    → pad ≡ replicate {A = ℕ} n 0 → n ≡ share task (padding_bytes (carried_bytes bytes frame.datagrams)) (slice_get frame.datagrams (length frame.datagrams - 1))
    → head ++ (own ++ pad) ≡ frame_part_text bytes task frame
frame-filled bytes task frame first n head own pad first_is head_is own_is pad_is n_is =
    let names = frame.datagrams in
    let size = carried_bytes bytes names in
    let last = slice_get names (length names - 1) in
    let head_same : head ≡ share_text task (frame_head frame.serial size) (slice_get names 0) = head_is ∙ head-text task first (frame_head frame.serial size) (slice_get names 0) first_is in
    let pad_same : pad ≡ share_text task (padding size) last = pad_is ∙ ap (λ (m : ℕ). replicate {A = ℕ} m 0) n_is ∙ padding-text task size last in
    sym (append_assoc head own pad)
    ∙ ap (λ text. (text ++ own) ++ pad) head_same
    ∙ ap (λ text. (share_text task (frame_head frame.serial size) (slice_get names 0) ++ text) ++ pad) own_is
    ∙ ap (λ text. (share_text task (frame_head frame.serial size) (slice_get names 0) ++ own_texts bytes frame.serial task names) ++ text) pad_same
