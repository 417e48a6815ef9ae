-- The parts of distinct tasks, joined in the tasks' order, are the frames: each frame is cut into pieces, and these come task by task.
use Rattle.std.proofs.Common.{◌≡◌, ◌∙◌, ◌⊎◌, inl, inr, ◌+◌, ◌-◌, ◌<◌, ◌≤◌, ℕ, Bool, true, false, cond, not, List, [], ◌∷◌, ◌++◌, refl, sym, ap, ap₂, subst, arith, length, map, get_or, append-nil, append_assoc, rules, Some}
use Rattle.std.specs.Prelude.{All, AllPairs, Err, Ok, OnOk, Result, filter, if◌then◌else◌, slice_get, ◌==◌, ◌||◌}
use Rattle.std.specs.Result.{is_ok}
use Rattle.std.specs.List.{flat_map, list_any, range_with_len}
use Rattle.std.proofs.lemmas.Bool.{eq-eqb, eqb-true, ne_eqb, or_parts}
use Rattle.std.proofs.lemmas.Grind.{flat_map-append}
use Rattle.std.proofs.lemmas.List.Elements.{All-append, All-cons, All-head, All-map, All-nil, All-tail, All-weaker}
use Rattle.std.proofs.lemmas.List.Sums.{sum_by-cons}
use Rattle.std.proofs.lemmas.List.Kept.{AllPairs-cons, AllPairs-filter}
use Rattle.hc_records.specs.Image.{datagram_count, task_places}
use Rattle.hc_records.specs.Line.{Member}
use Rattle.hc_records.specs.Lists.{has_repeat}
use Rattle.hc_records.proofs.lemmas.Lists.{All-append_left, All-append_right, All-from_none, All-passing, AllPairs-append, AllPairs-append_left, AllPairs-append_right, AllPairs-between, AllPairs-flat_map, AllPairs-head, AllPairs-map, AllPairs-nil, AllPairs-tail}
use Rattle.hc_records.proofs.lemmas.Spans.{filter-stays}
use Rattle.hc_frames.specs.FrameText.{WireDatagram, sent_datagram_text, sent_datagrams_text, frame_head, frame_text, padding, sent_on_wire}
use Rattle.hc_frames.specs.Sizes.{text_size}
use Rattle.hc_frames.proofs.lemmas.Texts.{length-carried_texts}
use Rattle.hc_events.specs.Sendings.{Frame, Named, sendings_of, task_datagrams}
use Rattle.hc_events.proofs.lemmas.Frames.{in_row, row-of}
use Rattle.hc_sendings.specs.PartTexts.{own_texts, part_text, share_text, text_if}
use Rattle.hc_sendings.specs.Texts.{Data, datagram_with_data, carried_bytes, frame_text_of}
use Rattle.hc_sendings.proofs.Sums.{is_one_of}
use Rattle.hc_sendings.proofs.Written.{spelled}
use Rattle.hc_sendings.proofs.lemmas.Whole.{IsWhole, whole-frames}
use Rattle.hc_sendings.proofs.Shares.{own-datagrams}

at_least : (n : ℕ) → n ≤ n
at_least n = omega arith

-- a piece is a text and the task that it belongs to
abbrev Piece : Type 0
Piece = ℕ × List ℕ

abbrev joined_texts : List Piece → List ℕ
joined_texts pieces = flat_map (λ (p : Piece). p.1) pieces

abbrev texts_if : ℕ → List Piece → List ℕ
texts_if task pieces = flat_map (λ (p : Piece). text_if task p.0 p.1) pieces

abbrev is_other : ℕ → Piece → Bool
is_other task piece = not (piece.0 == task)

abbrev others : ℕ → List Piece → List Piece
others task pieces = filter (is_other task) pieces

-- pieces come in the order of their tasks' places
abbrev Ascend : (ℕ → ℕ) → Piece → Piece → Type 0
Ascend place a b = place a.0 ≤ place b.0

not_it : (place : ℕ → ℕ) (task own : ℕ) → place task < place own → (own == task) ≡ false
not_it place task own less = ne_eqb own task (λ same. let at_least : place own ≡ place task = ap place same in absurd (omega arith))

-- of pieces of later tasks a task has none
none_later : (place : ℕ → ℕ) (task : ℕ) (pieces : List Piece) → All (λ p. place task < place p.0) pieces → texts_if task pieces ≡ []
none_later place task [] all = refl
none_later place task (p ∷ ps) all =
    ap (λ b. cond b p.1 [] ++ texts_if task ps) (not_it place task p.0 (All-head (λ (q : Piece). place task < place q.0) p ps all))
    ∙ none_later place task ps (All-tail (λ (q : Piece). place task < place q.0) p ps all)

all_others : (place : ℕ → ℕ) (task : ℕ) (pieces : List Piece) → All (λ p. place task < place p.0) pieces → others task pieces ≡ pieces
all_others place task pieces all =
    filter-stays (is_other task) pieces
    (All-weaker (λ (p : Piece). place task < place p.0) (λ p. is_other task p ≡ true) (λ p less. ap not (not_it place task p.0 less)) pieces all)

-- the first task's pieces are before the others
abbrev IsFirstOr : (ℕ → ℕ) → ℕ → Piece → Type 0
IsFirstOr place task piece = (piece.0 ≡ task) ⊎ (place task < place piece.0)

front_joined : (place : ℕ → ℕ) (task : ℕ) (pieces : List Piece) → AllPairs (Ascend place) pieces → All (IsFirstOr place task) pieces
    → joined_texts pieces ≡ texts_if task pieces ++ joined_texts (others task pieces)
front_joined place task [] ascend all = refl
front_joined place task (p ∷ ps) ascend all = elim (All-head (IsFirstOr place task) p ps all) [
  | inl same ↦
      let it = eq-eqb p.0 task same in
      ap (λ rest. p.1 ++ rest) (front_joined place task ps (AllPairs-tail (Ascend place) p ps ascend) (All-tail (IsFirstOr place task) p ps all))
      ∙ sym (append_assoc p.1 (texts_if task ps) (joined_texts (others task ps)))
      ∙ sym (ap (λ b. (cond b p.1 [] ++ texts_if task ps) ++ joined_texts (cond (not b) (p ∷ others task ps) (others task ps))) it)
  | inr less ↦
      let later : All (λ (q : Piece). place task < place q.0) ps =
      All-weaker (Ascend place p) (λ (q : Piece). place task < place q.0) (λ q more. omega arith) ps (AllPairs-head (Ascend place) p ps ascend) in
      let not_own = not_it place task p.0 less in
      sym (ap (λ b. (cond b p.1 [] ++ texts_if task ps) ++ joined_texts (cond (not b) (p ∷ others task ps) (others task ps))) not_own
      ∙ ap (λ own. own ++ (p.1 ++ joined_texts (others task ps))) (none_later place task ps later)
      ∙ ap (λ rest. p.1 ++ joined_texts rest) (all_others place task ps later))
]

-- another task has the same of the others
skipped : (task other : ℕ) (own : Bool) (p : Piece) (rest : List ℕ) (others_of : List Piece) → (p.0 == task) ≡ own → (task == other) ≡ false → texts_if other others_of ≡ rest
    → text_if other p.0 p.1 ++ rest ≡ texts_if other (cond (not own) (p ∷ others_of) others_of)
skipped task other false p rest others_of it apart same = ap (λ r. text_if other p.0 p.1 ++ r) (sym same)
skipped task other true p rest others_of it apart same =
    ap (λ k. text_if other k p.1 ++ rest) (eqb-true p.0 task it) ∙ ap (λ b. cond b p.1 [] ++ rest) apart ∙ sym same

same_others : (task other : ℕ) (pieces : List Piece) → (task == other) ≡ false → texts_if other pieces ≡ texts_if other (others task pieces)
same_others task other [] apart = refl
same_others task other (p ∷ ps) apart = skipped task other (p.0 == task) p (texts_if other ps) (others task ps) refl apart (sym (same_others task other ps apart))

flat_alike : {X Y : Type 0} (f g : X → List Y) (xs : List X) → All (λ x. f x ≡ g x) xs → flat_map f xs ≡ flat_map g xs
flat_alike f g [] all = refl
flat_alike f g (x ∷ xs) all = ap₂ (λ own rest. own ++ rest) (All-head (λ y. f y ≡ g y) x xs all) (flat_alike f g xs (All-tail (λ y. f y ≡ g y) x xs all))

member_by : (P : ℕ → Type 0) (task own : ℕ) (tasks : List ℕ) (here : Bool) → (own == task) ≡ here → (here || is_one_of tasks own) ≡ true → P task → (is_one_of tasks own ≡ true → P own) → P own
member_by P task own tasks true it one first rest = subst P (sym (eqb-true own task it)) first
member_by P task own tasks false it one first rest = rest one

member_holds : (P : ℕ → Type 0) (tasks : List ℕ) (own : ℕ) → All P tasks → is_one_of tasks own ≡ true → P own
member_holds P [] own all one = let never : false ≡ true = one in cc
member_holds P (task ∷ tasks) own all one =
    member_by P task own tasks (own == task) refl one (All-head P task tasks all) (member_holds P tasks own (All-tail P task tasks all))

first_by : (place : ℕ → ℕ) (task own : ℕ) (tasks : List ℕ) (here : Bool) → (own == task) ≡ here → (here || is_one_of tasks own) ≡ true → All (λ other. place task < place other) tasks
    → (own ≡ task) ⊎ (place task < place own)
first_by place task own tasks true it one later = inl (eqb-true own task it)
first_by place task own tasks false it one later = inr (member_holds (λ other. place task < place other) tasks own later one)

left_by : (task own : ℕ) (tasks : List ℕ) (here : Bool) → (own == task) ≡ here → (here || is_one_of tasks own) ≡ true → not here ≡ true → is_one_of tasks own ≡ true
left_by task own tasks true it one left = let never : false ≡ true = left in cc
left_by task own tasks false it one left = one

-- the texts that tasks have of pieces in the tasks' order, joined, are the pieces'
pieces_join : (place : ℕ → ℕ) (tasks : List ℕ) (pieces : List Piece) → AllPairs (λ a b. place a < place b) tasks → AllPairs (Ascend place) pieces → All (λ p. is_one_of tasks p.0 ≡ true) pieces
    → flat_map (λ task. texts_if task pieces) tasks ≡ joined_texts pieces
pieces_join place [] [] ranked ascend all = refl
pieces_join place [] (p ∷ ps) ranked ascend all = let never : false ≡ true = All-head (λ (q : Piece). is_one_of [] q.0 ≡ true) p ps all in cc
pieces_join place (task ∷ tasks) pieces ranked ascend all =
    let later = AllPairs-head (λ a b. place a < place b) task tasks ranked in
    let front = front_joined place task pieces ascend
    (All-weaker (λ (p : Piece). is_one_of (task ∷ tasks) p.0 ≡ true) (IsFirstOr place task) (λ p one. first_by place task p.0 tasks (p.0 == task) refl one later) pieces all) in
    let alike = flat_alike (λ other. texts_if other pieces) (λ other. texts_if other (others task pieces)) tasks
    (All-weaker (λ other. place task < place other) (λ other. texts_if other pieces ≡ texts_if other (others task pieces))
    (λ other less. same_others task other pieces (ne_eqb task other (λ same. let at_least : place task ≡ place other = ap place same in absurd (omega arith)))) tasks later) in
    let after_it = pieces_join place tasks (others task pieces) (AllPairs-tail (λ a b. place a < place b) task tasks ranked) (AllPairs-filter (Ascend place) (is_other task) pieces ascend)
    (All-passing (λ (p : Piece). is_one_of tasks p.0 ≡ true) (is_other task) pieces
    (All-weaker (λ (p : Piece). is_one_of (task ∷ tasks) p.0 ≡ true) (λ p. is_other task p ≡ true → is_one_of tasks p.0 ≡ true)
    (λ p one left. left_by task p.0 tasks (p.0 == task) refl one left) pieces all)) in
    ap (λ rest. texts_if task pieces ++ rest) (alike ∙ after_it) ∙ sym front

-- the pieces of a frame

abbrev own_pieces : Data → ℕ → List Named → List Piece
own_pieces bytes serial [] = []
own_pieces bytes serial (named ∷ rest) = (named.0, sent_datagram_text serial (not (length rest == 0)) (datagram_with_data bytes named)) ∷ own_pieces bytes serial rest

abbrev last_of : Named → List Named → Named
last_of named [] = named
last_of named (next ∷ rest) = last_of next rest

abbrev pieces_in : Data → ℕ → ℕ → List Named → List Piece
pieces_in bytes serial size [] = []
pieces_in bytes serial size (named ∷ rest) =
    (named.0, frame_head serial size) ∷ own_pieces bytes serial (named ∷ rest) ++ ((last_of named rest).0, padding size) ∷ []

abbrev pieces_of : Data → Frame → List Piece
pieces_of bytes frame = pieces_in bytes frame.serial (carried_bytes bytes frame.datagrams) frame.datagrams

last_there : (named : Named) (rest : List Named) → slice_get (named ∷ rest) (length rest) ≡ Some (last_of named rest)
last_there named [] = refl
last_there named (next ∷ rest) = last_there next rest

own_part : (bytes : Data) (serial task : ℕ) (names : List Named) → texts_if task (own_pieces bytes serial names) ≡ own_texts bytes serial task names
own_part bytes serial task [] = refl
own_part bytes serial task (named ∷ rest) =
    ap (λ after_it. text_if task named.0 (sent_datagram_text serial (not (length rest == 0)) (datagram_with_data bytes named)) ++ after_it) (own_part bytes serial task rest)

part_in : (bytes : Data) (serial size task : ℕ) (names : List Named) → 0 < length names
    → texts_if task (pieces_in bytes serial size names)
    ≡ share_text task (frame_head serial size) (slice_get names 0) ++ own_texts bytes serial task names ++ share_text task (padding size) (slice_get names (length names - 1))
part_in bytes serial size task [] some = absurd (omega (arith, some))
part_in bytes serial size task (named ∷ rest) some =
    let names = named ∷ rest in
    let head = text_if task named.0 (frame_head serial size) in
    let less : length names - 1 ≡ length rest = omega arith in
    let last : text_if task (last_of named rest).0 (padding size) ≡ share_text task (padding size) (slice_get names (length names - 1)) =
    sym (ap (share_text task (padding size)) (ap (slice_get names) less ∙ last_there named rest)) in
    ap (λ after_it. head ++ after_it) (flat_map-append (λ (p : Piece). text_if task p.0 p.1) (own_pieces bytes serial names) (((last_of named rest).0, padding size) ∷ []))
    ∙ ap (λ own. head ++ (own ++ (text_if task (last_of named rest).0 (padding size) ++ []))) (own_part bytes serial task names)
    ∙ ap (λ end. head ++ (own_texts bytes serial task names ++ end)) (append-nil (text_if task (last_of named rest).0 (padding size)) ∙ last)
    ∙ sym (append_assoc head (own_texts bytes serial task names) (share_text task (padding size) (slice_get names (length names - 1))))

parts_in : (bytes : Data) (task : ℕ) (frames : List Frame) → All (λ frame. 0 < length frame.datagrams) frames → part_text bytes task frames ≡ texts_if task (flat_map (pieces_of bytes) frames)
parts_in bytes task [] some = refl
parts_in bytes task (frame ∷ frames) some =
    ap₂ (λ own rest. own ++ rest)
    (sym (part_in bytes frame.serial (carried_bytes bytes frame.datagrams) task frame.datagrams (All-head (λ (f : Frame). 0 < length f.datagrams) frame frames some)))
    (parts_in bytes task frames (All-tail (λ (f : Frame). 0 < length f.datagrams) frame frames some))
    ∙ sym (flat_map-append (λ (p : Piece). text_if task p.0 p.1) (pieces_of bytes frame) (flat_map (pieces_of bytes) frames))

-- joined they are the frame

own_joined : (bytes : Data) (serial : ℕ) (names : List Named) → joined_texts (own_pieces bytes serial names) ≡ sent_datagrams_text serial (map (datagram_with_data bytes) names)
own_joined bytes serial [] = refl
own_joined bytes serial (named ∷ rest) =
    ap (λ after_it. sent_datagram_text serial (not (length rest == 0)) (datagram_with_data bytes named) ++ after_it) (own_joined bytes serial rest) ∙ spelled bytes serial named rest

sizes_same : (bytes : Data) (names : List Named) → text_size (map sent_on_wire (map (datagram_with_data bytes) names)) ≡ carried_bytes bytes names
sizes_same bytes [] = refl
sizes_same bytes (named ∷ rest) =
    let text = sum_by-cons (λ (d : WireDatagram). 12 + length d.bytes) (sent_on_wire (datagram_with_data bytes named)) (map sent_on_wire (map (datagram_with_data bytes) rest)) in
    let own = sum_by-cons (λ (n : Named). 12 + length (bytes n.0 n.1)) named rest in
    let after_it = sizes_same bytes rest in
    omega arith

text_length : (bytes : Data) (serial : ℕ) (names : List Named) → length (sent_datagrams_text serial (map (datagram_with_data bytes) names)) ≡ carried_bytes bytes names
text_length bytes serial names = length-carried_texts serial (map sent_on_wire (map (datagram_with_data bytes) names)) ∙ sizes_same bytes names

-- a text to which the parts of a frame were added, one after another
pub added-up : (bytes : Data) (serial size : ℕ) (names : List Named) (none head all text : List ℕ) → none ≡ [] → head ≡ none ++ frame_head serial size
    → all ≡ head ++ sent_datagrams_text serial (map (datagram_with_data bytes) names) → text ≡ all ++ padding size → size ≡ carried_bytes bytes names
    → text ≡ frame_text serial (map (datagram_with_data bytes) names)
added-up bytes serial size names none head all text is_none is_head is_all is_text same =
    let own = sent_datagrams_text serial (map (datagram_with_data bytes) names) in
    is_text
    ∙ ap (λ before. before ++ padding size) (is_all ∙ ap (λ before. before ++ own) (is_head ∙ ap (λ before. before ++ frame_head serial size) is_none))
    ∙ append_assoc (frame_head serial size) own (padding size)
    ∙ ap (λ (n : ℕ). frame_head serial n ++ (own ++ padding n)) (same ∙ sym (text_length bytes serial names))

-- the bytes that are added to a text, if there is room
pub added : {A : Type 0} {E : Type 0} (result : Result A E) (new old more other : List ℕ) → new ≡ (if is_ok result then old ++ more else old) → more ≡ other
    → OnOk result (new ≡ old ++ other)
added (Ok x) new old more other is same = is ∙ ap (λ text. old ++ text) same
added (Err e) new old more other is same = search rules

joined_in : (bytes : Data) (serial : ℕ) (names : List Named) → 0 < length names
    → joined_texts (pieces_in bytes serial (carried_bytes bytes names) names) ≡ frame_text serial (map (datagram_with_data bytes) names)
joined_in bytes serial [] some = absurd (omega (arith, some))
joined_in bytes serial (named ∷ rest) some =
    let names = named ∷ rest in
    let size = carried_bytes bytes names in
    let text = sent_datagrams_text serial (map (datagram_with_data bytes) names) in
    let last : List Piece = ((last_of named rest).0, padding size) ∷ [] in
    ap (λ after_it. frame_head serial size ++ after_it) (flat_map-append (λ (p : Piece). p.1) (own_pieces bytes serial names) last)
    ∙ ap (λ own. frame_head serial size ++ (own ++ (padding size ++ []))) (own_joined bytes serial names)
    ∙ ap (λ end. frame_head serial size ++ (text ++ end)) (append-nil (padding size))
    ∙ ap (λ (n : ℕ). frame_head serial n ++ (text ++ padding n)) (sym (text_length bytes serial names))

frame_joined : (bytes : Data) (frame : Frame) → 0 < length frame.datagrams → joined_texts (pieces_of bytes frame) ≡ frame_text_of bytes frame
frame_joined bytes frame some = joined_in bytes frame.serial frame.datagrams some

frames_joined : (bytes : Data) (frames : List Frame) → All (λ frame. 0 < length frame.datagrams) frames → joined_texts (flat_map (pieces_of bytes) frames) ≡ flat_map (frame_text_of bytes) frames
frames_joined bytes [] some = refl
frames_joined bytes (frame ∷ frames) some =
    flat_map-append (λ (p : Piece). p.1) (pieces_of bytes frame) (flat_map (pieces_of bytes) frames)
    ∙ ap₂ (λ own rest. own ++ rest) (frame_joined bytes frame (All-head (λ (f : Frame). 0 < length f.datagrams) frame frames some))
    (frames_joined bytes frames (All-tail (λ (f : Frame). 0 < length f.datagrams) frame frames some))

-- what holds of the tasks of datagrams holds of those of pieces

own_all : (P : ℕ → Type 0) (bytes : Data) (serial : ℕ) (names : List Named) → All (λ named. P named.0) names → All (λ p. P p.0) (own_pieces bytes serial names)
own_all P bytes serial [] all = All-nil (λ (p : Piece). P p.0)
own_all P bytes serial (named ∷ rest) all =
    All-cons (λ (p : Piece). P p.0) (named.0, sent_datagram_text serial (not (length rest == 0)) (datagram_with_data bytes named)) (own_pieces bytes serial rest)
    (All-head (λ (n : Named). P n.0) named rest all) (own_all P bytes serial rest (All-tail (λ (n : Named). P n.0) named rest all))

last_all : (P : Named → Type 0) (named : Named) (rest : List Named) → All P (named ∷ rest) → P (last_of named rest)
last_all P named [] all = All-head P named [] all
last_all P named (next ∷ rest) all = last_all P next rest (All-tail P named (next ∷ rest) all)

after_all : (P : ℕ → Type 0) (bytes : Data) (serial size : ℕ) (named : Named) (rest : List Named) → All (λ n. P n.0) (named ∷ rest)
    → All (λ p. P p.0) (own_pieces bytes serial (named ∷ rest) ++ ((last_of named rest).0, padding size) ∷ [])
after_all P bytes serial size named rest all =
    All-append (λ (p : Piece). P p.0) (own_pieces bytes serial (named ∷ rest)) (((last_of named rest).0, padding size) ∷ []) (own_all P bytes serial (named ∷ rest) all)
    (All-cons (λ (p : Piece). P p.0) ((last_of named rest).0, padding size) [] (last_all (λ (n : Named). P n.0) named rest all) (All-nil (λ (p : Piece). P p.0)))

pieces_all : (P : ℕ → Type 0) (bytes : Data) (serial size : ℕ) (names : List Named) → All (λ named. P named.0) names → All (λ p. P p.0) (pieces_in bytes serial size names)
pieces_all P bytes serial size [] all = All-nil (λ (p : Piece). P p.0)
pieces_all P bytes serial size (named ∷ rest) all =
    All-cons (λ (p : Piece). P p.0) (named.0, frame_head serial size) (own_pieces bytes serial (named ∷ rest) ++ ((last_of named rest).0, padding size) ∷ [])
    (All-head (λ (n : Named). P n.0) named rest all) (after_all P bytes serial size named rest all)

frames_all : (P : ℕ → Type 0) (bytes : Data) (frames : List Frame) → All (λ named. P named.0) (in_row frames) → All (λ p. P p.0) (flat_map (pieces_of bytes) frames)
frames_all P bytes [] all = All-nil (λ (p : Piece). P p.0)
frames_all P bytes (frame ∷ frames) all =
    All-append (λ (p : Piece). P p.0) (pieces_of bytes frame) (flat_map (pieces_of bytes) frames)
    (pieces_all P bytes frame.serial (carried_bytes bytes frame.datagrams) frame.datagrams (All-append_left (λ (n : Named). P n.0) frame.datagrams (in_row frames) all))
    (frames_all P bytes frames (All-append_right (λ (n : Named). P n.0) frame.datagrams (in_row frames) all))

-- they ascend as the datagrams do

abbrev AscendNamed : (ℕ → ℕ) → Named → Named → Type 0
AscendNamed place a b = place a.0 ≤ place b.0

chained : (a b c : ℕ) → a ≤ b → b ≤ c → a ≤ c
chained a b c low high = omega arith

up_to_last : (place : ℕ → ℕ) (named : Named) (rest : List Named) → AllPairs (AscendNamed place) (named ∷ rest) → All (λ n. place n.0 ≤ place (last_of named rest).0) (named ∷ rest)
up_to_last place named [] ascend = All-cons (λ (n : Named). place n.0 ≤ place named.0) named [] (at_least (place named.0)) (All-nil (λ (n : Named). place n.0 ≤ place named.0))
up_to_last place named (next ∷ rest) ascend =
    let after_it = up_to_last place next rest (AllPairs-tail (AscendNamed place) named (next ∷ rest) ascend) in
    let last = (last_of next rest).0 in
    All-cons (λ (n : Named). place n.0 ≤ place last) named (next ∷ rest)
    (chained (place named.0) (place next.0) (place last)
    (All-head (AscendNamed place named) next rest (AllPairs-head (AscendNamed place) named (next ∷ rest) ascend))
    (All-head (λ (n : Named). place n.0 ≤ place last) next rest after_it))
    after_it

own_ascend : (place : ℕ → ℕ) (bytes : Data) (serial : ℕ) (names : List Named) → AllPairs (AscendNamed place) names → AllPairs (Ascend place) (own_pieces bytes serial names)
own_ascend place bytes serial [] ascend = AllPairs-nil (Ascend place)
own_ascend place bytes serial (named ∷ rest) ascend =
    AllPairs-cons (Ascend place) (named.0, sent_datagram_text serial (not (length rest == 0)) (datagram_with_data bytes named)) (own_pieces bytes serial rest)
    (own_all (λ k. place named.0 ≤ place k) bytes serial rest (AllPairs-head (AscendNamed place) named rest ascend))
    (own_ascend place bytes serial rest (AllPairs-tail (AscendNamed place) named rest ascend))

pieces_ascend : (place : ℕ → ℕ) (bytes : Data) (serial size : ℕ) (names : List Named) → AllPairs (AscendNamed place) names → AllPairs (Ascend place) (pieces_in bytes serial size names)
pieces_ascend place bytes serial size [] ascend = AllPairs-nil (Ascend place)
pieces_ascend place bytes serial size (named ∷ rest) ascend =
    let names = named ∷ rest in
    let last : Piece = ((last_of named rest).0, padding size) in
    let own = own_pieces bytes serial names in
    AllPairs-cons (Ascend place) (named.0, frame_head serial size) (own ++ last ∷ [])
    (after_all (λ k. place named.0 ≤ place k) bytes serial size named rest
    (All-cons (AscendNamed place named) named rest (at_least (place named.0)) (AllPairs-head (AscendNamed place) named rest ascend)))
    (AllPairs-append (Ascend place) own (last ∷ []) (own_ascend place bytes serial names ascend)
    (AllPairs-cons (Ascend place) last [] (All-nil (Ascend place last)) (AllPairs-nil (Ascend place)))
    (own_all (λ k. All (λ (q : Piece). place k ≤ place q.0) (last ∷ [])) bytes serial names
    (All-weaker (λ (n : Named). place n.0 ≤ place last.0) (λ (n : Named). All (λ (q : Piece). place n.0 ≤ place q.0) (last ∷ []))
    (λ n less. All-cons (λ (q : Piece). place n.0 ≤ place q.0) last [] less (All-nil (λ (q : Piece). place n.0 ≤ place q.0))) names (up_to_last place named rest ascend))))

frames_ascend : (place : ℕ → ℕ) (bytes : Data) (frames : List Frame) → AllPairs (AscendNamed place) (in_row frames) → AllPairs (Ascend place) (flat_map (pieces_of bytes) frames)
frames_ascend place bytes [] ascend = AllPairs-nil (Ascend place)
frames_ascend place bytes (frame ∷ frames) ascend =
    let names = frame.datagrams in
    let size = carried_bytes bytes names in
    let after_it = flat_map (pieces_of bytes) frames in
    AllPairs-append (Ascend place) (pieces_of bytes frame) after_it
    (pieces_ascend place bytes frame.serial size names (AllPairs-append_left (AscendNamed place) names (in_row frames) ascend))
    (frames_ascend place bytes frames (AllPairs-append_right (AscendNamed place) names (in_row frames) ascend))
    (pieces_all (λ k. All (λ (q : Piece). place k ≤ place q.0) after_it) bytes frame.serial size names
    (All-weaker (λ (a : Named). All (AscendNamed place a) (in_row frames)) (λ (a : Named). All (λ (q : Piece). place a.0 ≤ place q.0) after_it)
    (λ a all. frames_all (λ k. place a.0 ≤ place k) bytes frames all) names (AllPairs-between (AscendNamed place) names (in_row frames) ascend)))

-- the place of a task among tasks

abbrev place_among : List ℕ → ℕ → ℕ
place_among [] own = 0
place_among (task ∷ tasks) own = cond (own == task) 0 (place_among tasks own + 1)

inside : (i j n : ℕ) → i < j → j < n → i < n
inside i j n low high = omega arith

pub weaker : (a b : ℕ) → a < b → a ≤ b
weaker a b less = omega arith

places_ascend : (tasks : List ℕ) → has_repeat tasks ≡ false → AllPairs (λ a b. place_among tasks a < place_among tasks b) tasks
places_ascend [] distinct = AllPairs-nil (λ a b. place_among [] a < place_among [] b)
places_ascend (task ∷ tasks) distinct =
    let parts = or_parts (list_any (λ other. other == task) tasks) (has_repeat tasks) distinct in
    let apart = All-from_none (λ other. other == task) tasks parts.0 in
    let after_it = places_ascend tasks parts.1 in
    let first : place_among (task ∷ tasks) task ≡ 0 = ap (λ b. cond b 0 (place_among tasks task + 1)) (eq-eqb task task refl) in
    let later : (own : ℕ) → (own == task) ≡ false → place_among (task ∷ tasks) own ≡ place_among tasks own + 1 =
    λ own other. ap (λ b. cond b 0 (place_among tasks own + 1)) other in
    AllPairs-cons (λ a b. place_among (task ∷ tasks) a < place_among (task ∷ tasks) b) task tasks
    (All-weaker (λ other. (other == task) ≡ false) (λ other. place_among (task ∷ tasks) task < place_among (task ∷ tasks) other)
    (λ other differs. let more = later other differs in omega (arith, first, more)) tasks apart)
    (λ i j d lower within.
    let low = later (get_or tasks i d) (apart i d (inside i j (length tasks) lower within)) in
    let high = later (get_or tasks j d) (apart j d within) in
    let less = after_it i j d lower within in
    omega (arith, low, high, less))

-- the datagrams of the tasks come in their order
named_ascend : (line : List Member) (place : ℕ → ℕ) (tasks : List ℕ) → AllPairs (λ a b. place a < place b) tasks → AllPairs (AscendNamed place) (flat_map (task_datagrams line) tasks)
named_ascend line place tasks ranked =
    AllPairs-flat_map (AscendNamed place) (λ a b. place a < place b) (task_datagrams line)
    (λ task. AllPairs-map (AscendNamed place) (λ d. (task, d)) (range_with_len 0 (datagram_count (task_places task line))) (λ i j d lower within. at_least (place task)))
    (λ a b less.
    All-map (λ (n : Named). All (AscendNamed place n) (task_datagrams line b)) (λ d. (a, d)) (range_with_len 0 (datagram_count (task_places a line)))
    (λ i d within. All-map (AscendNamed place (a, get_or (range_with_len 0 (datagram_count (task_places a line))) i d)) (λ e. (b, e)) (range_with_len 0 (datagram_count (task_places b line))) (λ j e below. weaker (place a) (place b) less)))
    tasks ranked

pub parts-join : (bytes : Data) (line : List Member) (serial : ℕ) (tasks : List ℕ) → has_repeat tasks ≡ false
    → flat_map (λ task. part_text bytes task (sendings_of line serial tasks)) tasks ≡ flat_map (frame_text_of bytes) (sendings_of line serial tasks)
parts-join bytes line serial tasks distinct =
    let names = flat_map (task_datagrams line) tasks in
    let frames = sendings_of line serial tasks in
    let place = place_among tasks in
    let ranked = places_ascend tasks distinct in
    let row : in_row frames ≡ names = row-of line serial names in
    let some : All (λ (frame : Frame). 0 < length frame.datagrams) frames =
    All-weaker (IsWhole line (λ named. is_one_of tasks named.0 ≡ true)) (λ (frame : Frame). 0 < length frame.datagrams) (λ frame whole. whole.some) frames
    (whole-frames line (λ named. is_one_of tasks named.0 ≡ true) serial names (own-datagrams line tasks)) in
    flat_alike (λ task. part_text bytes task frames) (λ task. texts_if task (flat_map (pieces_of bytes) frames)) tasks (λ i d within. parts_in bytes (get_or tasks i d) frames some)
    ∙ pieces_join place tasks (flat_map (pieces_of bytes) frames) ranked
    (frames_ascend place bytes frames (subst (AllPairs (AscendNamed place)) (sym row) (named_ascend line place tasks ranked)))
    (frames_all (λ k. is_one_of tasks k ≡ true) bytes frames (subst (All (λ (named : Named). is_one_of tasks named.0 ≡ true)) (sym row) (own-datagrams line tasks)))
    ∙ frames_joined bytes frames some
