-- What a read's contract says one datagram after another holds by offsets.
use Rattle.std.proofs.Common.{◌≡◌, ℕ, zero, suc, ◌+◌, ◌-◌, ◌<◌, ◌≤◌, ◌∙◌, inl, inr, List, [], ◌++◌, length, refl, sym, ap, subst, append_assoc, arith}
use Rattle.std.specs.Prelude.{Option, Some, None, drop, map, option_and_then, replicate, slice_get, take}
use Rattle.std.specs.Option.{option_map_or}
use Rattle.std.specs.List.{range_with_len}
use Rattle.std.proofs.Math.Seq.{drop-append-add, take-append_seam}
use Rattle.std.proofs.lemmas.Bool.{cases_lt, cases_order}
use Rattle.std.proofs.lemmas.List.{get_or-replicate, length-replicate}
use Rattle.std.proofs.lemmas.List.Sums.{sum_by-cons}
use Rattle.std.proofs.lemmas.Option.{slice_get-get_or, slice_get_past}
use Rattle.hc_records.specs.declared.limits.TheConstants.{TASKS}
use Rattle.hc_records.specs.Image.{datagram_count, datagram_length, datagram_offset, input_length, output_length, task_places, tasks}
use Rattle.hc_records.specs.Line.{Member}
use Rattle.hc_records.proofs.lemmas.Lists.{get-back, get-front}
use Rattle.hc_records.proofs.lemmas.Parts.{offset-le}
use Rattle.hc_records.proofs.lemmas.Tiles.{tiles-image}
use Rattle.hc_places.specs.declared.table.Datagram.{Datagram}
use Rattle.hc_places.specs.Table.{TaskTable, datagram_of, task_table}
use Rattle.hc_plan.proofs.lemmas.TableRows.{row-is}
use Rattle.hc_events.specs.Entries.{History}
use Rattle.hc_events.specs.Points.{line_of}
use Rattle.hc_events.specs.Steady.{steady_slot}
use Rattle.hc_c.specs.declared.reading.Image.{Image}
use Rattle.hc_c.specs.Looks.{datagram_at, task_part_bytes}
use Rattle.hc_c.specs.Offsets.{HasNoData, HoldsByOffset, ReadsHoldByOffset, bytes_at}
use Rattle.hc_c.specs.Reads.{HoldsImage, data_or_zeros, datagrams_of, image_from, image_size}
use Rattle.hc_c.proofs.Returned.{row_at}
use Rattle.hc_c.proofs.SteadySlots.{steady_slots-fit}

-- pieces one after another, so many from a number on, and then the rest
abbrev pieces : (ℕ → List ℕ) → List ℕ → ℕ → ℕ → List ℕ
pieces piece rest a zero = rest
pieces piece rest a (suc n) = piece a ++ pieces piece rest (a + 1) n

-- pieces of these sizes; each begins where the one before it ends
record AreLaid (piece : ℕ → List ℕ) (offset size : ℕ → ℕ) : Type 0 where
  next : (d : ℕ) → offset (d + 1) ≡ offset d + size d
  rises : (a b : ℕ) → a ≤ b → offset a ≤ offset b
  sized : (d : ℕ) → length (piece d) ≡ size d

take-first : (xs ys : List ℕ) (n : ℕ) → length xs ≡ n → take n (xs ++ ys) ≡ xs
take-first xs ys n is = subst (λ (k : ℕ). take k (xs ++ ys) ≡ xs) is (take-append_seam xs ys)

-- a piece is found at its offset
piece-at : (piece : ℕ → List ℕ) (offset size : ℕ → ℕ) (rest : List ℕ) → AreLaid piece offset size → (n a d m : ℕ) → a ≤ d → d < a + n → offset a + m ≡ offset d
    → take (size d) (drop m (pieces piece rest a n)) ≡ piece d
piece-at piece offset size rest laid zero a d m low high at = absurd (omega (arith, low, high))
piece-at piece offset size rest laid (suc n) a d m low high at = elim (cases_order a d) [
  | inl same ↦
      let here = ap offset same in
      let none : m ≡ 0 = omega (arith, here, at) in
      ap (λ (k : ℕ). take (size d) (drop k (piece a ++ pieces piece rest (a + 1) n))) none
      ∙ take-first (piece a) (pieces piece rest (a + 1) n) (size d) (laid.sized a ∙ ap size same)
      ∙ ap piece same
  | inr (inl lower) ↦
      let next = laid.next a in
      let begun : offset (a + 1) ≤ offset d = laid.rises (a + 1) d (omega (arith, lower)) in
      let own = laid.sized a in
      let later : offset (a + 1) + (m - size a) ≡ offset d = omega (arith, next, begun, at) in
      let cut : m ≡ length (piece a) + (m - size a) = omega (arith, next, begun, at, own) in
      ap (λ (k : ℕ). take (size d) (drop k (piece a ++ pieces piece rest (a + 1) n))) cut
      ∙ ap (take (size d)) (drop-append-add (piece a) (pieces piece rest (a + 1) n) (m - size a))
      ∙ piece-at piece offset size rest laid n (a + 1) d (m - size a) (omega (arith, lower)) (omega (arith, high)) later
  | inr (inr higher) ↦ absurd (omega (arith, low, higher))
]

zero-get : (n i : ℕ) → i < n → slice_get {X = ℕ} (replicate n 0) i ≡ Some 0
zero-get n i low =
    let all = length-replicate {A = ℕ} n 0 in
    slice_get-get_or (replicate n 0) i 0 (omega (arith, all, low)) ∙ ap Some (get_or-replicate n i 0 0 low)

-- a byte of the pieces is 0 where the piece that has it is zeros
zero-at : (piece : ℕ → List ℕ) (offset size : ℕ → ℕ) (rest : List ℕ) → AreLaid piece offset size → (n a m : ℕ) → offset a + m < offset (a + n)
    → ((d : ℕ) → a ≤ d → d < a + n → offset d ≤ offset a + m → offset a + m < offset d + size d → piece d ≡ replicate (size d) 0)
    → slice_get (pieces piece rest a n) m ≡ Some 0
zero-at piece offset size rest laid zero a m low zeros =
    let none : a + 0 ≡ a = omega arith in
    let same = ap offset none in
    absurd (omega (arith, same, low))
zero-at piece offset size rest laid (suc n) a m low zeros = elim (cases_lt m (size a)) [
  | inl own ↦
      let sized = laid.sized a in
      get-front (piece a) (pieces piece rest (a + 1) n) m (omega (arith, own, sized))
      ∙ ap (λ (xs : List ℕ). slice_get xs m) (zeros a (omega arith) (omega arith) (omega arith) (omega (arith, own)))
      ∙ zero-get (size a) m own
  | inr history ↦
      let sized = laid.sized a in
      let next = laid.next a in
      let last : a + 1 + n ≡ a + suc n = omega arith in
      let ends = ap offset last in
      let here : offset (a + 1) + (m - size a) ≡ offset a + m = omega (arith, next, history) in
      let back : m - length (piece a) ≡ m - size a = omega (arith, sized) in
      get-back (piece a) (pieces piece rest (a + 1) n) m (omega (arith, history, sized))
      ∙ ap (slice_get (pieces piece rest (a + 1) n)) back
      ∙ zero-at piece offset size rest laid n (a + 1) (m - size a) (omega (arith, here, low, ends))
      (λ d from below begins over. zeros d (omega (arith, from)) (omega (arith, below)) (omega (arith, begins, here)) (omega (arith, over, here)))
]

-- what a read writes, as pieces
image-pieces : (history : History) (task : ℕ) (row : ℕ → Datagram) (rest : List ℕ) (n a : ℕ)
    → image_from history task a (map row (range_with_len a n)) ++ rest ≡ pieces (λ d. data_or_zeros (row d).length (steady_slot history task d)) rest a n
image-pieces history task row rest zero a = refl
image-pieces history task row rest (suc n) a =
    let own = data_or_zeros (row a).length (steady_slot history task a) in
    append_assoc own (image_from history task (a + 1) (map row (range_with_len (a + 1) n))) rest
    ∙ ap (λ (xs : List ℕ). own ++ xs) (image-pieces history task row rest n (a + 1))

sizes : (row : ℕ → Datagram) (offset : ℕ → ℕ) → ((d : ℕ) → offset (d + 1) ≡ offset d + (row d).length) → (n a : ℕ)
    → offset a + image_size (map row (range_with_len a n)) ≡ offset (a + n)
sizes row offset next zero a =
    let none : a ≡ a + 0 = omega arith in
    let same = ap offset none in
    omega (arith, same)
sizes row offset next (suc n) a =
    let one = sum_by-cons (λ (d : Datagram). d.length) (row a) (map row (range_with_len (a + 1) n)) in
    let later = sizes row offset next n (a + 1) in
    let last : a + 1 + n ≡ a + suc n = omega arith in
    let ends = ap offset last in
    let step = next a in
    omega (arith, one, later, ends, step)

-- a task of a line in its table

abbrev parts_of : Option TaskTable → ℕ × ℕ
parts_of table = option_map_or (λ found. (found.outputs, found.inputs)) table (0, 0)

pub task-there : (members : List Member) (task : ℕ) → task < TASKS → slice_get (map (task_table members) tasks) task ≡ Some (task_table members task)
task-there members (suc (suc (suc (suc (suc (suc (suc (suc task)))))))) low = absurd (omega arith)
task-there members other low = refl

sized-slot : (history : History) (task d : ℕ) (slot : Option (List ℕ)) → steady_slot history task d ≡ slot
    → length (data_or_zeros (datagram_length (task_places task (line_of history)) d) slot) ≡ datagram_length (task_places task (line_of history)) d
sized-slot history task d None is = length-replicate (datagram_length (task_places task (line_of history)) d) 0
sized-slot history task d (Some bytes) is = steady_slots-fit history task d bytes is

-- a datagram that covers a byte without data has none
no-data : (history : History) (task byte d : ℕ) (slot : Option (List ℕ)) → steady_slot history task d ≡ slot → task < TASKS → d < datagram_count (task_places task (line_of history))
    → HasNoData history task byte → datagram_offset (task_places task (line_of history)) d ≤ byte
    → byte < datagram_offset (task_places task (line_of history)) d + datagram_length (task_places task (line_of history)) d
    → data_or_zeros (datagram_length (task_places task (line_of history)) d) slot ≡ replicate (datagram_length (task_places task (line_of history)) d) 0
unfolding datagram_at
no-data history task byte d None is low counted none begins over = refl
no-data history task byte d (Some bytes) is low counted none begins over =
    elim (none d (datagram_of (line_of history) task d) bytes (row_at (line_of history) task d low counted) is) [
      | inl before ↦ absurd (omega (arith, before, begins))
      | inr after ↦ absurd (omega (arith, after, over))
    ]

laid-out : (history : History) (task : ℕ)
    → AreLaid (λ d. data_or_zeros (datagram_length (task_places task (line_of history)) d) (steady_slot history task d)) (datagram_offset (task_places task (line_of history))) (datagram_length (task_places task (line_of history)))
laid-out history task = record {
  next = (tiles-image (task_places task (line_of history))).next;
  rises = offset-le (task_places task (line_of history));
  sized = λ d. sized-slot history task d (steady_slot history task d) refl;
}

task-holds : (history : History) (task first : ℕ) (image : Image) (before after serials serials' : List ℕ) → task < TASKS
    → HoldsImage history task (map (datagram_of (line_of history) task) (range_with_len 0 (datagram_count (task_places task (line_of history))))) first image before after serials serials'
    → HoldsByOffset history task image after
unfolding datagram_at task_part_bytes
task-holds history task first image before after serials serials' low holds =
    let members = line_of history in
    let areas = task_places task members in
    let count = datagram_count areas in
    let row = datagram_of members task in
    let rest = drop (image_size (map row (range_with_len 0 count))) before in
    let piece = λ (d : ℕ). data_or_zeros (datagram_length areas d) (steady_slot history task d) in
    let laid = laid-out history task in
    let tiles = tiles-image areas in
    let last = tiles.last in
    let bytes : after ≡ pieces piece rest 0 count = holds.bytes ∙ image-pieces history task row rest count 0 in
    let all : 0 + image_size (map row (range_with_len 0 count)) ≡ datagram_offset areas (0 + count) = sizes row (datagram_offset areas) tiles.next count 0 in
    let begin : datagram_offset areas 0 ≡ 0 = tiles.first in
    let count_is : 0 + count ≡ count = omega arith in
    let whole = ap (datagram_offset areas) count_is in
    let sum : image_size (map row (range_with_len 0 count)) ≡ output_length areas + input_length areas = omega (arith, all, whole, last) in
    let size = ap (λ (one : Image). one.size) holds.reported in
    record {
      each = λ number datagram own at is.
          let found = row-is members task number datagram at in
          let counted = found.counted in
          ap (λ (one : Datagram). bytes_at one.offset one.length after) found.is
          ∙ ap (bytes_at (datagram_offset areas number) (datagram_length areas number)) bytes
          ∙ piece-at piece (datagram_offset areas) (datagram_length areas) rest laid count 0 number (datagram_offset areas number) (omega arith) (omega (arith, counted)) (omega (arith, begin))
          ∙ ap (data_or_zeros (datagram_length areas number)) is;
      others = λ byte within none.
          ap (λ (xs : List ℕ). slice_get xs byte) bytes
          ∙ zero-at piece (datagram_offset areas) (datagram_length areas) rest laid count 0 byte (omega (arith, within, size, all, begin))
          (λ d from below begins over. no-data history task byte d (steady_slot history task d) refl low (omega (arith, below)) none (omega (arith, begins, begin)) (omega (arith, over, begin)));
      size = size ∙ sum ∙ sym (ap (λ (o : Option TaskTable). (parts_of o).0 + (parts_of o).1) (task-there members task low));
    }

-- there is no task over 7

no-task : (members : List Member) (task : ℕ) → TASKS ≤ task → slice_get (map (task_table members) tasks) task ≡ None
no-task members task high = slice_get_past (map (task_table members) tasks) task high

none-holds : (history : History) (task first : ℕ) (image : Image) (before after serials serials' : List ℕ) → TASKS ≤ task
    → HoldsImage history task (datagrams_of history task) first image before after serials serials' → HoldsByOffset history task image after
unfolding datagram_at task_part_bytes
none-holds history task first image before after serials serials' high holds =
    let members = line_of history in
    let none = no-task members task high in
    let size : image.size ≡ 0 = ap (λ (one : Image). one.size) holds.reported ∙ ap (λ (o : Option TaskTable). image_size (option_map_or (λ (found : TaskTable). found.datagrams) o [])) none in
    record {
      each = λ number datagram own at is.
          let nowhere : None ≡ Some datagram = sym (ap (option_and_then (λ (found : TaskTable). slice_get found.datagrams number)) none) ∙ at in
          cc;
      others = λ byte within empty. absurd (omega (arith, within, size));
      size = size ∙ sym (ap (λ (o : Option TaskTable). (parts_of o).0 + (parts_of o).1) none);
    }

pub reads-hold : ReadsHoldByOffset
reads-hold history task first image before after serials serials' holds = elim (cases_lt task TASKS) [
  | inl low ↦
      task-holds history task first image before after serials serials' low
      (subst (λ (all : List Datagram). HoldsImage history task all first image before after serials serials')
      (ap (λ (o : Option TaskTable). option_map_or (λ (found : TaskTable). found.datagrams) o []) (task-there (line_of history) task low)) holds)
  | inr high ↦ none-holds history task first image before after serials serials' high holds
]
