-- The use of a task's datagrams by its areas, and the task's table put together from these uses.
use Rattle.std.proofs.Common.{◌≡◌, ◌∙◌, ap, ℕ, zero, suc, ◌+◌, ◌-◌, ◌*◌, ◌/◌, ◌<◌, ◌≤◌, Bool, true, false, cond, List, [], ◌∷◌, ◌++◌, length, refl, sym, arith}
use Rattle.std.specs.Prelude.{All, Option, Some, None, find, map, min, nat_lt, option_map, slice_get, ◌==◌}
use Rattle.std.specs.Option.{option_map_or}
use Rattle.std.specs.List.{range_with_len}
use Rattle.std.proofs.Math.Nat.{min-eq_left, min-eq_right}
use Rattle.std.proofs.lemmas.Bool.{eqb-false, ltb-false, ltb-true}
use Rattle.std.proofs.lemmas.List.Elements.{All-filter, All-head, All-tail, All-weaker}
use Rattle.std.proofs.lemmas.List.FromFn.{get_or-map-range_with_len, length-map-range_with_len, map-range_with_len_more}
use Rattle.std.proofs.lemmas.Option.{slice_get-get_or, slice_get-map, slice_get_past}
use Rattle.hc_records.specs.declared.limits.TheConstants.{TASKS}
use Rattle.hc_records.specs.declared.records.Declared.{Declared}
use Rattle.hc_records.specs.declared.records.Dir.{Dir}
use Rattle.hc_records.specs.declared.records.Dir.TheVariants.{Out, In}
use Rattle.hc_records.specs.Keys.{same_dir}
use Rattle.hc_records.specs.Line.{Member, groups_of, line_from}
use Rattle.hc_records.specs.Project.{lowest_fault}
use Rattle.hc_records.specs.TaskList.{Keyed, task_list}
use Rattle.hc_records.specs.Packing.{Front, Placed, front_with, fits, empty_front, packed, placed_at}
use Rattle.hc_records.specs.Image.{datagram_count, datagram_length, datagram_offset, end_of, inside, logical_address, output_length, task_places, tasks}
use Rattle.hc_records.specs.Laws.{Ascends, KeepsToItsPart}
use Rattle.hc_records.proofs.lemmas.Finds.{found-none}
use Rattle.hc_records.proofs.lemmas.Greatest.{greatest-most}
use Rattle.hc_records.proofs.lemmas.Lengths.{bit_after}
use Rattle.hc_records.proofs.lemmas.Packed.{place}
use Rattle.hc_records.proofs.lemmas.Parts.{EndsInDatagram, ends-in-datagram, outputs-first}
use Rattle.hc_cuts.proofs.lemmas.Datagrams.{inside-none, inside-numbered}
use Rattle.hc_places.specs.declared.datagram_uses.DatagramUse.{DatagramUse}
use Rattle.hc_places.specs.declared.table.Datagram.{Datagram}
use Rattle.hc_places.specs.DatagramUses.{datagram_use_in, datagram_use_in_table, datagram_use_answered, loaded, no_datagram_use, datagram_use_by_table}
use Rattle.hc_places.specs.DatagramUses.{counted_inside}
use Rattle.hc_places.proofs.Project.{IsConfigurable}
use Rattle.hc_places.specs.Table.{TaskTable, datagram_of, table_of, task_table}
use Rattle.hc_places.proofs.lemmas.Layouts.{task-at}
use Rattle.hc_places.proofs.Configurable.{project-configurable}
use Rattle.hc_places.proofs.lemmas.Found.{find-holds}

abbrev is_input : Placed → Bool
is_input area = same_dir area.key.dir In

-- a datagram that is filled up to a byte border by its outputs at most: its first input begins there at the latest

starts-low : (fitting : Bool) (bytes datagram : ℕ) (front : Front) (area : Keyed) → area.0.dir ≡ In → (place fitting front area).datagram ≡ datagram
    → (front.datagram ≡ datagram → (front.last ≡ Out) × (front.bit ≤ 8 * bytes)) → (place fitting front area).bit ≤ 8 * bytes
starts-low fitting bytes datagram front area input at filled = grind arith

pub dir-in : (dir : Dir) → same_dir dir In ≡ true → dir ≡ In
dir-in dir test = grind arith

pub dir-out : (dir : Dir) → same_dir dir In ≡ false → dir ≡ Out
dir-out dir test = grind arith

abbrev FillsTo : ℕ → Placed → Type 0
FillsTo bytes area = area.key.dir ≡ Out → area.bit + area.bits ≤ 8 * bytes

place-dir : (fitting : Bool) (front : Front) (area : Keyed) → (place fitting front area).key.dir ≡ area.0.dir
place-dir fitting front area = grind arith

first-by : (here input : Bool) (bytes datagram : ℕ) (placed : Placed) (rest : List Placed) (first : Placed) → (placed.datagram == datagram) ≡ here → is_input placed ≡ input
    → All (FillsTo bytes) (cond here (placed ∷ rest) rest) → find is_input (cond here (placed ∷ rest) rest) ≡ Some first
    → (placed.datagram ≡ datagram → placed.key.dir ≡ In → placed.bit ≤ 8 * bytes)
    → ((placed.datagram ≡ datagram → (placed.key.dir ≡ Out) × (placed.bit + placed.bits ≤ 8 * bytes)) → All (FillsTo bytes) rest → find is_input rest ≡ Some first → first.bit ≤ 8 * bytes)
    → first.bit ≤ 8 * bytes
first-by true true bytes datagram placed rest first at input all found own later = grind arith
first-by true false bytes datagram placed rest first at input all found own later =
    later (λ same. (dir-out placed.key.dir input, All-head (FillsTo bytes) placed rest all (dir-out placed.key.dir input))) (All-tail (FillsTo bytes) placed rest all)
    (sym (ap (λ (b : Bool). cond b (Some placed) (find is_input rest)) input) ∙ found)
first-by false input bytes datagram placed rest first at test all found own later =
    later (λ same. let other = eqb-false placed.datagram datagram at in absurd (other same)) all found

first-low : (bytes datagram : ℕ) (front : Front) (list : List Keyed) (first : Placed) → (front.datagram ≡ datagram → (front.last ≡ Out) × (front.bit ≤ 8 * bytes))
    → All (FillsTo bytes) (inside datagram (packed front list)) → find is_input (inside datagram (packed front list)) ≡ Some first → first.bit ≤ 8 * bytes
first-low bytes datagram front [] first filled all found = cc
first-low bytes datagram front (area ∷ areas) first filled all found =
    let placed = placed_at front area in
    first-by (placed.datagram == datagram) (is_input placed) bytes datagram placed (inside datagram (packed (front_with placed) areas)) first refl refl all found
    (λ at input. starts-low (fits front area) bytes datagram front area (sym (place-dir (fits front area) front area) ∙ input) at filled)
    (λ filled' all' found'. first-low bytes datagram (front_with placed) areas first filled' all' found')

-- of a datagram, the bytes before the end of the image's outputs come before its first input

abbrev outputs_by : Option Placed → ℕ → ℕ
outputs_by found length = option_map_or (λ area. area.bit / 8) found length

-- what the areas of a datagram keep to
record StaysInPart (areas : List Placed) (datagram : ℕ) (area : Placed) : Type 0 where
  pub number : area.datagram ≡ datagram
  pub part : KeepsToItsPart areas area
  pub ends : EndsInDatagram areas area

stays-inside : (areas : List Placed) (datagram : ℕ) → All (KeepsToItsPart areas) areas → All (StaysInPart areas datagram) (inside datagram areas)
stays-inside areas datagram parts k d within = record {
  number = inside-numbered datagram areas k d within;
  part = All-filter (λ area. area.datagram == datagram) (KeepsToItsPart areas) areas parts k d within;
  ends = All-filter (λ area. area.datagram == datagram) (EndsInDatagram areas) areas (ends-in-datagram areas) k d within;
}

fills : (areas : List Placed) (datagram : ℕ) (area : Placed) → StaysInPart areas datagram area → FillsTo (output_length areas - datagram_offset areas datagram) area
fills areas datagram area stays output = grind arith

bytes-low : (bytes end : ℕ) → end ≤ 8 * bytes → (end + 7) / 8 ≤ bytes
bytes-low bytes end low = omega arith

part-by : (list : List Keyed) (datagram : ℕ) (found : Option Placed) → Ascends list → find is_input (inside datagram (packed empty_front list)) ≡ found
    → outputs_by found (datagram_length (packed empty_front list) datagram)
    ≡ min (output_length (packed empty_front list) - datagram_offset (packed empty_front list) datagram) (datagram_length (packed empty_front list) datagram)
part-by list datagram None ascends none =
    let areas = packed empty_front list in
    let bytes = output_length areas - datagram_offset areas datagram in
    let stays = stays-inside areas datagram (outputs-first list ascends) in
    let outputs = found-none is_input (inside datagram areas) none in
    let low : end_of (inside datagram areas) ≤ 8 * bytes =
    greatest-most bit_after 0 (8 * bytes) (inside datagram areas) (omega arith)
    (λ k d within. fills areas datagram _ (stays k d within) (dir-out _ (outputs k d within))) in
    sym (min-eq_right {n = datagram_length areas datagram} {m = bytes} (bytes-low bytes (end_of (inside datagram areas)) low))
part-by list datagram (Some first) ascends found =
    let areas = packed empty_front list in
    let bytes = output_length areas - datagram_offset areas datagram in
    let all = stays-inside areas datagram (outputs-first list ascends) in
    let is = find-holds (StaysInPart areas datagram) is_input (inside datagram areas) first found all in
    let low : first.bit ≤ 8 * bytes =
    first-low bytes datagram empty_front list first (λ at. (refl, omega arith))
    (All-weaker (StaysInPart areas datagram) (FillsTo bytes) (fills areas datagram) (inside datagram areas) all) found in
    let offset : datagram_offset areas first.datagram ≡ datagram_offset areas datagram = ap (datagram_offset areas) is.0.number in
    let length : datagram_length areas first.datagram ≡ datagram_length areas datagram = ap (datagram_length areas) is.0.number in
    let end = is.0.ends in
    let high = is.0.part.input (dir-in first.key.dir is.1) in
    let same : first.bit / 8 ≡ bytes = omega arith in
    same ∙ sym (min-eq_left {n = bytes} {m = datagram_length areas datagram} (omega arith))

datagram_use-part : (list : List Keyed) (datagram : ℕ) → Ascends list
    → (datagram_use_in (packed empty_front list) datagram).outputs
    ≡ min (output_length (packed empty_front list) - datagram_offset (packed empty_front list) datagram) (datagram_length (packed empty_front list) datagram)
datagram_use-part list datagram ascends = part-by list datagram (find is_input (inside datagram (packed empty_front list))) ascends refl

-- the table of the first datagrams

abbrev pub datagram_at : ℕ → List Placed → ℕ → Datagram
datagram_at task areas datagram = record {
  address = logical_address task datagram;
  length = datagram_length areas datagram;
  expected = counted_inside datagram areas;
  offset = datagram_offset areas datagram;
}

pub record IsLoaded (task : ℕ) (areas : List Placed) (count : ℕ) (table : TaskTable) : Type 0 where
  pub datagrams : table.datagrams ≡ map (datagram_at task areas) (range_with_len 0 count)
  pub bytes : table.outputs + table.inputs ≡ datagram_offset areas count
  pub outputs : table.outputs ≡ min (datagram_offset areas count) (output_length areas)

min-step : (offset length end : ℕ) → min offset end + min (end - offset) length ≡ min (offset + length) end
min-step offset length end = omega arith

pub is-loaded : (task : ℕ) (list : List Keyed) (count : ℕ) → Ascends list → IsLoaded task (packed empty_front list) count (loaded task (packed empty_front list) count)
is-loaded task list zero ascends = record { datagrams = refl; bytes = refl; outputs = omega arith }
is-loaded task list (suc count) ascends =
    let areas = packed empty_front list in
    let before = is-loaded task list count ascends in
    let datagram_use = datagram_use_in areas count in
    let part : datagram_use.outputs ≡ min (output_length areas - datagram_offset areas count) (datagram_length areas count) = datagram_use-part list count ascends in
    let many : length (loaded task areas count).datagrams ≡ count = ap length before.datagrams ∙ length-map-range_with_len (datagram_at task areas) 0 count in
    let sum = before.bytes in
    let outs = before.outputs in
    let made : Datagram = record {
      address = logical_address task (length (loaded task areas count).datagrams);
      length = datagram_use.length;
      expected = datagram_use.expected;
      offset = (loaded task areas count).outputs + (loaded task areas count).inputs;
    } in
    let one : made ≡ datagram_at task areas count = datagram-is task areas count (length (loaded task areas count).datagrams) ((loaded task areas count).outputs + (loaded task areas count).inputs) many sum in
    let next : count + 1 ≡ suc count = omega arith in
    record {
      datagrams =
          ap (λ (d : Datagram). (loaded task areas count).datagrams ++ d ∷ []) one
          ∙ ap (λ (ds : List Datagram). ds ++ datagram_at task areas count ∷ []) before.datagrams
          ∙ sym (map-range_with_len_more (datagram_at task areas) 0 count count (omega arith))
          ∙ ap (λ (n : ℕ). map (datagram_at task areas) (range_with_len 0 n)) next;
      bytes = omega arith;
      outputs = ap (λ (n : ℕ). n + datagram_use.outputs) outs
          ∙ ap (λ (n : ℕ). min (datagram_offset areas count) (output_length areas) + n) part
          ∙ min-step (datagram_offset areas count) (datagram_length areas count) (output_length areas);
    }
  where
    datagram-is : (task' : ℕ) (areas' : List Placed) (count' number offset : ℕ) → number ≡ count' → offset ≡ datagram_offset areas' count'
        → record { address = logical_address task' number; length = (datagram_use_in areas' count').length; expected = (datagram_use_in areas' count').expected; offset = offset } ≡ datagram_at task' areas' count'
    datagram-is task' areas' count' number offset same same' = rw (same, same') refl

pub map-agree : {X Y : Type 0} (f g : X → Y) → ((x : X) → f x ≡ g x) → (xs : List X) → map f xs ≡ map g xs
map-agree f g same [] = refl
map-agree f g same (x ∷ xs) = rw (same x, map-agree f g same xs) refl

pub datagram-same : (task : ℕ) (line : List Member) → IsConfigurable line → (datagram : ℕ) → datagram_at task (task_places task line) datagram ≡ datagram_of line task datagram
datagram-same task line configurable datagram = grind arith

-- what a table says of a datagram is what it holds

abbrev made : ℕ → ℕ → ℕ → DatagramUse
made long count outs = record { length = long; expected = count; outputs = outs }

datagram_use-is : (long long' count count' outs outs' : ℕ) → long ≡ long' → count ≡ count' → outs ≡ outs' → made long count outs ≡ made long' count' outs'
datagram_use-is long long' count count' outs outs' one two three = rw (one, two, three) refl

answer_given-by : (low : Bool) (task datagram : ℕ) (line : List Member) → nat_lt datagram (datagram_count (task_places task line)) ≡ low → IsConfigurable line
    → datagram_use_in_table (task_table line task) datagram ≡ datagram_use_in (task_places task line) datagram
answer_given-by true task datagram line test configurable =
    let areas = task_places task line in
    let count = datagram_count areas in
    let all = range_with_len 0 count in
    let within = ltb-true datagram count test in
    let own = datagram_of line task datagram in
    let many = length-map-range_with_len (datagram_of line task) 0 count in
    let here : slice_get (map (datagram_of line task) all) datagram ≡ Some own =
    slice_get-get_or (map (datagram_of line task) all) datagram own (omega arith)
    ∙ ap (λ (d : Datagram). Some d) (get_or-map-range_with_len (datagram_of line task) 0 count datagram datagram own within (omega arith)) in
    ap (λ (found : Option Datagram). option_map_or (datagram_use_by_table (task_table line task)) found no_datagram_use) here
    ∙ datagram_use-is own.length (datagram_length areas datagram) own.expected (counted_inside datagram areas) (datagram_use_by_table (task_table line task) own).outputs (datagram_use_in areas datagram).outputs
    refl (sym (configurable.counted task datagram)) (sym (datagram_use-part (task_list task line) datagram (configurable.ascends task)))
answer_given-by false task datagram line test configurable =
    grind (arith, ltb-false, length-map-range_with_len, slice_get_past, inside-none)

-- a task's table is at its number
pub table-at : (line : List Member) (task : ℕ) → task < TASKS → slice_get (table_of line).tasks task ≡ Some (task_table line task)
table-at line task low = slice_get-map (task_table line) tasks task ∙ ap (option_map (task_table line)) (task-at task low)

pub datagram_use-answer_given : (groups : List Declared) (task datagram : ℕ) → lowest_fault (groups_of groups) ≡ None → task < TASKS
    → datagram_use_answered (table_of (line_from 1 groups)) task datagram ≡ datagram_use_in (task_places task (line_from 1 groups)) datagram
datagram_use-answer_given groups task datagram none low =
    let line = line_from 1 groups in
    ap (λ (found : Option TaskTable). option_map_or (λ table. datagram_use_in_table table datagram) found no_datagram_use) (table-at line task low)
    ∙ answer_given-by (nat_lt datagram (datagram_count (task_places task line))) task datagram line refl (project-configurable groups none)
