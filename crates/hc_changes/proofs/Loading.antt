-- A task's table put together a datagram at a time, as long as its boundaries go.
use Rattle.std.proofs.Common.{◌≡◌, ◌∙◌, ap, ℕ, suc, ◌+◌, ◌*◌, ◌<◌, ◌≤◌, Bool, List, [], ◌∷◌, length, refl, sym, arith, length-append, rules}
use Rattle.std.specs.Prelude.{All, None, min, nat_lt}
use Rattle.std.proofs.Math.Nat.{min-eq_left}
use Rattle.std.proofs.lemmas.Bool.{ltb-false, ltb-true}
use Rattle.hc_records.specs.declared.limits.TheConstants.{MOST_DATAGRAM_BYTES}
use Rattle.hc_records.specs.declared.records.Declared.{Declared}
use Rattle.hc_records.specs.declared.keys.Key.{Key}
use Rattle.hc_records.specs.declared.keys.TheConstants.Key.{START}
use Rattle.hc_records.specs.Boundaries.{later_keys}
use Rattle.hc_records.specs.Image.{datagram_count, logical_address, task_places}
use Rattle.hc_records.specs.Laws.{IsPackable}
use Rattle.hc_records.specs.Line.{groups_of, line_from}
use Rattle.hc_records.specs.Packing.{Placed, empty_front, packed}
use Rattle.hc_records.specs.Project.{lowest_fault}
use Rattle.hc_records.specs.TaskList.{Keyed, task_list}
use Rattle.hc_records.proofs.lemmas.Cuts.{count-later_keys}
use Rattle.hc_records.proofs.lemmas.Lengths.{length-sendable}
use Rattle.hc_cuts.proofs.lemmas.Datagrams.{inside-none}
use Rattle.hc_cuts.specs.Starts.{TaskCuts}
use Rattle.hc_cuts.specs.Areas.{areas_by_rank}
use Rattle.hc_cuts.specs.LineKeeping.{Before}
use Rattle.hc_cuts.specs.TaskCuts.{starts_by}
use Rattle.hc_cuts.proofs.lemmas.AnswerGiven.{task-listed}
use Rattle.hc_places.specs.declared.datagram_uses.DatagramUse.{DatagramUse}
use Rattle.hc_places.specs.declared.table.Datagram.{Datagram}
use Rattle.hc_places.specs.DatagramUses.{IsDatagramUse, datagram_use_in, loaded, with_datagram_use}
use Rattle.hc_places.specs.Table.{Table, TaskTable, task_table}
use Rattle.hc_places.proofs.lemmas.Lines.{table-loaded}
use Rattle.hc_changes.specs.Tables.{TableIsEdited}
use Rattle.hc_changes.proofs.lemmas.Tables.{task-list}

-- so many datagrams of a task, or all if it has fewer
abbrev pub loaded_up_to : ℕ → List Placed → ℕ → TaskTable
loaded_up_to task areas number = loaded task areas (min number (datagram_count areas))

-- a datagram that has some bytes is one of the task's
some-within : (low : Bool) (list : List Keyed) (number : ℕ) → nat_lt number (datagram_count (packed empty_front list)) ≡ low → 0 < (datagram_use_in (packed empty_front list) number).length
    → number < datagram_count (packed empty_front list)
some-within low list number test some = search (rules, ltb-true, ltb-false, inside-none)

next-some : (task : ℕ) (list : List Keyed) (number : ℕ) (table : TaskTable) (datagram_use : DatagramUse) → table ≡ loaded_up_to task (packed empty_front list) number
    → datagram_use ≡ datagram_use_in (packed empty_front list) number → 0 < datagram_use.length → with_datagram_use task table datagram_use ≡ loaded_up_to task (packed empty_front list) (number + 1)
next-some task list number table datagram_use is own some =
    let areas = packed empty_front list in
    let count = datagram_count areas in
    let here : datagram_use.length ≡ (datagram_use_in areas number).length = ap (λ (l : DatagramUse). l.length) own in
    let within = some-within (nat_lt number count) list number refl (omega arith) in
    let before : min number count ≡ number = min-eq_left (omega arith) in
    let after : min (number + 1) count ≡ suc number = min-eq_left {n = number + 1} {m = count} (omega arith) ∙ (omega arith) in
    search rules

-- and one that has none is after the last one
none-after_it : (low : Bool) (list : List Keyed) (number : ℕ) → All IsPackable list → nat_lt number (datagram_count (packed empty_front list)) ≡ low
    → (datagram_use_in (packed empty_front list) number).length ≡ 0 → datagram_count (packed empty_front list) ≤ number
none-after_it low list number packable test none = search (rules, length-sendable, ltb-true, ltb-false)

next-none : (task : ℕ) (list : List Keyed) (number : ℕ) (table : TaskTable) (datagram_use : DatagramUse) → All IsPackable list → table ≡ loaded_up_to task (packed empty_front list) number
    → datagram_use ≡ datagram_use_in (packed empty_front list) number → datagram_use.length ≡ 0 → table ≡ loaded_up_to task (packed empty_front list) (number + 1)
next-none task list number table datagram_use packable is own none =
    let areas = packed empty_front list in
    let count = datagram_count areas in
    let after_it = none-after_it (nat_lt number count) list number packable refl (sym (ap (λ (l : DatagramUse). l.length) own) ∙ none) in
    let same : min number count ≡ min (number + 1) count = omega arith in
    is ∙ ap (loaded task areas) same

-- at the last boundary all datagrams are added

keys-many : (list : List Keyed) → All IsPackable list → datagram_count (packed empty_front list) ≤ length (START ∷ later_keys list)
keys-many [] all = omega arith
keys-many (area ∷ areas) all = let count = count-later_keys area areas all in omega arith

pub all-loaded : (groups : List Declared) (task number : ℕ) (starts : List Key) (table : TaskTable) → lowest_fault (groups_of groups) ≡ None
    → starts ≡ starts_by task (areas_by_rank groups) → length starts ≤ number → table ≡ loaded_up_to task (task_places task (line_from 1 groups)) number
    → table ≡ task_table (line_from 1 groups) task
all-loaded groups task number starts table none are_placed all is =
    let areas = task_places task (line_from 1 groups) in
    let keys : length starts ≡ length (START ∷ later_keys (task_list task (line_from 1 groups))) = search (rules, task-listed) in
    let many = keys-many (task_list task (line_from 1 groups)) (task-list groups task none).packable in
    let last : min number (datagram_count areas) ≡ datagram_count areas = omega arith in
    is ∙ ap (loaded task areas) last ∙ sym (table-loaded groups task none)

-- what is known of the table of the datagrams so far
pub record AreLoaded (old : Table) (known : Before) (trees : List TaskCuts) (task number : ℕ) (table : TaskTable) : Type 0 where
  pub are_placed : (before after : List Declared) → TableIsEdited before after old known trees → table ≡ loaded_up_to task (task_places task (line_from 1 after)) number
  pub count : length table.datagrams ≤ number
  pub short : table.outputs + table.inputs ≤ length table.datagrams * MOST_DATAGRAM_BYTES

-- and of what the next one holds
abbrev pub IsNext : Table → Before → List TaskCuts → ℕ → ℕ → DatagramUse → Type 0
IsNext old known trees task number datagram_use =
    (before after : List Declared) → TableIsEdited before after old known trees → datagram_use ≡ datagram_use_in (task_places task (line_from 1 after)) number

pub adds-some : (old : Table) (known : Before) (trees : List TaskCuts) (task number : ℕ) (table : TaskTable) (datagram_use : DatagramUse) → AreLoaded old known trees task number table
    → IsNext old known trees task number datagram_use → IsDatagramUse datagram_use → 0 < datagram_use.length → AreLoaded old known trees task (number + 1) (with_datagram_use task table datagram_use)
adds-some old known trees task number table datagram_use are next is some =
    let many = length-append table.datagrams ((with-made task table datagram_use) ∷ []) in
    let count = are.count in
    let short = are.short in
    let part = is.part in
    record {
      are_placed = λ before after edited. next-some task (task_list task (line_from 1 after)) number table datagram_use (are.are_placed before after edited) (next before after edited) some;
      count = omega arith;
      short = omega arith;
    }
  where
    with-made : ℕ → TaskTable → DatagramUse → Datagram
    with-made task' table' datagram_use' = record {
      address = logical_address task' (length table'.datagrams);
      length = datagram_use'.length;
      expected = datagram_use'.expected;
      offset = table'.outputs + table'.inputs;
    }

pub adds-none : (old : Table) (known : Before) (trees : List TaskCuts) (task number : ℕ) (table : TaskTable) (datagram_use : DatagramUse) → AreLoaded old known trees task number table
    → IsNext old known trees task number datagram_use → datagram_use.length ≤ 0 → AreLoaded old known trees task (number + 1) table
adds-none old known trees task number table datagram_use are next none =
    let count = are.count in record {
      are_placed = λ before after edited.
          next-none task (task_list task (line_from 1 after)) number table datagram_use (task-list after task edited.line.project).packable (are.are_placed before after edited) (next before after edited)
          (omega arith);
      count = omega arith;
      short = are.short;
    }
