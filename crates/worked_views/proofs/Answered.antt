-- A good answer of a plan's line.
use Rattle.std.proofs.Common.{◌≡◌, ◌∙◌, ap, sym, subst, ℕ, zero, suc, ◌<◌, List, [], ◌∷◌, length, arith}
use Rattle.std.specs.Prelude.{Option, Some, None, map, option_and_then, slice_get}
use Rattle.std.specs.Option.{option_map_or}
use Rattle.std.specs.List.{range_with_len}
use Rattle.hc_records.specs.declared.limits.TheConstants.{TASKS}
use Rattle.hc_records.specs.Line.{Member, State, line}
use Rattle.hc_records.specs.Image.{datagram_count, datagram_length, task_places}
use Rattle.hc_places.specs.declared.table.Datagram.{Datagram}
use Rattle.hc_places.specs.Table.{Table, TaskTable, datagram_in, datagram_of, table_of}
use Rattle.hc_places.proofs.lemmas.DatagramUses.{table-at}
use Rattle.hc_events.specs.declared.change.Change.TheVariants as change
use Rattle.hc_events.specs.Changes.{AreLegalFrom, IsAnswerIn}
use Rattle.hc_events.specs.Images.{NewAnswer}

-- the first of the listed datagrams of a task is, and has its length
first_listed : (line : List Member) (task count : ℕ) (datagram : Datagram) → slice_get (map (datagram_of line task) (range_with_len 0 count)) 0 ≡ Some datagram
    → (0 < count) × (datagram.length ≡ datagram_length (task_places task line) 0)
first_listed line task zero datagram found = let never : None ≡ Some datagram = found in cc
first_listed line task (suc count) datagram found = (omega arith, sym (ap (λ (o : Option Datagram). option_map_or (λ (d : Datagram). d.length) o 0) found))

answer_is_placed : (state : State) (task : ℕ) (datagram : Datagram) (bytes : List ℕ) → task < TASKS → datagram_in (table_of (line state)) task 0 ≡ Some datagram → length bytes ≡ datagram.length
    → IsAnswerIn state task 0 bytes
answer_is_placed state task datagram bytes low found long =
    let at = table-at (line state) task low in
    let listed = sym (ap (option_and_then (λ (table : TaskTable). slice_get table.datagrams 0)) at) ∙ found in
    let first = first_listed (line state) task (datagram_count (task_places task (line state))) datagram listed in
    record { in_line = first.0; fits = long ∙ first.1 }

-- data of its length, which are said of it, are legal
pub first_answer_is_legal : (state : State) (task : ℕ) (table : Table) (datagram : Datagram) (bytes : List ℕ) (good : NewAnswer) → task < TASKS → table ≡ table_of (line state)
    → Some datagram ≡ datagram_in table task 0 → good ≡ record { task = task; datagram = 0; bytes = bytes } → length bytes ≡ datagram.length → AreLegalFrom state (change.Good good ∷ [])
first_answer_is_legal state task table datagram bytes good low is found answer_given long =
    let there = ap (λ (t : Table). datagram_in t task 0) (sym is) ∙ sym found in
    (subst (λ (g : NewAnswer). IsAnswerIn state g.task g.datagram g.bytes) (sym answer_given) (answer_is_placed state task datagram bytes low there long), tt)
