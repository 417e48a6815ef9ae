-- The datagrams of a task, as the table of its line lists them.
use Rattle.std.proofs.Common.{◌≡◌, ◌∙◌, ◌<◌, ◌≤◌, ℕ, zero, suc, true, List, [], ◌∷◌, refl, sym, ap, arith, length, map, get_or, inl, inr}
use Rattle.std.specs.Prelude.{All, None, nat_lt, ◌==◌, ◌&&◌, ◌⊎◌}
use Rattle.std.specs.List.{enumerate_from, range_with_len}
use Rattle.std.proofs.lemmas.Bool.{and_parts, cases_lt, eqb-true}
use Rattle.std.proofs.lemmas.List.Elements.{All-head, All-weaker}
use Rattle.std.proofs.lemmas.List.FromFn.{get_or-map-range_with_len, length-map-range_with_len}
use Rattle.hc_records.specs.declared.limits.TheConstants.{TASKS}
use Rattle.hc_records.specs.declared.records.Area.{Area}
use Rattle.hc_records.specs.declared.records.Dir.{Dir}
use Rattle.hc_records.specs.Area.{width}
use Rattle.hc_records.specs.Keys.{same_dir}
use Rattle.hc_records.specs.Limits.{IsAreaInside, IsSlaveInside}
use Rattle.hc_records.specs.Line.{Member, State, groups_of, line}
use Rattle.hc_records.specs.Packing.{empty_front, packed}
use Rattle.hc_records.specs.Project.{lowest_fault}
use Rattle.hc_records.specs.TaskList.{Keyed, belongs, task_list}
use Rattle.hc_records.proofs.lemmas.Lists.{All-enumerate_from}
use Rattle.hc_records.proofs.lemmas.Slaves.{line-inside}
use Rattle.hc_records.proofs.lemmas.Tasks.{task-list-all}
use Rattle.hc_records.specs.Image.{datagram_count, task_places}
use Rattle.hc_places.specs.declared.table.Datagram.{Datagram}
use Rattle.hc_places.specs.Table.{datagram_of, datagrams_in, table_of}
use Rattle.hc_events.specs.Sendings.{line_data_length}

abbrev Numbered : List Member → ℕ → List Datagram
Numbered line task = map (datagram_of line task) (range_with_len 0 (datagram_count (task_places task line)))

-- those of each of the eight tasks
task-listed : (line : List Member) (task : ℕ) → task < TASKS → datagrams_in (table_of line) task ≡ Numbered line task
task-listed line zero low = refl
task-listed line (suc zero) low = refl
task-listed line (suc (suc zero)) low = refl
task-listed line (suc (suc (suc zero))) low = refl
task-listed line (suc (suc (suc (suc zero)))) low = refl
task-listed line (suc (suc (suc (suc (suc zero))))) low = refl
task-listed line (suc (suc (suc (suc (suc (suc zero)))))) low = refl
task-listed line (suc (suc (suc (suc (suc (suc (suc zero))))))) low = refl
task-listed line (suc (suc (suc (suc (suc (suc (suc (suc task)))))))) low = absurd (omega arith)

-- a project has no area in a further task

none-left : {X : Type 0} (xs : List X) → All (λ _. ⊥) xs → xs ≡ []
none-left [] all = refl
none-left (x ∷ xs) all = absurd (All-head (λ _. ⊥) x xs all)

belongs-task : (task : ℕ) (dir : Dir) (area : Area) → belongs task dir area ≡ true → area.task ≡ task
belongs-task task dir area belonging =
    eqb-true area.task task (and_parts (area.task == task) (same_dir area.dir dir) (and_parts ((area.task == task) && same_dir area.dir dir) (nat_lt 0 (width area)) belonging).0).0

further-empty : (state : State) (task : ℕ) → lowest_fault (groups_of state.groups) ≡ None → TASKS ≤ task → task_list task (line state) ≡ []
further-empty state task none high =
    none-left (task_list task (line state)) (
    task-list-all (λ _. ⊥) task (line state)
    (λ dir. All-weaker (λ (member : Member). IsSlaveInside member.slave) (λ (member : Member). All (λ e. belongs task dir e.1 ≡ true → ⊥) (enumerate_from 0 member.slave.areas))
    (λ member inside.
    All-weaker (λ (e : ℕ × Area). IsAreaInside e.1) (λ (e : ℕ × Area). belongs task dir e.1 ≡ true → ⊥)
    (λ e own belonging. let same = belongs-task task dir e.1 belonging in omega (arith, own.task, high, same))
    (enumerate_from 0 member.slave.areas) (All-enumerate_from IsAreaInside 0 member.slave.areas inside.areas))
    (line state) (line-inside state.groups none))
    )

further-none : (line : List Member) (task : ℕ) → TASKS ≤ task → datagrams_in (table_of line) task ≡ []
further-none line zero high = absurd (omega (arith, high))
further-none line (suc zero) high = absurd (omega (arith, high))
further-none line (suc (suc zero)) high = absurd (omega (arith, high))
further-none line (suc (suc (suc zero))) high = absurd (omega (arith, high))
further-none line (suc (suc (suc (suc zero)))) high = absurd (omega (arith, high))
further-none line (suc (suc (suc (suc (suc zero))))) high = absurd (omega (arith, high))
further-none line (suc (suc (suc (suc (suc (suc zero)))))) high = absurd (omega (arith, high))
further-none line (suc (suc (suc (suc (suc (suc (suc zero))))))) high = absurd (omega (arith, high))
further-none line (suc (suc (suc (suc (suc (suc (suc (suc task)))))))) high = refl

all-listed : (state : State) (task : ℕ) → lowest_fault (groups_of state.groups) ≡ None → (task < TASKS) ⊎ (TASKS ≤ task) → datagrams_in (table_of (line state)) task ≡ Numbered (line state) task
all-listed state task none (inl low) = task-listed (line state) task low
all-listed state task none (inr high) =
    further-none (line state) task high
    ∙ sym (ap (λ (list : List Keyed). map (datagram_of (line state) task) (range_with_len 0 (datagram_count (packed empty_front list)))) (further-empty state task none high))

-- so of a project all datagrams are listed, whatever the task's number
project-listed : (state : State) (task : ℕ) → lowest_fault (groups_of state.groups) ≡ None → datagrams_in (table_of (line state)) task ≡ Numbered (line state) task
project-listed state task none = all-listed state task none (cases_lt task TASKS)

-- they are as many as the task has
pub listed-count : (state : State) (task : ℕ) (datagrams : List Datagram) → lowest_fault (groups_of state.groups) ≡ None → datagrams ≡ datagrams_in (table_of (line state)) task
    → length datagrams ≡ datagram_count (task_places task (line state))
listed-count state task datagrams none is =
    ap length (is ∙ project-listed state task none) ∙ length-map-range_with_len (datagram_of (line state) task) 0 (datagram_count (task_places task (line state)))

-- and each has its length
pub listed-length : (state : State) (task number : ℕ) (datagrams : List Datagram) (other : Datagram) → lowest_fault (groups_of state.groups) ≡ None
    → datagrams ≡ datagrams_in (table_of (line state)) task → number < length datagrams
    → (get_or datagrams number other).length ≡ line_data_length (line state) (task, number)
listed-length state task number datagrams other none is inside =
    let count = datagram_count (task_places task (line state)) in
    let within = listed-count state task datagrams none is in
    ap (λ (ds : List Datagram). (get_or ds number other).length) (is ∙ project-listed state task none)
    ∙ ap (λ (d : Datagram). d.length) (get_or-map-range_with_len (datagram_of (line state) task) 0 count number number other (omega (arith, inside, within)) (omega arith))

-- a task with a datagram is one of the eight
none_counted : (state : State) (task : ℕ) → lowest_fault (groups_of state.groups) ≡ None → TASKS ≤ task → datagram_count (task_places task (line state)) ≡ 0
none_counted state task none high = ap (λ (list : List Keyed). datagram_count (packed empty_front list)) (further-empty state task none high)

low_or_none : (state : State) (task number : ℕ) → lowest_fault (groups_of state.groups) ≡ None → number < datagram_count (task_places task (line state)) → (task < TASKS) ⊎ (TASKS ≤ task) → task < TASKS
low_or_none state task number none is_placed (inl low) = low
low_or_none state task number none is_placed (inr high) = let empty = none_counted state task none high in absurd (omega (arith, is_placed, empty))

pub standing-task : (state : State) (task number : ℕ) → lowest_fault (groups_of state.groups) ≡ None → number < datagram_count (task_places task (line state)) → task < TASKS
standing-task state task number none is_placed = low_or_none state task number none is_placed (cases_lt task TASKS)
