-- The datagram where a variable of a line lies, and its part of the image.
use Rattle.std.proofs.Common.{◌≡◌, ℕ, ◌+◌, ◌≤◌, true, List, Some, None, get_or, refl, sym, ap, ◌∙◌, arith}
use Rattle.std.specs.Prelude.{All, nat_lt, ◌==◌, ◌&&◌}
use Rattle.std.specs.List.{enumerate_from}
use Rattle.std.proofs.lemmas.Bool.{and_parts}
use Rattle.hc_records.specs.declared.records.Dir.{Dir}
use Rattle.hc_records.specs.declared.records.Dir.TheVariants.{Out, In}
use Rattle.hc_records.specs.declared.records.Area.{Area}
use Rattle.hc_records.specs.declared.keys.Key.{Key}
use Rattle.hc_records.specs.Keys.{same_dir}
use Rattle.hc_records.specs.Area.{width}
use Rattle.hc_records.specs.Line.{Member, State, groups_of, line}
use Rattle.hc_records.specs.TaskList.{belongs, task_areas, task_list}
use Rattle.hc_records.specs.Packing.{Placed}
use Rattle.hc_records.specs.Image.{VariablePlace, datagram_count, task_places, variable_place}
use Rattle.hc_records.specs.Project.{lowest_fault}
use Rattle.hc_records.specs.Laws.{KeepsToItsPart}
use Rattle.hc_records.specs.ImageLaws.{LiesInDatagram, IsInItsPart}
use Rattle.hc_records.specs.Limits.{IsEntryWidth}
use Rattle.hc_records.proofs.lemmas.Ascending.{keys-ascend, every}
use Rattle.hc_records.proofs.lemmas.Entries.{HasEntryWidths, task-areas-all, task-widths}
use Rattle.hc_records.proofs.lemmas.Greatest.{greatest-all}
use Rattle.hc_records.proofs.lemmas.Parts.{EndsInDatagram, ends-in-datagram, outputs-first}
use Rattle.hc_records.proofs.lemmas.Tasks.{listed}
use Rattle.hc_records.proofs.lemmas.VariableBits.{found-place}
use Rattle.hc_records.proofs.lemmas.Variables.{IsPlaced, area-variables-all, line-variables-all, pairs-placed, task_pairs, zip-left, zip-right, IsAnything}

pub variables-lie : (state : State) (variable : ℕ) (place : VariablePlace) → lowest_fault (groups_of state.groups) ≡ None → variable_place variable (line state) ≡ Some place →
    LiesInDatagram (line state) place
variables-lie state variable place none =
    found-place (LiesInDatagram (line state)) (line state) variable place
    (line-variables-all (LiesInDatagram (line state)) (line state)
    (λ task low k d within.
    let areas = task_areas task (line state) in
    let places = task_places task (line state) in
    let pair = get_or (task_pairs (line state) task) k d in
    let counted : pair.1.datagram + 1 ≤ datagram_count places =
    zip-right (λ area. area.datagram + 1 ≤ datagram_count places) areas places (greatest-all (λ (area : Placed). area.datagram + 1) 0 places) k d within in
    let ends : EndsInDatagram places pair.1 = zip-right (EndsInDatagram places) areas places (ends-in-datagram places) k d within in
    area-variables-all IsEntryWidth (LiesInDatagram (line state)) task pair (pairs-placed (line state) task k d within)
    (zip-left (λ area. HasEntryWidths area.area) areas places (task-widths state task none) k d within)
    (λ found inside. record {
      task = low;
      datagram = omega arith;
      some = inside.is.some;
      most = inside.is.most;
      within = let to = inside.to in omega arith;
    })))

-- an area of a task has the direction of its key
pub same_dir-same : (a b : Dir) → same_dir a b ≡ true → a ≡ b
same_dir-same Out Out same = refl
same_dir-same Out In same = cc
same_dir-same In Out same = cc
same_dir-same In In same = refl

belongs-dir : (task : ℕ) (dir : Dir) (area : Area) → belongs task dir area ≡ true → dir ≡ area.dir
belongs-dir task dir area belonging =
    let direction = and_parts (area.task == task) (same_dir area.dir dir) (and_parts ((area.task == task) && same_dir area.dir dir) (nat_lt 0 (width area)) belonging).0 in
    sym (same_dir-same area.dir dir direction.1)

task-dirs : (line : List Member) (task : ℕ) → All (λ area. area.key.dir ≡ area.area.dir) (task_areas task line)
task-dirs line task =
    task-areas-all (λ area. area.key.dir ≡ area.area.dir) task line
    (λ dir. every (λ member. All (λ e. belongs task dir e.1 ≡ true → (listed dir member.rank e).key.dir ≡ e.1.dir) (enumerate_from 0 member.slave.areas)) line
    (λ member. every (λ e. belongs task dir e.1 ≡ true → (listed dir member.rank e).key.dir ≡ e.1.dir) (enumerate_from 0 member.slave.areas)
    (λ e belonging. belongs-dir task dir e.1 belonging)))

pub variables-are_placed : (state : State) (variable : ℕ) (place : VariablePlace) → variable_place variable (line state) ≡ Some place → IsInItsPart (line state) place
variables-are_placed state variable place =
    found-place (IsInItsPart (line state)) (line state) variable place
    (line-variables-all (IsInItsPart (line state)) (line state)
    (λ task low k d within.
    let areas = task_areas task (line state) in
    let places = task_places task (line state) in
    let pair = get_or (task_pairs (line state) task) k d in
    let placed : IsPlaced pair = pairs-placed (line state) task k d within in
    let stays : KeepsToItsPart places pair.1 = zip-right (KeepsToItsPart places) areas places (outputs-first (task_list task (line state)) (keys-ascend state task)) k d within in
    let own : pair.0.key.dir ≡ pair.0.area.dir = zip-left (λ area. area.key.dir ≡ area.area.dir) areas places (task-dirs (line state) task) k d within in
    let dir : pair.1.key.dir ≡ pair.0.area.dir = ap (λ (key : Key). key.dir) placed.key ∙ own in
    area-variables-all IsAnything (IsInItsPart (line state)) task pair placed (λ i e inside. refl)
    (λ found inside. record {
      output = λ is. (let end = stays.output (dir ∙ is) in let to = inside.to in omega arith);
      input = λ is. (let start = stays.input (dir ∙ is) in let from = inside.from in omega arith);
    })))
