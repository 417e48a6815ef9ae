-- The tasks of a line with more slaves.
use Rattle.std.specs.Prelude.{All, map}
use Rattle.std.proofs.Common.{◌≡◌, ℕ, zero, suc, ◌+◌, ◌-◌, ◌≤◌, List, ◌∷◌, length, refl, sym, ap, subst, ◌∙◌, arith}
use Rattle.std.proofs.lemmas.List.Elements.{All-cons, All-nil}
use Rattle.hc_records.specs.declared.records.Area.{Area}
use Rattle.hc_cuts.specs.Starts.{TaskCuts, cuts_with_slaves}
use Rattle.hc_cuts.specs.TaskCuts.{both_task_cuts, task_cuts_from, line_cuts}
use Rattle.hc_cuts.specs.Room.{AreOfFewer, TreesCanAdmit, HasRoomFor, with_absent}
use Rattle.hc_cuts.proofs.lemmas.Absent.{length-with_absent, list-absent}

unchanged-wider : (task slaves count : ℕ) (line : List (List Area)) → slaves ≡ length line + count → cuts_with_slaves slaves (both_task_cuts task line) ≡ both_task_cuts task (with_absent count line)
unchanged-wider task slaves count line is = rw (list-absent task count line, length-with_absent count line, is) refl

from-wider : (tasks task slaves count : ℕ) (line : List (List Area)) → slaves ≡ length line + count
    → map (cuts_with_slaves slaves) (task_cuts_from tasks task line) ≡ task_cuts_from tasks task (with_absent count line)
from-wider zero task slaves count line is = refl
from-wider (suc tasks) task slaves count line is =
    ap (λ (unchanged : TaskCuts). unchanged ∷ map (cuts_with_slaves slaves) (task_cuts_from tasks (task + 1) line)) (unchanged-wider task slaves count line is)
    ∙ ap (λ (rest : List TaskCuts). both_task_cuts task (with_absent count line) ∷ rest) (from-wider tasks (task + 1) slaves count line is)

pub line-wider : (slaves count : ℕ) (line : List (List Area)) (tasks seen wider : List TaskCuts) → seen ≡ tasks → tasks ≡ line_cuts line → slaves ≡ length line + count
    → wider ≡ map (cuts_with_slaves slaves) seen → wider ≡ line_cuts (with_absent count line)
line-wider slaves count line tasks seen wider same are_placed many is = is ∙ ap (map (cuts_with_slaves slaves)) (same ∙ are_placed) ∙ from-wider 8 0 slaves count line many

-- a line of fewer slaves has some after its own
pub fewer-wider : (slaves : ℕ) (tasks seen wider : List TaskCuts) (fewer : AreOfFewer tasks slaves) → seen ≡ tasks → wider ≡ map (cuts_with_slaves slaves) seen
    → wider ≡ line_cuts (with_absent (slaves - length fewer.line) fewer.line)
fewer-wider slaves tasks seen wider fewer same is =
    let few = fewer.few in
    line-wider slaves (slaves - length fewer.line) fewer.line tasks seen wider same fewer.of_line (omega arith) is

-- each task has as many slaves as the line

from-all : (P : TaskCuts → Type 0) (line : List (List Area)) → ((task : ℕ) → P (both_task_cuts task line)) → (tasks task : ℕ) → All P (task_cuts_from tasks task line)
from-all P line each zero task = All-nil P
from-all P line each (suc tasks) task = All-cons P (both_task_cuts task line) (task_cuts_from tasks (task + 1) line) (each task) (from-all P line each tasks (task + 1))

pub each-fewer : (tasks seen : List TaskCuts) (slaves : ℕ) → seen ≡ tasks → AreOfFewer tasks slaves → All (λ unchanged. unchanged.tree.slaves ≤ slaves) seen
each-fewer tasks seen slaves same fewer =
    subst (λ (all : List TaskCuts). All (λ unchanged. unchanged.tree.slaves ≤ slaves) all) (sym (same ∙ fewer.of_line)) (from-all (λ unchanged. unchanged.tree.slaves ≤ slaves) fewer.line (λ task. fewer.few) 8 0)

pub each-room : (tasks seen : List TaskCuts) (slaves : ℕ) → seen ≡ tasks → TreesCanAdmit tasks slaves → All (HasRoomFor slaves) seen
each-room tasks seen slaves same can =
    let fewer = can.fewer in
    subst (λ (all : List TaskCuts). All (HasRoomFor slaves) all) (sym (same ∙ fewer.of_line))
    (from-all (HasRoomFor slaves) fewer.line (λ task. record { few = fewer.few; room = can.room }) 8 0)
