-- The tasks that will wait once an edit is carried out and each slave that came with it is cleared.
use Rattle.std.proofs.Common.{◌≡◌, ℕ, ◌==◌, ◌&&◌, Bool, true, false, cond, List, [], ◌∷◌, refl, sym, ap, ap₂, ◌∙◌, subst, Option, None}
use Rattle.std.specs.Prelude.{fold, is_some, not, option_and_then}
use Rattle.hc_records.specs.declared.edit.Edit.{Edit}
use Rattle.hc_records.specs.Edits.{over_limit_task, slave_at, state_after}
use Rattle.hc_records.specs.Line.{State, groups_of, line}
use Rattle.hc_records.specs.Project.{lowest_fault}
use Rattle.hc_records.proofs.lemmas.Choices.{by_bool}
use Rattle.hc_plan.specs.Prepared.{IsPrepared, PreparedEdit}
use Rattle.hc_events.specs.Entries.{History, Edited, Forgot, Cleared}
use Rattle.hc_events.specs.Heads.{Block}
use Rattle.hc_events.specs.Holding.{is_unplugged, may_hold}
use Rattle.hc_events.specs.Owed.{if_confirmed, is_in_line, known_bytes, last_write}
use Rattle.hc_events.specs.Points.{state_of}
use Rattle.hc_events.specs.Ready.{comers, edited_and_cleared, waiting_after, with_cleared}
use Rattle.hc_events.proofs.lemmas.Comers.{after-held, after-known, after-state, after-unplugged}
use Rattle.hc_owed.specs.declared.task_set.TaskSet.{TaskSet}
use Rattle.hc_owed.specs.EditWaits.{areas_cleared, held_cleared}
use Rattle.hc_owed.specs.Laws.{known_over}
use Rattle.hc_owed.specs.Readiness.{readiness_of}
use Rattle.hc_owed.specs.ReadinessLaws.{AreWaiting}
use Rattle.hc_owed.specs.ReadinessSteps.{IsReadinessFor, unplugged_over}
use Rattle.hc_owed.specs.TaskSets.{tasks_where}
use Rattle.hc_owed.proofs.lemmas.Alike.{readiness-alike}
use Rattle.hc_core.specs.Agreement.{Agree, CoreParts}
use Rattle.hc_core.proofs.AreasKept.{same-hold}
use Rattle.hc_core.proofs.Edits.{after-is, new-project}

-- nothing is known of a slave that came: if nothing was written to it since it came, nothing was once it is cleared

unwritten-or : (b : Bool) (write : Option (ℕ × List ℕ)) → write ≡ None → cond b None write ≡ None
unwritten-or true write is = refl
unwritten-or false write is = is

cleared-unwritten : (history : History) (own station number : ℕ) (inside : Bool) → last_write history station number ≡ None
    → last_write (cond inside (Cleared own ∷ Forgot own ∷ history) (Cleared own ∷ history)) station number ≡ None
cleared-unwritten history own station number true is = unwritten-or (station == own) (last_write history station number) is
cleared-unwritten history own station number false is = is

all-unwritten : (stations : List ℕ) (history : History) (station number : ℕ) → last_write history station number ≡ None → last_write (fold with_cleared history stations) station number ≡ None
all-unwritten [] history station number is = is
all-unwritten (own ∷ stations) history station number is =
    all-unwritten stations (with_cleared history own) station number (cleared-unwritten history own station number (is_in_line history own) is)

after-unknown : (history : History) (edit : Edit) (station number : ℕ) → is_in_line history station ≡ false → known_bytes (edited_and_cleared history edit) station number ≡ None
after-unknown history edit station number out =
    ap (option_and_then (if_confirmed (edited_and_cleared history edit) (Block station number)))
    (all-unwritten (comers history edit) (Edited edit ∷ history) station number (ap (λ b. cond b (last_write history station number) None) out))

known-after : (history : History) (edit : Edit) (station number : ℕ) → known_over (state_of history) (known_bytes history) station number ≡ known_bytes (edited_and_cleared history edit) station number
known-after history edit station number =
    by_bool (is_in_line history station)
    (λ t. ap (λ b. cond b (known_bytes history station number) None) t ∙ sym (after-known history edit station number t))
    (λ t. ap (λ b. cond b (known_bytes history station number) None) t ∙ sym (after-unknown history edit station number t))

-- the state of the areas after the edit is right for the record

not-both : (a b : Bool) → b ≡ true → (a && not b) ≡ false
not-both true true is = refl
not-both true false is = cc
not-both false b is = refl

pub foretold-right : (unchanged : CoreParts) (history taken : History) (edit : PreparedEdit) → edit.old ≡ state_of history → IsPrepared edit → Agree unchanged history taken
    → IsReadinessFor (known_bytes (edited_and_cleared history edit.report.swap.edit)) (may_hold (edited_and_cleared history edit.report.swap.edit)) (is_unplugged (edited_and_cleared history edit.report.swap.edit))
    (state_of (edited_and_cleared history edit.report.swap.edit)) (areas_cleared (known_bytes history) (may_hold history) (is_unplugged history) edit.old edit.new)
foretold-right unchanged history taken edit made prepared agree =
    let asked = edit.report.swap.edit in
    let after = edited_and_cleared history asked in
    let edited = Edited asked ∷ history in
    let next : state_of edited ≡ edit.new = ap (λ (state : State). state_after state asked) (sym made) ∙ after-is edit.old asked edit.new prepared.accepted in
    let same : state_of after ≡ state_of edited = after-state history asked in
    record {
      right = ap₂ (areas_cleared (known_bytes history) (may_hold history) (is_unplugged history)) made (sym next)
          ∙ readiness-alike (known_over (state_of history) (known_bytes history)) (known_bytes after) (held_cleared (state_of history) (state_of edited) (may_hold history)) (may_hold after)
          (unplugged_over (state_of edited) (is_unplugged history)) (is_unplugged after) (state_of edited)
          (λ station number. known-after history asked station number)
          (λ station number. same-hold (held_cleared (state_of history) (state_of edited) (may_hold history) station number) (may_hold after station number) (sym (after-held history asked station number)))
          (λ station. sym (after-unplugged history asked station))
          ∙ ap (readiness_of (known_bytes after) (may_hold after) (is_unplugged after)) (sym same);
      project = subst (λ (state : State). lowest_fault (groups_of state.groups) ≡ None) (sym (same ∙ next)) (new-project edit prepared);
      uncrowded = subst (λ (state : State). over_limit_task (line state) ≡ None) (sym (same ∙ next)) prepared.crowds.1;
      plugged = λ station inside.
          after-unplugged history asked station
          ∙ not-both (is_unplugged history station) (is_in_line edited station) (ap (λ (state : State). is_some (slave_at state station)) (sym same) ∙ inside);
    }

pub will-wait : (unchanged : CoreParts) (history taken : History) (edit : PreparedEdit) (set : TaskSet) → edit.old ≡ state_of history → IsPrepared edit → Agree unchanged history taken
    → AreWaiting (areas_cleared (known_bytes history) (may_hold history) (is_unplugged history) edit.old edit.new) set → set.bits ≡ waiting_after history edit.report.swap.edit
unfolding tasks_where
will-wait unchanged history taken edit set made prepared agree waiting =
    let after = edited_and_cleared history edit.report.swap.edit in
    ap (λ (s : TaskSet). s.bits) (waiting (known_bytes after) (may_hold after) (is_unplugged after) (state_of after) (foretold-right unchanged history taken edit made prepared agree))
