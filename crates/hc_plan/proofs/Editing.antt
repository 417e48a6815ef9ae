-- When an edit is refused, by itself, by the new line, by the epoch or by the group that it declares, and when it is accepted.
use Rattle.std.proofs.Common.{◌≡◌, ◌∙◌, ◌+◌, ℕ, Bool, true, false, List, [], ◌∷◌, ◌++◌, Option, Some, None, refl, sym, ap}
use Rattle.std.specs.Prelude.{Ok, Err, ◌==◌, is_some, option_map, unwrap_or}
use Rattle.hc_records.specs.declared.edit.Edit.{Edit}
use Rattle.hc_records.specs.declared.edit.Edit.TheVariants.{Connect, Disconnect, Remap, Move, Declare}
use Rattle.hc_records.specs.declared.faults.EditFault.{EditFault}
use Rattle.hc_records.specs.declared.faults.EditFault.TheVariants.{TooManyDatagrams, EpochsSpent}
use Rattle.hc_records.specs.declared.limits.TheConstants.{LAST_EPOCH}
use Rattle.hc_records.specs.declared.records.Declared.{Declared}
use Rattle.hc_records.specs.declared.records.Group.{Group}
use Rattle.hc_records.specs.Edits.{absent, changed, over_limit_task, declares, declaring_faults, edited, groups_after, late_faults, refused_by}
use Rattle.hc_records.specs.Line.{State, line, line_from}
use Rattle.hc_records.specs.Lists.{lowest}
use Rattle.hc_records.proofs.lemmas.Declaring.{line-absent}
use Rattle.hc_groups.specs.declared.prepared.Prepared.{Prepared}
use Rattle.hc_groups.specs.Edits.{own_fault}
use Rattle.hc_groups.proofs.lemmas.Refusals.{line-decides, line_faults}
use Rattle.hc_changes.specs.EditedLine.{EditedLine, edited_line_of}

-- an edit's own fault, judged over a slice of the groups
pub judged : (slice groups : List Declared) (edit : Edit) (found : Option EditFault) → slice ≡ groups → found ≡ own_fault slice edit
    → own_fault groups edit ≡ found
judged slice groups edit found same is = ap (λ (g : List Declared). own_fault g edit) (sym same) ∙ sym is

-- the faults that concern the new line and the epoch, for a task that is over its limit or none, and for the last epoch or
-- another, with those after them
abbrev last_faults : Option ℕ → Bool → List (Bool × EditFault) → List (Bool × EditFault)
last_faults over_limit spent late = (is_some over_limit, TooManyDatagrams (unwrap_or over_limit 0)) ∷ (spent, EpochsSpent) ∷ late

late-left : (over_limit : Option ℕ) (spent : Bool) (late : List (Bool × EditFault)) → over_limit ≡ None → spent ≡ false → lowest (last_faults over_limit spent late) ≡ lowest late
late-left None false late is not = refl
late-left None true late is not = cc
late-left (Some task) spent late is not = cc

over_limit-left : (over_limit : Option ℕ) (spent : Bool) (late : List (Bool × EditFault)) (fault : EditFault) → option_map TooManyDatagrams over_limit ≡ Some fault
    → lowest (last_faults over_limit spent late) ≡ Some fault
over_limit-left None spent late fault names = cc
over_limit-left (Some task) spent late fault names = names

spent-left : (over_limit : Option ℕ) (spent : Bool) (late : List (Bool × EditFault)) → over_limit ≡ None → spent ≡ true → lowest (last_faults over_limit spent late) ≡ Some EpochsSpent
spent-left None true late is so = refl
spent-left None false late is so = cc
spent-left (Some task) spent late is so = cc

-- an edit without a fault of its own
answered : (state : State) (edit : Edit) (fault : Option EditFault) → own_fault state.groups edit ≡ None → lowest (line_faults state edit) ≡ fault
    → edited state edit ≡ refused_by fault (changed state edit)
answered state edit fault none found = ap (λ (first : Option EditFault). refused_by first (changed state edit)) (line-decides state edit none ∙ found)

late-answered : (state : State) (edit : Edit) (fault : Option EditFault) → own_fault state.groups edit ≡ None → over_limit_task (line (changed state edit)) ≡ None
    → (state.epoch == LAST_EPOCH) ≡ false → lowest (late_faults state edit) ≡ fault → edited state edit ≡ refused_by fault (changed state edit)
late-answered state edit fault none uncrowded more late =
    answered state edit fault none
    (late-left (over_limit_task (line (changed state edit))) (state.epoch == LAST_EPOCH) (late_faults state edit) uncrowded more ∙ late)

accepted : (state : State) (edit : Edit) → own_fault state.groups edit ≡ None → over_limit_task (line (changed state edit)) ≡ None
    → (state.epoch == LAST_EPOCH) ≡ false → lowest (late_faults state edit) ≡ None → edited state edit ≡ Ok (changed state edit)
accepted state edit none uncrowded more free = late-answered state edit None none uncrowded more free

late-refused : (state : State) (edit : Edit) (fault : EditFault) → own_fault state.groups edit ≡ None → over_limit_task (line (changed state edit)) ≡ None
    → (state.epoch == LAST_EPOCH) ≡ false → lowest (late_faults state edit) ≡ Some fault → edited state edit ≡ Err fault
late-refused state edit fault none uncrowded more late = late-answered state edit (Some fault) none uncrowded more late

over_limit-refused : (state : State) (edit : Edit) (fault : EditFault) → own_fault state.groups edit ≡ None
    → option_map TooManyDatagrams (over_limit_task (line (changed state edit))) ≡ Some fault → edited state edit ≡ Err fault
over_limit-refused state edit fault none names =
    answered state edit (Some fault) none (over_limit-left (over_limit_task (line (changed state edit))) (state.epoch == LAST_EPOCH) (late_faults state edit) fault names)

spent-refused : (state : State) (edit : Edit) → own_fault state.groups edit ≡ None → over_limit_task (line (changed state edit)) ≡ None
    → (state.epoch == LAST_EPOCH) ≡ true → edited state edit ≡ Err EpochsSpent
spent-refused state edit none uncrowded last =
    answered state edit (Some EpochsSpent) none (spent-left (over_limit_task (line (changed state edit))) (state.epoch == LAST_EPOCH) (late_faults state edit) uncrowded last)

-- the same by the groups that an edit makes of those before it; an edit that declares no group has no fault after these

none-late : (state : State) (edit : Edit) → declares edit ≡ false → lowest (late_faults state edit) ≡ None
none-late state (Connect alias) changes = refl
none-late state (Disconnect alias) changes = refl
none-late state (Remap station area pdos) changes = refl
none-late state (Move station area task) changes = refl
none-late state (Declare group) changes = cc

pub made-accepted : (groups new : List Declared) (epoch : ℕ) (edit : Edit) → declares edit ≡ false → own_fault groups edit ≡ None → new ≡ groups_after groups edit → over_limit_task (line_from 1 new) ≡ None
    → (epoch == LAST_EPOCH) ≡ false → edited (record { groups = groups; epoch = epoch }) edit ≡ Ok (record { groups = new; epoch = epoch + 1 })
made-accepted groups new epoch edit changes none leads uncrowded more =
    accepted (record { groups = groups; epoch = epoch }) edit none (ap (λ (g : List Declared). over_limit_task (line_from 1 g)) (sym leads) ∙ uncrowded) more
    (none-late (record { groups = groups; epoch = epoch }) edit changes)
    ∙ ap (λ (g : List Declared). Ok (record { groups = g; epoch = epoch + 1 })) (sym leads)

pub made-over_limit : (groups new : List Declared) (epoch : ℕ) (edit : Edit) (task : ℕ) → own_fault groups edit ≡ None → new ≡ groups_after groups edit → over_limit_task (line_from 1 new) ≡ Some task
    → edited (record { groups = groups; epoch = epoch }) edit ≡ Err (TooManyDatagrams task)
made-over_limit groups new epoch edit task none leads over_limit =
    over_limit-refused (record { groups = groups; epoch = epoch }) edit (TooManyDatagrams task) none
    (ap (option_map TooManyDatagrams) (ap (λ (g : List Declared). over_limit_task (line_from 1 g)) (sym leads) ∙ over_limit))

pub made-spent : (groups new : List Declared) (epoch : ℕ) (edit : Edit) → own_fault groups edit ≡ None → new ≡ groups_after groups edit → over_limit_task (line_from 1 new) ≡ None
    → (epoch == LAST_EPOCH) ≡ true → edited (record { groups = groups; epoch = epoch }) edit ≡ Err EpochsSpent
made-spent groups new epoch edit none leads uncrowded last =
    spent-refused (record { groups = groups; epoch = epoch }) edit none (ap (λ (g : List Declared). over_limit_task (line_from 1 g)) (sym leads) ∙ uncrowded) last

-- an edit that declares a group leaves the line as it was

same-crowd : (groups : List Declared) (group : Group) → over_limit_task (line_from 1 groups) ≡ None → over_limit_task (line_from 1 (groups ++ absent group ∷ [])) ≡ None
same-crowd groups group uncrowded = ap over_limit_task (line-absent 1 groups group) ∙ uncrowded

pub declared-accepted : (state : State) (group : Group) → over_limit_task (line state) ≡ None → (state.epoch == LAST_EPOCH) ≡ false → lowest (declaring_faults state.groups group) ≡ None
    → edited state (Declare group) ≡ Ok (changed state (Declare group))
declared-accepted state group uncrowded more free = accepted state (Declare group) refl (same-crowd state.groups group uncrowded) more free

pub declared-refused : (state : State) (group : Group) (fault : EditFault) → over_limit_task (line state) ≡ None → (state.epoch == LAST_EPOCH) ≡ false
    → lowest (declaring_faults state.groups group) ≡ Some fault → edited state (Declare group) ≡ Err fault
declared-refused state group fault uncrowded more late = late-refused state (Declare group) fault refl (same-crowd state.groups group uncrowded) more late

pub declared-spent : (state : State) (group : Group) → over_limit_task (line state) ≡ None → (state.epoch == LAST_EPOCH) ≡ true → edited state (Declare group) ≡ Err EpochsSpent
declared-spent state group uncrowded last = spent-refused state (Declare group) refl (same-crowd state.groups group uncrowded) last

-- the groups before an edit, as they are read

pub old-groups : (it : EditedLine) (change : Prepared) (slice groups : List Declared) → it ≡ edited_line_of change slice → slice ≡ groups → it.old ≡ groups
old-groups it change slice groups is same = ap (λ (o : EditedLine). o.old) is ∙ same
