-- The own faults of an edit are the same in every epoch, and come before those of the new line.
use Rattle.std.proofs.Common.{◌≡◌, Bool, true, false, List, [], ◌∷◌, ◌++◌, Some, None, Err, refl, ap, ◌∙◌, rules}
use Rattle.std.specs.Prelude.{◌==◌, is_some, unwrap_or}
use Rattle.hc_records.specs.declared.limits.TheConstants.{LAST_EPOCH}
use Rattle.hc_records.specs.declared.edit.Edit.{Edit}
use Rattle.hc_records.specs.declared.faults.EditFault.{EditFault}
use Rattle.hc_records.specs.declared.faults.EditFault.TheVariants.{TooManyDatagrams, EpochsSpent}
use Rattle.hc_records.specs.Line.{State, line}
use Rattle.hc_records.specs.Lists.{lowest}
use Rattle.hc_records.specs.Edits.{changed, over_limit_task, edit_faults, edited, late_faults, own_faults}
use Rattle.hc_groups.specs.Edits.{own_fault, groups_state}

-- those of a state are those over its groups
any-epoch : (state : State) (edit : Edit) → own_faults state edit ≡ own_faults (groups_state state.groups) edit
any-epoch state edit = search rules

lowest-after_it : {F : Type 0} (faults others : List (Bool × F)) → lowest faults ≡ None → lowest (faults ++ others) ≡ lowest others
lowest-after_it [] others none = refl
lowest-after_it ((true, fault) ∷ faults) others none = cc
lowest-after_it ((false, fault) ∷ faults) others none = lowest-after_it faults others none

-- the faults that concern the new line, the epoch and a declared group
abbrev pub line_faults : State → Edit → List (Bool × EditFault)
line_faults state edit =
    (is_some (over_limit_task (line (changed state edit))), TooManyDatagrams (unwrap_or (over_limit_task (line (changed state edit))) 0))
    ∷ (state.epoch == LAST_EPOCH, EpochsSpent)
    ∷ late_faults state edit

-- an own fault refuses the edit
pub own-refuses : (state : State) (edit : Edit) (fault : EditFault) → own_fault state.groups edit ≡ Some fault → edited state edit ≡ Err fault
own-refuses state edit fault own = search rules

-- where there is none, the others decide
pub line-decides : (state : State) (edit : Edit) → own_fault state.groups edit ≡ None → lowest (edit_faults state edit) ≡ lowest (line_faults state edit)
line-decides state edit own = lowest-after_it (own_faults state edit) (line_faults state edit) (ap lowest (any-epoch state edit) ∙ own)
