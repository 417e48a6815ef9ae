-- An edit by itself: its own faults beside the declared groups, and the area that it changes.
use Rattle.std.specs.Prelude.{ℕ, Bool, List, [], ◌∷◌, Option}
use Rattle.hc_records.specs.declared.records.Area.{Area}
use Rattle.hc_records.specs.declared.records.Declared.{Declared}
use Rattle.hc_records.specs.declared.edit.Edit.{Edit}
use Rattle.hc_records.specs.declared.faults.EditFault.{EditFault}
use Rattle.hc_records.specs.declared.faults.EditFault.TheVariants.{UnknownPdo, RepeatedPdo, AreaTooBig}
use Rattle.hc_records.specs.Line.{State}
use Rattle.hc_records.specs.Lists.{has_repeat, lowest}
use Rattle.hc_records.specs.Area.{has_unknown}
use Rattle.hc_records.specs.Edits.{is_too_big, own_faults}
use Rattle.hc_groups.specs.declared.areas.AreaChange.{AreaChange}
use Rattle.hc_groups.specs.declared.areas.AreaChange.TheVariants.{Pdos, Task}

-- a state of declared groups; an edit's own faults are the same in every epoch
abbrev pub groups_state : List Declared → State
groups_state groups = record { groups = groups; epoch = 0 }

-- the lowest fault that an edit has by itself
abbrev pub own_fault : List Declared → Edit → Option EditFault
own_fault groups edit = lowest (own_faults (groups_state groups) edit)

-- the faults of assigning PDOs to an area, the lowest first
abbrev pub assigning_faults : Area → List ℕ → List (Bool × EditFault)
assigning_faults area pdos =
    (has_unknown pdos area, UnknownPdo) ∷ (has_repeat pdos, RepeatedPdo) ∷ (is_too_big pdos area, AreaTooBig) ∷ []

-- an area after a change of it
abbrev pub changed_area : AreaChange → Area → Area
changed_area (Pdos pdos) area = record area { assigned = pdos.now }
changed_area (Task task) area = record area { task = task }
