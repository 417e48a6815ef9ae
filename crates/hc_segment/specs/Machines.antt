-- The machines of a simulated line, each seen as its memory: those at the opening, and those that come and go with an edit.
use Rattle.std.specs.Prelude.{ℕ, zero, suc, ◌+◌, ◌==◌, Bool, if◌then◌else◌, List, [], ◌∷◌, ◌++◌, length, take, drop, find, Option, Some, None, option_and_then}
use Rattle.std.specs.Option.{option_map_or}
use Rattle.std.specs.List.{flat_map}
use Rattle.hc_records.specs.declared.records.Slave.{Slave}
use Rattle.hc_records.specs.declared.records.Group.{Group}
use Rattle.hc_records.specs.declared.records.Declared.{Declared}
use Rattle.hc_records.specs.declared.edit.Edit.{Edit}
use Rattle.hc_records.specs.declared.edit.Edit.TheVariants.{Connect, Disconnect}
use Rattle.hc_records.specs.Line.{present_slaves}
use Rattle.hc_machine.specs.Memory.{fresh_memory, with_part}

-- the memory of a machine that no frame has met, with a configured station alias
unfoldable pub fresh : ℕ → List ℕ
fresh alias = fresh_memory alias

-- a fresh machine for each of these slaves: the alias is in the first, 0 in the others
abbrev pub fresh_from : ℕ → List Slave → List (List ℕ)
fresh_from alias [] = []
fresh_from alias (slave ∷ slaves) = fresh alias ∷ fresh_from 0 slaves

-- the fresh machines of a group: its alias is in its first slave
abbrev pub fresh_machines : Group → List (List ℕ)
fresh_machines group = fresh_from group.alias group.slaves

-- the fresh machines of a declared group that is present; none if it is absent
abbrev pub machines_of : Declared → List (List ℕ)
machines_of declared = if declared.present then fresh_machines declared.group else []

-- the machines of a line at its opening
abbrev pub opened_machines : List Declared → List (List ℕ)
opened_machines groups = flat_map machines_of groups

-- a declared group has the alias
abbrev pub has_alias : ℕ → Declared → Bool
has_alias alias declared = declared.group.alias == alias

-- the number of slaves of the line before the group with the alias
abbrev pub slaves_before : ℕ → List Declared → ℕ
slaves_before alias [] = 0
slaves_before alias (declared ∷ groups) =
    if has_alias alias declared then 0 else length (present_slaves declared) + slaves_before alias groups

-- a replacement in a row of machines: those before the position stay, `gone` of them go, and others come in their place
pub record Replacement : Type 0 where
  pub position : ℕ
  pub gone : ℕ
  pub coming : List (List ℕ)

-- the machines after a replacement
abbrev pub machines_replaced : Replacement → List (List ℕ) → List (List ℕ)
machines_replaced r machines = take r.position machines ++ (r.coming ++ drop (r.position + r.gone) machines)

-- a group that comes in at a position brings fresh machines, if it is not present already
abbrev pub coming_at : ℕ → Declared → Option Replacement
coming_at position declared =
    if declared.present then None else Some (record { position = position; gone = 0; coming = fresh_machines declared.group })

-- a group that is present takes its machines along
abbrev pub going_at : ℕ → Declared → Option Replacement
going_at position declared =
    if declared.present then Some (record { position = position; gone = length declared.group.slaves; coming = [] }) else None

-- the replacement that an edit makes: machines come and go with their group, and no other edit touches any
abbrev pub replacement : List Declared → Edit → Option Replacement
replacement groups (Connect alias) = option_and_then (coming_at (slaves_before alias groups)) (find (has_alias alias) groups)
replacement groups (Disconnect alias) = option_and_then (going_at (slaves_before alias groups)) (find (has_alias alias) groups)
replacement groups other = None

-- the machines after an accepted edit of a line with these declared groups: the others keep their memory
abbrev pub machines_after_edit : List Declared → Edit → List (List ℕ) → List (List ℕ)
machines_after_edit groups edit machines = option_map_or (λ r. machines_replaced r machines) (replacement groups edit) machines

-- the machines with bytes written from byte `at` on to the memory of the one with this number, counted from 0; as they were if there is none
abbrev pub poked : ℕ → ℕ → List ℕ → List (List ℕ) → List (List ℕ)
poked number at part [] = []
poked zero at part (m ∷ ms) = with_part at part m ∷ ms
poked (suc number) at part (m ∷ ms) = m ∷ poked number at part ms
