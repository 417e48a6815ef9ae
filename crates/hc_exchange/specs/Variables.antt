-- The places of a line's variables in its slaves' memory.
use Rattle.std.specs.Prelude.{◌≡◌, ℕ, ◌+◌, ◌*◌, ◌<◌, Contains, List, Some, slice_get}
use Rattle.hc_records.specs.declared.records.Area.{Area}
use Rattle.hc_records.specs.Area.{assigned_entries}
use Rattle.hc_records.specs.Image.{VariablePlace, logical_address, variable_place, variables_from}
use Rattle.hc_records.specs.Line.{Member, State, line}
use Rattle.hc_exchange.specs.PairLaws.{IsConfigurable}
use Rattle.hc_exchange.specs.Carrying.{LinePairsIn}

-- a variable with a place is in an area of a slave of the line, after the first bit of the area's memory by the widths of the entries before it; each of its
-- bits at the place is a pair of the area with the same bit there
pub record IsCarried (line : List Member) (variable : ℕ) (place : VariablePlace) : Type 0 where
  pub member : Member
  pub index : ℕ
  pub area : Area
  pub offset : ℕ
  pub in_line : Contains line member
  pub in_record : slice_get member.slave.areas index ≡ Some area
  pub entry : Contains (variables_from 0 (assigned_entries area)) (variable, (offset, place.bits))
  pub pairs : (k : ℕ) → k < place.bits
      → LinePairsIn line place.dir member.slave.station (8 * logical_address place.task place.datagram + place.bit + k) (8 * area.phys + offset + k)

-- each variable of a line that has a place is carried
abbrev pub VariablesAreCarried : Type 0
VariablesAreCarried =
    (state : State) (variable : ℕ) (place : VariablePlace) → IsConfigurable state → variable_place variable (line state) ≡ Some place → IsCarried (line state) variable place
