-- The difference between two lines.
use Rattle.std.specs.Prelude.{ℕ, ◌+◌, ◌&&◌, not, nat_lt, Bool, if◌then◌else◌, List, [], length, map}
use Rattle.hc_records.specs.declared.records.Area.{Area}
use Rattle.hc_records.specs.declared.records.Slave.{Slave}

-- slaves in a row: the rank of the first, and the areas that each has in the line before and in the line after
pub record LineChange : Type 0 where
  pub first : ℕ
  pub areas_before : List (List Area)
  pub areas_after : List (List Area)

-- the change in the other direction
abbrev pub back : LineChange → LineChange
back change = record { first = change.first; areas_before = change.areas_after; areas_after = change.areas_before }

-- the slave with a rank is one of them
abbrev pub changes : LineChange → ℕ → Bool
changes change rank = not (nat_lt rank change.first) && nat_lt rank (change.first + length change.areas_before)

-- the areas in the line of the slaves of a group that is present or isn't
abbrev pub areas_if : Bool → List Slave → List (List Area)
areas_if present slaves = map (λ slave. if present then slave.areas else []) slaves
