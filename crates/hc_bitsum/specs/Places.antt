-- The places of a tree: the areas of one direction after those of the other.
use Rattle.std.specs.Prelude.{◌≡◌, ℕ, ◌+◌, ◌*◌, ◌≤◌, true, All, List, [], ◌∷◌, length}
use Rattle.hc_records.specs.declared.records.Dir.{Dir}
use Rattle.hc_records.specs.TaskList.{Keyed}
use Rattle.hc_records.specs.declared.records.Dir.TheVariants.{Out, In}
use Rattle.hc_bitsum.specs.declared.branch.Branch.{Branch}
use Rattle.hc_bitsum.specs.Branch.{IsBranch, branch_slots}
use Rattle.hc_bitsum.specs.Slots.{IsShaped, Slots, key_at}
use Rattle.hc_bitsum.specs.Tree.{HasPlace, has_width}

-- the areas have the keys of a direction from a place on
abbrev pub AreFrom : Dir → ℕ → List Keyed → Type 0
AreFrom dir place [] = Unit {0}
AreFrom dir place (area ∷ areas) = (area.0 ≡ key_at dir place) × AreFrom dir (place + 1) areas

-- if an area has a width, its key has a place among those of so many slaves
abbrev pub IsOfSlave : ℕ → Keyed → Type 0
IsOfSlave slaves area = has_width area ≡ true → HasPlace slaves area.0

-- a part has the first areas of a direction, 8 for each slave, and after them areas of no bits
pub record KeepsSlaves (dir : Dir) (slaves : ℕ) (part : Slots) : Type 0 where
  pub keys : AreFrom dir 0 part.areas
  pub room : 8 * slaves ≤ length part.areas
  pub shape : IsShaped part
  pub places : All (IsOfSlave slaves) part.areas

-- the outputs and the inputs of a tree
pub record KeepsAreas (slaves : ℕ) (outputs inputs : Branch) : Type 0 where
  pub outs : KeepsSlaves Out slaves (branch_slots outputs)
  pub ins : KeepsSlaves In slaves (branch_slots inputs)
  pub out_sums : IsBranch outputs
  pub in_sums : IsBranch inputs
