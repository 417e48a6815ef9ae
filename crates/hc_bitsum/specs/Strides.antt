-- A walk over rows by the nodes that stand for them: it climbs, and then it descends.
use Rattle.std.specs.Prelude.{◌≡◌, ℕ, ◌+◌, ◌-◌, ◌*◌, ◌^◌, ◌<◌, ◌≤◌}
use Rattle.hc_bitsum.specs.declared.branch.Branch.{Branch}
use Rattle.hc_bitsum.specs.declared.branch.Climbed.{Climbed}
use Rattle.hc_bitsum.specs.declared.filled.Filled.{Filled}
use Rattle.hc_bitsum.specs.Filling.{filled_with_areas}
use Rattle.hc_bitsum.specs.Rows.{part}

-- a node of a height begins with a row, which may be the one after the last
pub record BeginsWithRow (levels height node row : ℕ) : Type 0 where
  pub index : ℕ
  pub high : height ≤ levels
  pub here : node ≡ 2 ^ (levels - height) + index
  pub first : row ≡ index * 2 ^ height

-- the rows from the first one on are gone over up to a row, and less than two nodes of the height are left
pub record HasClimbed (branch : Branch) (first end : ℕ) (filled : Filled) (climbed : Climbed) : Type 0 where
  pub begins : BeginsWithRow branch.levels climbed.height climbed.node climbed.row
  pub from : first ≤ climbed.row
  pub within : climbed.row ≤ end
  pub near : end < climbed.row + 2 ^ (climbed.height + 1)
  pub so_far : climbed.filled ≡ filled_with_areas filled (part branch.dir branch.rows.items first (climbed.row - first))
