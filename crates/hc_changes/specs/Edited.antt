-- The groups after an edit.
use Rattle.std.specs.Prelude.{◌≡◌, false, List}
use Rattle.hc_records.specs.declared.edit.Edit.{Edit}
use Rattle.hc_records.specs.declared.records.Declared.{Declared}
use Rattle.hc_records.specs.Edits.{declares, groups_after}

-- an edit that declares no group leads from old groups to new ones
pub record HasEdit (old new : List Declared) : Type 0 where
  pub edit : Edit
  pub changes : declares edit ≡ false
  pub leads : new ≡ groups_after old edit
