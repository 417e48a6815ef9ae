-- Laws that follow from the definitions. Each is the contract of a function of `laws`.
use Rattle.std.specs.Prelude.{◌≡◌, ◌≢◌, ◌↔◌, ℕ, false, All, Contains, List, map, None, Some}
use Rattle.hc_records.specs.declared.edit.Edit.{Edit}
use Rattle.hc_records.specs.Line.{Member, State, groups_of, line}
use Rattle.hc_records.specs.Lists.{has_repeat}
use Rattle.hc_records.specs.Project.{lowest_fault}
use Rattle.hc_registers.specs.Blocks.{LineBlock, RegisterBlock}
use Rattle.hc_plan.specs.declared.report.Report.{Report}
use Rattle.hc_plan.specs.Configuration.{block_at, config}
use Rattle.hc_plan.specs.Reports.{ReportsEdit, found_name}

-- if no station address occurs twice, a slave has a block with a number exactly if the line is configured with it
abbrev pub BlocksAreConfigured : Type 0
BlocksAreConfigured =
    (line : List Member) (station number : ℕ) (block : RegisterBlock) → has_repeat (map (λ member. member.slave.station) line) ≡ false
    → (block_at line station number ≡ Some block) ↔ Contains (config line).blocks (record { station = station; number = number; block = block })

-- a line is configured with a block's bytes at its register of its slave, and with no others there
pub record IsConfiguredIn (line : List Member) (found : LineBlock) : Type 0 where
  pub configured : (number : ℕ) × Contains (config line).blocks (record found { number = number })
  pub alone : (other : LineBlock) → Contains (config line).blocks other → other.station ≡ found.station → other.block.register ≡ found.block.register
      → other.block ≡ found.block

-- a block of the new line that a report does not name was a block of the old line, a project's: the same bytes, alone at the
-- same register of the same slave
abbrev pub UnmovedBlocksStay : Type 0
UnmovedBlocksStay =
    (old new : State) (edit : Edit) (report : Report) (found : LineBlock) → lowest_fault (groups_of old.groups) ≡ None → ReportsEdit old edit new report
    → Contains (config (line new)).blocks found → All (λ name. name ≢ found_name found) report.blocks
    → IsConfiguredIn (line old) found
