-- The line of a project's groups can be configured.
use Rattle.std.specs.Prelude.{◌≡◌, ℕ, ◌≤◌, All, List, length}
use Rattle.hc_records.specs.declared.limits.TheConstants.{MOST_SLAVES}
use Rattle.hc_records.specs.declared.records.Slave.{Slave}
use Rattle.hc_records.specs.Line.{Member}
use Rattle.hc_records.specs.TaskList.{task_list}
use Rattle.hc_records.specs.Image.{expected_counter, task_places}
use Rattle.hc_records.specs.Laws.{Ascends, IsPackable}
use Rattle.hc_places.specs.DatagramUses.{counted_inside}
use Rattle.hc_places.specs.Ranges.{OffersBits}

-- every area of a slave offers entries of 1 to 64 bits
abbrev pub HasOffers : Slave → Type 0
HasOffers slave = All OffersBits slave.areas

pub record IsConfigurable (line : List Member) : Type 0 where
  pub few : length line ≤ MOST_SLAVES
  pub offers : All (λ member. HasOffers member.slave) line
  pub packable : (task : ℕ) → All IsPackable (task_list task line)
  pub ascends : (task : ℕ) → Ascends (task_list task line)
  pub counted : (task d : ℕ) → counted_inside d (task_places task line) ≡ expected_counter task d line
