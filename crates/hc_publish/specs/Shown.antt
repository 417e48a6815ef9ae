-- The fields of a copy, which follow from the changes that it applied.
use Rattle.std.specs.Prelude.{◌≡◌, ℕ, ◌<◌, All, None, min}
use Rattle.hc_records.specs.declared.limits.TheConstants.{LAST_EPOCH, MOST_DATAGRAMS}
use Rattle.hc_records.specs.Line.{groups_of}
use Rattle.hc_records.specs.Project.{lowest_fault}
use Rattle.hc_places.specs.Table.{Table}
use Rattle.hc_images.specs.Image.{DatagramImage, data_of}
use Rattle.hc_events.specs.declared.change.Change.{Change}
use Rattle.hc_events.specs.declared.change.Change.TheVariants as change
use Rattle.hc_events.specs.Images.{FitsImage}
use Rattle.hc_publish.specs.declared.shown.Shown.TheInside.{Inside}
use Rattle.hc_publish.specs.Histories.{changes_of}
use Rattle.hc_publish.specs.ChangesSince.{ChangesSince, data_shown, epoch_shown, table_shown}

-- the opened plan's groups, and the history's changes
abbrev pub answered_in : Inside → ChangesSince
answered_in copy = record { groups = groups_of copy.opened.value.groups; changes = changes_of copy.history }

-- a change has data of a datagram that a line can have
abbrev pub FitsCopy : Change → Type 0
FitsCopy (change.Swapped swap) = Unit {0}
FitsCopy (change.Good good) = FitsImage good

-- table, epoch and image are those after the changes, from the opening of a project
pub record Shows (changes_since : ChangesSince) (table : Table) (epoch : ℕ) (image : DatagramImage) : Type 0 where
  pub project : lowest_fault changes_since.groups ≡ None
  pub fits : All FitsCopy changes_since.changes
  pub table_is : table ≡ table_shown changes_since
  pub epoch_is : epoch ≡ min (epoch_shown changes_since) LAST_EPOCH
  pub data_is : (task d : ℕ) → d < MOST_DATAGRAMS → data_of image task d ≡ data_shown changes_since task d

-- table, epoch and image of a copy are those after its changes
abbrev pub CopiesFollow : Inside → Type 0
CopiesFollow copy = Shows (answered_in copy) copy.places copy.epoch copy.inputs
