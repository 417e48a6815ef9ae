-- Cursors: how far a datagram of a task is filled before a key.
use Rattle.std.specs.Prelude.{◌≡◌, ◌<◌, ◌≤◌, true, List, length, slice_index_or}
use Rattle.hc_records.specs.declared.keys.Key.{Key}
use Rattle.hc_records.specs.declared.keys.TheConstants.Key.{END}
use Rattle.hc_records.specs.declared.limits.TheConstants.{MOST_AREA_BITS}
use Rattle.hc_records.specs.declared.records.Dir.TheVariants.{Out}
use Rattle.hc_records.specs.Keys.{is_within}
use Rattle.hc_records.specs.TaskList.{Keyed}
use Rattle.hc_bitsum.specs.declared.filled.Filled.{Filled}
use Rattle.hc_bitsum.specs.Filling.{areas_between, filled_with_areas}
use Rattle.hc_cuts.specs.declared.cursor.Cursor.{Cursor}

-- the empty datagram
abbrev pub unfilled : Filled
unfilled = record { bit = 0; last = Out }

-- a cursor of a task, by the keys at which the task's datagrams begin and by its areas: the cursor's key is not before its
-- datagram, and the datagram is filled by the areas from its first key on that come before the cursor's key
pub record IsCursorOf (starts : List Key) (list : List Keyed) (cursor : Cursor) : Type 0 where
  pub within : cursor.datagram < length starts
  pub begun : is_within (slice_index_or starts cursor.datagram END) cursor.key ≡ true
  pub filled : cursor.filled ≡ filled_with_areas unfilled (areas_between (slice_index_or starts cursor.datagram END) cursor.key list)
  pub low : cursor.filled.bit ≤ MOST_AREA_BITS
