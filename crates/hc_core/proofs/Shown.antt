-- The data in the input image of a task are its steady data.
use Rattle.std.proofs.Common.{◌≡◌, ℕ, zero, suc, ◌+◌, ◌<◌, ◌≤◌, map, refl, arith, rules}
use Rattle.std.specs.List.{range_with_len}
use Rattle.hc_records.specs.declared.limits.TheConstants.{MOST_DATAGRAMS, TASKS}
use Rattle.hc_events.specs.Entries.{History}
use Rattle.hc_events.specs.Steady.{steady_slot}
use Rattle.hc_images.specs.Image.{DatagramImage, data_of}
use Rattle.hc_core.specs.Ages.{ShowsSteadyData}

shown_from : (history : History) (image : DatagramImage) (task first count : ℕ) → ShowsSteadyData history image → task < TASKS → first + count ≤ MOST_DATAGRAMS
    → map (data_of image task) (range_with_len first count) ≡ map (steady_slot history task) (range_with_len first count)
shown_from history image task first zero shows low few = refl
shown_from history image task first (suc count) shows low few =
    let rest : (first + 1) + count ≤ MOST_DATAGRAMS = omega (arith, few) in
    search (rules, shown_from history image task (first + 1) count shows low rest)

from_zero : (count most : ℕ) → count ≤ most → 0 + count ≤ most
from_zero count most few = omega (arith, few)

pub slots-shown : (history : History) (image : DatagramImage) (task count : ℕ) → ShowsSteadyData history image → task < TASKS → count ≤ MOST_DATAGRAMS
    → map (data_of image task) (range_with_len 0 count) ≡ map (steady_slot history task) (range_with_len 0 count)
slots-shown history image task count shows low few = shown_from history image task 0 count shows low (from_zero count MOST_DATAGRAMS few)
