-- The number of frames of a proposal.
use Rattle.std.proofs.Common.{◌≡◌, ℕ, ◌+◌, ◌*◌, ◌<◌, ◌≤◌, inl, inr, Bool, false, cond, List, [], ◌∷◌, length, arith, length-append, None, rules}
use Rattle.std.specs.List.{flat_map, list_any}
use Rattle.std.proofs.lemmas.Bool.Decides.{nat_tests}
use Rattle.std.proofs.lemmas.List.FromFn.{length-map-range_with_len}
use Rattle.std.proofs.lemmas.Bool.{or_parts}
use Rattle.hc_records.specs.declared.limits.TheConstants.{MOST_DATAGRAMS, TASKS}
use Rattle.hc_records.specs.Edits.{over_limit_task}
use Rattle.hc_records.specs.Line.{Member}
use Rattle.hc_records.proofs.lemmas.Addresses.{uncrowded-few}
use Rattle.hc_events.specs.Entries.{History}
use Rattle.hc_events.specs.Points.{line_of}
use Rattle.hc_events.specs.Sendings.{Frame, Named, frame_of_one, framed, framed_after, frame_joined, line_data_length, task_datagrams}
use Rattle.hc_events.specs.Steps.{is_no_task}
use Rattle.hc_events.proofs.lemmas.Accepted.{passed}
use Rattle.hc_core.specs.Proposed.{IsProposal}
use Rattle.hc_core.proofs.Sendings.{NothingRefuses}

-- no more frames than datagrams

either_few : (room : Bool) (n : ℕ) (a b : List Frame) → length a ≤ n → length b ≤ n → length (cond room a b) ≤ n
either_few room n a b few few' = search rules

after_few : (line : List Member) (frame : Frame) (datagrams : List Named) → length (framed_after line frame datagrams) ≤ 1 + length datagrams
after_few line frame [] = omega arith
after_few line frame (datagram ∷ datagrams) =
    let size = line_data_length line datagram in
    search (rules, either_few, after_few line (frame_joined frame datagram size) datagrams, after_few line (frame_of_one (frame.serial + 1) datagram size) datagrams)

framed_few : (line : List Member) (serial : ℕ) (datagrams : List Named) → length (framed line serial datagrams) ≤ length datagrams
framed_few line serial datagrams = search (rules, after_few)

-- no more datagrams than the tasks can have

is_task : (task : ℕ) → is_no_task task ≡ false → task < TASKS
is_task task e = grind (arith, nat_tests)

datagrams_few : (line : List Member) (tasks : List ℕ) → over_limit_task line ≡ None → list_any is_no_task tasks ≡ false → length (flat_map (task_datagrams line) tasks) ≤ MOST_DATAGRAMS * length tasks
datagrams_few line [] uncrowded low = omega arith
datagrams_few line (task ∷ tasks) uncrowded low =
    let both = or_parts (is_no_task task) (list_any is_no_task tasks) low in
    search (rules, or_parts, length-map-range_with_len, uncrowded-few, is_task, length-append, datagrams_few line tasks uncrowded both.1)

low_tasks : (history : History) (tasks : List ℕ) → NothingRefuses history tasks → list_any is_no_task tasks ≡ false
low_tasks history tasks (inl none) = search (rules, passed)
low_tasks history tasks (inr none) = search (rules, passed)

pub proposal-few : (history : History) (frames : List Frame) → over_limit_task (line_of history) ≡ None → IsProposal history frames → length frames ≤ MOST_DATAGRAMS * TASKS
proposal-few history frames uncrowded is = search (rules, framed_few, datagrams_few, low_tasks history is.tasks is.accepted)
