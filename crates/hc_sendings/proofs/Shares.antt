-- The parts of the tasks are the frames.
use Rattle.std.proofs.Common.{◌≡◌, ℕ, true, List}
use Rattle.std.specs.Prelude.{All}
use Rattle.std.specs.List.{flat_map, range_with_len}
use Rattle.std.proofs.lemmas.List.Elements.{All-map, All-weaker}
use Rattle.hc_records.specs.Line.{Member}
use Rattle.hc_records.specs.Image.{datagram_count, task_places}
use Rattle.hc_records.proofs.lemmas.Lists.{All-flat_map}
use Rattle.hc_events.specs.Sendings.{Named, task_datagrams}
use Rattle.hc_sendings.proofs.Sums.{each-one, is_one_of}

-- the datagrams of the tasks are theirs
pub own-datagrams : (line : List Member) (tasks : List ℕ) → All (λ named. is_one_of tasks named.0 ≡ true) (flat_map (task_datagrams line) tasks)
own-datagrams line tasks =
    All-flat_map (λ (named : Named). is_one_of tasks named.0 ≡ true) (task_datagrams line) tasks
    (All-weaker (λ task. is_one_of tasks task ≡ true) (λ task. All (λ (named : Named). is_one_of tasks named.0 ≡ true) (task_datagrams line task))
    (λ task one.
    All-map (λ (named : Named). is_one_of tasks named.0 ≡ true) (λ d. (task, d)) (range_with_len 0 (datagram_count (task_places task line))) (λ i d within. one))
    tasks (each-one tasks))

-- the tasks' shares of a frame
