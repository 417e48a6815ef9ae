-- The steady data of a task, and the answer to a steady read (this project's profile).
use Rattle.std.specs.Prelude.{ℕ, List, map, Option}
use Rattle.std.specs.List.{range_with_len}
use Rattle.hc_records.specs.Image.{datagram_count, task_places}
use Rattle.hc_records.specs.Lists.{lowest}
use Rattle.hc_events.specs.declared.answer.Answer.{Answer}
use Rattle.hc_events.specs.declared.answer.Answer.TheVariants as answer
use Rattle.hc_events.specs.Entries.{History}
use Rattle.hc_events.specs.Points.{epoch_of, line_of}
use Rattle.hc_events.specs.Steady.{steady_slot}
use Rattle.hc_events.specs.Steps.{read_faults, unless}

-- the steady data of all datagrams that a task has in the present epoch
abbrev pub steady_slots : History → ℕ → List (Option (List ℕ))
steady_slots history task = map (steady_slot history task) (range_with_len 0 (datagram_count (task_places task (line_of history))))

-- the answer to a steady read of a task: the refusal of a read, otherwise the present epoch and these data
abbrev pub steady_answer : History → ℕ → Answer
steady_answer history task = unless (lowest (read_faults task)) (answer.Image (epoch_of history) (steady_slots history task))
