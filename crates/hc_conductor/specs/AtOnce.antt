-- The parts of tasks in frames that are sent together.
use Rattle.std.specs.Prelude.{◌≡◌, ℕ, ◌<◌, All, List, length, map, slice_index_or}
use Rattle.hc_events.specs.Entries.{History}
use Rattle.hc_events.specs.Outputs.{sent_data}
use Rattle.hc_events.specs.Points.{line_of}
use Rattle.hc_events.specs.Sendings.{Frame}
use Rattle.hc_sendings.specs.PartTexts.{part_text}
use Rattle.hc_sendings.specs.Parts.{part_size}
use Rattle.hc_core.specs.Filled.{CanBeFilled}

-- the bytes of each task's part of frames
abbrev pub sizes_of : History → List Frame → List ℕ → List ℕ
sizes_of history frames tasks = map (λ task. part_size (line_of history) task frames) tasks

-- the task of the part with this number
abbrev pub task_at : List ℕ → ℕ → ℕ
task_at tasks part = slice_index_or tasks part 0

-- the part with this number can be filled: there is such a task, and the part has its bytes
pub record CanFillPart (history : History) (frames : List Frame) (tasks : List ℕ) (part : ℕ) (bytes : List ℕ) : Type 0 where
  pub filled : All (CanBeFilled history) frames
  pub in_range : part < length tasks
  pub exact : length bytes ≡ part_size (line_of history) (task_at tasks part) frames

-- the bytes that are written into the part with this number
abbrev pub part_written_at : History → List Frame → List ℕ → ℕ → List ℕ
part_written_at history frames tasks part = part_text (sent_data history) (task_at tasks part) frames
