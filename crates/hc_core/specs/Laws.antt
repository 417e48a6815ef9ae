-- Laws of the pieces and the parts of a sending. Each law is the contract of a function of `laws`.
use Rattle.std.specs.Prelude.{◌≡◌, ◌≤◌, ◌*◌, ℕ, All, List, length, map, None}
use Rattle.std.specs.List.{flat_map}
use Rattle.hc_records.specs.declared.limits.TheConstants.{MOST_DATAGRAMS, TASKS}
use Rattle.hc_records.specs.Edits.{over_limit_task}
use Rattle.hc_frames.specs.declared.limits.TheConstants.{SETUP_SERIAL}
use Rattle.hc_events.specs.declared.answer.Answer.TheVariants as answer
use Rattle.hc_events.specs.Calls.{AreSentTogether}
use Rattle.hc_events.specs.Entries.{History}
use Rattle.hc_events.specs.Outputs.{sent_data}
use Rattle.hc_events.specs.Points.{line_of}
use Rattle.hc_events.specs.Sendings.{Frame}
use Rattle.hc_records.specs.Lists.{lowest}
use Rattle.hc_events.specs.Steps.{SendsReady, SendsTasks, answer_to, entries_after, proposal, ready_faults, sent_text, task_faults, with_sent}
use Rattle.hc_sendings.specs.PartTexts.{part_text}
use Rattle.hc_core.specs.Filled.{CanBeFilled}
use Rattle.hc_core.specs.Proposed.{IsProposal}

-- a sending by its pieces, with no event between them: each proposed frame can be filled, the frames are no more than there are
-- serials, and their texts and the commit are the answer and the entries of the event. The event sends tasks while nothing is
-- owed, or ready tasks while each is ready
pub record IsSending (history : History) (frames : List Frame) (is : IsProposal history frames) : Type 0 where
  pub filled : All (CanBeFilled history) frames
  pub few : length frames ≤ SETUP_SERIAL
  pub ready_answer : lowest (ready_faults history is.tasks) ≡ None → answer_to history (SendsReady is.tasks) ≡ answer.Sent (map (sent_text history) frames)
  pub ready_entries : lowest (ready_faults history is.tasks) ≡ None → entries_after history (SendsReady is.tasks) ≡ with_sent history frames
  pub answer : lowest (task_faults history is.tasks) ≡ None → answer_to history (SendsTasks is.tasks) ≡ answer.Sent (map (sent_text history) frames)
  pub entries : lowest (task_faults history is.tasks) ≡ None → entries_after history (SendsTasks is.tasks) ≡ with_sent history frames

-- the law of the pieces: frames of a present proposal of the record are such a sending
abbrev pub PiecesAreTheEvent : Type 0
PiecesAreTheEvent = (history : History) (frames : List Frame) (is : IsProposal history frames) → IsSending history frames is

-- the law of the parts: the parts of tasks that are sent together, joined in their order, are the frames proposed for them, one
-- after another
abbrev pub PartsAreTheProposal : Type 0
PartsAreTheProposal =
    (history : History) (tasks : List ℕ) → AreSentTogether tasks
    → flat_map (λ task. part_text (sent_data history) task (proposal history tasks)) tasks ≡ flat_map (sent_text history) (proposal history tasks)

-- the law of few frames: a proposal of a line in which no task needs more than 16 datagrams has at most as many frames as a
-- line has datagrams
abbrev pub ProposalsAreFew : Type 0
ProposalsAreFew =
    (history : History) (frames : List Frame) → over_limit_task (line_of history) ≡ None → IsProposal history frames
    → length frames ≤ MOST_DATAGRAMS * TASKS
