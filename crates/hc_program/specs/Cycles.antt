-- The command `cycle`: process data of tasks are sent along the line, and the frames that come back are taken in.
use Rattle.std.specs.Prelude.{ℕ, List, [], ◌∷◌, ◌++◌, map, Option, Some, None, codes}
use Rattle.hc_records.specs.Lists.{lowest}
use Rattle.hc_events.specs.declared.faults.CoreFault.{CoreFault}
use Rattle.hc_events.specs.Entries.{History}
use Rattle.hc_events.specs.Steps.{SendsTasks, Arrives, entries_after, proposal, sent_text, task_faults}
use Rattle.hc_segment.specs.Line.{frames_through}
use Rattle.hc_program.specs.Answers.{event_text}
use Rattle.hc_program.specs.Refusals.{refusal_text}
use Rattle.hc_program.specs.Standings.{SessionState, passed, stepped, session_with_history}

-- the frames in which tasks are sent
unfoldable pub cycle_frames : History → List ℕ → List (List ℕ)
cycle_frames history tasks = map (sent_text history) (proposal history tasks)

-- the state once tasks are sent
abbrev pub cycle_sent : SessionState → List ℕ → SessionState
cycle_sent s tasks = stepped s (SendsTasks tasks)

-- the state once the frames of tasks went along the line
abbrev pub cycle_passed : SessionState → List ℕ → SessionState
cycle_passed s tasks = passed (cycle_sent s tasks) (cycle_frames s.history tasks)

-- the frames as they come back
unfoldable pub cycle_back : SessionState → List ℕ → List (List ℕ)
cycle_back s tasks = frames_through s.machines (cycle_frames s.history tasks)

-- the printed text of frames that arrive one after another
abbrev pub arrivals_text : History → List (List ℕ) → List ℕ
arrivals_text history [] = []
arrivals_text history (frame ∷ frames) = event_text history (Arrives frame) ++ arrivals_text (entries_after history (Arrives frame)) frames

-- the record that arriving frames leave
abbrev pub arrived : History → List (List ℕ) → History
arrived history [] = history
arrived history (frame ∷ frames) = arrived (entries_after history (Arrives frame)) frames

-- the state once arriving frames were taken in
abbrev pub cycle_arrived : SessionState → List (List ℕ) → SessionState
cycle_arrived s frames = session_with_history s (arrived s.history frames)

-- the printed text of the frames that come back, or the line `no frame` if none was sent
abbrev pub back_text : History → List (List ℕ) → List ℕ
back_text history [] = codes "no frame\n"
back_text history (frame ∷ frames) = arrivals_text history (frame ∷ frames)

-- the refusal of a sending with this fault; else the text of the frames that come back
abbrev pub cycle_text_unless : Option CoreFault → SessionState → List ℕ → List ℕ
cycle_text_unless None s tasks = back_text (cycle_sent s tasks).history (cycle_back s tasks)
cycle_text_unless (Some fault) s tasks = refusal_text fault

-- the state once a sending without a fault was taken in; a refused sending leaves the state as it was
abbrev pub cycled_unless : Option CoreFault → SessionState → List ℕ → SessionState
cycled_unless None s tasks = cycle_arrived (cycle_passed s tasks) (cycle_back s tasks)
cycled_unless (Some fault) s tasks = s

-- the printed text of a cycle of tasks
unfoldable pub cycle_text : SessionState → List ℕ → List ℕ
cycle_text s tasks = cycle_text_unless (lowest (task_faults s.history tasks)) s tasks

-- the state after a cycle
unfoldable pub cycled : SessionState → List ℕ → SessionState
cycled s tasks = cycled_unless (lowest (task_faults s.history tasks)) s tasks
