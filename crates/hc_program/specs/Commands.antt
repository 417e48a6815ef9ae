-- The commands: the printed text of each, and the state of the run after it.
use Rattle.std.specs.Prelude.{ℕ, List}
use Rattle.hc_events.specs.Points.{state_of}
use Rattle.hc_events.specs.Steps.{Arrives, Edits, Reads, SendsTasks, SendsWrite}
use Rattle.hc_text.specs.declared.commands.Command.{Command}
use Rattle.hc_text.specs.declared.commands.Command.TheVariants as command
use Rattle.hc_program.specs.Answers.{event_text}
use Rattle.hc_program.specs.Cycles.{cycle_text, cycled}
use Rattle.hc_program.specs.Layout.{layout_text}
use Rattle.hc_program.specs.Memories.{peek_text, poke_text, poked_session_state}
use Rattle.hc_program.specs.Place.{place_text}
use Rattle.hc_program.specs.Posts.{post_text, session_posted}
use Rattle.hc_program.specs.Programs.{program_text, programmed}
use Rattle.hc_program.specs.Regs.{regs_text}
use Rattle.hc_program.specs.Setups.{name_text, named, scan_text, scanned}
use Rattle.hc_program.specs.Show.{show_text}
use Rattle.hc_program.specs.Standings.{SessionState, session_edited, stepped}
use Rattle.hc_program.specs.Takings.{take_text, session_taken}
use Rattle.hc_program.specs.Views.{view_text}

-- the printed text of a command
abbrev pub printed : SessionState → Command → List ℕ
printed s command.Layout = layout_text (state_of s.history)
printed s (command.Regs station) = regs_text (state_of s.history) station
printed s (command.Show task datagram) = show_text s.history task datagram
printed s (command.Place variable) = place_text (state_of s.history) variable
printed s (command.Edit edit) = event_text s.history (Edits edit)
printed s (command.Send tasks) = event_text s.history (SendsTasks tasks)
printed s command.Write = event_text s.history SendsWrite
printed s (command.Arrive bytes) = event_text s.history (Arrives bytes)
printed s (command.Read task) = event_text s.history (Reads task)
printed s (command.Post posting) = post_text s posting
printed s command.Take = take_text s
printed s (command.View task variable) = view_text s.seen task variable
printed s command.Scan = scan_text s
printed s command.Name = name_text s
printed s command.Program = program_text s
printed s (command.Cycle tasks) = cycle_text s tasks
printed s (command.Poke poke) = poke_text s poke
printed s (command.Peek peek) = peek_text s peek

-- the state after a command, before its changes are published: the record with what the core accepted, the machines after what met them, and the posts that
-- wait
abbrev pub session_left_by : SessionState → Command → SessionState
session_left_by s command.Layout = s
session_left_by s (command.Regs station) = s
session_left_by s (command.Show task datagram) = s
session_left_by s (command.Place variable) = s
session_left_by s (command.Edit edit) = session_edited s edit
session_left_by s (command.Send tasks) = stepped s (SendsTasks tasks)
session_left_by s command.Write = stepped s SendsWrite
session_left_by s (command.Arrive bytes) = stepped s (Arrives bytes)
session_left_by s (command.Read task) = s
session_left_by s (command.Post posting) = session_posted s posting
session_left_by s command.Take = session_taken s
session_left_by s (command.View task variable) = s
session_left_by s command.Scan = scanned s
session_left_by s command.Name = named s
session_left_by s command.Program = (programmed s).session_state
session_left_by s (command.Cycle tasks) = cycled s tasks
session_left_by s (command.Poke poke) = poked_session_state s poke
session_left_by s (command.Peek peek) = s
