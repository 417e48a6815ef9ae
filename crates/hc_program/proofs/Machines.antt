-- A slave of the line has a machine, whatever a run did.
use Rattle.std.proofs.Common.{◌≡◌, ◌<◌, ◌+◌, ℕ, zero, suc, Bool, true, false, cond, List, [], ◌∷◌, ◌++◌, length, take, refl, sym, ap, subst, ◌∙◌, inl, inr, arith, Some, None, Ok, Err}
use Rattle.std.specs.Prelude.{Option, Result, nat_lt, option_map, position}
use Rattle.std.specs.Result.{result_unwrap_or}
use Rattle.std.proofs.lemmas.Bool.{lt-ltb}
use Rattle.std.proofs.lemmas.List.Quantifiers.{position-Some}
use Rattle.hc_records.specs.declared.edit.Edit.{Edit}
use Rattle.hc_records.specs.declared.edit.Edit.TheVariants.{Declare}
use Rattle.hc_records.specs.declared.faults.EditFault.{EditFault}
use Rattle.hc_records.specs.declared.faults.ProjectFault.{ProjectFault}
use Rattle.hc_records.specs.declared.records.Declared.{Declared}
use Rattle.hc_records.specs.declared.records.Group.{Group}
use Rattle.hc_records.specs.Edits.{changed, edit_faults, edited as edited_state, groups_after, refused_by, state_after}
use Rattle.hc_records.specs.Line.{State, groups_of, is_at, line, line_from, opened}
use Rattle.hc_records.specs.Lists.{lowest}
use Rattle.hc_records.specs.Project.{lowest_fault}
use Rattle.hc_registers.specs.Blocks.{LineBlock}
use Rattle.hc_frames.specs.declared.reading.faults.FrameFault.{FrameFault}
use Rattle.hc_groups.proofs.lemmas.Accepted.{accepted-groups, accepted-project}
use Rattle.hc_plan.specs.Configuration.{found_or, position_of}
use Rattle.hc_events.specs.declared.faults.CoreFault.{CoreFault}
use Rattle.hc_events.specs.declared.faults.CoreFault.TheVariants.{Absent}
use Rattle.hc_events.specs.Accepted.{just_opened}
use Rattle.hc_events.specs.Arrivals.{Arrival, arrival_in}
use Rattle.hc_events.specs.Entries.{History, Edited, Posted, Sent}
use Rattle.hc_events.specs.Faults.{edit_refusal}
use Rattle.hc_events.specs.Owed.{owed_blocks}
use Rattle.hc_events.specs.Points.{state_of}
use Rattle.hc_events.specs.Sendings.{Frame}
use Rattle.hc_events.specs.Steps.{Arrives, Posts, SendsTasks, Step, edit_refused, entries_after, entries_after_all, unless_fault, post_faults, proposal, task_faults, with_arrival, with_sent, with_write, write_faults}
use Rattle.hc_publish.proofs.lemmas.Openings.{opened-groups}
use Rattle.hc_rings.specs.Post.{Post}
use Rattle.hc_conductor.specs.Taking.{events_of, events_of_all}
use Rattle.hc_segment.specs.Machines.{machines_after_edit}
use Rattle.hc_segment.specs.Setup.{alias_frames, machines_named, machines_scanned, station_frames}
use Rattle.hc_segment.proofs.lemmas.Counts.{after-count, edit-count, opened-count, poked-count}
use Rattle.hc_text.specs.declared.commands.Command.{Command}
use Rattle.hc_text.specs.declared.commands.Command.TheVariants as command
use Rattle.hc_program.specs.declared.stops.Stop.{Stop}
use Rattle.hc_text.specs.Commands.{command_in}
use Rattle.hc_program.specs.Commands.{session_left_by}
use Rattle.hc_program.specs.Cycles.{arrived, cycle_arrived, cycle_back, cycle_frames, cycle_passed, cycle_sent, cycled, cycled_unless}
use Rattle.hc_program.specs.Declaring.{Turn, Says, Declares}
use Rattle.hc_program.specs.Laws.{HasMachines, SlavesHaveMachines, left_by_turns}
use Rattle.hc_program.specs.Memories.{machine_at, machine_within, poked_at, poked_session_state}
use Rattle.hc_text.specs.MemoryRanges.{Poking}
use Rattle.hc_program.specs.Posts.{posted_unless}
use Rattle.hc_program.specs.Postings.{post_judged}
use Rattle.hc_text.specs.declared.commands.post.Posting.{Posting}
use Rattle.hc_conductor.specs.declared.one_thread.refusals.PostRefusal.{PostRefusal}
use Rattle.hc_program.specs.Programs.{Programmed, after_write, can_write, programming_is_done, programmed, programmed_within, write_back, write_frame, write_passed, write_sent, block_programmed}
use Rattle.hc_program.specs.Runs.{bare_reply, reply_to, reply_to_command, reply_to_document, reply_to_words}
use Rattle.hc_program.specs.Setups.{named, scanned}
use Rattle.hc_program.specs.Standings.{SessionState, session_edited, edited_unless, opened_session_state, passed, session_published, stepped}
use Rattle.hc_program.specs.Starved.{StopsTurn}
use Rattle.hc_program.specs.Stops.{WritesAreDone, StopsIn}
use Rattle.hc_program.specs.Takings.{session_taken}
use Rattle.hc_text.specs.Lines.{words_of}
use Rattle.hc_project.specs.Text.{group_in}

-- the state and the number of machines stay
record Stays (s next : SessionState) : Type 0 where
  state : state_of next.history ≡ state_of s.history
  count : length next.machines ≡ length s.machines

same : (s : SessionState) → Stays s s
same s = record { state = refl; count = refl }

both : (s mid next : SessionState) → Stays s mid → Stays mid next → Stays s next
both s mid next first second = record { state = second.state ∙ first.state; count = second.count ∙ first.count }

stays : (s next : SessionState) → Stays s next → HasMachines s → HasMachines next
stays s next is has = record {
  project = subst (λ (state : State). lowest_fault (groups_of state.groups) ≡ None) (sym is.state) has.project;
  each = is.count ∙ has.each ∙ ap (λ (state : State). length (line_from 1 state.groups)) (sym is.state);
}

-- events but edits

unchanged-state : (found : Option CoreFault) (history next : History) → state_of next ≡ state_of history → state_of (unless_fault found history next) ≡ state_of history
unchanged-state None history next is = is
unchanged-state (Some fault) history next is = refl

sent-state : (history : History) (frames : List Frame) → state_of (with_sent history frames) ≡ state_of history
sent-state history [] = refl
sent-state history (frame ∷ frames) = sent-state (Sent frame.datagrams ∷ history) frames

wrote-state : (history : History) (blocks : List LineBlock) → state_of (with_write history blocks) ≡ state_of history
wrote-state history [] = refl
wrote-state history (block ∷ blocks) = refl

came-state : (history : History) (found : Result Arrival FrameFault) → state_of (with_arrival history found) ≡ state_of history
came-state history (Ok arrival) = refl
came-state history (Err fault) = refl

tasks-sent : (s : SessionState) (tasks : List ℕ) → Stays s (stepped s (SendsTasks tasks))
tasks-sent s tasks = record {
  state = unchanged-state (lowest (task_faults s.history tasks)) s.history (with_sent s.history (proposal s.history tasks)) (sent-state s.history (proposal s.history tasks));
  count = refl;
}

write-sent : (s : SessionState) → Stays s (write_sent s)
write-sent s = record {
  state = unchanged-state (lowest (write_faults s.history (owed_blocks s.history))) s.history (with_write s.history (owed_blocks s.history)) (wrote-state s.history (owed_blocks s.history));
  count = refl;
}

came : (s : SessionState) (bytes : List ℕ) → Stays s (stepped s (Arrives bytes))
came s bytes = record { state = came-state s.history (arrival_in bytes); count = refl }

-- posts that are taken

after-both : (history : History) (first second : List Step) → entries_after_all history (first ++ second) ≡ entries_after_all (entries_after_all history first) second
after-both history [] second = refl
after-both history (step ∷ first) second = after-both (entries_after history step) first second

posts-state : (history : History) (task : ℕ) (posts : List Post) → state_of (entries_after_all history (events_of task posts)) ≡ state_of history
posts-state history task [] = refl
posts-state history task (post ∷ posts) =
    posts-state (entries_after history (Posts task post.epoch post.bytes)) task posts
    ∙ unchanged-state (lowest (post_faults history task post.epoch post.bytes)) history (Posted task post.bytes ∷ history) refl

all-posts-state : (history : History) (task : ℕ) (all : List (List Post)) → state_of (entries_after_all history (events_of_all task all)) ≡ state_of history
all-posts-state history task [] = refl
all-posts-state history task (posts ∷ others) =
    ap state_of (after-both history (events_of task posts) (events_of_all (task + 1) others))
    ∙ all-posts-state (entries_after_all history (events_of task posts)) (task + 1) others
    ∙ posts-state history task posts

-- frames along the line

went : (s : SessionState) (frames : List (List ℕ)) → Stays s (passed s frames)
went s frames = record { state = refl; count = after-count s.machines frames }

scan-stays : (s : SessionState) → Stays s (scanned s)
unfolding machines_scanned
scan-stays s = record { state = refl; count = after-count s.machines (alias_frames (length s.machines)) }

name-stays : (s : SessionState) → Stays s (named s)
unfolding machines_named
name-stays s = record { state = refl; count = after-count s.machines (station_frames 0 (line (state_of s.history))) }

write-passed : (s : SessionState) → Stays s (write_passed s)
write-passed s = both s (write_sent s) (write_passed s) (write-sent s) (went (write_sent s) (write_frame s.history ∷ []))

write-stays : (s : SessionState) → Stays s (block_programmed s)
unfolding block_programmed
write-stays s = both s (write_passed s) (stepped (write_passed s) (Arrives (write_back s))) (write-passed s) (came (write_passed s) (write_back s))

after_it-stays : (done : Bool) (s next : SessionState) (others : Programmed) → Stays s next → Stays s others.session_state → Stays s (after_write done next others).session_state
after_it-stays true s next others stopped went_on = went_on
after_it-stays false s next others stopped went_on = stopped

within-by : (can : Bool) (s : SessionState) (others : Programmed) → Stays s others.session_state → Stays s (Programmed.session_state (cond can others (record { session_state = s; written = 0 })))
within-by true s others is = is
within-by false s others is = same s

within-stays : (most : ℕ) (s : SessionState) → Stays s (programmed_within most s).session_state
unfolding programmed_within
within-stays zero s = same s
within-stays (suc most) s =
    within-by (can_write s.history) s (after_write (programming_is_done s) (block_programmed s) (programmed_within most (block_programmed s)))
    (after_it-stays (programming_is_done s) s (block_programmed s) (programmed_within most (block_programmed s)) (write-stays s)
    (both s (block_programmed s) (programmed_within most (block_programmed s)).session_state (write-stays s) (within-stays most (block_programmed s))))

program-stays : (s : SessionState) → Stays s (programmed s).session_state
unfolding programmed
program-stays s = within-stays _ s

arrived-state : (history : History) (frames : List (List ℕ)) → state_of (arrived history frames) ≡ state_of history
arrived-state history [] = refl
arrived-state history (frame ∷ frames) = arrived-state (entries_after history (Arrives frame)) frames ∙ came-state history (arrival_in frame)

all-came : (s : SessionState) (frames : List (List ℕ)) → Stays s (cycle_arrived s frames)
all-came s frames = record { state = arrived-state s.history frames; count = refl }

cycle-passed : (s : SessionState) (tasks : List ℕ) → Stays s (cycle_passed s tasks)
cycle-passed s tasks = both s (cycle_sent s tasks) (cycle_passed s tasks) (tasks-sent s tasks) (went (cycle_sent s tasks) (cycle_frames s.history tasks))

cycle-by : (found : Option CoreFault) (s : SessionState) (tasks : List ℕ) → Stays s (cycled_unless found s tasks)
cycle-by None s tasks = both s (cycle_passed s tasks) (cycle_arrived (cycle_passed s tasks) (cycle_back s tasks)) (cycle-passed s tasks) (all-came (cycle_passed s tasks) (cycle_back s tasks))
cycle-by (Some fault) s tasks = same s

cycle-stays : (s : SessionState) (tasks : List ℕ) → Stays s (cycled s tasks)
unfolding cycled
cycle-stays s tasks = cycle-by (lowest (task_faults s.history tasks)) s tasks

-- posts and memories

post-by : (found : Option PostRefusal) (s : SessionState) (posting : Posting) → Stays s (posted_unless found s posting)
post-by None s posting = record { state = refl; count = refl }
post-by (Some refusal) s posting = same s

post-if : (known : Bool) (s : SessionState) (posting : Posting) → Stays s (cond known (posted_unless (post_judged s posting.task posting.settings) s posting) s)
post-if true s posting = post-by (post_judged s posting.task posting.settings) s posting
post-if false s posting = same s

poke-count : (found : Result ℕ CoreFault) (p : Poking) (machines : List (List ℕ)) → length (poked_at found p machines) ≡ length machines
poke-count (Ok position) p machines = poked-count machines position p.at p.part
poke-count (Err fault) p machines = refl

poke-stays : (s : SessionState) (p : Poking) → Stays s (poked_session_state s p)
poke-stays s p = record { state = refl; count = poke-count (machine_at s p.station) p s.machines }

-- edits

free : {F G : Type 0} (f : F → G) (found : Option F) → option_map f found ≡ None → found ≡ None
free f None is = refl
free f (Some fault) is = cc

edit-stays : (s : SessionState) (edit : Edit) → edit_refused s.history edit ≡ None → HasMachines s
    → HasMachines (record s { history = Edited edit ∷ s.history; machines = machines_after_edit (state_of s.history).groups edit s.machines })
edit-stays s edit accepted has =
    let old = state_of s.history in
    let none = free edit_refusal (lowest (edit_faults old edit)) accepted in
    let new : edited_state old edit ≡ Ok (changed old edit) = ap (λ found. refused_by found (changed old edit)) none in
    let after : state_after old edit ≡ changed old edit = ap (λ found. result_unwrap_or found old) new in
    let groups : (state_after old edit).groups ≡ groups_after old.groups edit = ap (λ (state : State). state.groups) after ∙ accepted-groups old (changed old edit) edit new in
    record {
      project = subst (λ (state : State). lowest_fault (groups_of state.groups) ≡ None) (sym after) (accepted-project old (changed old edit) edit has.project new);
      each = edit-count old.groups edit s.machines has.project has.each ∙ ap (λ (gs : List Declared). length (line_from 1 gs)) (sym groups);
    }

edit-by : (found : Option CoreFault) (s : SessionState) (edit : Edit) → edit_refused s.history edit ≡ found → HasMachines s → HasMachines (edited_unless found s edit)
edit-by None s edit is has = edit-stays s edit is has
edit-by (Some fault) s edit is has = has

edit-has : (s : SessionState) (edit : Edit) → HasMachines s → HasMachines (session_edited s edit)
edit-has s edit has = edit-by (edit_refused s.history edit) s edit refl has

-- each command, and each turn

command-has : (s : SessionState) (c : Command) → HasMachines s → HasMachines (session_left_by s c)
command-has s command.Layout has = has
command-has s (command.Regs station) has = has
command-has s (command.Show task datagram) has = has
command-has s (command.Place variable) has = has
command-has s (command.Edit edit) has = edit-has s edit has
command-has s (command.Send tasks) has = stays s _ (tasks-sent s tasks) has
command-has s command.Write has = stays s _ (write-sent s) has
command-has s (command.Arrive bytes) has = stays s _ (came s bytes) has
command-has s (command.Read task) has = has
command-has s (command.Post posting) has = stays s _ (post-if (nat_lt posting.task 8) s posting) has
command-has s command.Take has = stays s (session_taken s) (record { state = all-posts-state s.history 0 s.posts; count = refl }) has
command-has s (command.View task variable) has = has
command-has s command.Scan has = stays s _ (scan-stays s) has
command-has s command.Name has = stays s _ (name-stays s) has
command-has s command.Program has = stays s _ (program-stays s) has
command-has s (command.Cycle tasks) has = stays s _ (cycle-stays s tasks) has
command-has s (command.Poke poke) has = stays s _ (poke-stays s poke) has
command-has s (command.Peek peek) has = has

said-has : (s : SessionState) (number : ℕ) (c : Option Command) → HasMachines s → HasMachines (reply_to_command s number c).session_state
said-has s number None has = has
said-has s number (Some c) has = command-has s c has

words-have : (s : SessionState) (number : ℕ) (words : List (List ℕ)) → HasMachines s → HasMachines (reply_to_words s number words).session_state
words-have s number [] has = has
words-have s number (name ∷ arguments) has = said-has s number (command_in name arguments) has

document-has : (s : SessionState) (group : Result Group ProjectFault) → HasMachines s → HasMachines (reply_to_document s group).session_state
document-has s (Ok group) has = edit-has s (Declare group) has
document-has s (Err fault) has = has

bare-has : (s : SessionState) (turn : Turn) → HasMachines s → HasMachines (bare_reply s turn).session_state
unfolding bare_reply
bare-has s (Says number text) has = words-have s number (words_of text) has
bare-has s (Declares number None) has = has
bare-has s (Declares number (Some document)) has = document-has s (group_in document) has

published-has : (s : SessionState) → HasMachines s → HasMachines (session_published s)
published-has s has = record { project = has.project; each = has.each }

turn-has : (s : SessionState) (turn : Turn) → HasMachines s → HasMachines (reply_to s turn).session_state
unfolding reply_to
turn-has s turn has = published-has (bare_reply s turn).session_state (bare-has s turn has)

turns-have : (s : SessionState) (turns : List Turn) → HasMachines s → HasMachines (left_by_turns s turns)
turns-have s [] has = has
turns-have s (turn ∷ turns) has = turns-have (reply_to s turn).session_state turns (turn-has s turn has)

-- a turn that was stopped

same-has : (s next : SessionState) → next ≡ s → HasMachines s → HasMachines next
same-has s next is has = subst HasMachines (sym is) has

writes-stay : (n : ℕ) (s m : SessionState) → WritesAreDone n s m → Stays s m
writes-stay zero s m is = subst (Stays s) (sym is) (same s)
writes-stay (suc n) s t (m, are, can, done, is) = subst (Stays s) (sym is) (both s m (block_programmed m) (writes-stay n s m are) (write-stays m))

stop-has : (s next : SessionState) (c : Command) (why : Stop) → HasMachines s → StopsIn s c why next → HasMachines next
stop-has s next command.Program why has (w, is, inl (memory, stopped)) = same-has s next stopped has
stop-has s next command.Program why has (w, is, inr (n, m, are, inl stopped)) = same-has (write_sent m) next stopped (stays s _ (both s m (write_sent m) (writes-stay n s m are) (write-sent m)) has)
stop-has s next command.Program why has (w, is, inr (n, m, are, inr (memory, stopped))) = same-has (write_passed m) next stopped (stays s _ (both s m (write_passed m) (writes-stay n s m are) (write-passed m)) has)
stop-has s next (command.Cycle tasks) why has (w, is, inl (memory, stopped)) = same-has s next stopped has
stop-has s next (command.Cycle tasks) why has (w, is, inr (inl (chain, stopped))) = same-has (cycle_sent s tasks) next stopped (stays s _ (tasks-sent s tasks) has)
stop-has s next (command.Cycle tasks) why has (w, is, inr (inr (memory, (n, stopped)))) =
    same-has (cycle_arrived (cycle_passed s tasks) (take n (cycle_back s tasks))) next stopped (stays s _ (both s (cycle_passed s tasks) _ (cycle-passed s tasks) (all-came (cycle_passed s tasks) (take n (cycle_back s tasks)))) has)
stop-has s next command.Scan why has (w, is, inl (chain, stopped)) = same-has s next stopped has
stop-has s next command.Scan why has (w, is, inr stopped) = same-has (scanned s) next stopped (stays s _ (scan-stays s) has)
stop-has s next command.Name why has (w, is, stopped) = same-has s next stopped has
stop-has s next (command.Post posting) why has (is, stopped) = same-has s next stopped has
stop-has s next (command.View task variable) why has (is, stopped) = same-has s next stopped has
stop-has s next command.Layout why has (is, stopped) = same-has s next stopped has
stop-has s next (command.Regs station) why has (is, stopped) = same-has s next stopped has
stop-has s next (command.Show task datagram) why has (is, stopped) = same-has s next stopped has
stop-has s next (command.Place variable) why has (is, stopped) = same-has s next stopped has
stop-has s next (command.Edit edit) why has (is, stopped) = same-has s next stopped has
stop-has s next (command.Send tasks) why has (is, stopped) = same-has s next stopped has
stop-has s next command.Write why has (is, stopped) = same-has s next stopped has
stop-has s next (command.Arrive bytes) why has (is, stopped) = same-has s next stopped has
stop-has s next (command.Read task) why has (is, stopped) = same-has s next stopped has
stop-has s next command.Take why has (is, stopped) = same-has s next stopped has
stop-has s next (command.Poke poke) why has (is, stopped) = same-has s next stopped has
stop-has s next (command.Peek peek) why has (is, stopped) = same-has s next stopped has

stopped-has : (s next : SessionState) (turn : Turn) (why : Stop) → HasMachines s → StopsTurn s turn why next → HasMachines next
stopped-has s next (Says number text) why has (inl (is, stopped)) = same-has s next stopped has
stopped-has s next (Says number text) why has (inr (c, spelt, stopped)) = stop-has s next c why has stopped
stopped-has s next (Declares number document) why has (is, stopped) = same-has s next stopped has

-- at the opening
opening-has : (groups : List Group) → lowest_fault groups ≡ None → HasMachines (opened_session_state (just_opened groups))
opening-has groups project = record {
  project = ap lowest_fault (opened-groups groups) ∙ project;
  each = opened-count (opened groups).groups;
}

-- a slave of the line that is looked for

found-by : (found : Option ℕ) (fault : EditFault) (position : ℕ) → found_or found fault ≡ Ok position → found ≡ Some position
found-by None fault position is = cc
found-by (Some n) fault position is = cc

within : (n position : ℕ) → position < n → machine_within n (Ok position) ≡ Ok position
within n position low = ap (λ (b : Bool). cond b (Ok position) (Err Absent)) (lt-ltb position n low)

machine-found : (s : SessionState) (station position : ℕ) → HasMachines s → position_of (state_of s.history) station ≡ Ok position → machine_at s station ≡ Ok position
unfolding machine_at
machine-found s station place has is =
    let members = line (state_of s.history) in
    let there = found-by (position (is_at station) members) _ place is in
    let (low, _, _) = position-Some (is_at station) members place (record { rank = 0; slave = record { station = 0; areas = [] } }) there in
    ap (machine_within (length s.machines)) is ∙ within (length s.machines) place (omega (arith, low, has.each))

pub slaves-have : SlavesHaveMachines
slaves-have = record { opened = opening-has; answered = turns-have; stopped = stopped-has; shown = published-has; found = machine-found }
