-- Events lead to the line of their edits.
use Rattle.std.proofs.Common.{◌≡◌, inl, inr, List, [], ◌∷◌, ◌++◌, refl, sym, ap, ◌∙◌, Option, rules}
use Rattle.std.specs.Prelude.{Result, option_map}
use Rattle.hc_records.specs.declared.edit.Edit.{Edit}
use Rattle.hc_records.specs.declared.faults.EditFault.{EditFault}
use Rattle.hc_records.specs.Lists.{lowest}
use Rattle.hc_records.specs.Line.{State}
use Rattle.hc_records.specs.Edits.{edit_faults, state_after, state_after_all}
use Rattle.hc_registers.specs.Blocks.{LineBlock}
use Rattle.hc_frames.specs.declared.reading.faults.FrameFault.{FrameFault}
use Rattle.hc_events.specs.declared.answer.Answer.{Answer}
use Rattle.hc_events.specs.declared.faults.CoreFault.{CoreFault}
use Rattle.hc_events.specs.Arrivals.{Arrival}
use Rattle.hc_events.specs.Calls.{MayAnswer}
use Rattle.hc_events.specs.Entries.{History, Edited, Sent}
use Rattle.hc_events.specs.Faults.{edit_refusal}
use Rattle.hc_events.specs.Points.{state_of}
use Rattle.hc_events.specs.Sendings.{Frame}
use Rattle.hc_events.specs.Steps.{Step, Edits, entries_after, unless_fault, edit_answer, unless, with_arrival, with_sent, with_write}
use Rattle.hc_core.specs.Lines.{IsLineAfter, carried_edit, carried_edits}
use Rattle.hc_core.specs.Serving.{MayAnswerAll}

-- every event but an edit leaves the line

unchanged_line : (refused : Option CoreFault) (history next : History) → state_of next ≡ state_of history → state_of (unless_fault refused history next) ≡ state_of history
unchanged_line refused history next same = search rules

sent_line : (history : History) (frames : List Frame) → state_of (with_sent history frames) ≡ state_of history
sent_line history [] = refl
sent_line history (frame ∷ frames) = sent_line (Sent frame.datagrams ∷ history) frames

write_line : (history : History) (blocks : List LineBlock) → state_of (with_write history blocks) ≡ state_of history
write_line history blocks = search rules

arrival_line : (history : History) (read : Result Arrival FrameFault) → state_of (with_arrival history read) ≡ state_of history
arrival_line history read = search rules

-- an answered event that is no edit, or one that wanted memory
other_line : (history next : History) (step : Step) (answer_given : Answer) → state_of (entries_after history step) ≡ state_of history → MayAnswer history step answer_given next → state_of next ≡ state_of history
other_line history next step answer_given same may = search rules

-- an edit

edit_line : (history next : History) (edit : Edit) (answer_given : Answer) (fault : Option EditFault) → lowest (edit_faults (state_of history) edit) ≡ fault
    → answer_given ≡ unless (option_map edit_refusal fault) (edit_answer (state_of history) (state_after (state_of history) edit)) → next ≡ unless_fault (option_map edit_refusal fault) history (Edited edit ∷ history)
    → state_of next ≡ state_after_all (state_of history) (carried_edit (Edits edit) answer_given)
edit_line history next edit answer_given fault found is entries = search rules

edit_served : (history next : History) (edit : Edit) (answer_given : Answer) → MayAnswer history (Edits edit) answer_given next → state_of next ≡ state_after_all (state_of history) (carried_edit (Edits edit) answer_given)
edit_served history next edit answer_given (inl answered) = edit_line history next edit answer_given (lowest (edit_faults (state_of history) edit)) refl answered.answer answered.entries
edit_served history next edit answer_given (inr wanting) = search rules

one_line : (history next : History) (step : Step) (answer_given : Answer) → MayAnswer history step answer_given next → state_of next ≡ state_after_all (state_of history) (carried_edit step answer_given)
one_line history next step answer_given one = search (rules, edit_served, other_line, unchanged_line, sent_line, write_line, arrival_line)

-- one after another

joined : (state : State) (first second : List Edit) → state_after_all state (first ++ second) ≡ state_after_all (state_after_all state first) second
joined state [] second = refl
joined state (edit ∷ first) second = joined (state_after state edit) first second

pub line-after : (history next : History) (steps : List Step) (answers : List Answer) → MayAnswerAll history steps answers next → IsLineAfter history steps answers next
line-after history next [] [] all = ap state_of all
line-after history next [] (answer_given ∷ answers) all = absurd all
line-after history next (step ∷ steps) [] all = absurd all
line-after history next (step ∷ steps) (answer_given ∷ answers) all =
    line-after all.0 next steps answers all.2
    ∙ ap (λ state. state_after_all state (carried_edits steps answers)) (one_line history all.0 step answer_given all.1)
    ∙ sym (joined (state_of history) (carried_edit step answer_given) (carried_edits steps answers))
