-- A frame that is written into a slice, and printed from its front.
use Rattle.std.proofs.Common.{◌≡◌, sym, ap, Some}
use Rattle.hc_records.specs.Lists.{lowest}
use Rattle.hc_events.specs.declared.faults.CoreFault.{CoreFault}
use Rattle.hc_events.specs.Entries.{History}
use Rattle.hc_events.specs.Owed.{owed_blocks}
use Rattle.hc_events.specs.Points.{next_serial}
use Rattle.hc_events.specs.Steps.{SendsWrite, entries_after, unless_fault, sent_write_answer, unless, with_write, write_faults}
use Rattle.hc_program.specs.Answers.{answer_text, event_text}
use Rattle.hc_program.specs.Refusals.{refusal_text}

pub unwritten_answered : (history : History) (fault : CoreFault) → lowest (write_faults history (owed_blocks history)) ≡ Some fault → event_text history SendsWrite ≡ refusal_text fault
unfolding event_text
unwritten_answered history fault refused =
    ap (λ found. answer_text (next_serial history) (unless found (sent_write_answer (next_serial history) (owed_blocks history)))) refused

pub unwritten_left : (history : History) (fault : CoreFault) → lowest (write_faults history (owed_blocks history)) ≡ Some fault → history ≡ entries_after history SendsWrite
unwritten_left history fault refused = sym (ap (λ found. unless_fault found history (with_write history (owed_blocks history))) refused)
