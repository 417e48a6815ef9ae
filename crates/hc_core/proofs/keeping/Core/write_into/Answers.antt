use Rattle.std.proofs.Common.{◌∙◌, ap, length, sym}
use Rattle.std.proofs.lemmas.Result.{err_from_is_err_and}
use Rattle.hc_events.specs.Calls.{room_faults}
use Rattle.hc_events.specs.Entries.{History}
use Rattle.hc_events.specs.Owed.{owed_blocks}
use Rattle.hc_events.specs.Points.{next_serial}
use Rattle.hc_events.specs.Steps.{write_faults}
use Rattle.hc_events.specs.WriteFrames.{writes_size, writes_text}
use Rattle.hc_core.proofs.Lowest.{lowest-none}
use Rattle.hc_core.proofs.Writes.{one-faults, one-sized, some-owed, write-entries, write-answer_given}
use Rattle.hc_core.specs.State.{CoreState}
use Rattle.hc_core.specs.Written.{first_blocks}
use Rattle.hc_core.proofs.keeping.Core.write_into.Goals as goal

pub returns-in_err-sent-clause-refused : goal.returns-in_err-sent-clause-refused
returns-in_err-sent-clause-refused c =
    let p = err_from_is_err_and c.from_residual.result c.from_residual.ensures.1 in
    rw (p.1, p.2) (sym (one-faults c.args.self.now.history (length c.args.out.now)) ∙ c.in_err-sent.ensures.refused)

pub returns-clause-written : goal.returns-clause-written
returns-clause-written c =
    let history = c.args.self.now.history in
    let none = lowest-none (write_faults history (owed_blocks history)) (room_faults (writes_size (first_blocks 1 history)) (length c.args.out.now)) c.in_ok-sent.ensures.accepted in
    let holds = c.in_ok-sent.ensures.written in
    record {
      text = writes_text (next_serial history) (first_blocks 1 history);
      answer = write-answer_given history none;
      counted = holds.size ∙ one-sized history (some-owed history none);
      holds = holds.holds;
    }

pub returns-clause-accepted : goal.returns-clause-accepted
returns-clause-accepted c = sym (one-faults c.args.self.now.history (length c.args.out.now)) ∙ c.in_ok-sent.ensures.accepted

pub returns-clause-entries : goal.returns-clause-entries
returns-clause-entries c =
    let old = c.args.self.now in
    let none = lowest-none (write_faults old.history (owed_blocks old.history)) (room_faults (writes_size (first_blocks 1 old.history)) (length c.args.out.now)) c.in_ok-sent.ensures.accepted in
    c.in_ok-sent.ensures.entries
    ∙ ap (λ (entries : History). let next : CoreState = record old { history = entries } in next) (sym (write-entries old.history none))
