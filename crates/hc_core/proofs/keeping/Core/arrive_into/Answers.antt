use Rattle.std.proofs.Common.{◌∙◌, ap, sym, Ok}
use Rattle.hc_frames.specs.Arrived.{reading_of}
use Rattle.hc_events.specs.Arrivals.{read_unless}
use Rattle.hc_events.specs.Steps.{arrival_answer}
use Rattle.hc_core.proofs.keeping.Core.arrive_into.Goals as goal

pub returns-in-Ok-clause-answer : goal.returns-in-Ok-clause-answer
returns-in-Ok-clause-answer c =
    let read = ap (λ fault. read_unless fault (reading_of c.args.bytes.now)) c.in_ok-arrival.ensures.0 ∙ ap Ok (sym c.in_ok-arrival.ensures.1) in
    c.in_ok-arrived.ensures.answer ∙ sym (ap (arrival_answer c.args.self.now.history) read)
