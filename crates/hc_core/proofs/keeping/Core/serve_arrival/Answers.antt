use Rattle.std.proofs.Common.{◌≡◌, ap, refl, sym, subst}
use Rattle.std.specs.Prelude.{Ok}
use Rattle.hc_frames.specs.declared.reading.faults.FrameFault.{FrameFault}
use Rattle.hc_frames.specs.Arrived.{fault_in}
use Rattle.hc_events.specs.declared.answer.Answer.{Answer}
use Rattle.hc_events.specs.declared.answer.Answer.TheVariants as answer
use Rattle.hc_events.specs.declared.faults.CoreFault.{CoreFault}
use Rattle.hc_events.specs.Calls.{MayAnswer}
use Rattle.hc_events.specs.Faults.{frame_refusal}
use Rattle.hc_events.specs.Steps.{Arrives, entries_after}
use Rattle.hc_core.proofs.Serves.{answer-served, if-mapped, if-some, history-after, history-same, taken-same}
use Rattle.hc_core.specs.Early.{ShowsEarly}
use Rattle.hc_core.specs.Serving.{answer_or_memory}
use Rattle.hc_core.proofs.keeping.Core.serve_arrival.Goals as goal

pub returns-clause-answer : goal.returns-clause-answer
returns-clause-answer c =
    let old = c.args.self.now in
    let new = c.arrive.new.self in
    let is = c.arrive.ensures in
    subst (λ (answer_given : Answer). MayAnswer old.history (Arrives c.args.bytes.now) answer_given new.history) (sym c.answer_or_memory.ensures)
    (answer-served old.history new.history (Arrives c.args.bytes.now) c.arrive.result refl is.answer (history-after c.arrive.result old new (entries_after old.history (Arrives c.args.bytes.now)) is.entries) (history-same c.arrive.result old new is.unchanged))

pub returns-clause-taken : goal.returns-clause-taken
returns-clause-taken c =
    taken-same c.arrive.result c.args.self.now c.arrive.new.self (entries_after c.args.self.now.history (Arrives c.args.bytes.now)) c.arrive.ensures.entries c.arrive.ensures.unchanged

pub returns-clause-early : goal.returns-clause-early
returns-clause-early c =
    let history = c.args.self.now.history in
    let bytes = c.args.bytes.now in
    subst (ShowsEarly history (Arrives bytes)) (sym c.answer_or_memory.ensures)
    (if-mapped frame_refusal (λ (fault : CoreFault). answer_or_memory c.arrive.result ≡ answer.Refused fault) (fault_in bytes)
    (if-some (λ (fault : FrameFault). c.arrive.result ≡ Ok (answer.Refused (frame_refusal fault))) (λ (fault : FrameFault). answer_or_memory c.arrive.result ≡ answer.Refused (frame_refusal fault))
    (fault_in bytes) (λ fault is. ap answer_or_memory is) c.arrive.ensures.early))
