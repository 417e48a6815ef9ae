use Rattle.std.proofs.Common.{sym, ◌∙◌}
use Rattle.hc_events.specs.Ages.{data_serial}
use Rattle.hc_events.proofs.lemmas.Ages.{serials-of_data}
use Rattle.hc_core.proofs.SteadyReads.{none-of, read-is}
use Rattle.hc_core.proofs.keeping.Core.data_serial.Goals as goal

pub returns-then-not-is_present-clause-serial : goal.returns-then-not-is_present-clause-serial
returns-then-not-is_present-clause-serial c = λ low few.
    let history = c.args.self.now.history in
    sym (none-of (data_serial history c.args.task c.args.number) (serials-of_data history c.args.task c.args.number ∙ sym c.is_present.ensures ∙ c.if-not-is_present.true))

pub returns-clause-serial : goal.returns-clause-serial
returns-clause-serial c = λ low few.
    c.steady_serial.ensures.serial low few
    ∙ (read-is c.args.self.now.history c.args.task c.args.number (sym c.is_present.ensures ∙ c.if-not-is_present.false)).1
