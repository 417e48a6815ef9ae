use Rattle.std.proofs.Common.{◌≡◌, ap, sym, ◌∙◌, Some, None}
use Rattle.std.specs.Prelude.{option_map}
use Rattle.hc_events.specs.Steady.{steady_data, steady_serial}
use Rattle.hc_core.specs.declared.ages.DataAge.{DataAge}
use Rattle.hc_core.specs.Records.{history_read}
use Rattle.hc_core.specs.State.{CoreState}
use Rattle.hc_core.proofs.SteadyReads.{serial-of_age}
use Rattle.hc_core.proofs.keeping.Core.steady_serial.Goals as goal

pub returns-in-Some-clause-serial : goal.returns-in-Some-clause-serial
returns-in-Some-clause-serial c = λ low few.
    let task = c.args.task in
    let number = c.args.number in
    let is : Some c.in-Some.age.serial ≡ steady_serial c.args.self.now.history task number =
    ap (option_map (λ (age : DataAge). age.serial)) (sym c.in-Some.is ∙ c.get.ensures ∙ c.self.invariant.dates task number low few)
    ∙ serial-of_age (steady_data (history_read c.self.inside.history) task number)
    ∙ ap (λ (state : CoreState). steady_serial state.history task number) c.self.view_is in
    cc

pub returns-in-None-clause-serial : goal.returns-in-None-clause-serial
returns-in-None-clause-serial c = λ low few.
    let task = c.args.task in
    let number = c.args.number in
    let is : None ≡ steady_serial c.args.self.now.history task number =
    ap (option_map (λ (age : DataAge). age.serial)) (sym c.in-None.is ∙ c.get.ensures ∙ c.self.invariant.dates task number low few)
    ∙ serial-of_age (steady_data (history_read c.self.inside.history) task number)
    ∙ ap (λ (state : CoreState). steady_serial state.history task number) c.self.view_is in
    cc
