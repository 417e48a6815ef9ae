use Rattle.std.proofs.Common.{◌≡◌, ◌==◌, ◌∙◌, ap, ap₂, sym}
use Rattle.std.specs.Prelude.{is_some}
use Rattle.hc_records.specs.Line.{State}
use Rattle.hc_events.specs.Images.{slot_of}
use Rattle.hc_events.specs.Points.{epoch_of}
use Rattle.hc_events.proofs.lemmas.Epochs.{epochs-counted}
use Rattle.hc_core.specs.Records.{history_read}
use Rattle.hc_core.specs.State.{CoreState}
use Rattle.hc_core.proofs.SteadyReads.{is_of_epoch, present-is}
use Rattle.hc_core.proofs.keeping.Core.is_present.Goals as goal

pub returns-in-Some : goal.returns-in-Some
returns-in-Some c =
    let history = history_read c.self.inside.history in
    let task = c.args.task in
    let number = c.args.number in
    let epoch : c.epoch.result ≡ epoch_of history = c.epoch.ensures ∙ ap (λ (state : State). state.epoch) c.self.invariant.state ∙ epochs-counted history c.self.invariant.accepted in
    let is : (c.in-Some.age.epoch == c.epoch.result) ≡ is_some (slot_of c.args.self.now.history task number) =
    ap₂ is_of_epoch epoch (sym c.in-Some.is ∙ c.get.ensures ∙ c.self.invariant.dates task number c.requires.task c.requires.number)
    ∙ present-is history task number
    ∙ ap (λ (core : CoreState). is_some (slot_of core.history task number)) c.self.view_is in
    cc

pub returns-in-None : goal.returns-in-None
returns-in-None c =
    let history = history_read c.self.inside.history in
    let task = c.args.task in
    let number = c.args.number in
    ap (is_of_epoch (epoch_of history)) (sym c.in-None.is ∙ c.get.ensures ∙ c.self.invariant.dates task number c.requires.task c.requires.number)
    ∙ present-is history task number
    ∙ ap (λ (core : CoreState). is_some (slot_of core.history task number)) c.self.view_is
