use Rattle.std.proofs.Common.{◌∙◌, ap, ℕ, List}
use Rattle.std.specs.List.{list_any}
use Rattle.hc_events.specs.Sendings.{Named}
use Rattle.hc_sendings.specs.Stored.{is_last_sent, last_sent_of}
use Rattle.hc_sendings.proofs.AwaitedStill.{any-answer_given}
use Rattle.hc_sendings.proofs.awaited.is_still_awaited.Goals as goal

pub returns : goal.returns
returns c =
    c.is_any.ensures
    ∙ ap (λ (serial : ℕ). list_any (is_last_sent c.args.last_sent.now serial) c.datagrams.result.now) c.serial.ensures
    ∙ ap (λ (datagrams : List Named). list_any (is_last_sent c.args.last_sent.now c.args.frame.now.serial) datagrams) c.datagrams.ensures.datagrams
    ∙ any-answer_given (last_sent_of c.args.last_sent.now) c.args.frame.now.serial c.args.frame.now.datagrams
