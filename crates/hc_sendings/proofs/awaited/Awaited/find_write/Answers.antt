use Rattle.std.proofs.Common.{◌==◌, ◌∙◌, Bool, ap, sym}
use Rattle.std.specs.Prelude.{find}
use Rattle.std.proofs.lemmas.List.Folds.{find-append}
use Rattle.hc_sendings.specs.Judging.{found_write}
use Rattle.hc_sendings.specs.Waiting.{AwaitedWrite, Waiting}
use Rattle.hc_sendings.proofs.InSlots.{blocks_in, first-found, later-found}
use Rattle.hc_sendings.proofs.awaited.Awaited.find_write.Goals as goal

pub returns-in-Some-clause-blocks : goal.returns-in-Some-clause-blocks
returns-in-Some-clause-blocks c =
    let test : AwaitedWrite → Bool = λ (write : AwaitedWrite). write.serial == c.args.serial in
    let further = c.self.inside.further in
    let writes = c.self.inside.writes in
    first-found (find test further) (find test writes) c.in-Some.blocks.now c.in-Some.ensures.blocks
    ∙ sym (ap blocks_in (find-append test further writes))
    ∙ ap (λ (w : Waiting). blocks_in (found_write c.args.serial w)) c.self.view_is

pub returns-in-None-clause-blocks : goal.returns-in-None-clause-blocks
returns-in-None-clause-blocks c =
    let test : AwaitedWrite → Bool = λ (write : AwaitedWrite). write.serial == c.args.serial in
    let further = c.self.inside.further in
    let writes = c.self.inside.writes in
    c.find-in-None.ensures.blocks
    ∙ later-found (find test further) (find test writes) c.in-None.ensures.blocks
    ∙ sym (ap blocks_in (find-append test further writes))
    ∙ ap (λ (w : Waiting). blocks_in (found_write c.args.serial w)) c.self.view_is
