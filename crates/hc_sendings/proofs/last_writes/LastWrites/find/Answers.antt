use Rattle.std.proofs.Common.{◌==◌, ◌∙◌, Bool, List, find, ap, sym}
use Rattle.std.proofs.lemmas.List.Folds.{find-append}
use Rattle.hc_sendings.specs.Waiting.{AwaitedWrite}
use Rattle.hc_sendings.proofs.InSlots.{blocks_in, first-found, later-found}
use Rattle.hc_sendings.proofs.last_writes.LastWrites.find.Goals as goal

pub returns-in-Some-clause-blocks : goal.returns-in-Some-clause-blocks
returns-in-Some-clause-blocks c =
    let test : AwaitedWrite → Bool = λ (write : AwaitedWrite). write.serial == c.args.serial in
    let older = c.self.inside.older in
    let last = c.self.inside.last in
    first-found (find test older) (find test last) c.in-Some.blocks.now c.in-Some.ensures.blocks
    ∙ sym (ap blocks_in (find-append test older last))
    ∙ ap (λ (writes : List AwaitedWrite). blocks_in (find test writes)) c.self.view_is

pub returns-in-None-clause-blocks : goal.returns-in-None-clause-blocks
returns-in-None-clause-blocks c =
    let test : AwaitedWrite → Bool = λ (write : AwaitedWrite). write.serial == c.args.serial in
    let older = c.self.inside.older in
    let last = c.self.inside.last in
    c.find-in-None.ensures.blocks
    ∙ later-found (find test older) (find test last) c.in-None.ensures.blocks
    ∙ sym (ap blocks_in (find-append test older last))
    ∙ ap (λ (writes : List AwaitedWrite). blocks_in (find test writes)) c.self.view_is
