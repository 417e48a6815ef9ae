use Rattle.std.proofs.Common.{◌∙◌, List, Some, ap, length, refl, sym}
use Rattle.std.proofs.lemmas.Option.{slice_get_read}
use Rattle.hc_sendings.specs.Waiting.{AwaitedWrite}
use Rattle.hc_sendings.proofs.InSlots.{no-writes}
use Rattle.hc_sendings.proofs.further_writes.free_slot.Goals as goal

pub returns-then-is_none : goal.returns-then-is_none
returns-then-is_none c =
    let slot = c.index-writes-index.result in
    slice_get_read c.args.writes.now (length c.args.writes.now) c.loop-index.index slot refl c.loop-index-test.true c.index-writes-index.is
    ∙ ap (λ (writes : List AwaitedWrite). Some writes) (no-writes slot (sym c.is_none.ensures ∙ c.if-is_none.true))
