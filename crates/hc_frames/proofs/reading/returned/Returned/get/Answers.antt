use Rattle.std.proofs.Common.{◌∙◌, sym}
use Rattle.std.proofs.lemmas.Iterator.Adapters.{option_map_id}
use Rattle.std.proofs.lemmas.Iterator.Consumers.{YieldsList-from_first, nth_from_yields_List}
use Rattle.hc_frames.specs.Arrived.{ArrivedDatagram, placed_from}
use Rattle.hc_frames.proofs.reading.returned.Returned.get.Goals as goal

pub returns : goal.returns
returns c =
    let parts = YieldsList-from_first (λ (part : ArrivedDatagram). part) (λ left. left) (placed_from 16 c.args.self.now.parts) c.parts.ensures in
    sym (option_map_id c.nth.result) ∙ nth_from_yields_List c.nth.result _ c.args.index c.nth.ensures.ran parts
