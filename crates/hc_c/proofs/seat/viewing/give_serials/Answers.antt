use Rattle.std.proofs.Common.{◌∙◌, map, zero-add}
use Rattle.std.specs.Prelude.{is_some}
use Rattle.hc_c.proofs.Masks.{mask_is}
use Rattle.hc_c.proofs.seat.viewing.give_serials.Goals as goal

pub returns-clause-mask : goal.returns-clause-mask
returns-clause-mask c = c.put_serials.ensures.has ∙ zero-add _ ∙ mask_is (map is_some c.args.serials.now)
