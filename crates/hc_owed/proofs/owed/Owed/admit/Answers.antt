use Rattle.std.proofs.Common.{ap, ◌∙◌}
use Rattle.hc_owed.specs.Room.{registers_widened}
use Rattle.hc_owed.proofs.Entering.{entered, fits}
use Rattle.hc_owed.proofs.owed.Owed.admit.Goals as goal

pub widen-requires : goal.widen-requires
widen-requires c =
    let is = fits c.args.self.now c.args.room c.requires in
    record { few = is.few; known = is.known; owed = is.owed; stations = is.stations }

pub returns : goal.returns
returns c can = c.widen.ensures ∙ ap (registers_widened c.args.room.added) can.right ∙ entered can.known can.old can.group c.args.room.added can.fits.added
