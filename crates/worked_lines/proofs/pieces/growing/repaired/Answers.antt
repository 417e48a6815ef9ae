use Rattle.hc_cuts.proofs.lemmas.Inside.{were}
use Rattle.worked_lines.proofs.pieces.growing.repaired.Goals as goal

pub repair-requires : goal.repair-requires
repair-requires g c =
    were c.args.cuts.now c.set_all-hulls.new.cuts c.set_all-hulls.result c.requires.holds.list c.requires.cut c.set_all-hulls.ensures.starts c.set_all-hulls.ensures.inside
