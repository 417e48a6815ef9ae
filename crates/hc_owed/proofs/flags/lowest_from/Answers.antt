use Rattle.std.proofs.Common.{◌/◌, ◌^◌, refl}
use Rattle.hc_owed.proofs.FlagLists.{clear-shifted, lowest-shifted}
use Rattle.hc_owed.proofs.flags.lowest_from.Goals as goal

pub returns-in-Some : goal.returns-in-Some
returns-in-Some c = lowest-shifted c.args.word c.args.first (c.args.word / 2 ^ c.args.first) c.in-Some.place refl c.ranges.word.fits c.in-Some.ensures

pub returns-in-None : goal.returns-in-None
returns-in-None c = clear-shifted c.args.word c.args.first (c.args.word / 2 ^ c.args.first) refl c.in-None.ensures
