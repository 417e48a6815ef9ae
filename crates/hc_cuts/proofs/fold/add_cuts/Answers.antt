use Rattle.std.proofs.Common.{◌∙◌, append-nil, sym}
use Rattle.std.proofs.lemmas.List.{drop_all}
use Rattle.hc_cuts.proofs.fold.add_cuts.Goals as goal

pub returns-clause-added : goal.returns-clause-added
returns-clause-added c = sym (append-nil c.loop-area.keys.items) ∙ rw (drop_all c.loop-area.area-index c.args.areas.now c.loop-area-test.false) at c.loop-area.invariant.keys
