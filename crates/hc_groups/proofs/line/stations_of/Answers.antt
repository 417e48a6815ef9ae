use Rattle.std.proofs.Common.{rules, ◌∙◌, append-nil, sym}
use Rattle.std.proofs.lemmas.List.{append_assoc, drop_more, drop_all}
use Rattle.hc_groups.proofs.line.stations_of.Goals as goal

pub loop-declared-preserved : goal.loop-declared-preserved
loop-declared-preserved c = search (rules, append_assoc, drop_more)

pub returns : goal.returns
returns c = sym (append-nil c.loop-declared.all.items) ∙ rw (drop_all c.loop-declared.declared-index c.args.groups.now c.loop-declared-test.false) at c.loop-declared.invariant
