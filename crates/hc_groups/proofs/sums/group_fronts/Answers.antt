use Rattle.std.proofs.Common.{◌∙◌, append-nil, map, sym}
use Rattle.std.proofs.lemmas.List.{drop_all}
use Rattle.hc_groups.proofs.sums.group_fronts.Goals as goal

pub returns : goal.returns
returns c =
    sym (append-nil (map (λ sums. sums.items) c.loop-declared.fronts.items))
    ∙ rw (drop_all c.loop-declared.declared-index c.args.groups.now c.loop-declared-test.false) at c.loop-declared.invariant
