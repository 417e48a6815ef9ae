use Rattle.std.proofs.Common.{sym, ap, ◌∙◌, arith}
use Rattle.hc_bitsum.specs.declared.filled.Filled.{Filled}
use Rattle.hc_bitsum.specs.Branch.{branch_slots}
use Rattle.hc_bitsum.specs.Filling.{filled_with_area, filled_with_areas}
use Rattle.hc_bitsum.specs.Slots.{bits_at, key_at}
use Rattle.hc_bitsum.proofs.Stretches.{branch-keys, filled-low, filled-one, stretch-none}
use Rattle.hc_bitsum.proofs.branch.Branch.filled_by_each.Goals as goal

pub loop-at-init : goal.loop-at-init
loop-at-init c = ap (filled_with_areas c.args.filled) (sym (stretch-none c.args.first c.args.first (branch_slots c.args.self.now).areas (omega arith)))

pub after_area-so_far-requires : goal.after_area-so_far-requires
after_area-so_far-requires c = grind (arith, filled-low)

pub loop-at-preserved : goal.loop-at-preserved
loop-at-preserved c =
    let branch = c.args.self.now in
    let at = c.loop-at.at in
    let areas = (branch_slots branch).areas in
    let own = c.after_area-so_far.ensures at
    ∙ ap (λ n. filled_with_area c.loop-at.so_far (key_at branch.dir at, n)) c.bits.ensures
    ∙ ap (λ (f : Filled). filled_with_area f (key_at branch.dir at, bits_at at areas)) c.loop-at.invariant in
    filled-one branch.dir c.args.filled c.after_area-so_far.result c.args.first at areas (branch-keys branch c.requires.branch) (omega arith) (omega arith) own

pub returns : goal.returns
returns c = grind arith
