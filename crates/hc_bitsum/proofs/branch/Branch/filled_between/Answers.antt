use Rattle.std.proofs.Common.{◌≡◌, length, sym, ap, ◌∙◌, arith}
use Rattle.hc_bitsum.specs.Branch.{branch_slots}
use Rattle.hc_bitsum.specs.Filling.{filled_with_areas}
use Rattle.hc_bitsum.proofs.Nodes.{few-rows}
use Rattle.hc_bitsum.proofs.Stretches.{branch-between, branch-size, stretch-none}
use Rattle.hc_bitsum.proofs.branch.Branch.filled_between.Goals as goal

pub places_before-first-requires : goal.places_before-first-requires
places_before-first-requires c = grind (arith, few-rows)

pub places_before-end-requires : goal.places_before-end-requires
places_before-end-requires c = grind (arith, few-rows)

pub returns-then-end-first : goal.returns-then-end-first
returns-then-end-first c =
    let branch = c.args.self.now in
    let areas = (branch_slots branch).areas in
    let first = c.places_before-first.result in
    let end = c.places_before-end.result in
    let len : c.len.result ≡ length branch.rows.items = let len = c.len.ensures in omega (arith, branch.rows.ok.0) in
    let own = branch-between branch c.len.result first end c.args.from c.args.until c.requires.branch len c.places_before-first.ensures.parts c.places_before-end.ensures.parts in
    sym (ap (filled_with_areas c.args.filled) (own ∙ stretch-none first end areas c.if-end-first.true))

pub filled_by_stretch-requires-clause-within : goal.filled_by_stretch-requires-clause-within
filled_by_stretch-requires-clause-within c = grind (arith, branch-size)

pub filled_by_stretch-requires-clause-there : goal.filled_by_stretch-requires-clause-there
filled_by_stretch-requires-clause-there c = grind (arith, branch-between)

pub returns : goal.returns
returns c = grind (arith, branch-between)
