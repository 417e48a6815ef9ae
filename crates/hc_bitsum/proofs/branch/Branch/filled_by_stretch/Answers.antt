use Rattle.std.proofs.Common.{◌≡◌, ◌-◌, ◌*◌, ◌/◌, ap, ◌∙◌, arith}
use Rattle.hc_bitsum.specs.declared.filled.Filled.{Filled}
use Rattle.hc_bitsum.specs.Branch.{branch_slots}
use Rattle.hc_bitsum.specs.Filling.{filled_with_areas}
use Rattle.hc_bitsum.specs.Rows.{part}
use Rattle.hc_bitsum.specs.Slots.{stretch}
use Rattle.hc_bitsum.proofs.Strides.{rows-on}
use Rattle.hc_bitsum.proofs.Stretches.{branch-size, filled-low, filled-on, rows-filled}
use Rattle.hc_bitsum.proofs.branch.Branch.filled_by_stretch.Goals as goal

pub filled_by_each-head-requires-clause-there : goal.filled_by_each-head-requires-clause-there
filled_by_each-head-requires-clause-there c =
    let ceil = c.div_ceil-first_row.ensures in
    let test = c.if-first_row-end_row.false in
    let low = filled-low c.args.filled c.args.first (8 * c.div_ceil-first_row.result) c.args.end (branch_slots c.args.self.now).areas (omega arith) (omega arith) in
    let there = c.requires.there in
    omega arith

pub climb-climbed-requires-clause-within : goal.climb-climbed-requires-clause-within
climb-climbed-requires-clause-within c =
    let size = branch-size c.args.self.now c.requires.branch in
    let within = c.requires.within in
    omega arith

pub climb-climbed-requires-clause-there : goal.climb-climbed-requires-clause-there
climb-climbed-requires-clause-there c =
    let branch = c.args.self.now in
    let size = branch-size branch c.requires.branch in
    let within = c.requires.within in
    let ceil = c.div_ceil-first_row.ensures in
    let test = c.if-first_row-end_row.false in
    let rows = rows-filled branch c.args.filled c.filled_by_each-head.result c.args.first c.div_ceil-first_row.result (c.args.end / 8) c.requires.branch (omega arith) (omega arith) (omega arith) c.filled_by_each-head.ensures in
    let bit = ap (λ (r : Filled). r.bit) rows in
    let low = filled-low c.args.filled c.args.first (8 * (c.args.end / 8)) c.args.end (branch_slots branch).areas (omega arith) (omega arith) in
    let there = c.requires.there in
    omega arith

pub descend-rows-requires-clause-within : goal.descend-rows-requires-clause-within
descend-rows-requires-clause-within c =
    let size = branch-size c.args.self.now c.requires.branch in
    let within = c.requires.within in
    omega arith

pub descend-rows-requires-clause-there : goal.descend-rows-requires-clause-there
descend-rows-requires-clause-there c =
    let branch = c.args.self.now in
    let size = branch-size branch c.requires.branch in
    let within = c.requires.within in
    let ceil = c.div_ceil-first_row.ensures in
    let test = c.if-first_row-end_row.false in
    let are_placed = c.climb-climbed.result in
    let climbed = c.climb-climbed.ensures in
    let own : filled_with_areas are_placed.filled (part branch.dir branch.rows.items are_placed.row (c.args.end / 8 - are_placed.row)) ≡ filled_with_areas c.args.filled (stretch c.args.first (8 * (c.args.end / 8)) (branch_slots branch).areas) =
    ap (λ (f : Filled). filled_with_areas f (part branch.dir branch.rows.items are_placed.row (c.args.end / 8 - are_placed.row))) climbed.so_far
    ∙ rows-on branch c.div_ceil-first_row.result are_placed.row (c.args.end / 8) c.filled_by_each-head.result climbed.from climbed.within
    ∙ rows-filled branch c.args.filled c.filled_by_each-head.result c.args.first c.div_ceil-first_row.result (c.args.end / 8) c.requires.branch (omega arith) (omega arith) (omega arith) c.filled_by_each-head.ensures in
    let bit = ap (λ (r : Filled). r.bit) own in
    let low = filled-low c.args.filled c.args.first (8 * (c.args.end / 8)) c.args.end (branch_slots branch).areas (omega arith) (omega arith) in
    let there = c.requires.there in
    omega arith

pub filled_by_each-requires-2-clause-there : goal.filled_by_each-requires-2-clause-there
filled_by_each-requires-2-clause-there c =
    let branch = c.args.self.now in
    let areas = (branch_slots branch).areas in
    let size = branch-size branch c.requires.branch in
    let within = c.requires.within in
    let ceil = c.div_ceil-first_row.ensures in
    let test = c.if-first_row-end_row.false in
    let are_placed = c.climb-climbed.result in
    let climbed = c.climb-climbed.ensures in
    let own : c.descend-rows.result ≡ filled_with_areas c.args.filled (stretch c.args.first (8 * (c.args.end / 8)) areas) =
    c.descend-rows.ensures
    ∙ ap (λ (f : Filled). filled_with_areas f (part branch.dir branch.rows.items are_placed.row (c.args.end / 8 - are_placed.row))) climbed.so_far
    ∙ rows-on branch c.div_ceil-first_row.result are_placed.row (c.args.end / 8) c.filled_by_each-head.result climbed.from climbed.within
    ∙ rows-filled branch c.args.filled c.filled_by_each-head.result c.args.first c.div_ceil-first_row.result (c.args.end / 8) c.requires.branch (omega arith) (omega arith) (omega arith) c.filled_by_each-head.ensures in
    let all = ap (λ (f : Filled). filled_with_areas f (stretch (8 * (c.args.end / 8)) c.args.end areas)) own
    ∙ filled-on c.args.filled c.args.first (8 * (c.args.end / 8)) c.args.end areas (omega arith) (omega arith) in
    let bit = ap (λ (r : Filled). r.bit) all in
    let there = c.requires.there in
    omega arith

pub returns : goal.returns
returns c =
    let branch = c.args.self.now in
    let areas = (branch_slots branch).areas in
    let size = branch-size branch c.requires.branch in
    let within = c.requires.within in
    let ceil = c.div_ceil-first_row.ensures in
    let test = c.if-first_row-end_row.false in
    let are_placed = c.climb-climbed.result in
    let climbed = c.climb-climbed.ensures in
    let own : c.descend-rows.result ≡ filled_with_areas c.args.filled (stretch c.args.first (8 * (c.args.end / 8)) areas) =
    c.descend-rows.ensures
    ∙ ap (λ (f : Filled). filled_with_areas f (part branch.dir branch.rows.items are_placed.row (c.args.end / 8 - are_placed.row))) climbed.so_far
    ∙ rows-on branch c.div_ceil-first_row.result are_placed.row (c.args.end / 8) c.filled_by_each-head.result climbed.from climbed.within
    ∙ rows-filled branch c.args.filled c.filled_by_each-head.result c.args.first c.div_ceil-first_row.result (c.args.end / 8) c.requires.branch (omega arith) (omega arith) (omega arith) c.filled_by_each-head.ensures in
    c.filled_by_each-2.ensures
    ∙ ap (λ (f : Filled). filled_with_areas f (stretch (8 * (c.args.end / 8)) c.args.end areas)) own
    ∙ filled-on c.args.filled c.args.first (8 * (c.args.end / 8)) c.args.end areas (omega arith) (omega arith)
