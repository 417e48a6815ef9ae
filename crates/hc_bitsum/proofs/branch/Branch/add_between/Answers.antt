use Rattle.std.proofs.Common.{◌≡◌, ◌++◌, List, length, append-nil, refl, sym, ap, ◌∙◌, arith}
use Rattle.std.specs.Prelude.{filter}
use Rattle.hc_records.specs.TaskList.{Keyed}
use Rattle.hc_bitsum.specs.Branch.{branch_slots}
use Rattle.hc_bitsum.specs.Tree.{has_width}
use Rattle.hc_bitsum.proofs.Between.{none-between}
use Rattle.hc_bitsum.proofs.Nodes.{few-rows}
use Rattle.hc_bitsum.proofs.Stretches.{branch-between, branch-size, stretch-none}
use Rattle.hc_bitsum.proofs.branch.Branch.add_between.Goals as goal
use Rattle.hc_bitsum.proofs.branch.Branch.add_between.Goals.{then-end-first-via-then-end-first, then-end-first-via-else-end-first+then-is_empty}

pub places_before-first-requires : goal.places_before-first-requires
places_before-first-requires c = grind (arith, few-rows)

pub places_before-end-requires : goal.places_before-end-requires
places_before-end-requires c = grind (arith, few-rows)

pub returns-then-end-first : goal.returns-then-end-first
returns-then-end-first c =
    let branch = c.args.self.now in
    let areas = (branch_slots branch).areas in
    let old = c.args.areas.now.items in
    let first = c.places_before-first.result in
    let end = c.places_before-end.result in
    let len : c.len.result ≡ length branch.rows.items = let len = c.len.ensures in omega (arith, branch.rows.ok.0) in
    let own = branch-between branch c.len.result first end c.args.from c.args.until c.requires len c.places_before-first.ensures.parts c.places_before-end.ensures.parts in
    elim c.then-end-first.branch [
      | then-end-first-via-then-end-first w ↦
          sym (ap (λ (xs : List Keyed). old ++ filter has_width xs) (own ∙ stretch-none first end areas w.if-end-first.true) ∙ append-nil old)
      | then-end-first-via-else-end-first+then-is_empty w ↦
          sym (ap (λ (xs : List Keyed). old ++ xs) (none-between c.args.from c.args.until areas (w.if-is_empty.ensures refl)) ∙ append-nil old)
    ]

pub add_stretch-requires-clause-within : goal.add_stretch-requires-clause-within
add_stretch-requires-clause-within c = grind (arith, branch-size)

pub returns : goal.returns
returns c = grind (arith, branch-between)
