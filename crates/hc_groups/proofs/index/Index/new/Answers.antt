use Rattle.std.proofs.Common.{◌∙◌, length, ap, sym, arith}
use Rattle.std.proofs.lemmas.List.{length-map}
use Rattle.hc_records.proofs.lemmas.Slaves.{project-counted}
use Rattle.hc_groups.specs.Index.{block_sums}
use Rattle.hc_groups.proofs.Owned.{owners-length}
use Rattle.hc_groups.proofs.Owners.{few-declared, few-present}
use Rattle.hc_records.specs.declared.records.Declared.{Declared}
use Rattle.hc_records.specs.Line.{groups_of}
use Rattle.hc_records.proofs.lemmas.Limits.{project-inside}
use Rattle.hc_groups.proofs.index.Index.new.Goals as goal

pub ranks_by_station-requires : goal.ranks_by_station-requires
ranks_by_station-requires c = project-counted c.args.groups.now c.requires

pub group_fronts-requires : goal.group_fronts-requires
group_fronts-requires c = few-declared c.args.groups.now c.requires

pub declared_sums-requires : goal.declared_sums-requires
declared_sums-requires c = project-counted c.args.groups.now c.requires

pub sum_line-requires-clause-counted : goal.sum_line-requires-clause-counted
sum_line-requires-clause-counted c = project-counted c.args.groups.now c.requires

pub sum_line-requires-clause-few : goal.sum_line-requires-clause-few
sum_line-requires-clause-few c = few-present c.args.groups.now c.requires

pub invariant_of-result : goal.invariant_of-result
invariant_of-result c =
    let count = sym (length-map c.in_ok-fronts.fronts.items (λ sums. sums.items)) ∙ ap length c.in_ok-fronts.ensures ∙ length-map c.args.groups.now block_sums in
    let slaves = c.sum_line.ensures.room.0 in
    let blocks = c.sum_line.ensures.room.1 in (
      c.in_ok-aliases.ensures.order,
      c.in_ok-variables.ensures.order,
      omega (arith, count, slaves, c.in_ok-slaves.ensures.capacity),
      omega (arith, count, blocks, c.in_ok-blocks.ensures.capacity),
    )

pub sorted_aliases-requires : goal.sorted_aliases-requires
sorted_aliases-requires c =
    let most = (project-inside (groups_of c.args.groups.now) c.requires).few_groups in
    omega (arith, most, length-map c.args.groups.now (λ (declared : Declared). declared.group))

pub owners-requires : goal.owners-requires
owners-requires c =
    let most = (project-inside (groups_of c.args.groups.now) c.requires).few_groups in
    omega (arith, most, length-map c.args.groups.now (λ (declared : Declared). declared.group))

pub line_list-requires : goal.line_list-requires
line_list-requires c = omega (arith, c.len.ensures, c.in_ok-owners.owners.ok.0, ap length c.in_ok-owners.ensures, owners-length 0 c.args.groups.now)
