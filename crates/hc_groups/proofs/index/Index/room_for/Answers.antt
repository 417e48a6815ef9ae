use Rattle.std.proofs.Common.{◌≡◌, ◌+◌, ◌<◌, ◌∙◌, ℕ, List, length, ap, map, subst, sym, arith}
use Rattle.std.specs.Prelude.{sum_by}
use Rattle.std.specs.List.Sorted.{IsPermutation}
use Rattle.hc_records.specs.declared.records.Slave.{Slave}
use Rattle.hc_records.specs.Line.{members_from}
use Rattle.hc_records.specs.Project.{slave_names}
use Rattle.hc_groups.specs.Index.{Index, address_of, block_sum, slave_block_count, declared_count, sums_from}
use Rattle.hc_groups.proofs.Entering.{can-enter, lengths}
use Rattle.hc_groups.proofs.index.Index.room_for.Goals as goal

pub overflow_cast-len : goal.overflow_cast-len
overflow_cast-len c =
    omega (arith, (can-enter c.args.self.now c.args.group.now c.requires).slaves, ap (λ (index : Index). length index.owners) c.self.view_is, c.len.ensures, c.self.inside.owners.ok.0)

pub overflow_add-len : goal.overflow_add-len
overflow_add-len c =
    omega (arith, (can-enter c.args.self.now c.args.group.now c.requires).slaves, ap (λ (index : Index). length index.owners) c.self.view_is, c.len.ensures, c.self.inside.owners.ok.0)

pub entry_of-requires-clause-counted : goal.entry_of-requires-clause-counted
entry_of-requires-clause-counted c =
    omega (arith, (can-enter c.args.self.now c.args.group.now c.requires).slaves, ap (λ (index : Index). length index.owners) c.self.view_is, c.len.ensures, c.self.inside.owners.ok.0, ap length c.as_slice-slaves.ensures)

pub entry_of-requires-clause-few : goal.entry_of-requires-clause-few
entry_of-requires-clause-few c = subst (λ (slaves : List Slave). block_sum slaves < 4294967296) (sym c.as_slice-slaves.ensures) (can-enter c.args.self.now c.args.group.now c.requires).blocks

pub returns : goal.returns
returns c groups is =
    let slaves = c.as_slice-slaves.ensures in
    let count = ap length slaves in
    let long = lengths groups c.args.self.now is in
    let entry = c.in_ok-entry.ensures in
    let by_group = c.in_ok-by_group.ensures in
    let by_slave = c.in_ok-by_slave.ensures in
    let same : c.len.result ≡ sum_by declared_count groups = omega (arith, c.len.ensures, c.self.inside.owners.ok.0, ap (λ (index : Index). length index.owners) c.self.view_is, long.owners) in
    record {
      aliases = omega (arith, by_group.aliases, long.aliases);
      stations = by_slave.stations;
      variables = omega (arith, by_slave.variables, long.variables);
      owners = omega (arith, by_slave.owners, count, long.owners);
      line = omega (arith, by_slave.line, count, long.line);
      fronts = omega (arith, by_group.fronts, long.fronts);
      ranks = omega (arith, by_group.ranks, long.ranks);
      slaves = omega (arith, by_group.slaves, long.slaves);
      blocks = omega (arith, by_group.blocks, long.blocks);
      addresses =
          entry.addresses
          ∙ ap (λ (n : ℕ). map address_of (members_from (n + 1) c.as_slice-slaves.result.now)) same
          ∙ ap (λ (l : List Slave). map address_of (members_from (sum_by declared_count groups + 1) l)) slaves;
      reach = entry.reach;
      names = subst (λ (l : List Slave). IsPermutation (slave_names l) c.in_ok-entry.entry.names.items) slaves entry.names;
      order = entry.order;
      sums = entry.sums ∙ ap (λ (l : List Slave). sums_from slave_block_count 0 l) slaves;
    }
