use Rattle.std.proofs.Common.{◌≡◌, ◌+◌, ◌-◌, ◌<◌, ◌≤◌, ◌∷◌, ◌++◌, ◌∙◌, ℕ, [], List, length, ap, map, replicate, subst, sym, arith}
use Rattle.std.specs.Prelude.{All, slice_index, sum_by}
use Rattle.std.specs.List.Sorted.{IsNonDecreasing, IsPermutation}
use Rattle.std.proofs.lemmas.List.{length-append, length-map, map-append}
use Rattle.hc_groups.specs.declared.addresses.Address.{Address}
use Rattle.hc_groups.specs.declared.aliases.Alias.{Alias}
use Rattle.hc_groups.specs.Index.{AreRanks, Index, declared_count}
use Rattle.hc_groups.specs.Room.{IndexRoom}
use Rattle.hc_groups.proofs.Entering.{HasTaken, enters, fits, own-some, taken}
use Rattle.hc_groups.proofs.index.Index.admit.Goals as goal

pub overflow_cast-number : goal.overflow_cast-number
overflow_cast-number c =
    let fronts = ap (λ (index : Index). length index.fronts) c.self.view_is in
    let size = length-map c.self.inside.fronts.items (λ sums. sums.items) in
    omega (arith, (enters c.args.self.now c.args.group.now c.args.room c.requires).groups, fronts, size, c.len-number.ensures, c.self.inside.fronts.ok.0)

pub add_ranks-requires-clause-some : goal.add_ranks-requires-clause-some
add_ranks-requires-clause-some c =
    let addresses = ap (λ (room : IndexRoom). room.addresses) c.room.view_is in
    subst (All (λ (address : Address). 1 ≤ address.rank)) (sym (c.deref.ensures.value ∙ addresses ∙ c.requires.fits.addresses))
    (own-some (sum_by declared_count c.requires.groups + 1) c.args.group.now.slaves (omega arith))

pub add_variables-requires-clause-own : goal.add_variables-requires-clause-own
add_variables-requires-clause-own c =
    let names = ap (λ (room : IndexRoom). room.names) c.room.view_is in
    subst IsNonDecreasing (sym (c.deref-2.ensures.value ∙ names)) c.requires.fits.order

pub overflow_cast-count : goal.overflow_cast-count
overflow_cast-count c = omega (arith, (enters c.args.self.now c.args.group.now c.args.room c.requires).slaves, c.len-count.ensures)

pub add_sum-requires-clause-some : goal.add_sum-requires-clause-some
add_sum-requires-clause-some c =
    subst (λ (index : Index). 0 < length index.ranks) (sym c.self.view_is) (enters c.args.self.now c.args.group.now c.args.room c.requires).some

pub add_sum-requires-clause-low : goal.add_sum-requires-clause-low
add_sum-requires-clause-low c =
    let low = subst (λ (index : Index). slice_index index.ranks (length index.ranks - 1) + length c.args.group.now.slaves < 65535) (sym c.self.view_is)
    (enters c.args.self.now c.args.group.now c.args.room c.requires).ranks in
    omega (arith, low, c.len-count.ensures)

pub add_sum-requires-2-clause-some : goal.add_sum-requires-2-clause-some
add_sum-requires-2-clause-some c =
    let is = enters c.args.self.now c.args.group.now c.args.room c.requires in
    subst (λ (index : Index). 0 < length index.slaves) (sym c.self.view_is) (omega (arith, is.slave_sums))

pub add_sum-requires-2-clause-low : goal.add_sum-requires-2-clause-low
add_sum-requires-2-clause-low c =
    let low = subst (λ (index : Index). slice_index index.slaves (length index.slaves - 1) < 65535) (sym c.self.view_is)
    (enters c.args.self.now c.args.group.now c.args.room c.requires).line in
    omega (arith, low)

pub add_sum-requires-3-clause-some : goal.add_sum-requires-3-clause-some
add_sum-requires-3-clause-some c =
    let is = enters c.args.self.now c.args.group.now c.args.room c.requires in
    subst (λ (index : Index). 0 < length index.blocks) (sym c.self.view_is) (omega (arith, is.block_sums))

pub add_sum-requires-3-clause-low : goal.add_sum-requires-3-clause-low
add_sum-requires-3-clause-low c =
    let low = subst (λ (index : Index). slice_index index.blocks (length index.blocks - 1) < 4294967296) (sym c.self.view_is)
    (enters c.args.self.now c.args.group.now c.args.room c.requires).line_blocks in
    omega (arith, low)

pub add_alias-requires-clause-room : goal.add_alias-requires-clause-room
add_alias-requires-clause-room c =
    let own = ap (λ (index : Index). length index.aliases) c.self.view_is in
    let room = ap (λ (room : IndexRoom). room.aliases) c.room.view_is in
    omega (arith, (fits c.args.self.now c.args.group.now c.args.room c.requires).aliases, own, room)

pub add_variables-requires-clause-room : goal.add_variables-requires-clause-room
add_variables-requires-clause-room c =
    let names = ap length (c.deref-2.ensures.value ∙ ap (λ (room : IndexRoom). room.names) c.room.view_is) in
    let own = ap (λ (index : Index). length index.variables) c.self.view_is in
    let room = ap (λ (room : IndexRoom). room.variables) c.room.view_is in
    omega (arith, (fits c.args.self.now c.args.group.now c.args.room c.requires).variables, own, room, names)

pub fill-requires : goal.fill-requires
fill-requires c =
    let own = ap (λ (index : Index). length index.owners) c.self.view_is in
    let room = ap (λ (room : IndexRoom). room.owners) c.room.view_is in
    omega (arith, (fits c.args.self.now c.args.group.now c.args.room c.requires).owners, own, room, c.len-count.ensures)

pub fill-requires-2 : goal.fill-requires-2
fill-requires-2 c =
    let own = ap (λ (index : Index). length index.line) c.self.view_is in
    let room = ap (λ (room : IndexRoom). room.line) c.room.view_is in
    omega (arith, (fits c.args.self.now c.args.group.now c.args.room c.requires).line, own, room, c.len-count.ensures)

pub add_list-requires : goal.add_list-requires
add_list-requires c =
    let own = ap (λ (index : Index). length index.fronts) c.self.view_is in
    let room = ap (λ (room : IndexRoom). room.fronts) c.room.view_is in
    omega (arith, (fits c.args.self.now c.args.group.now c.args.room c.requires).fronts, own, room, length-map c.self.inside.fronts.items (λ sums. sums.items))

pub add_sum-requires-clause-room : goal.add_sum-requires-clause-room
add_sum-requires-clause-room c =
    let own = ap (λ (index : Index). length index.ranks) c.self.view_is in
    let room = ap (λ (room : IndexRoom). room.ranks) c.room.view_is in
    omega (arith, (fits c.args.self.now c.args.group.now c.args.room c.requires).ranks, own, room)

pub add_sum-requires-2-clause-room : goal.add_sum-requires-2-clause-room
add_sum-requires-2-clause-room c =
    let own = ap (λ (index : Index). length index.slaves) c.self.view_is in
    let room = ap (λ (room : IndexRoom). room.slaves) c.room.view_is in
    omega (arith, (fits c.args.self.now c.args.group.now c.args.room c.requires).slaves, own, room)

pub add_sum-requires-3-clause-room : goal.add_sum-requires-3-clause-room
add_sum-requires-3-clause-room c =
    let own = ap (λ (index : Index). length index.blocks) c.self.view_is in
    let room = ap (λ (room : IndexRoom). room.blocks) c.room.view_is in
    omega (arith, (fits c.args.self.now c.args.group.now c.args.room c.requires).blocks, own, room)

pub invariant_of-self : goal.invariant_of-self
invariant_of-self c =
    let is = enters c.args.self.now c.args.group.now c.args.room c.requires in
    let count = length-map c.self.inside.fronts.items (λ sums. sums.items) in
    let fronts = ap (λ (index : Index). length index.fronts) c.self.view_is in
    let slaves = ap (λ (index : Index). length index.slaves) c.self.view_is in
    let blocks = ap (λ (index : Index). length index.blocks) c.self.view_is in
    let longer = ap length c.add_list.ensures ∙ length-append c.self.inside.fronts.items _ in
    let more_slaves = ap length c.add_sum-2.ensures ∙ length-append c.self.inside.slaves.items _ in
    let more_blocks = ap length c.add_sum-3.ensures ∙ length-append c.self.inside.blocks.items _ in (
      c.add_alias.ensures.order,
      c.add_variables.ensures.order,
      omega (arith, is.slave_sums, count, fronts, slaves, longer, more_slaves, c.add_sum-2.new.sums.ok.0, c.add_sum-2.new.sums.ok.1),
      omega (arith, is.block_sums, count, fronts, blocks, longer, more_blocks, c.add_sum-3.new.sums.ok.0, c.add_sum-3.new.sums.ok.1),
    )

pub returns : goal.returns
returns c can =
    let inside = c.self.inside in
    let group = c.args.group.now in
    let old : Index = record {
      aliases = inside.aliases.items;
      stations = inside.stations.items;
      variables = inside.variables.items;
      owners = inside.owners.items;
      fronts = map (λ sums. sums.items) inside.fronts.items;
      ranks = inside.ranks.items;
      slaves = inside.slaves.items;
      blocks = inside.blocks.items;
      line = inside.line.items;
    } in
    let new : Index = record {
      aliases = c.add_alias.new.aliases.items;
      stations = c.add_ranks.new.ranks.items;
      variables = c.add_variables.new.variables.items;
      owners = c.fill.new.list.items;
      fronts = map (λ sums. sums.items) c.add_list.new.lists.items;
      ranks = c.add_sum.new.sums.items;
      slaves = c.add_sum-2.new.sums.items;
      blocks = c.add_sum-3.new.sums.items;
      line = c.fill-2.new.list.items;
    } in
    let number : c.len-number.result ≡ length old.fronts = let size = length-map inside.fronts.items (λ sums. sums.items) in omega (arith, c.len-number.ensures, inside.fronts.ok.0, size) in
    let count : c.len-count.result ≡ length group.slaves = c.len-count.ensures in
    let addresses = ap (λ (room : IndexRoom). room.addresses) c.room.view_is in
    let names = ap (λ (room : IndexRoom). room.names) c.room.view_is in
    let sums = ap (λ (room : IndexRoom). room.sums) c.room.view_is in
    taken c.args.self.now new group c.args.room can
    (subst (λ (i : Index). HasTaken i new group c.args.room) c.self.view_is
    (record {
      aliases = subst (λ (n : ℕ). let own : Alias = record { alias = group.alias; group = n } in IsPermutation (own ∷ old.aliases) new.aliases) number c.add_alias.ensures.same;
      stations = λ others are. subst (λ (l : List Address). AreRanks (others ++ l) new.stations) (c.deref.ensures.value ∙ addresses) (c.add_ranks.ensures others are);
      variables = subst (λ (l : List ℕ). IsPermutation (old.variables ++ l) new.variables) (c.deref-2.ensures.value ∙ names) c.add_variables.ensures.same;
      owners =
          c.fill.ensures
          ∙ ap (λ (n : ℕ). old.owners ++ replicate n c.len-number.result) count
          ∙ ap (λ (n : ℕ). old.owners ++ replicate (length group.slaves) n) number;
      line = c.fill-2.ensures ∙ ap (λ (n : ℕ). old.line ++ replicate n 0) count;
      fronts =
          ap (map (λ sums. sums.items)) c.add_list.ensures
          ∙ map-append (λ sums. sums.items) inside.fronts.items (c.room.inside.entry.sums ∷ [])
          ∙ ap (λ (l : List ℕ). old.fronts ++ l ∷ []) sums;
      ranks = c.add_sum.ensures ∙ ap (λ (n : ℕ). old.ranks ++ (slice_index old.ranks (length old.ranks - 1) + n) ∷ []) count;
      slaves = c.add_sum-2.ensures;
      blocks = c.add_sum-3.ensures;
    }))
