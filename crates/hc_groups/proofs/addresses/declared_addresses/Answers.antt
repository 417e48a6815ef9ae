use Rattle.std.proofs.Common.{◌≡◌, ℕ, ◌+◌, ◌<◌, ◌∷◌, ◌++◌, ◌∙◌, List, ap, append_assoc, drop, get_or, length, sym, arith, append-nil}
use Rattle.std.specs.Prelude.{sum_by}
use Rattle.std.proofs.lemmas.List.{drop_more, drop_all}
use Rattle.hc_records.specs.declared.records.Declared.{Declared}
use Rattle.hc_records.specs.declared.records.Slave.{Slave}
use Rattle.hc_records.specs.Line.{IsCounted}
use Rattle.hc_groups.specs.declared.addresses.Address.{Address}
use Rattle.hc_groups.proofs.Declaring.{addresses-group, addresses_from, own_addresses}
use Rattle.hc_groups.proofs.Summed.{left-step}
use Rattle.hc_groups.proofs.addresses.declared_addresses.Goals as goal

abbrev slaves_in : Declared → ℕ
slaves_in declared = length declared.group.slaves

-- the ranks so far and those of the next group are among all
few : (groups : List Declared) (i rank : ℕ) (declared : Declared) (slaves : List Slave) → i < length groups → declared ≡ get_or groups i declared → slaves ≡ declared.group.slaves
    → rank + sum_by slaves_in (drop i groups) ≡ 1 + sum_by slaves_in groups → IsCounted groups → rank + length slaves < 65536
few groups i rank declared slaves inside is own sum all = let step = left-step slaves_in groups i declared inside is in omega (arith, step, ap length own, sum, all)

pub add_addresses-requires : goal.add_addresses-requires
add_addresses-requires c =
    let l = c.loop-declared in
    few c.args.groups.now l.declared-index l.rank c.declared-item.result c.as_slice-slaves.result.now c.loop-declared-test.true c.declared-item.is c.as_slice-slaves.ensures l.invariant.1 c.requires

pub overflow_cast-rank : goal.overflow_cast-rank
overflow_cast-rank c =
    let l = c.loop-declared in
    omega (arith, few c.args.groups.now l.declared-index l.rank c.declared-item.result c.as_slice-slaves.result.now c.loop-declared-test.true c.declared-item.is c.as_slice-slaves.ensures l.invariant.1 c.requires)

pub overflow_add-rank : goal.overflow_add-rank
overflow_add-rank c =
    let l = c.loop-declared in
    omega (arith, few c.args.groups.now l.declared-index l.rank c.declared-item.result c.as_slice-slaves.result.now c.loop-declared-test.true c.declared-item.is c.as_slice-slaves.ensures l.invariant.1 c.requires)

pub loop-declared-preserved : goal.loop-declared-preserved
loop-declared-preserved c =
    let l = c.loop-declared in
    let groups = c.args.groups.now in
    let declared = c.declared-item.result in
    let slaves = c.as_slice-slaves.result.now in
    let rest = drop (l.declared-index + 1) groups in
    let step = left-step (λ (d : Declared). length d.group.slaves) groups l.declared-index declared c.loop-declared-test.true c.declared-item.is in
    let group : addresses_from l.rank (drop l.declared-index groups) ≡ own_addresses l.rank slaves ++ addresses_from (l.rank + length slaves) rest =
    ap (addresses_from l.rank) (drop_more groups l.declared-index declared c.loop-declared-test.true ∙ ap (λ (d : Declared). d ∷ rest) (sym c.declared-item.is))
    ∙ addresses-group l.rank declared rest
    ∙ ap (λ (own : List Slave). own_addresses l.rank own ++ addresses_from (l.rank + length own) rest) (sym c.as_slice-slaves.ensures) in (
      ap (λ (all : List Address). all ++ addresses_from (l.rank + length slaves) rest) c.in_ok-add_addresses.ensures
          ∙ append_assoc l.all.items (own_addresses l.rank slaves) (addresses_from (l.rank + length slaves) rest)
          ∙ ap (λ (left : List Address). l.all.items ++ left) (sym group)
          ∙ l.invariant.0,
      omega (arith, step, ap length c.as_slice-slaves.ensures, l.invariant.1),
    )

pub returns : goal.returns
returns c = sym (append-nil c.loop-declared.all.items) ∙ rw (drop_all c.loop-declared.declared-index c.args.groups.now c.loop-declared-test.false) at c.loop-declared.invariant.0
