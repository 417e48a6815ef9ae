use Rattle.std.proofs.Common.{◌≡◌, ℕ, ◌+◌, ◌<◌, List, ap, drop, get_or, length, arith}
use Rattle.std.specs.Prelude.{sum_by}
use Rattle.hc_records.specs.declared.records.Declared.{Declared}
use Rattle.hc_records.specs.Line.{IsCounted}
use Rattle.hc_groups.specs.Index.{declared_count, sums_from}
use Rattle.hc_groups.proofs.Summed.{left-step, sums-on, sums-over}
use Rattle.hc_groups.proofs.sums.declared_sums.Goals as goal

-- the slaves so far and those of the next group are among all
few : (groups : List Declared) (i front slaves : ℕ) (declared : Declared) → i < length groups → declared ≡ get_or groups i declared → slaves ≡ length declared.group.slaves
    → front + sum_by declared_count (drop i groups) ≡ sum_by declared_count groups → IsCounted groups → front + slaves < 65535
few groups i front slaves declared inside is long sum all = let step = left-step declared_count groups i declared inside is in omega (arith, step, long, sum, all)

pub overflow_cast-declared_slaves : goal.overflow_cast-declared_slaves
overflow_cast-declared_slaves c =
    let l = c.loop-declared in
    omega (arith, few c.args.groups.now l.declared-index l.declared_slaves c.len.result c.declared-item.result c.loop-declared-test.true c.declared-item.is c.len.ensures l.invariant.1 c.requires)

pub overflow_add-declared_slaves : goal.overflow_add-declared_slaves
overflow_add-declared_slaves c =
    let l = c.loop-declared in
    omega (arith, few c.args.groups.now l.declared-index l.declared_slaves c.len.result c.declared-item.result c.loop-declared-test.true c.declared-item.is c.len.ensures l.invariant.1 c.requires)

pub loop-declared-preserved : goal.loop-declared-preserved
loop-declared-preserved c =
    let groups = c.args.groups.now in
    let l = c.loop-declared in
    let declared = c.declared-item.result in
    let step = left-step declared_count groups l.declared-index declared c.loop-declared-test.true c.declared-item.is in (
      sums-on declared_count groups l.declared-index l.declared_slaves (l.declared_slaves + c.len.result) declared l.ranks.items c.push.new.self.items (sums_from declared_count 0 groups)
          c.loop-declared-test.true c.declared-item.is c.in_ok-push.ensures.items (ap (λ (many : ℕ). l.declared_slaves + many) c.len.ensures) l.invariant.0,
      omega (arith, step, c.len.ensures, l.invariant.1),
    )

pub returns : goal.returns
returns c =
    let groups = c.args.groups.now in
    let l = c.loop-declared in
    sums-over declared_count groups l.declared-index l.declared_slaves l.ranks.items c.push-2.new.self.items (sums_from declared_count 0 groups) c.loop-declared-test.false
    c.in_ok-push-2.ensures.items l.invariant.0
