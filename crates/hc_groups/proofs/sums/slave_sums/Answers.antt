use Rattle.std.proofs.Common.{◌≡◌, ℕ, ◌+◌, ◌*◌, ◌<◌, List, length, drop, get_or, ap, arith}
use Rattle.hc_records.specs.declared.records.Slave.{Slave}
use Rattle.hc_groups.specs.Index.{block_sum, slave_block_count, sums_from}
use Rattle.hc_groups.proofs.Summed.{left-step, sums-on, sums-over}
use Rattle.hc_groups.proofs.sums.slave_sums.Goals as goal

-- the blocks so far and those of the next slave are among all
few : (slaves : List Slave) (i blocks areas : ℕ) (slave : Slave) → i < length slaves → slave ≡ get_or slaves i slave → areas ≡ length slave.areas
    → blocks + block_sum (drop i slaves) ≡ block_sum slaves → block_sum slaves < 4294967296 → blocks + 2 * areas < 4294967296
few slaves i blocks areas slave inside is long sum all = let step = left-step slave_block_count slaves i slave inside is in omega (arith, step, long, sum, all)

pub overflow_cast-blocks : goal.overflow_cast-blocks
overflow_cast-blocks c =
    let l = c.loop-slave in
    omega (arith, few c.args.slaves.now l.slave-index l.blocks c.len.result c.slave-item.result c.loop-slave-test.true c.slave-item.is c.len.ensures l.invariant.1 c.requires)

pub overflow_mul-blocks : goal.overflow_mul-blocks
overflow_mul-blocks c =
    let l = c.loop-slave in
    omega (arith, few c.args.slaves.now l.slave-index l.blocks c.len.result c.slave-item.result c.loop-slave-test.true c.slave-item.is c.len.ensures l.invariant.1 c.requires)

pub overflow_add-blocks : goal.overflow_add-blocks
overflow_add-blocks c =
    let l = c.loop-slave in
    omega (arith, few c.args.slaves.now l.slave-index l.blocks c.len.result c.slave-item.result c.loop-slave-test.true c.slave-item.is c.len.ensures l.invariant.1 c.requires)

pub loop-slave-preserved : goal.loop-slave-preserved
loop-slave-preserved c =
    let slaves = c.args.slaves.now in
    let l = c.loop-slave in
    let slave = c.slave-item.result in
    let step = left-step slave_block_count slaves l.slave-index slave c.loop-slave-test.true c.slave-item.is in (
      sums-on slave_block_count slaves l.slave-index l.blocks (l.blocks + 2 * c.len.result) slave l.sums.items c.push.new.self.items (sums_from slave_block_count 0 slaves) c.loop-slave-test.true c.slave-item.is
          c.in_ok-push.ensures.items (ap (λ (areas : ℕ). l.blocks + 2 * areas) c.len.ensures) l.invariant.0,
      omega (arith, step, c.len.ensures, l.invariant.1),
    )

pub returns : goal.returns
returns c =
    let slaves = c.args.slaves.now in
    let l = c.loop-slave in
    sums-over slave_block_count slaves l.slave-index l.blocks l.sums.items c.push-2.new.self.items (sums_from slave_block_count 0 slaves) c.loop-slave-test.false c.in_ok-push-2.ensures.items l.invariant.0
