use Rattle.std.proofs.Common.{inr, true, false, arith}
use Rattle.std.proofs.lemmas.Bool.Decides.{nat_tests}
use Rattle.hc_cuts.proofs.Chain.{begun, crowds, end-is, ends, ends-few, goes, goes-place}
use Rattle.hc_cuts.proofs.Counted.{counts-begin, counts-end, counts-go}
use Rattle.hc_cuts.proofs.repair.repaired_starts.Goals as goal

pub spans-init : goal.spans-init
spans-init g c = grind (arith, begun, counts-begin)

pub returns-then-is_same-clause-starts : goal.returns-then-is_same-clause-starts
returns-then-is_same-clause-starts g c = grind (arith, end-is, ends)

pub returns-then-is_same-clause-few : goal.returns-then-is_same-clause-few
returns-then-is_same-clause-few g c = grind (arith, end-is, ends, ends-few)

pub returns-then-is_same-clause-count : goal.returns-then-is_same-clause-count
returns-then-is_same-clause-count g c =
    let holds = c.requires.holds in
    let next = c.span_end-searches.result.0 in
    let last = end-is c.is_same.result next true c.is_same.ensures c.if-is_same.true in
    let all = ends c.args.task.now c.spans.starts.items c.spans.from next holds c.span_end-searches.ensures.next last c.spans.invariant.is_placed in
    counts-end c.args.hulls.now c.args.old.now c.spans.starts.items c.args.task.now c.spans.from next c.spans.count c.span_end-searches.result.1 holds
    c.span_end-searches.ensures.next last all c.span_end-searches.ensures.searched c.spans.invariant.counts

pub returns-then-is_full-clause-refused : goal.returns-then-is_full-clause-refused
returns-then-is_full-clause-refused g c = grind (arith, end-is, nat_tests, crowds)

pub spans-preserved : goal.spans-preserved
spans-preserved g c =
    let holds = c.requires.holds in
    let next = c.span_end-searches.result.0 in
    let found = c.span_end-searches.ensures in
    let other = end-is c.is_same.result next false c.is_same.ensures c.if-is_same.false in
    let so_far = c.spans.invariant in
    let some = so_far.some in
    let few = so_far.few in
    let least = so_far.least in
    let most = so_far.most in
    record {
      is_placed = rw c.push-in-spans.ensures.items (goes c.args.task.now c.spans.starts.items c.spans.from next holds found.next other so_far.is_placed);
      begins = inr (goes-place c.args.task.now c.spans.from next holds found.next other);
      counts = counts-go c.args.hulls.now c.args.old.now c.args.task.now c.spans.from next c.spans.count c.span_end-searches.result.1 holds found.next other found.searched so_far.counts;
      some = omega arith;
      few = (let value = c.is_full.ensures.value in let test = c.if-is_full.false in grind (arith, nat_tests));
      least = omega arith;
      most = omega arith;
    }
