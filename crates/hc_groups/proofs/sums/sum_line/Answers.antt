use Rattle.std.proofs.Common.{ℕ, ◌+◌, ◌∷◌, [], ◌∙◌, ap, length, length-append, arith, rules, sym}
use Rattle.std.proofs.lemmas.List.{drop_all, length-map}
use Rattle.hc_records.proofs.lemmas.Walks.{length-line}
use Rattle.hc_groups.specs.Index.{own_sum, present_count, sums_from, block_sums}
use Rattle.hc_groups.proofs.Lines.{line-length}
use Rattle.hc_groups.proofs.Summed.{left-step, mapped-at, sums-on}
use Rattle.hc_groups.proofs.sums.sum_line.Goals as goal

pub line_counts-count-requires-clause-sums : goal.line_counts-count-requires-clause-sums
line_counts-count-requires-clause-sums c = search (rules, mapped-at)

pub overflow_add-line : goal.overflow_add-line
overflow_add-line c =
    let l = c.loop-declared in
    let groups = c.args.groups.now in
    let step = left-step present_count groups l.declared-index c.declared-item.result c.loop-declared-test.true c.declared-item.is in
    let long = line-length 1 groups in
    let few = length-line 1 groups in
    omega (arith, step, long, few, c.requires.counted, c.line_counts-count.ensures.slaves)

pub overflow_add-line_blocks : goal.overflow_add-line_blocks
overflow_add-line_blocks c =
    let l = c.loop-declared in
    let step = left-step own_sum c.args.groups.now l.declared-index c.declared-item.result c.loop-declared-test.true c.declared-item.is in
    omega (arith, step, l.invariant.3, c.requires.few, c.line_counts-count.ensures.blocks)

pub loop-declared-preserved : goal.loop-declared-preserved
loop-declared-preserved c =
    let l = c.loop-declared in
    let is = l.invariant in
    let groups = c.args.groups.now in
    let index = l.declared-index in
    let declared = c.declared-item.result in
    let low = c.loop-declared-test.true in
    let at = c.declared-item.is in
    let own = c.line_counts-count.ensures in
    let slaves = left-step present_count groups index declared low at in
    let blocks = left-step own_sum groups index declared low at in
    let first = c.push_reserved.ensures in
    let second = c.push_reserved-in-loop-declared.ensures in (
      sums-on present_count groups index l.line (l.line + c.line_counts-count.result.0) declared l.slaves.items c.push_reserved.new.self.items (sums_from present_count 0 groups) low at first.items
          (ap (λ (n : ℕ). l.line + n) own.slaves) is.0,
      sums-on own_sum groups index l.line_blocks (l.line_blocks + c.line_counts-count.result.1) declared l.blocks.items c.push_reserved-in-loop-declared.new.self.items (sums_from own_sum 0 groups) low at
          second.items (ap (λ (n : ℕ). l.line_blocks + n) own.blocks) is.1,
      omega (arith, slaves, own.slaves, is.2),
      omega (arith, blocks, own.blocks, is.3),
      ap (λ (n : ℕ). n + 1) is.4,
      ap length first.items ∙ length-append l.slaves.items (l.line ∷ []) ∙ ap (λ (n : ℕ). n + 1) is.5,
      ap length second.items ∙ length-append l.blocks.items (l.line_blocks ∷ []) ∙ ap (λ (n : ℕ). n + 1) is.6,
      first.capacity ∙ is.7,
      second.capacity ∙ is.8,
    )

pub bounds-fronts-group : goal.bounds-fronts-group
bounds-fronts-group c =
    let fronts = sym (length-map c.args.fronts.now (λ sums. sums.items)) ∙ ap length c.requires.fronts ∙ length-map c.args.groups.now block_sums in
    omega (arith, fronts, c.loop-declared.invariant.4, c.loop-declared-test.true)

pub returns-clause-slaves : goal.returns-clause-slaves
returns-clause-slaves c = c.push_reserved-2.ensures.items ∙ rw (drop_all c.loop-declared.declared-index c.args.groups.now c.loop-declared-test.false) at c.loop-declared.invariant.0

pub returns-clause-blocks : goal.returns-clause-blocks
returns-clause-blocks c = c.push_reserved-3.ensures.items ∙ rw (drop_all c.loop-declared.declared-index c.args.groups.now c.loop-declared-test.false) at c.loop-declared.invariant.1
