use Rattle.std.proofs.Common.{◌∙◌, ◌+◌, ap, arith, length}
use Rattle.std.specs.Prelude.{sum_by}
use Rattle.std.proofs.lemmas.List.{take_all}
use Rattle.hc_groups.specs.Index.{Index, present_count}
use Rattle.hc_groups.proofs.LineLists.{slaves-before, sum-rises}
use Rattle.hc_groups.proofs.Summed.{sums-length}
use Rattle.hc_groups.proofs.index.Index.stretch.Goals as goal

pub index-requires : goal.index-requires
index-requires c =
    let long = ap (λ (index : Index). length index.slaves) c.self.view_is ∙ ap length c.requires.index.slaves ∙ sums-length present_count 0 c.args.groups.now in
    omega (arith, long, c.requires.inside, c.self.inside.slaves.ok.0)

pub index-requires-2 : goal.index-requires-2
index-requires-2 c =
    let long = ap (λ (index : Index). length index.slaves) c.self.view_is ∙ ap length c.requires.index.slaves ∙ sums-length present_count 0 c.args.groups.now in
    omega (arith, long, c.requires.inside, c.self.inside.slaves.ok.0)

pub index-requires-3 : goal.index-requires-3
index-requires-3 c =
    let long = ap (λ (index : Index). length index.slaves) c.self.view_is ∙ ap length c.requires.index.slaves ∙ sums-length present_count 0 c.args.groups.now in
    omega (arith, long, c.self.inside.slaves.ok.0)

pub overflow_sub-result : goal.overflow_sub-result
overflow_sub-result c =
    let groups = c.args.groups.now in
    let group = c.args.group in
    let sums = c.self.inside.slaves.items in
    let is = ap (λ (index : Index). index.slaves) c.self.view_is ∙ c.requires.index.slaves in
    let first = slaves-before groups sums group c.index.result.now is (omega (arith, c.requires.inside)) c.index.ensures in
    let next = slaves-before groups sums (group + 1) c.index-2.result.now is (omega (arith, c.requires.inside)) c.index-2.ensures in
    let rises = sum-rises groups group c.requires.inside in
    omega (arith, first.1, next.1, rises)

pub returns : goal.returns
returns c =
    let groups = c.args.groups.now in
    let group = c.args.group in
    let sums = c.self.inside.slaves.items in
    let is = ap (λ (index : Index). index.slaves) c.self.view_is ∙ c.requires.index.slaves in
    let first = slaves-before groups sums group c.index.result.now is (omega (arith, c.requires.inside)) c.index.ensures in
    let next = slaves-before groups sums (group + 1) c.index-2.result.now is (omega (arith, c.requires.inside)) c.index-2.ensures in
    let last = slaves-before groups sums (length groups) c.index-3.result.now is (omega arith) c.index-3.ensures in
    let rises = sum-rises groups group c.requires.inside in
    record {
      position = first.1;
      own = omega (arith, first.1, next.1, rises);
      line = last.1 ∙ ap (sum_by present_count) (take_all (length groups) groups (omega arith));
    }
