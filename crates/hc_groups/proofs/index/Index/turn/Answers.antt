use Rattle.std.proofs.Common.{◌∙◌, ℕ, ◌+◌, ◌<◌, List, [], Some, ap, if◌then◌else◌, length, sym, subst, arith, rules}
use Rattle.std.specs.Prelude.{All}
use Rattle.std.specs.List.Sorted.{IsNonDecreasing}
use Rattle.std.specs.Vec.{with_items}
use Rattle.std.proofs.lemmas.List.{with_items_is}
use Rattle.std.proofs.lemmas.Option.{slice_get-get_or}
use Rattle.hc_records.proofs.lemmas.Slaves.{project-counted}
use Rattle.std.proofs.lemmas.List.Sums.{sum_by_more_le}
use Rattle.hc_groups.specs.Index.{Index, block_sum, declared_count, own_sum, present_count}
use Rattle.hc_groups.specs.Changes.{slaves_at}
use Rattle.hc_groups.specs.inner.Turned.{recounted}
use Rattle.hc_groups.proofs.Indexes.{blocks-sums, slaves-sums}
use Rattle.hc_groups.proofs.Summed.{mapped-at, sums-length}
use Rattle.hc_groups.proofs.Turned.{blocks-low, counted-at, slaves-low}
use Rattle.hc_groups.proofs.index.Index.turn.Goals as goal

pub line_counts-slaves-requires-clause-sums : goal.line_counts-slaves-requires-clause-sums
line_counts-slaves-requires-clause-sums c = search (rules, mapped-at)

pub line_counts-slaves-requires-clause-few : goal.line_counts-slaves-requires-clause-few
line_counts-slaves-requires-clause-few c =
    let groups = c.args.groups.now in
    let counted = project-counted groups c.requires.index.declared.project in
    let own = sum_by_more_le declared_count groups c.args.change.now.group c.index-groups-change.result c.requires.inside in
    let same = ap declared_count c.index-groups-change.is in
    omega (arith, counted, own, same)

pub recount-requires-clause-inside : goal.recount-requires-clause-inside
recount-requires-clause-inside c =
    let long = ap (λ (index : Index). length index.slaves) c.self.view_is ∙ ap length c.requires.index.slaves ∙ sums-length present_count 0 c.args.groups.now in
    omega (arith, long, c.requires.inside)

pub recount-requires-clause-rising : goal.recount-requires-clause-rising
recount-requires-clause-rising c = subst IsNonDecreasing (sym (c.as_mut_slice.ensures.value ∙ ap (λ (index : Index). index.slaves) c.self.view_is)) (slaves-sums c.args.groups.now _ c.requires.index).rising

pub recount-requires-clause-low : goal.recount-requires-clause-low
recount-requires-clause-low c =
    let declared = c.index-groups-change.result in
    let here = ap Some (sym c.index-groups-change.is) in
    let low = slaves-low c.args.groups.now c.args.change.now.group declared c.args.change.now.present _ c.requires.index.declared.project
    (slice_get-get_or c.args.groups.now c.args.change.now.group declared c.requires.inside ∙ here) c.requires.index.slaves in
    rw (c.line_counts-slaves.ensures.slaves) (subst (All (λ sum. sum + length (if c.args.change.now.present then declared.group.slaves else []) < 4294967296)) (sym (c.as_mut_slice.ensures.value ∙ ap (λ (index : Index). index.slaves) c.self.view_is)) low)

pub recount-requires-2-clause-inside : goal.recount-requires-2-clause-inside
recount-requires-2-clause-inside c =
    let long = ap (λ (index : Index). length index.blocks) c.self.view_is ∙ ap length c.requires.index.blocks ∙ sums-length own_sum 0 c.args.groups.now in
    omega (arith, long, c.requires.inside)

pub recount-requires-2-clause-rising : goal.recount-requires-2-clause-rising
recount-requires-2-clause-rising c = subst IsNonDecreasing (sym (c.as_mut_slice-2.ensures.value ∙ ap (λ (index : Index). index.blocks) c.self.view_is)) (blocks-sums c.args.groups.now _ c.requires.index).rising

pub recount-requires-2-clause-low : goal.recount-requires-2-clause-low
recount-requires-2-clause-low c =
    let declared = c.index-groups-change.result in
    let here = ap Some (sym c.index-groups-change.is) in
    let low = blocks-low c.args.groups.now c.args.change.now.group declared c.args.change.now.present _ c.requires.index.declared.project
    (slice_get-get_or c.args.groups.now c.args.change.now.group declared c.requires.inside ∙ here) c.requires.index.blocks in
    rw (c.line_counts-slaves.ensures.blocks) (subst (All (λ sum. sum + block_sum (if c.args.change.now.present then declared.group.slaves else []) < 4294967296)) (sym (c.as_mut_slice-2.ensures.value ∙ ap (λ (index : Index). index.blocks) c.self.view_is)) low)

pub returns : goal.returns
returns c =
    let groups = c.args.groups.now in
    let change = c.args.change.now in
    let declared = c.index-groups-change.result in
    let here = slice_get-get_or groups change.group declared c.requires.inside ∙ ap Some (sym c.index-groups-change.is) in
    let counted = counted-at change.present groups change.group declared here in
    let slaves = c.recount.ensures
    ∙ ap (λ (n : ℕ). recounted change.group n c.as_mut_slice.result.now) (c.line_counts-slaves.ensures.slaves ∙ ap length counted)
    ∙ ap (recounted change.group (length (if change.present then slaves_at groups change.group else []))) (c.as_mut_slice.ensures.value ∙ ap (λ (index : Index). index.slaves) c.self.view_is) in
    let blocks = c.recount-2.ensures
    ∙ ap (λ (n : ℕ). recounted change.group n c.as_mut_slice-2.result.now) (c.line_counts-slaves.ensures.blocks ∙ ap block_sum counted)
    ∙ ap (recounted change.group (block_sum (if change.present then slaves_at groups change.group else []))) (c.as_mut_slice-2.ensures.value ∙ ap (λ (index : Index). index.blocks) c.self.view_is) in
    let own = c.self.inside in
    let unchanged = with_items_is own.slaves c.recount.new.sums (omega (arith, c.recount.auto.sums, own.slaves.ok.0, ap length c.as_mut_slice.ensures.value)) in
    let unchanged-blocks = with_items_is own.blocks c.recount-2.new.sums (omega (arith, c.recount-2.auto.sums, own.blocks.ok.0, ap length c.as_mut_slice-2.ensures.value)) in
    ap (λ (index : Index). record index { slaves = (with_items own.slaves c.recount.new.sums).items; blocks = (with_items own.blocks c.recount-2.new.sums).items }) c.self.view_is
    ∙ ap (λ (sums : List ℕ). record c.args.self.now { slaves = sums; blocks = (with_items own.blocks c.recount-2.new.sums).items }) unchanged
    ∙ ap (λ (sums : List ℕ). record c.args.self.now { slaves = c.recount.new.sums; blocks = sums }) unchanged-blocks
    ∙ ap (λ (sums : List ℕ). record c.args.self.now { slaves = sums; blocks = c.recount-2.new.sums }) slaves
    ∙ ap (λ (sums : List ℕ). record c.args.self.now { slaves = recounted change.group (length (if change.present then slaves_at groups change.group else [])) c.args.self.now.slaves; blocks = sums }) blocks
