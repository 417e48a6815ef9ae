use Rattle.std.proofs.Common.{◌≡◌, ◌∙◌, ◌+◌, ℕ, List, length, ap, arith, refl, rules}
use Rattle.std.specs.Prelude.{slice_index_or}
use Rattle.hc_records.specs.declared.records.Slave.{Slave}
use Rattle.hc_changes.specs.inner.Found.{found_below}
use Rattle.hc_changes.proofs.lemmas.FoundRanks.{after_it-passed, front-passed, group-areas, group-station, rank-added}
use Rattle.hc_changes.proofs.finding.MaybeMovedTest.add_group.Goals as goal

pub loop-i-init : goal.loop-i-init
loop-i-init c = record {
  places = refl;
  found =
      c.requires.so_far
      ∙ front-passed c.args.self.now c.args.ranks.low c.args.ranks.high c.args.first c.part-from.result.0 c.requires.ranks c.part-from.ensures.front;
}

pub overflow_cast-i : goal.overflow_cast-i
overflow_cast-i c = search rules

pub overflow_add-first : goal.overflow_add-first
overflow_add-first c = search rules

pub add_slave-requires-clause-areas : goal.add_slave-requires-clause-areas
add_slave-requires-clause-areas c = search (rules, group-areas)

pub add_slave-requires-clause-station : goal.add_slave-requires-clause-station
add_slave-requires-clause-station c =
    let many = ap length c.as_slice-slaves.ensures in
    let below = c.loop-i-test.true in
    group-station c.args.self.now.old c.args.first c.args.declared.now c.loop-i.i c.index-slaves-i.result c.requires.group (omega (arith, many, below))
    (c.index-slaves-i.is ∙ ap (λ (slaves : List Slave). slice_index_or slaves c.loop-i.i c.index-slaves-i.result) c.as_slice-slaves.ensures)

pub loop-i-preserved : goal.loop-i-preserved
loop-i-preserved c = search (rules, rank-added)

pub returns-clause-found : goal.returns-clause-found
returns-clause-found c =
    let it = c.args.self.now in
    let order = c.part-from.ensures.order in
    let end : c.loop-i.i ≡ c.part-from.result.1 = omega (arith, c.loop-i-test.false, c.loop-i.auto.i-end order) in
    c.loop-i.invariant.found
    ∙ ap (λ (i : ℕ). found_below it (c.args.first + i)) end
    ∙ after_it-passed it c.args.ranks.low c.args.ranks.high c.args.first c.part-from.result.1 (length c.as_slice-slaves.result.now) c.requires.ranks c.part-from.ensures.within c.part-from.ensures.after_it
    ∙ ap (λ (slaves : List Slave). found_below it (c.args.first + length slaves)) c.as_slice-slaves.ensures
