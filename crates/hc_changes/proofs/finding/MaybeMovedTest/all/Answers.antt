use Rattle.std.proofs.Common.{◌≡◌, ◌∙◌, ◌+◌, ◌<◌, ℕ, List, length, take, ap, sym, arith, refl, rules}
use Rattle.std.specs.Prelude.{slice_index_or}
use Rattle.hc_records.specs.declared.records.Declared.{Declared}
use Rattle.hc_cuts.specs.Areas.{areas_by_rank}
use Rattle.hc_changes.specs.inner.Found.{IsGroupAt, found_below}
use Rattle.hc_changes.specs.EditedLine.{EditedLine}
use Rattle.hc_changes.proofs.lemmas.FoundAll.{found-all}
use Rattle.hc_changes.proofs.lemmas.FoundRanks.{end-found, group-at, group-low, group-next, ranks-counted, start-found, taken-all}
use Rattle.hc_changes.proofs.finding.MaybeMovedTest.all.Goals as goal

-- the group at an index, by the groups before the edit
at : (groups old : List Declared) (first i : ℕ) (declared : Declared) → groups ≡ old → first ≡ length (areas_by_rank (take i old)) + 1 → i < length groups → declared ≡ slice_index_or groups i declared
    → IsGroupAt old first declared
at groups old first i declared same rank within is =
    let long = ap length same in
    group-at old first i declared rank (omega (arith, within, long)) (is ∙ ap (λ (all : List Declared). slice_index_or all i declared) same)

pub loop-i-init : goal.loop-i-init
loop-i-init c =
    let it = c.args.self.now in
    let start = c.group_before-start.result.0 in
    let first = c.group_before-start.ensures.first in
    let counted = ranks-counted (take start c.self.inside.edited_line.now.old) in
    record {
      places = search rules;
      first = first ∙ ap (λ (many : ℕ). many + 1) (sym counted) ∙ ap (λ (e : EditedLine). length (areas_by_rank (take start e.old)) + 1) c.self.view_is;
      found = c.new-found.ensures.items ∙ start-found it c.args.ranks.low c.args.ranks.high c.group_before-start.result.1 c.requires.ranks (omega (arith, first)) c.group_before-start.ensures.low;
    }

pub returns-then-ranks-first : goal.returns-then-ranks-first
returns-then-ranks-first c =
    let it = c.args.self.now in
    let l = c.loop-i in
    l.invariant.found
    ∙ end-found it c.args.ranks.low c.args.ranks.high l.first c.index-groups-i.result c.requires.ranks c.if-ranks-first.true
    (at c.args.groups.now it.old l.first l.i c.index-groups-i.result c.requires.groups l.invariant.first c.loop-i-test.true c.index-groups-i.is)
    ∙ found-all it (length (areas_by_rank it.old) + 1) c.requires.known refl

pub add_group-requires-clause-group : goal.add_group-requires-clause-group
add_group-requires-clause-group c =
    at c.args.groups.now c.args.self.now.old c.loop-i.first c.loop-i.i c.index-groups-i.result c.requires.groups c.loop-i.invariant.first c.loop-i-test.true c.index-groups-i.is

pub add_group-requires-clause-few : goal.add_group-requires-clause-few
add_group-requires-clause-few c =
    group-low c.args.self.now c.loop-i.first c.index-groups-i.result c.requires.known
    (at c.args.groups.now c.args.self.now.old c.loop-i.first c.loop-i.i c.index-groups-i.result c.requires.groups c.loop-i.invariant.first c.loop-i-test.true c.index-groups-i.is)

pub overflow_cast-first : goal.overflow_cast-first
overflow_cast-first c =
    let low = group-low c.args.self.now c.loop-i.first c.index-groups-i.result c.requires.known
    (at c.args.groups.now c.args.self.now.old c.loop-i.first c.loop-i.i c.index-groups-i.result c.requires.groups c.loop-i.invariant.first c.loop-i-test.true c.index-groups-i.is) in
    omega (arith, low, c.len.ensures)

pub overflow_add-first : goal.overflow_add-first
overflow_add-first c =
    let low = group-low c.args.self.now c.loop-i.first c.index-groups-i.result c.requires.known
    (at c.args.groups.now c.args.self.now.old c.loop-i.first c.loop-i.i c.index-groups-i.result c.requires.groups c.loop-i.invariant.first c.loop-i-test.true c.index-groups-i.is) in
    omega (arith, low, c.len.ensures)

pub loop-i-preserved : goal.loop-i-preserved
loop-i-preserved c =
    let l = c.loop-i in
    let it = c.args.self.now in
    let declared = c.index-groups-i.result in
    let long = ap length c.requires.groups in
    record {
      places = c.add_group.ensures.places ∙ l.invariant.places;
      first = ap (λ (many : ℕ). l.first + many) c.len.ensures
          ∙ group-next it.old l.first l.i declared l.invariant.first (omega (arith, c.loop-i-test.true, long))
          (c.index-groups-i.is ∙ ap (λ (all : List Declared). slice_index_or all l.i declared) c.requires.groups);
      found = c.in_ok-add_group.ensures.found ∙ ap (λ (many : ℕ). found_below it (l.first + many)) (sym c.len.ensures);
    }

pub returns : goal.returns
returns c =
    let l = c.loop-i in
    let it = c.args.self.now in
    let long = ap length c.requires.groups in
    l.invariant.found
    ∙ found-all it l.first c.requires.known
    (l.invariant.first ∙ ap (λ (all : List Declared). length (areas_by_rank all) + 1) (taken-all it.old l.i (omega (arith, c.loop-i-test.false, long))))
