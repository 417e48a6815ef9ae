use Rattle.std.proofs.Common.{◌≡◌, ◌∙◌, ◌+◌, ◌++◌, List, [], Vec, Global, append-nil, ap, drop, refl, sym, rules}
use Rattle.hc_cuts.specs.Areas.{areas_of_rank, areas_by_rank}
use Rattle.hc_changes.specs.MaybeMovedAreas.{MaybeMoved}
use Rattle.hc_changes.specs.EditedLine.{EditedLine}
use Rattle.hc_changes.specs.inner.Found.{area_found, areas_found}
use Rattle.hc_changes.proofs.lemmas.FoundRanks.{areas-added, areas-end, rank-is, task-below}
use Rattle.hc_changes.proofs.finding.MaybeMovedTest.add_slave.Goals as goal
use Rattle.hc_changes.proofs.finding.MaybeMovedTest.add_slave.Goals.{in-Some+in_ok-push, in_default}

pub judge-requires-clause-task : goal.judge-requires-clause-task
judge-requires-clause-task c = search (rules, task-below)

pub loop-i-preserved : goal.loop-i-preserved
loop-i-preserved c =
    let it = c.args.self.now in
    let station = c.args.slave.now.station in
    let rank = c.args.rank in
    let areas = c.areas_after-areas.result.now in
    let i = c.loop-i.i in
    let rest = areas_found it station rank (i + 1) (drop (i + 1) areas) in
    let all = c.args.found.now.items ++ areas_found it station rank 0 areas in
    let added : (own : List MaybeMoved) → own ≡ area_found it station rank i c.index-areas-i.result → (c.loop-i.found.items ++ own) ++ rest ≡ all = search (rules, areas-added) in
    elim c.match-judge.branch [
      | in-Some+in_ok-push w ↦
          record {
            areas = c.loop-i.invariant.areas;
            places = c.judge.ensures.places ∙ c.loop-i.invariant.places;
            found = search rules;
          }
      | in_default w ↦
          record {
            areas = c.loop-i.invariant.areas;
            places = c.judge.ensures.places ∙ c.loop-i.invariant.places;
            found =
                ap (λ (vec : Vec MaybeMoved Global). vec.items ++ rest) w.found-is
                ∙ ap (λ (items : List MaybeMoved). items ++ rest) (sym (append-nil c.loop-i.found.items))
                ∙ added [] w.in_default.ensures.found;
          }
    ]

pub returns-clause-found : goal.returns-clause-found
returns-clause-found c =
    let it = c.args.self.now in
    let found = c.args.found.now.items in
    let station = c.args.slave.now.station in
    let areas = c.areas_after-areas.result.now in
    areas-end it station c.args.rank c.loop-i.i areas c.loop-i.found.items (found ++ areas_found it station c.args.rank 0 areas) c.loop-i-test.false c.loop-i.invariant.found
    ∙ ap (λ (own : List MaybeMoved). found ++ own) (rank-is it c.args.rank station areas c.requires.station c.loop-i.invariant.areas)

pub judge-requires-clause-places : goal.judge-requires-clause-places
judge-requires-clause-places c = c.loop-i.invariant.places ∙ c.requires.places

pub loop-i-init : goal.loop-i-init
loop-i-init c = record {
  places = refl;
  areas = c.areas_after-areas.ensures ∙ ap (λ (it : EditedLine). areas_of_rank (areas_by_rank it.new) c.args.rank) c.self.view_is;
  found = refl;
}

pub returns-clause-places : goal.returns-clause-places
returns-clause-places c = c.loop-i.invariant.places

pub returns-in_err-push-clause-places : goal.returns-in_err-push-clause-places
returns-in_err-push-clause-places c = c.judge.ensures.places ∙ c.loop-i.invariant.places
