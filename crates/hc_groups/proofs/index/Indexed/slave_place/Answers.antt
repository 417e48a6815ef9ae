use Rattle.std.proofs.Common.{◌∙◌}
use Rattle.hc_groups.specs.Index.{addresses}
use Rattle.hc_groups.proofs.Indexes.{rank-some, seen}
use Rattle.hc_groups.proofs.SlavePlaces.{place-found, place-none, rank-within}
use Rattle.hc_groups.proofs.index.Indexed.slave_place.Goals as goal

pub returns-in_err-rank : goal.returns-in_err-rank
returns-in_err-rank c =
    c.from_residual.ensures ∙ place-none c.args.self.now _ c.args.station (seen c.self.view_is c.self.invariant.0) (c.in_err-rank.ensures (addresses c.args.self.now) (seen c.self.view_is c.self.invariant.0).declared.stations)

pub find_declared-requires : goal.find_declared-requires
find_declared-requires c = rank-some c.args.self.now _ _ (seen c.self.view_is c.self.invariant.0) (c.in_ok-rank.ensures (addresses c.args.self.now) (seen c.self.view_is c.self.invariant.0).declared.stations)

pub returns-in_err-sum_place : goal.returns-in_err-sum_place
returns-in_err-sum_place c =
    absurd (rank-within c.args.self.now c.args.station c.in_ok-rank.rank (c.in_ok-rank.ensures (addresses c.args.self.now) (seen c.self.view_is c.self.invariant.0).declared.stations) c.in_err-sum_place.ensures.sum_place)

pub returns : goal.returns
returns c =
    place-found c.args.self.now c.args.station c.in_ok-rank.rank _ _ (seen c.self.view_is c.self.invariant.0).declared.project
    (c.in_ok-rank.ensures (addresses c.args.self.now) (seen c.self.view_is c.self.invariant.0).declared.stations) c.in_ok-sum_place.ensures.sum_place
