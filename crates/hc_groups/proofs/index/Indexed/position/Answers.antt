use Rattle.std.proofs.Common.{◌∙◌, Some, ap, arith, sym}
use Rattle.hc_groups.specs.Index.{addresses}
use Rattle.hc_groups.proofs.Indexes.{fronts, position-absent, position-found, position-unknown, rank-some, seen}
use Rattle.hc_groups.proofs.index.Indexed.position.Goals as goal

pub returns-in_err-rank-clause-value : goal.returns-in_err-rank-clause-value
returns-in_err-rank-clause-value c = c.from_residual.ensures ∙ sym (position-unknown c.args.self.now _ c.args.station (seen c.self.view_is c.self.invariant.0) (c.in_err-rank.ensures (addresses c.args.self.now) (seen c.self.view_is c.self.invariant.0).declared.stations))

pub find_present-requires : goal.find_present-requires
find_present-requires c = rank-some c.args.self.now _ _ (seen c.self.view_is c.self.invariant.0) (c.in_ok-rank.ensures (addresses c.args.self.now) (seen c.self.view_is c.self.invariant.0).declared.stations)

pub returns-in_err-sum_place-clause-value : goal.returns-in_err-sum_place-clause-value
returns-in_err-sum_place-clause-value c =
    c.from_residual-in_err-sum_place.ensures
    ∙ sym (position-absent c.args.self.now _ c.args.station c.in_ok-rank.rank (seen c.self.view_is c.self.invariant.0) (c.in_ok-rank.ensures (addresses c.args.self.now) (seen c.self.view_is c.self.invariant.0).declared.stations) c.in_err-sum_place.ensures)

pub number_at-position-requires-clause-inside : goal.number_at-position-requires-clause-inside
number_at-position-requires-clause-inside c =
    (fronts c.args.self.now _ c.in_ok-rank.rank _ _ (seen c.self.view_is c.self.invariant.0) c.in_ok-sum_place.ensures).inside

pub number_at-position-requires-clause-low : goal.number_at-position-requires-clause-low
number_at-position-requires-clause-low c = (fronts c.args.self.now _ c.in_ok-rank.rank _ _ (seen c.self.view_is c.self.invariant.0) c.in_ok-sum_place.ensures).low

pub returns-clause-value : goal.returns-clause-value
returns-clause-value c =
    let sum = (fronts c.args.self.now _ c.in_ok-rank.rank _ _ (seen c.self.view_is c.self.invariant.0) c.in_ok-sum_place.ensures).sum in
    ap Some (omega (arith, sum, c.number_at-position.ensures.value, c.from.ensures))
    ∙ sym (position-found c.args.self.now _ c.args.station c.in_ok-rank.rank _ _ (seen c.self.view_is c.self.invariant.0) (c.in_ok-rank.ensures (addresses c.args.self.now) (seen c.self.view_is c.self.invariant.0).declared.stations) c.in_ok-sum_place.ensures)
