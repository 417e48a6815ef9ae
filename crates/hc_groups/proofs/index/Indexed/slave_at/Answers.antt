use Rattle.std.proofs.Common.{◌∙◌, sym}
use Rattle.hc_records.specs.Line.{is_at, line_from}
use Rattle.hc_groups.specs.Index.{addresses}
use Rattle.hc_groups.proofs.IndexFound.{find-none}
use Rattle.hc_groups.proofs.Indexes.{member-found, position-absent, position-unknown, rank-some, seen}
use Rattle.hc_groups.proofs.index.Indexed.slave_at.Goals as goal

pub returns-in_err-rank : goal.returns-in_err-rank
returns-in_err-rank c =
    c.from_residual.ensures
    ∙ sym (find-none (is_at c.args.station) (line_from 1 c.args.self.now) (position-unknown c.args.self.now _ c.args.station (seen c.self.view_is c.self.invariant.0) (c.in_err-rank.ensures (addresses c.args.self.now) (seen c.self.view_is c.self.invariant.0).declared.stations)))

pub find_present-requires : goal.find_present-requires
find_present-requires c = rank-some c.args.self.now _ _ (seen c.self.view_is c.self.invariant.0) (c.in_ok-rank.ensures (addresses c.args.self.now) (seen c.self.view_is c.self.invariant.0).declared.stations)

pub returns-in_err-sum_place : goal.returns-in_err-sum_place
returns-in_err-sum_place c =
    c.from_residual-in_err-sum_place.ensures
    ∙ sym (find-none (is_at c.args.station) (line_from 1 c.args.self.now)
    (position-absent c.args.self.now _ c.args.station c.in_ok-rank.rank (seen c.self.view_is c.self.invariant.0) (c.in_ok-rank.ensures (addresses c.args.self.now) (seen c.self.view_is c.self.invariant.0).declared.stations) c.in_err-sum_place.ensures))

pub returns : goal.returns
returns c = c.slave_in.ensures ∙ member-found c.args.self.now _ c.args.station c.in_ok-rank.rank _ _ (seen c.self.view_is c.self.invariant.0) (c.in_ok-rank.ensures (addresses c.args.self.now) (seen c.self.view_is c.self.invariant.0).declared.stations) c.in_ok-sum_place.ensures
