use Rattle.std.proofs.Common.{◌∙◌, Some, None, ap}
use Rattle.hc_groups.proofs.Aliased.{group-is}
use Rattle.hc_groups.proofs.Indexes.{seen}
use Rattle.hc_groups.proofs.index.Indexed.group.Goals as goal

pub returns-in_err-group-clause-value : goal.returns-in_err-group-clause-value
returns-in_err-group-clause-value c =
    c.from_residual.ensures ∙ group-is c.args.self.now _ c.args.alias None (seen c.self.view_is c.self.invariant.0).declared c.in_err-group.ensures

pub returns-clause-value : goal.returns-clause-value
returns-clause-value c = ap Some c.from.ensures ∙ group-is c.args.self.now _ c.args.alias (Some c.in_ok-group.group) (seen c.self.view_is c.self.invariant.0).declared c.in_ok-group.ensures
