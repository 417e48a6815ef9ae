use Rattle.std.proofs.Common.{sym}
use Rattle.hc_groups.proofs.Found.{none-found}
use Rattle.hc_groups.proofs.Presences.{declared-some, presence-none}
use Rattle.hc_groups.specs.Changes.{has_alias}
use Rattle.hc_groups.proofs.index.Indexed.presence.Goals as goal

pub returns-in_err-group-clause-declared : goal.returns-in_err-group-clause-declared
returns-in_err-group-clause-declared c = rw c.from_residual.ensures (sym (none-found (has_alias c.args.alias) c.args.self.now (sym c.in_err-group.ensures.value)))

pub returns-in_err-group-clause-present : goal.returns-in_err-group-clause-present
returns-in_err-group-clause-present c = rw c.from_residual.ensures (sym (presence-none c.args.self.now c.args.alias (sym c.in_err-group.ensures.value)))

pub returns-clause-declared : goal.returns-clause-declared
returns-clause-declared c = sym (declared-some c.args.self.now c.args.alias c.in_ok-group.group (sym c.in_ok-group.ensures.value))

pub returns-clause-present : goal.returns-clause-present
returns-clause-present c = c.is_present.ensures
