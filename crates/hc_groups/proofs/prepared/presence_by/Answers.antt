use Rattle.std.proofs.Common.{◌∙◌, sym}
use Rattle.hc_groups.proofs.Known.{known-group}
use Rattle.hc_groups.proofs.prepared.presence_by.Goals as goal

pub unreachable-requires : goal.unreachable-requires
unreachable-requires c = known-group c.args.groups.now c.args.alias c.args.present c.requires.known (sym c.presence_change.ensures ∙ c.in_default.is)
