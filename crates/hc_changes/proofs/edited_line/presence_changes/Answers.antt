use Rattle.std.proofs.Common.{rules}
use Rattle.std.proofs.lemmas.Option.{slice_get_past, slice_get_read}
use Rattle.hc_changes.proofs.LineChanges.{group-made, no-group}
use Rattle.hc_changes.proofs.edited_line.presence_changes.Goals as goal

pub returns-in_default : goal.returns-in_default
returns-in_default c = search (rules, no-group, slice_get_past)

pub returns : goal.returns
returns c = search (rules, group-made, slice_get_read)
