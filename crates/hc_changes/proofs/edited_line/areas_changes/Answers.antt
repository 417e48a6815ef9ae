use Rattle.std.proofs.Common.{rules}
use Rattle.std.proofs.lemmas.Option.{slice_get_past, slice_get_read}
use Rattle.hc_changes.proofs.LineChanges.{no-slave, slave-made}
use Rattle.hc_changes.proofs.edited_line.areas_changes.Goals as goal

pub returns-in_default : goal.returns-in_default
returns-in_default c = search (rules, no-slave, slice_get_past)

pub returns : goal.returns
returns c = search (rules, slave-made, slice_get_read)
