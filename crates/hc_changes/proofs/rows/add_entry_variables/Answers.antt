use Rattle.std.proofs.Common.{◌∙◌, append-nil, sym}
use Rattle.std.proofs.lemmas.List.{drop_all}
use Rattle.hc_changes.proofs.rows.add_entry_variables.Goals as goal

pub returns : goal.returns
returns c = sym (append-nil c.loop-entry.variables.items) ∙ rw (drop_all c.loop-entry.entry-index c.args.entries.now c.loop-entry-test.false) at c.loop-entry.invariant
