use Rattle.std.proofs.Common.{◌∙◌, ap, subst, sym}
use Rattle.hc_cuts.specs.LineChange.{LineChange}
use Rattle.hc_changes.specs.EditedLine.{IsEditedLine, edited_line_of, line_change_of}
use Rattle.hc_changes.proofs.lemmas.EditedLines.{change-edited_line}
use Rattle.hc_changes.proofs.edited_line.EditedLine.of.Goals as goal

pub invariant_of-result : goal.invariant_of-result
invariant_of-result c =
    let it = edited_line_of c.args.prepared.now c.args.groups.now in
    subst (λ (change : LineChange). IsEditedLine (record it { change = change })) (sym (c.line_change.ensures ∙ ap (line_change_of c.args.prepared.now) c.groups.ensures))
    (change-edited_line c.args.groups.now c.args.prepared.now c.requires.edited c.requires.was c.requires.is c.requires.row)
