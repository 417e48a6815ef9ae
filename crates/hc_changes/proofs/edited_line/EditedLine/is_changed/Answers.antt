use Rattle.std.proofs.Common.{rules}
use Rattle.hc_changes.proofs.lemmas.EditedLines.{index-answer_given}
use Rattle.hc_changes.proofs.edited_line.EditedLine.is_changed.Goals as goal

pub returns : goal.returns
returns c = search (rules, index-answer_given)
