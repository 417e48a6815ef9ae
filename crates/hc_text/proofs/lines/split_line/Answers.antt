use Rattle.hc_text.proofs.Parts.{cuts_line}
use Rattle.hc_text.proofs.lines.split_line.Goals as goal

pub returns-clause-line : goal.returns-clause-line
returns-clause-line c = cuts_line _ _ _ _ c.split_at_byte.ensures.parts c.split_at_byte.ensures.whole c.text_of.ensures
