use Rattle.std.proofs.Common.{sym}
use Rattle.hc_text.proofs.Parts.{cut_at_byte, uncut_by_byte, whole_at_byte}
use Rattle.hc_text.proofs.lines.split_at_byte.Goals as goal

pub returns-in-Some-clause-parts : goal.returns-in-Some-clause-parts
returns-in-Some-clause-parts c = cut_at_byte c.args.byte c.args.text.now c.in-Some.end (sym c.in-Some.ensures)

pub returns-in-Some-clause-whole : goal.returns-in-Some-clause-whole
returns-in-Some-clause-whole c = whole_at_byte c.args.byte c.args.text.now c.in-Some.end (sym c.in-Some.ensures)

pub returns-in-None-clause-parts : goal.returns-in-None-clause-parts
returns-in-None-clause-parts c = uncut_by_byte c.args.byte c.args.text.now (sym c.in-None.ensures)
