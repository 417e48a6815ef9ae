use Rattle.hc_exchange.proofs.lemmas.Programmed.{writing-programs}
use Rattle.hc_exchange.proofs.programmed_laws.writing_programs_the_line.Goals as goal

pub returns : goal.returns
returns c = writing-programs
