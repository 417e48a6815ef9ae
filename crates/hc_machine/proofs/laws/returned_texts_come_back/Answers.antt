use Rattle.hc_machine.proofs.lemmas.Returned.{returned-passes}
use Rattle.hc_machine.proofs.laws.returned_texts_come_back.Goals as goal

pub returns : goal.returns
returns c = returned-passes
