use Rattle.hc_exchange.proofs.lemmas.Asked.{less-carry}
use Rattle.hc_exchange.proofs.task_laws.less_asked_carries.Goals as goal

pub returns : goal.returns
returns c = less-carry
