-- A good answer may go to another thread.
use denote.Param.Send.{IsSend}
use Rattle.hc_events.proofs.change.GoodAnswer.TheSendSync as good
use Rattle.hc_events.specs.contracts.change.GoodAnswer.{the_row}

pub good_answer_send : IsSend the_row
good_answer_send = good.the_send
