-- An input image may go to another thread, and threads may share it.
use denote.Param.Send.{IsSend, IsSync}
use Rattle.hc_images.proofs.inputs.Inputs.TheSendSync as inputs
use Rattle.hc_images.specs.contracts.inputs.Inputs.{the_row}

pub inputs_send : IsSend the_row
inputs_send = inputs.the_send

pub inputs_sync : IsSync the_row
inputs_sync = inputs.the_sync
