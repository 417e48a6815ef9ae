-- The blocks that one frame writes, as a number: another value of the constant is refused here.
use Rattle.std.specs.Prelude.{◌≡◌, refl}
use Rattle.hc_events.specs.declared.sending.TheConstants.{FRAME_BLOCKS}

-- one frame writes at most 74 register blocks: 74 sync managers of 8 bytes, each in a datagram of 20
frame-blocks : FRAME_BLOCKS ≡ 74
frame-blocks = refl
