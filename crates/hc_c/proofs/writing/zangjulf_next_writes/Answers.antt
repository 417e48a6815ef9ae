use Rattle.hc_c.proofs.FrameSizes.{blocks_small, writes_small}
use Rattle.hc_c.proofs.writing.zangjulf_next_writes.Goals as goal

pub writes_out-requires-clause-size : goal.writes_out-requires-clause-size
writes_out-requires-clause-size c = writes_small _ _ _ _ c.in-Ok.ensures.written

pub writes_out-requires-clause-blocks : goal.writes_out-requires-clause-blocks
writes_out-requires-clause-blocks c = blocks_small _ _ _ _ c.in-Ok.ensures.written
