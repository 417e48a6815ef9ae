use Rattle.hc_c.proofs.FrameSizes.{further_few, further_small}
use Rattle.hc_c.proofs.writing.zangjulf_further_writes.Goals as goal

pub writes_out-requires-clause-size : goal.writes_out-requires-clause-size
writes_out-requires-clause-size c = further_small _ _ _ _ c.in-Ok.ensures.written

pub writes_out-requires-clause-blocks : goal.writes_out-requires-clause-blocks
writes_out-requires-clause-blocks c = further_few _ _ _ _ c.in-Ok.ensures.written
