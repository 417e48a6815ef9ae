-- The part of a task in frames has its size; the parts of distinct tasks are the frames, and have together their bytes.
pub use Rattle.hc_sendings.proofs.Filled.{parts-sized}
pub use Rattle.hc_sendings.proofs.Pieces.{parts-join}
