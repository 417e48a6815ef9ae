-- The parts of tasks that are sent together.
pub use Rattle.hc_core.proofs.FewFrames.{proposal-few}
pub use Rattle.hc_core.proofs.PartsSent.{part-long, parts}
