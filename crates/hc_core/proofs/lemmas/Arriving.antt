-- A stale arrival leaves nothing.
pub use Rattle.hc_core.proofs.ReadsAmong.{stale-leaves}
