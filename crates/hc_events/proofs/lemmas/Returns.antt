-- A frame that comes back from the line answers its sending.
pub use Rattle.hc_events.proofs.Returned.{returns-well}
