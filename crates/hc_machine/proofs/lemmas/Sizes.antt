-- Memories keep their sizes.
pub use Rattle.hc_machine.proofs.Alias.{length-unchanged}
