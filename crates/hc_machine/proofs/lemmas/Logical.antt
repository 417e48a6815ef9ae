-- What a logical datagram reads and writes, and what its working counter gives.
pub use Rattle.hc_machine.proofs.Counts.{counts-say}
pub use Rattle.hc_machine.proofs.Lowest.{read-from-memory, unread-stays, unwritten-stays, written-from-data}
pub use Rattle.hc_machine.proofs.Unmapped.{unmapped-pass}
