-- Each area of a task's list is before the ones after it: no two share a bit.
pub use Rattle.hc_records.specs.Laws.{LiesBefore}
pub use Rattle.hc_records.proofs.Apart.{packed-apart}
