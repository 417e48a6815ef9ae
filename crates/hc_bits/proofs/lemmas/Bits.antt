-- The bits of bytes: each is below 2 and one of its byte; those of a number that bits spell; an `and` where the mask has a one.
pub use Rattle.hc_bits.proofs.Lists.{bit_at-number_of}
pub use Rattle.hc_bits.proofs.Numbers.{bit_at-and_one}
pub use Rattle.hc_bits.proofs.Runs.{bit_of-byte, bit_of-unchanged, bit_of-lt}
