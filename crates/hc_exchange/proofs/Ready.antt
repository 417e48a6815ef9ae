-- Machines that can be programmed for a line's slaves are the line's: that they have all their memory, and bytes in it, is known of each machine.
use Rattle.std.proofs.Common.{◌≡◌, ℕ, List, length, subst, arith}
use Rattle.std.specs.Prelude.{All}
use Rattle.std.proofs.lemmas.Option.{get_or_from_slice_get, slice_get_within}
use Rattle.hc_bits.specs.Bits.{AreBytes}
use Rattle.hc_records.specs.Line.{Member}
use Rattle.hc_exchange.specs.Writing.{AreMachinesOf, CanAllBeProgrammed, IsMachineOf, CanBeProgrammed}

machine-of : (member : Member) (memory : List ℕ) → AreBytes memory → length memory ≡ 12288 → CanBeProgrammed member memory → IsMachineOf member memory
machine-of member memory bytes size can =
    let low = bytes 16 (omega (arith, size)) in
    let high = bytes 17 (omega (arith, size)) in
    record { size = size; address = omega (arith, low, high, can.station); programmable = can }

pub machines-of : (line : List Member) (machines : List (List ℕ)) → All AreBytes machines → All (λ (memory : List ℕ). length memory ≡ 12288) machines → CanAllBeProgrammed line machines → AreMachinesOf line machines
machines-of line machines bytes sizes can = record {
  count = can.count;
  each = λ k member memory in_line in_machines.
      let low = slice_get_within machines k memory in_machines in
      let is = get_or_from_slice_get machines k memory memory in_machines in
      machine-of member memory (subst AreBytes is (bytes k memory low)) (subst (λ (m : List ℕ). length m ≡ 12288) is (sizes k memory low)) (can.each k member memory in_line in_machines);
}
