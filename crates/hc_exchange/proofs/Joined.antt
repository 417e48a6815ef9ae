-- An exchange over the machines as the writes of all blocks leave them is one over the machines as they were: writes keep process memory.
use Rattle.std.proofs.Common.{◌≡◌, ℕ, ◌+◌, ◌/◌, ◌%◌, ◌≤◌, ◌∙◌, inr, List, get_or, sym, ap, arith}
use Rattle.std.specs.Prelude.{Contains, Some, slice_get, slice_index}
use Rattle.std.specs.Int.{bit_at}
use Rattle.std.proofs.lemmas.Option.{get_or_from_slice_get, slice_get-get_or, slice_get_within}
use Rattle.hc_bits.specs.Bits.{bit_of}
use Rattle.hc_records.specs.Line.{Member, State, line}
use Rattle.hc_exchange.specs.PairLaws.{IsConfigurable}
use Rattle.hc_exchange.specs.Writing.{AreMachinesOf}
use Rattle.hc_exchange.specs.WritingLaws.{MachineIsWritten, machines_written}
use Rattle.hc_exchange.specs.Exchanged.{HasInMemory, IsExchanged, KeepsTheRest}
use Rattle.hc_exchange.proofs.lemmas.Members.{area-inside, stays-line}
use Rattle.hc_exchange.proofs.lemmas.Programmed.{writing-counts, writing-programs}

-- writes keep the bits of process memory
bit-byte : (xs ys : List ℕ) (m : ℕ) → slice_index xs (m / 8) ≡ slice_index ys (m / 8) → bit_of xs m ≡ bit_of ys m
unfolding bit_of
bit-byte xs ys m same = ap (λ (byte : ℕ). bit_at byte (m % 8)) same

bit-unchanged : (line : List Member) (member : Member) (memory : List ℕ) (k : ℕ) (machines : List (List ℕ)) (m : ℕ) → (own : MachineIsWritten line member memory k machines) → 32768 ≤ m
    → bit_of own.written m ≡ bit_of memory m
bit-unchanged line member memory k machines m own high = bit-byte own.written memory m (own.alone (m / 8) (inr (high-byte m high)))
  where
    high-byte : (m : ℕ) → 32768 ≤ m → 4096 ≤ m / 8
    high-byte m high = omega arith

-- a slave of the line with its machine before the writes, and after them
record Before (state : State) (machines : List (List ℕ)) (position : ℕ) (member : Member) (written : List ℕ) : Type 0 where
  memory : List ℕ
  is : slice_get machines position ≡ Some memory
  same : (m : ℕ) → 32768 ≤ m → bit_of written m ≡ bit_of memory m

before : (state : State) (machines : List (List ℕ)) (position : ℕ) (member : Member) (written : List ℕ) → IsConfigurable state → AreMachinesOf (line state) machines
    → slice_get (line state) position ≡ Some member → slice_get (machines_written (line state) machines) position ≡ Some written → Before state machines position member written
before state machines position member written can are is is' =
    let members = line state in
    let within = slice_get_within members position member is in
    let count = are.count in
    let memory = get_or machines position written in
    let there = slice_get-get_or machines position written (omega arith) in
    let own = writing-programs state machines position member memory can are is there in
    let equal : Some own.written ≡ Some written = sym own.machine ∙ is' in
    let one : own.written ≡ written = cc in
    record {
      memory = memory;
      is = there;
      same = λ m high. ap (λ (xs : List ℕ). bit_of xs m) (sym one) ∙ bit-unchanged members member memory position machines m own high;
    }

input-joined : (state : State) (machines : List (List ℕ)) (variable bits : ℕ) (bit : ℕ → ℕ) → IsConfigurable state → AreMachinesOf (line state) machines
    → HasInMemory (line state) (machines_written (line state) machines) variable bits bit → HasInMemory (line state) machines variable bits bit
input-joined state machines variable bits bit can are has =
    let members = line state in
    let lies = has.is_placed in
    let own = before state machines has.position lies.member has.memory can are lies.in_line has.machine in
    let in_line : Contains members lies.member = (has.position, slice_get_within members has.position lies.member lies.in_line, get_or_from_slice_get members has.position lies.member lies.member lies.in_line) in
    let start : 4096 ≤ lies.area.phys = (area-inside members lies.member lies.index lies.area (stays-line state can) in_line lies.in_record).start in
    let at = lies.at in
    record {
      position = has.position;
      m = has.m;
      memory = own.memory;
      is_placed = lies;
      alone = has.alone;
      machine = own.is;
      same = λ k below. sym (own.same (has.m + k) (omega arith)) ∙ has.same k below;
    }

rest-joined : (state : State) (task : ℕ) (machines : List (List ℕ)) (position : ℕ) (member : Member) (memory memory' : List ℕ) → IsConfigurable state → AreMachinesOf (line state) machines
    → slice_get (line state) position ≡ Some member → slice_get machines position ≡ Some memory
    → ((written : List ℕ) → slice_get (machines_written (line state) machines) position ≡ Some written → KeepsTheRest task member written memory') → KeepsTheRest task member memory memory'
rest-joined state task machines position member memory memory' can are is is' stable =
    let own = writing-programs state machines position member memory can are is is' in
    let left_so = stable own.written own.machine in
    record {
      gaps = left_so.gaps;
      rest = λ m high low none. left_so.rest m high low none ∙ bit-unchanged (line state) member memory position machines m own high;
    }

pub joined : (state : State) (task serial : ℕ) (image : List ℕ) (machines frames machines' : List (List ℕ)) → IsConfigurable state → AreMachinesOf (line state) machines
    → IsExchanged (line state) task serial image (machines_written (line state) machines) frames machines' → IsExchanged (line state) task serial image machines frames machines'
joined state task serial image machines frames machines' can are written = record {
  came = written.came;
  count = written.count;
  back = written.back;
  inputs = λ variable place own. input-joined state machines variable place.bits (λ k. bit_of (written.came place.datagram) (place.bit + k)) can are (written.inputs variable place own);
  outputs = written.outputs;
  many = written.many ∙ writing-counts state machines can are;
  rest = λ position member memory memory' is is' after_it.
      rest-joined state task machines position member memory memory' can are is is' (λ before there. written.rest position member before memory' is there after_it);
}
