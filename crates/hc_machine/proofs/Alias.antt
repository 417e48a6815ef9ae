-- What no frame changes: the alias, and the size of memory. How working counters rise.
use Rattle.std.proofs.Common.{◌≡◌, ℕ, ◌+◌, ◌*◌, ◌≤◌, Bool, true, false, List, [], ◌∷◌, ◌++◌, length, take, drop, get_or, set, is_none, refl, ap, ◌∙◌, arith, length-append, length-set, length-take, length-drop, get_or-set_other, get_or-set_same}
use Rattle.std.specs.Prelude.{if◌then◌else◌}
use Rattle.std.proofs.lemmas.Bool.Decides.{nat_tests}
use Rattle.std.proofs.lemmas.Grind.{common_steps}
use Rattle.hc_frames.specs.declared.commands.Command.{Command}
use Rattle.hc_frames.specs.declared.commands.Command.TheVariants.{Aprd, Apwr, Fpwr, Lrw}
use Rattle.hc_frames.specs.Arrived.{fault_in, reading_of}
use Rattle.hc_frames.specs.FrameText.{WireDatagram}
use Rattle.hc_machine.specs.Commands.{counter_added, is_at_position, is_at_station, memory_after_datagram, memory_after_command, register_of, served, register_written}
use Rattle.hc_machine.specs.Fmmus.{fmmus_of}
use Rattle.hc_machine.specs.Frames.{memory_after_datagrams, memory_after}
use Rattle.hc_machine.specs.Laws.{AliasStays, CountersRise}
use Rattle.hc_machine.specs.Logical.{logical_count, logical_memory, reads_any, writes_any}
use Rattle.hc_machine.specs.Memory.{with_alias_of, with_part}
use Rattle.hc_machine.proofs.Lowest.{length-bytes_with}

record SameAlias (old new : List ℕ) : Type 0 where
  long : length new ≡ 12288
  low : get_or new 18 0 ≡ get_or old 18 0
  high : get_or new 19 0 ≡ get_or old 19 0

put-back : (old new : List ℕ) → length new ≡ 12288 → SameAlias old (with_alias_of old new)
unfolding with_alias_of
put-back old new long = record {
  long = omega (arith, length-set {A = ℕ});
  low = get_or-set_other (set new 18 (get_or old 18 0)) 19 18 _ 0 (omega arith) ∙ get_or-set_same new 18 (get_or old 18 0) 0 (omega arith);
  high = get_or-set_same (set new 18 (get_or old 18 0)) 19 (get_or old 19 0) 0 (omega (arith, length-set {A = ℕ}));
}

length-part : (at : ℕ) (part bytes : List ℕ) → at + length part ≤ length bytes → length (with_part at part bytes) ≡ length bytes
length-part at part bytes within =
    length-append (take at bytes) (part ++ drop (at + length part) bytes) ∙ ap (λ (n : ℕ). length (take at bytes) + n) (length-append part (drop (at + length part) bytes))
    ∙ omega (arith, length-take at bytes, length-drop (at + length part) bytes)

same-written : (memory bytes : List ℕ) (register : ℕ) → length memory ≡ 12288 → register + length bytes ≤ 12288 → SameAlias memory (register_written memory register bytes)
unfolding register_written
same-written memory bytes register long within = put-back memory (with_part register bytes memory) (length-part register bytes memory (omega arith) ∙ long)

same-if : (b : Bool) (memory bytes : List ℕ) (register : ℕ) → length memory ≡ 12288 → (b ≡ true → register + length bytes ≤ 12288) → SameAlias memory (if b then register_written memory register bytes else memory)
same-if true memory bytes register long within = same-written memory bytes register long (within refl)
same-if false memory bytes register long within = record { long = long; low = refl; high = refl }

same-logical : (memory bytes : List ℕ) (from : ℕ) → length memory ≡ 12288 → SameAlias memory (logical_memory memory from bytes)
unfolding logical_memory
same-logical memory bytes from long = put-back memory _ (length-bytes_with (length memory) _ ∙ long)

same-after : (command : Command) (memory bytes : List ℕ) (address : ℕ) → length memory ≡ 12288 → SameAlias memory (memory_after_command command memory address bytes)
same-after Aprd memory bytes address long = record { long = long; low = refl; high = refl }
same-after Apwr memory bytes address long = same-if (is_at_position address (length bytes)) memory bytes (register_of address) long (λ e. grind (arith, nat_tests))
same-after Fpwr memory bytes address long = same-if (is_at_station memory address (length bytes)) memory bytes (register_of address) long (λ e. grind (arith, nat_tests))
same-after Lrw memory bytes address long = same-logical memory bytes (8 * address) long

same-unchanged : (memory : List ℕ) (d : WireDatagram) → length memory ≡ 12288 → SameAlias memory (memory_after_datagram memory d)
unfolding memory_after_datagram
same-unchanged memory d long = same-after d.command memory d.bytes d.address long

pub length-unchanged : (memory : List ℕ) (d : WireDatagram) → length memory ≡ 12288 → length (memory_after_datagram memory d) ≡ 12288
length-unchanged memory d long = (same-unchanged memory d long).long

same-all : (memory : List ℕ) (ds : List WireDatagram) → length memory ≡ 12288 → SameAlias memory (memory_after_datagrams memory ds)
same-all memory [] long = record { long = long; low = refl; high = refl }
same-all memory (d ∷ ds) long =
    let first : SameAlias memory (memory_after_datagram memory d) = same-unchanged memory d long in
    let others : SameAlias (memory_after_datagram memory d) (memory_after_datagrams (memory_after_datagram memory d) ds) = same-all (memory_after_datagram memory d) ds first.long in
    record { long = others.long; low = others.low ∙ first.low; high = others.high ∙ first.high }

same-read : (b : Bool) (memory : List ℕ) (ds : List WireDatagram) → length memory ≡ 12288 → SameAlias memory (if b then memory_after_datagrams memory ds else memory)
same-read true memory ds long = same-all memory ds long
same-read false memory ds long = record { long = long; low = refl; high = refl }

pub alias-stays : AliasStays
unfolding memory_after
alias-stays memory frame long =
    let same : SameAlias memory (if is_none (fault_in frame) then memory_after_datagrams memory (reading_of frame).parts else memory) = same-read (is_none (fault_in frame)) memory (reading_of frame).parts long in
    (same.long, same.low, same.high)

one-most : (b : Bool) → (if b then 1 else 0) ≤ 3
one-most true = omega arith
one-most false = omega arith

three-most : (a b : Bool) → (if a then 1 else 0) + (if b then 2 else 0) ≤ 3
three-most a b = grind (arith, common_steps)

logical-most : (memory : List ℕ) (from n : ℕ) → logical_count memory from n ≤ 3
unfolding logical_count
logical-most memory from n = three-most (reads_any from (8 * n) (fmmus_of memory)) (writes_any from (8 * n) (fmmus_of memory))

count-most : (command : Command) (memory : List ℕ) (address n : ℕ) → counter_added command memory address n ≤ 3
count-most Aprd memory address n = one-most (is_at_position address n)
count-most Apwr memory address n = one-most (is_at_position address n)
count-most Fpwr memory address n = one-most (is_at_station memory address n)
count-most Lrw memory address n = logical-most memory (8 * address) n

pub counters-rise : CountersRise
unfolding served
counters-rise memory d = (counter_added d.command memory d.address (length d.bytes), count-most d.command memory d.address (length d.bytes), refl)
