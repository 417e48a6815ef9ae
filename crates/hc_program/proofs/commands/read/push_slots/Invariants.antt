use Rattle.std.proofs.Common.{◌≡◌, ◌++◌, drop, string_bytes}
use Rattle.hc_program.specs.Answers.{slots_text}
use Rattle.hc_program.proofs.commands.read.push_slots.Given as goal

-- the slots so far are printed, and with those that are left they are all
abbrev pub invariant-loop-slot : goal.invariant-loop-slot
invariant-loop-slot l = record {
  count : l.number ≡ l.slot-index;
  text : string_bytes l.out ++ slots_text l.number (drop l.slot-index l.slots) ≡ string_bytes l.fn.out ++ slots_text 0 l.slots;
}
