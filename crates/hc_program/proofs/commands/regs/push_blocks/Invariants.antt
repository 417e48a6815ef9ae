use Rattle.std.proofs.Common.{◌≡◌, ◌++◌, string_bytes}
use Rattle.std.specs.List.{flat_map, range_with_len}
use Rattle.hc_records.specs.Line.{line}
use Rattle.hc_program.specs.Regs.{numbered_block_text}
use Rattle.hc_program.proofs.commands.regs.push_blocks.Given as goal

-- the blocks so far are printed
abbrev pub invariant-loop-number : goal.invariant-loop-number
invariant-loop-number l = string_bytes l.out ≡ string_bytes l.fn.out ++ flat_map (numbered_block_text (line l.plan) l.station) (range_with_len 0 l.number)
