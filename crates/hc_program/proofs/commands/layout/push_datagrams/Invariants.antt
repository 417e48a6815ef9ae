use Rattle.std.proofs.Common.{◌≡◌, ◌++◌, string_bytes}
use Rattle.std.specs.List.{flat_map, range_with_len}
use Rattle.hc_program.specs.Layout.{numbered_text}
use Rattle.hc_program.proofs.commands.layout.push_datagrams.Given as goal

-- the datagrams so far are printed
abbrev pub invariant-loop-number : goal.invariant-loop-number
invariant-loop-number l = string_bytes l.out ≡ string_bytes l.fn.out ++ flat_map (numbered_text l.places l.task) (range_with_len 0 l.number)
