use Rattle.std.proofs.Common.{◌≡◌, ◌++◌, drop, string_bytes}
use Rattle.hc_program.specs.Setups.{aliases_text}
use Rattle.hc_program.proofs.commands.scan.push_aliases.Given as goal

-- the aliases so far are printed, and with those that are left they are all
abbrev pub invariant-loop-alias : goal.invariant-loop-alias
invariant-loop-alias l = record {
  count : l.position ≡ l.alias-index;
  text : string_bytes l.out ++ aliases_text l.position (drop l.alias-index l.aliases) ≡ string_bytes l.fn.out ++ aliases_text 0 l.aliases;
}
