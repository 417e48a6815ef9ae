use Rattle.std.proofs.Common.{refl, ◌∙◌}
use Rattle.hc_machine.specs.Commands.{register_written}
use Rattle.hc_machine.specs.Memory.{with_alias_of}
use Rattle.hc_machine.proofs.memory.write_memory.Goals as goal

pub returns : goal.returns
unfolding register_written with_alias_of
returns c = c.put_back.ensures ∙ rw (c.put_part.ensures, c.alias_of-alias.ensures.0, c.alias_of-alias.ensures.1) refl
