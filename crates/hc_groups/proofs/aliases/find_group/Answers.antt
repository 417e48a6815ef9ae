use Rattle.std.proofs.Common.{arith}
use Rattle.std.proofs.lemmas.Grind.{common_steps}
use Rattle.std.proofs.lemmas.Option.{gets}
use Rattle.hc_groups.specs.declared.aliases.Alias.{Alias}
use Rattle.hc_groups.proofs.IndexFound.{none-else}
use Rattle.hc_groups.proofs.aliases.find_group.Goals as goal

pub returns-else-own-alias : goal.returns-else-own-alias
returns-else-own-alias c =
    none-else (λ (alias : Alias). alias.alias) c.args.alias c.args.aliases.now c.count_below.result c.count_below.ensures.parted c.requires
    c.in_ok-own.field-0.now (grind (arith, common_steps, gets)) c.if-own-alias.false
