use Rattle.std.proofs.Common.{◌∙◌, List, ap, get_or, arith}
use Rattle.std.specs.Prelude.{length}
use Rattle.hc_records.specs.declared.records.Declared.{Declared}
use Rattle.hc_groups.proofs.Indexes.{seen}
use Rattle.hc_groups.proofs.Presences.{alias-inside, presence-some}
use Rattle.hc_groups.proofs.index.Indexed.is_present.Goals as goal

pub bounds-self-inside-group : goal.bounds-self-inside-group
bounds-self-inside-group c =
    let inside = alias-inside c.args.self.now c.args.alias c.args.group c.requires.named in
    let same = ap length c.self.view_is in
    omega (arith, inside, same)

pub returns : goal.returns
returns c =
    ap (λ (groups : List Declared). (get_or groups c.args.group c.index-self-group.result).present) c.self.view_is
    ∙ presence-some c.args.self.now c.args.alias c.args.group c.index-self-group.result (seen c.self.view_is c.self.invariant.0).declared.project c.requires.named
