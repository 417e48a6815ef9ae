use Rattle.std.proofs.Common.{◌∙◌, ap, ℕ}
use Rattle.std.specs.Prelude.{◌==◌}
use Rattle.std.specs.List.{list_any}
use Rattle.hc_groups.proofs.Indexes.{seen}
use Rattle.hc_groups.proofs.Names.{offered-is}
use Rattle.hc_groups.proofs.index.Indexed.is_declared_variable.Goals as goal

pub returns : goal.returns
returns c =
    c.is_one_of.ensures
    ∙ ap (λ (variable : ℕ). list_any (λ other. other == variable) c.self.inside.variables.now) c.number.ensures.value
    ∙ offered-is c.args.self.now _ c.args.variable (seen c.self.view_is c.self.invariant.0)
