use Rattle.std.proofs.Common.{refl}
use Rattle.hc_conductor.specs.Conducted.{conducting_in}
use Rattle.hc_conductor.proofs.Lists.{same-all, is_placed-same}
use Rattle.hc_conductor.proofs.conductor.Conductor.append.Goals as goal

pub append_all-requires : goal.append_all-requires
append_all-requires c = c.self.invariant.legal

pub invariant_of-self : goal.invariant_of-self
invariant_of-self c =
    is_placed-same (conducting_in c.self.inside) _ c.self.invariant refl c.append_all.ensures.origin (same-all _ _ _ _ _ _ c.append_all.ensures.published c.append_all.ensures.all) refl
