use Rattle.std.proofs.Common.{◌≡◌, ◌++◌, ◌∷◌, [], List, length, sym, ap, subst, ◌∙◌, length-append, arith}
use Rattle.hc_owed.specs.declared.area.JudgedArea.{JudgedArea}
use Rattle.hc_owed.specs.Tally.{CanPut, Puts, Tallies}
use Rattle.hc_owed.proofs.Counting.{area-pushed, can-push}
use Rattle.hc_owed.proofs.readiness.Readiness.push.Goals as goal

pub replace-requires : goal.replace-requires
replace-requires c = subst (CanPut c.self.inside.tally) (sym c.outside.ensures) (can-push c.self.inside.areas.items c.self.inside.tally c.self.invariant.1 c.self.invariant.0)

pub invariant_of-self-2 : goal.invariant_of-self-2
invariant_of-self-2 c =
    let items = c.self.inside.areas.items in
    let area = c.args.area in
    let puts = subst (λ (a : JudgedArea). Puts c.self.inside.tally c.replace.new.self a area) c.outside.ensures c.replace.ensures in
    let pushed : items ++ area ∷ [] ≡ c.push.new.self.items = sym c.in_ok-push.ensures.items in
    let size = ap length (sym pushed) ∙ length-append items (area ∷ []) in
    let own = ap length c.self.view_is in
    let few = c.requires in (
      subst (λ (l : List JudgedArea). Tallies l c.replace.new.self) pushed (area-pushed items c.self.inside.tally c.replace.new.self area c.self.invariant.0 puts),
      omega (arith, size, own, few),
    )
