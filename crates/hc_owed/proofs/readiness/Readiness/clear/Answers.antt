use Rattle.std.proofs.Common.{◌≡◌, ℕ, ◌+◌, ◌-◌, ◌*◌, List, ap, ◌∙◌, arith}
use Rattle.hc_owed.specs.declared.area.JudgedArea.{JudgedArea}
use Rattle.hc_owed.specs.declared.area.Turn.TheVariants.{Cleared}
use Rattle.hc_owed.specs.Areas.{area_after}
use Rattle.hc_owed.specs.ReadinessSteps.{changed_from}
use Rattle.hc_owed.proofs.ReadyTurns.{cleared-right}
use Rattle.hc_owed.proofs.readiness.Readiness.clear.Goals as goal

pub returns : goal.returns
returns c = λ known held unplugged state station is at.
    let start = 8 * c.from-from.result in
    let eight : start + 8 - start ≡ 8 = omega arith in
    let same : start ≡ 8 * c.args.index = ap (λ (k : ℕ). 8 * k) c.from-from.ensures in
    c.turn.ensures ∙ ap (λ (k : ℕ). changed_from (area_after Cleared) start k c.args.self.now) eight
    ∙ ap (λ (k : ℕ). changed_from (area_after Cleared) k 8 c.args.self.now) same
    ∙ ap (λ (l : List JudgedArea). changed_from (area_after Cleared) (8 * c.args.index) 8 l) is.right ∙ cleared-right known held unplugged state c.args.index station is.project at
