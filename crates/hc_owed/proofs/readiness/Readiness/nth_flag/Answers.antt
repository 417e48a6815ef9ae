use Rattle.std.proofs.Common.{◌≡◌, ℕ, ◌+◌, ◌-◌, ◌*◌, ◌/◌, ◌<◌, map, sym, ap, ◌∙◌, arith}
use Rattle.std.specs.List.{range_with_len}
use Rattle.hc_owed.specs.Flags.{nth_set}
use Rattle.hc_owed.specs.Holders.{flag_at}
use Rattle.hc_owed.proofs.Picked.{flag-found, flag-passed, flag-unset}
use Rattle.hc_owed.proofs.readiness.Readiness.nth_flag.Goals as goal
use Rattle.hc_owed.proofs.readiness.Readiness.nth_flag.Goals.{then-flag_at+else-left-eq0, else-flag_at}

pub returns-then-left-eq0-clause-value : goal.returns-then-left-eq0-clause-value
returns-then-left-eq0-clause-value c =
    let slaves = c.len-slaves.result / 8 in
    let f = flag_at c.args.task c.args.self.now slaves in
    sym (flag-found f c.loop-at.left c.loop-at.at (2 * slaves - c.loop-at.at) (omega (arith, c.loop-at-test.true)) c.if-left-eq0.true (sym c.flag_at.ensures ∙ c.if-flag_at.true)) ∙ c.loop-at.invariant

pub loop-at-preserved : goal.loop-at-preserved
loop-at-preserved c =
    let slaves = c.len-slaves.result / 8 in
    let at = c.loop-at.at in
    let more = 2 * slaves - at in
    let f = flag_at c.args.task c.args.self.now slaves in
    let next : more - 1 ≡ 2 * slaves - (at + 1) = omega arith in
    let some : 0 < more = omega (arith, c.loop-at-test.true) in
    elim c.if-flag_at.branch [
      | then-flag_at+else-left-eq0 w ↦
          ap (λ (n : ℕ). nth_set c.if-flag_at.left (at + 1) (map f (range_with_len (at + 1) n))) (sym next)
          ∙ ap (λ (n : ℕ). nth_set n (at + 1) (map f (range_with_len (at + 1) (more - 1)))) w.left-is
          ∙ sym (flag-passed f c.loop-at.left at more some w.if-left-eq0.false (sym c.flag_at.ensures ∙ w.if-flag_at.true)) ∙ c.loop-at.invariant
      | else-flag_at w ↦
          ap (λ (n : ℕ). nth_set c.if-flag_at.left (at + 1) (map f (range_with_len (at + 1) n))) (sym next)
          ∙ ap (λ (n : ℕ). nth_set n (at + 1) (map f (range_with_len (at + 1) (more - 1)))) w.left-is
          ∙ sym (flag-unset f c.loop-at.left at more some (sym c.flag_at.ensures ∙ w.if-flag_at.false)) ∙ c.loop-at.invariant
    ]
