use Rattle.std.proofs.Common.{◌≡◌, ℕ, suc, ◌+◌, drop, sym, ap, ◌∙◌, arith, Some}
use Rattle.hc_owed.specs.Flags.{nth_set}
use Rattle.hc_owed.proofs.FlagLists.{are-flags, nth-cleared, nth-here, nth-over, nth-passed}
use Rattle.hc_owed.proofs.flags.Flags.nth.Goals.{then-get+else-left-eq0, else-get}
use Rattle.hc_owed.proofs.flags.Flags.nth.Goals as goal

pub get-requires : goal.get-requires
get-requires c =
    let words = c.self.inside.words in
    let are = are-flags words.items c.self.inside.len words.len c.args.self.now c.self.view_is in
    omega (arith, c.loop-n-test.true, are.length)

pub returns-then-left-eq0-clause-value : goal.returns-then-left-eq0-clause-value
returns-then-left-eq0-clause-value c =
    let list = c.args.self.now.list in
    sym (nth-here list c.loop-n.n (c.get.ensures ∙ ap Some c.if-get.true)) ∙ ap (λ (m : ℕ). nth_set m c.loop-n.n (drop c.loop-n.n list)) (sym c.if-left-eq0.true) ∙ c.loop-n.invariant

pub returns-then-left-eq0-clause-low : goal.returns-then-left-eq0-clause-low
returns-then-left-eq0-clause-low c =
    let words = c.self.inside.words in
    let are = are-flags words.items c.self.inside.len words.len c.args.self.now c.self.view_is in
    omega (arith, c.loop-n-test.true, are.length)

pub returns-clause-value : goal.returns-clause-value
returns-clause-value c =
    let words = c.self.inside.words in
    let are = are-flags words.items c.self.inside.len words.len c.args.self.now c.self.view_is in
    sym (nth-over c.args.self.now.list c.loop-n.n c.loop-n.left (omega (arith, c.loop-n-test.false, are.length))) ∙ c.loop-n.invariant

pub loop-n-preserved : goal.loop-n-preserved
loop-n-preserved c =
    let list = c.args.self.now.list in
    elim c.if-get.branch [
      | then-get+else-left-eq0 w ↦
          let less : c.loop-n.left ≡ suc c.if-get.left = omega (arith, w.left-is, w.if-left-eq0.false) in
          sym (nth-passed list c.loop-n.n c.loop-n.left c.if-get.left (c.get.ensures ∙ ap Some w.if-get.true) less) ∙ c.loop-n.invariant
      | else-get w ↦
          ap (λ (m : ℕ). nth_set m (c.loop-n.n + 1) (drop (c.loop-n.n + 1) list)) w.left-is
          ∙ sym (nth-cleared list c.loop-n.n c.loop-n.left (c.get.ensures ∙ ap Some w.if-get.false)) ∙ c.loop-n.invariant
    ]
