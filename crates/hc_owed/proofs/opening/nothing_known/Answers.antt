use Rattle.std.proofs.Common.{ℕ, ◌∷◌, ◌++◌, [], List, ap, ◌∙◌, arith}
use Rattle.std.specs.Prelude.{None, replicate}
use Rattle.std.proofs.lemmas.List.{replicate_more}
use Rattle.hc_owed.proofs.opening.nothing_known.Goals as goal

pub returns : goal.returns
returns c = c.loop.invariant ∙ ap (λ (n : ℕ). replicate n None) (omega (arith, c.loop-test.false, c.loop.auto.counter-end))

pub loop-preserved : goal.loop-preserved
loop-preserved c = c.in_ok-push.ensures.items ∙ ap (λ (known : List _). known ++ None ∷ []) c.loop.invariant ∙ replicate_more c.loop.counter None
