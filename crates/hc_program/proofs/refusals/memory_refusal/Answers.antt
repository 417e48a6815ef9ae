use Rattle.std.proofs.Common.{◌≡◌, ◌++◌, ap, sym, lit<}
use Rattle.std.specs.Prelude.{codes}
use Rattle.std.specs.Fmt.{decimal}
use Rattle.std.proofs.lemmas.Fmt.{decimal-digits_of}
use Rattle.hc_program.specs.Refusals.{refusal_text}
use Rattle.hc_program.proofs.refusals.memory_refusal.Goals as goal

twenty_eight : decimal 28 ≡ codes "28"
twenty_eight = decimal-digits_of 28 (lit< tt) (lit< tt)

pub returns : goal.returns
unfolding refusal_text
returns c = ap (λ number. codes "refused " ++ (number ++ codes " " ++ codes "Memory" ++ codes "\n")) (sym twenty_eight)
