use Rattle.std.proofs.Common.{◌≡◌, ◌++◌, ap, sym, ◌∙◌, lit<}
use Rattle.std.specs.Prelude.{codes}
use Rattle.std.specs.Fmt.{decimal}
use Rattle.std.proofs.lemmas.Fmt.{decimal-digits_of}
use Rattle.hc_program.specs.Opening.{with_refused_growth, unopened_text}
use Rattle.hc_program.specs.Refusals.{project_fault_words}
use Rattle.hc_program.proofs.opening.memory_text.Goals as goal

eleven : decimal 11 ≡ codes "11"
eleven = decimal-digits_of 11 (lit< tt) (lit< tt)

pub returns-in-Project : goal.returns-in-Project
unfolding unopened_text project_fault_words
returns-in-Project c =
    ap (λ number. codes "project fault " ++ (number ++ codes " " ++ codes "Memory" ++ codes "\n")) (sym eleven)
    ∙ ap (λ fault. unopened_text (with_refused_growth fault)) (sym c.in-Project.is)
