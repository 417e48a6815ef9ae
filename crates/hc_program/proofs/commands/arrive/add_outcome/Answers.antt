use Rattle.std.proofs.Common.{◌++◌, ◌∙◌, ℕ, ap, sym, string_bytes}
use Rattle.std.specs.Prelude.{codes}
use Rattle.hc_events.specs.declared.answer.Outcome.{Outcome}
use Rattle.hc_program.specs.Answers.{outcome_text, pair_text}
use Rattle.hc_program.proofs.Grown.{grown_twice}
use Rattle.hc_program.proofs.commands.arrive.add_outcome.Goals as goal

pub returns-in-WrongCount-clause-bytes : goal.returns-in-WrongCount-clause-bytes
unfolding outcome_text
returns-in-WrongCount-clause-bytes c =
    let old = string_bytes c.args.out.now in
    let expected = c.from-in-WrongCount.ensures in
    let got = c.from-in-WrongCount-2.ensures in
    grown_twice old _ _ (codes "wrong count ") (pair_text c.from-in-WrongCount.result c.from-in-WrongCount-2.result) c.add_text-in-WrongCount.ensures.bytes c.add_pair-in-WrongCount.ensures.bytes
    ∙ ap (λ (n : ℕ). old ++ (codes "wrong count " ++ pair_text n c.from-in-WrongCount-2.result)) expected
    ∙ ap (λ (n : ℕ). old ++ (codes "wrong count " ++ pair_text c.in-WrongCount.expected n)) got
    ∙ ap (λ (outcome : Outcome). old ++ outcome_text outcome) (sym c.in-WrongCount.is)
