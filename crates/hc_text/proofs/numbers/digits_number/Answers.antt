use Rattle.std.proofs.Common.{rules, ◌≡◌, None, arith, sym, ◌∙◌}
use Rattle.std.proofs.lemmas.Grind.{common_steps}
use Rattle.hc_text.specs.Numbers.{spelt_within}
use Rattle.hc_text.proofs.Digits.{too_many}
use Rattle.hc_text.proofs.numbers.digits_number.Goals as goal

pub returns-in-None : goal.returns-in-None
returns-in-None c =
    let none = too_many c.args.base c.args.most c.loop-byte.number c.args.digits.now c.loop-byte.byte-index (omega arith) (omega arith) (search rules) (search rules) in
    let all : spelt_within c.args.base c.args.most 0 c.args.digits.now ≡ None = sym c.loop-byte.invariant.same ∙ none in
    grind (arith, common_steps, all)
