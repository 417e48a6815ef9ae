use Rattle.std.proofs.Common.{◌∙◌, arith, sym}
use Rattle.std.proofs.lemmas.Bool.{eqb-true}
use Rattle.std.proofs.lemmas.Grind.{common_steps}
use Rattle.std.proofs.lemmas.Option.{gets}
use Rattle.hc_places.proofs.Reached.{own-answer_given}
use Rattle.hc_places.proofs.merging.is_row_of.Goals as goal

pub returns-in-Some : goal.returns-in-Some
returns-in-Some c is =
    let row = c.in-Some.row.now in
    own-answer_given c.args.rows.now c.args.variable c.args.index row c.requires (grind (arith, common_steps, gets)) (eqb-true row.0 c.args.variable (sym c.eq.ensures ∙ is))
