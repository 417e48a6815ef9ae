use Rattle.std.proofs.Common.{◌+◌, ◌∷◌, List, ap, sym, ◌∙◌}
use Rattle.std.specs.Option.{option_copied}
use Rattle.hc_text.specs.Cutting.{lines_after}
use Rattle.hc_text.specs.Lines.{Line, command_lines}
use Rattle.hc_program.specs.Declaring.{Turn, turn_of, turns_of}
use Rattle.hc_program.proofs.Declaring.{declares, says}
use Rattle.hc_program.proofs.turn.split_turn.Goals as goal

pub returns-then-is_declare-clause-turn : goal.returns-then-is_declare-clause-turn
returns-then-is_declare-clause-turn c =
    let number = c.args.number in
    let lines = lines_after (number + 1) (option_copied c.split_line.result.1) in
    declares number c.args.lines.now _ _ c.split_line.ensures.line (sym c.is_declare.ensures ∙ c.if-is_declare.true)
    ∙ ap (λ (turn : Turn). turn ∷ turns_of (command_lines lines)) (sym c.split_declaration.ensures.turn)
    ∙ ap (λ (after_it : List Line). turn_of c.split_declaration.result.turn ∷ turns_of after_it) (sym c.split_declaration.ensures.after_it)

pub returns-clause-turn : goal.returns-clause-turn
returns-clause-turn c = says c.args.number c.args.lines.now _ _ c.split_line.ensures.line (sym c.is_declare.ensures ∙ c.if-is_declare.false)
