-- The first turn of command lines, and the turns after it.
use Rattle.std.proofs.Common.{◌≡◌, ℕ, ◌+◌, Bool, true, false, not, cond, List, [], ◌∷◌, refl, ap, ◌∙◌}
use Rattle.std.specs.Prelude.{Option, Some}
use Rattle.hc_text.specs.Cutting.{CutsLine, lines_after}
use Rattle.hc_text.specs.Lines.{Line, closed_text, command_lines, is_mark}
use Rattle.hc_program.specs.Declaring.{Declares, Says, is_declare, turns_from, turns_of}

inside_step : (b : Bool) (lines : List Line) → turns_from true lines ≡ turns_from false (command_lines lines)
    → turns_from (not b) lines ≡ turns_from false (cond b lines (command_lines lines))
inside_step true lines known = refl
inside_step false lines known = known

-- the turns after a document are those of the lines after its last
inside_document : (lines : List Line) → turns_from true lines ≡ turns_from false (command_lines lines)
inside_document [] = refl
inside_document (line ∷ lines) = inside_step (is_mark line) lines (inside_document lines)

begun : (line : Line) (lines : List Line) (b : Bool) → is_declare line.text ≡ b
    → turns_of (line ∷ lines) ≡ cond b (Declares line.number (closed_text lines)) (Says line.number line.text) ∷ turns_from b lines
unfolding turns_of
begun line lines b is = ap (λ c. cond c (Declares line.number (closed_text lines)) (Says line.number line.text) ∷ turns_from c lines) is

pub no_turns : turns_of [] ≡ []
unfolding turns_of
no_turns = refl

-- the first line is a command line
pub says : (number : ℕ) (input text : List ℕ) (rest : Option (List ℕ)) → CutsLine input text rest → is_declare text ≡ false
    → turns_of (lines_after number (Some input)) ≡ Says number text ∷ turns_of (lines_after (number + 1) rest)
unfolding turns_of
says number input text rest cut plain =
    ap turns_of (cut.lines number) ∙ begun (record { number = number; text = text; bytes = cut.bytes }) (lines_after (number + 1) rest) false plain

-- the first line is a declaration's
pub declares : (number : ℕ) (input text : List ℕ) (rest : Option (List ℕ)) → CutsLine input text rest → is_declare text ≡ true
    → turns_of (lines_after number (Some input)) ≡ Declares number (closed_text (lines_after (number + 1) rest)) ∷ turns_of (command_lines (lines_after (number + 1) rest))
unfolding turns_of
declares number input text rest cut declared =
    let lines = lines_after (number + 1) rest in
    ap turns_of (cut.lines number)
    ∙ begun (record { number = number; text = text; bytes = cut.bytes }) lines true declared
    ∙ ap (λ turns. Declares number (closed_text lines) ∷ turns) (inside_document lines)
