-- The turns of a run: a command line is one, and a line `declare` with the lines of its document.
use Rattle.std.specs.Prelude.{ℕ, not, Bool, true, false, if◌then◌else◌, List, [], ◌∷◌, Option, codes}
use Rattle.std.specs.Option.{option_copied, option_map_or}
use Rattle.std.specs.Str.{bytes_eq}
use Rattle.hc_text.specs.Lines.{Line, closed_text, is_mark, sole, words_of}
use Rattle.hc_text.specs.Cutting.{lines_after}
use Rattle.hc_program.specs.declared.turn.Turn as cut
use Rattle.hc_program.specs.declared.turn.Turn.TheVariants as turn

-- a command line, by its number and its text; or a declaration, by the number of the line `declare`, with its document: none if no line `%%` ends that
pub data Turn : Type 0 where
  Says : ℕ → List ℕ → Turn
  Declares : ℕ → Option (List ℕ) → Turn

-- a turn of the program as it is written down
abbrev pub turn_of : cut.Turn → Turn
turn_of (turn.Says number line) = Says number line.now
turn_of (turn.Declares number document) = Declares number (option_copied document)

-- the one word of a line is `declare`
abbrev pub is_declare : List ℕ → Bool
is_declare text = option_map_or (λ word. bytes_eq word (codes "declare")) (sole (words_of text)) false

-- the turn that a line begins, with the lines after it
abbrev pub turn_at : Line → List Line → Turn
turn_at line lines = if is_declare line.text then Declares line.number (closed_text lines) else Says line.number line.text

-- the turns of lines; if these begin in a document, the turns of those after the line that ends it
abbrev pub turns_from : Bool → List Line → List Turn
turns_from inside [] = []
turns_from true (line ∷ lines) = turns_from (not (is_mark line)) lines
turns_from false (line ∷ lines) = turn_at line lines ∷ turns_from (is_declare line.text) lines

-- the turns of a run's command lines
unfoldable pub turns_of : List Line → List Turn
turns_of lines = turns_from false lines

-- the turns of the lines that follow, from this number on
abbrev pub next_turns : ℕ → Option (List ℕ) → List Turn
next_turns number rest = turns_of (lines_after number rest)
