-- The rest of an input or of a line while it is cut from the front.
use Rattle.std.specs.Prelude.{◌≡◌, ℕ, suc, ◌+◌, List, [], ◌∷◌, ◌++◌, length, Option, Some, None}
use Rattle.std.specs.List.{list_any}
use Rattle.hc_text.specs.Lines.{Line, command_lines, is_mark, lines_from, parts_at, project_text}

-- the parts of the rest, or none if nothing is left
abbrev pub parts_after : ℕ → Option (List ℕ) → List (List ℕ)
parts_after byte None = []
parts_after byte (Some text) = parts_at byte text

-- a part, and the rest after a byte
abbrev pub part_joined : ℕ → List ℕ → Option (List ℕ) → List ℕ
part_joined byte part None = part
part_joined byte part (Some text) = part ++ byte ∷ text

-- the length of the rest
abbrev pub left_in : Option (List ℕ) → ℕ
left_in None = 0
left_in (Some text) = suc (length text)

-- the bytes of the rest
abbrev pub bytes_after : Option (List ℕ) → List ℕ
bytes_after None = []
bytes_after (Some text) = text

-- the lines of the rest, from this number on
abbrev pub lines_after : ℕ → Option (List ℕ) → List Line
lines_after number rest = lines_from number (parts_after 10 rest)

-- the first line of an input has this text, and this is the rest
pub record CutsLine (input text : List ℕ) (rest : Option (List ℕ)) : Type 0 where
  pub bytes : List ℕ
  pub whole : bytes ++ bytes_after rest ≡ input
  pub lines : (number : ℕ) → lines_from number (parts_at 10 input) ≡ record { number = number; text = text; bytes = bytes } ∷ lines_after (number + 1) rest

-- the lines of an input before the rest were passed over, and the mark is not among them; the rest begins at the line with this
-- number
pub record Skips (input : List ℕ) (lines : List Line) (number : ℕ) (rest : Option (List ℕ)) : Type 0 where
  pub front : List ℕ
  pub whole : front ++ bytes_after rest ≡ input
  pub project : front ++ project_text (lines_after number rest) ≡ project_text lines
  pub commands : command_lines (lines_after number rest) ≡ command_lines lines
  pub marked : list_any is_mark (lines_after number rest) ≡ list_any is_mark lines
