-- The lines of an input, the end of its project text, and the words of a line.
use Rattle.std.specs.Prelude.{ℕ, ◌+◌, ◌==◌, not, Bool, if◌then◌else◌, List, [], ◌∷◌, ◌++◌, length, filter, Option, Some, None, codes}
use Rattle.std.specs.List.{list_any, slice_split}
use Rattle.std.specs.Str.{bytes_eq}
use Rattle.std.specs.Str.Lines.{strip_carriage_return}

-- the parts between bytes of this value
abbrev pub parts_at : ℕ → List ℕ → List (List ℕ)
parts_at byte text = slice_split (λ b. b == byte) text

-- a line of an input: its number, its text, and its bytes unchanged, with the line feed
pub record Line : Type 0 where
  pub number : ℕ
  pub text : List ℕ
  pub bytes : List ℕ

-- the text and the bytes of a part: a line feed ends it if another part follows, and a carriage return before that is dropped
abbrev pub text_of_lines : List ℕ → List (List ℕ) → List ℕ
text_of_lines part [] = part
text_of_lines part (next ∷ parts) = strip_carriage_return part

-- the bytes of a part as a line: the part, and a line feed if another part follows
abbrev pub line_part_bytes : List ℕ → List (List ℕ) → List ℕ
line_part_bytes part [] = part
line_part_bytes part (next ∷ parts) = part ++ 10 ∷ []

-- the lines of these parts, from this number on
abbrev pub lines_from : ℕ → List (List ℕ) → List Line
lines_from number [] = []
lines_from number (part ∷ parts) =
    record { number = number; text = text_of_lines part parts; bytes = line_part_bytes part parts } ∷ lines_from (number + 1) parts

-- the lines of an input, counted from 1; the last may lack its line feed
abbrev pub lines_of : List ℕ → List Line
lines_of input = lines_from 1 (parts_at 10 input)

-- the line that ends a project text
abbrev pub is_mark : Line → Bool
is_mark line = bytes_eq line.text (codes "%%")

-- the bytes before the first such line, unchanged
abbrev pub project_text : List Line → List ℕ
project_text [] = []
project_text (line ∷ lines) = if is_mark line then [] else line.bytes ++ project_text lines

-- the lines after the first line `%%`
abbrev pub command_lines : List Line → List Line
command_lines [] = []
command_lines (line ∷ lines) = if is_mark line then lines else command_lines lines

-- the bytes before the first line `%%`; none if no line is that
abbrev pub closed_text : List Line → Option (List ℕ)
closed_text lines = if list_any is_mark lines then Some (project_text lines) else None

-- a word is not empty
abbrev pub is_word : List ℕ → Bool
is_word part = not (length part == 0)

-- the words of a line: the parts between its spaces that are not empty
abbrev pub words_of : List ℕ → List (List ℕ)
words_of text = filter is_word (parts_at 32 text)

-- the one word of a line; none if it has no word, or more
abbrev pub sole : List (List ℕ) → Option (List ℕ)
sole [] = None
sole (word ∷ []) = Some word
sole (word ∷ other ∷ words) = None
