-- An input that is cut at its mark, line by line.
use Rattle.std.proofs.Common.{◌≡◌, ℕ, false, ◌||◌, cond, ◌+◌, List, [], ◌∷◌, ◌++◌, sym, ap, ◌∙◌, append_assoc}
use Rattle.std.specs.Prelude.{Option, Some, codes}
use Rattle.std.specs.List.{list_any}
use Rattle.std.specs.Str.{bytes_eq}
use Rattle.hc_text.specs.Lines.{Line, command_lines, is_mark, project_text}
use Rattle.hc_text.specs.Cutting.{CutsLine, Skips, bytes_after, lines_after}

past_project : (line : Line) (lines : List Line) → is_mark line ≡ false → project_text (line ∷ lines) ≡ line.bytes ++ project_text lines
past_project line lines unmarked = ap (λ b. cond b [] (line.bytes ++ project_text lines)) unmarked

past_commands : (line : Line) (lines : List Line) → is_mark line ≡ false → command_lines (line ∷ lines) ≡ command_lines lines
past_commands line lines unmarked = ap (λ b. cond b lines (command_lines lines)) unmarked

past_marked : (line : Line) (lines : List Line) → is_mark line ≡ false → list_any is_mark (line ∷ lines) ≡ list_any is_mark lines
past_marked line lines unmarked = ap (λ b. b || list_any is_mark lines) unmarked

-- one more line is passed over
pub skips_line : (input : List ℕ) (lines : List Line) (number : ℕ) (left text : List ℕ) (rest : Option (List ℕ)) → Skips input lines number (Some left) → CutsLine left text rest
    → bytes_eq text (codes "%%") ≡ false → Skips input lines (number + 1) rest
skips_line input lines number left text rest s cut unmarked =
    let line : Line = record { number = number; text = text; bytes = cut.bytes } in
    record {
      front = s.front ++ cut.bytes;
      whole = append_assoc s.front cut.bytes (bytes_after rest) ∙ ap (λ bytes. s.front ++ bytes) cut.whole ∙ s.whole;
      project = append_assoc s.front cut.bytes (project_text (lines_after (number + 1) rest))
          ∙ ap (λ bytes. s.front ++ bytes) (sym (past_project line (lines_after (number + 1) rest) unmarked) ∙ ap project_text (sym (cut.lines number)))
          ∙ s.project;
      commands = sym (past_commands line (lines_after (number + 1) rest) unmarked) ∙ ap command_lines (sym (cut.lines number)) ∙ s.commands;
      marked = sym (past_marked line (lines_after (number + 1) rest) unmarked) ∙ ap (list_any is_mark) (sym (cut.lines number)) ∙ s.marked;
    }
