-- The project of a text, from the tree that TOML reads.
use Rattle.std.proofs.Common.{◌≡◌, ℕ, Bool, true, false, cond, List, ap, sym, ◌∙◌, refl, Err, Some, None}
use Rattle.std.specs.Prelude.{IsUtf8}
use Rattle.std.specs.Str.{is_utf8}
use Rattle.std.proofs.lemmas.Str.{IsUtf8-from_is_utf8, is_utf8-from_IsUtf8}
use Rattle.toml.specs.Data.{Members, table}
use Rattle.toml.specs.Parse.{parse_document}
use Rattle.hc_records.specs.declared.faults.ProjectFault.TheVariants.{NotToml}
use Rattle.hc_records.specs.declared.records.Group.{Group}
use Rattle.hc_project.specs.declared.reading.Reading.{Reading}
use Rattle.hc_project.specs.Levels.{declared_groups}
use Rattle.hc_project.specs.Text.{project_in, project_of, groups_or_fault}

judged : (text : List ℕ) (b : Bool) → is_utf8 text ≡ b → project_in text ≡ cond b (project_of (parse_document text)) (Err NotToml)
unfolding project_in
judged text b utf8 = ap (λ c. cond c (project_of (parse_document text)) (Err NotToml)) utf8

-- a text that TOML reads is judged by what its tree declares
pub found : (text : List ℕ) (tree : Members) (groups : Reading (List Group)) → IsUtf8 text → parse_document text ≡ Some tree
    → groups ≡ declared_groups (table tree) → project_in text ≡ groups_or_fault groups
found text tree groups utf8 parsed read =
    judged text true (is_utf8-from_IsUtf8 text utf8) ∙ ap project_of parsed ∙ ap groups_or_fault (sym read)

unread_by : (text : List ℕ) (b : Bool) → is_utf8 text ≡ b → (IsUtf8 text → parse_document text ≡ None) → project_in text ≡ Err NotToml
unread_by text true utf8 none = judged text true utf8 ∙ ap project_of (none (IsUtf8-from_is_utf8 text utf8))
unread_by text false utf8 none = judged text false utf8

-- a text that isn't UTF-8 or that TOML refuses is no project
pub unread : (text : List ℕ) → (IsUtf8 text → parse_document text ≡ None) → project_in text ≡ Err NotToml
unread text none = unread_by text (is_utf8 text) refl none
