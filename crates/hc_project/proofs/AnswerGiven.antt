-- What is said of the document that a text is read as is said of the text.
use Rattle.std.proofs.Common.{◌≡◌, ℕ, List, subst, sym, ◌∙◌, refl, Result, Ok, Err, IfOk, Option, Some, None}
use Rattle.std.specs.Prelude.{IsOk, IsUtf8}
use Rattle.toml.specs.Data.{Data, Members, table}
use Rattle.toml.specs.Parse.{parse_document}
use Rattle.hc_project.specs.declared.located.Found.{Found}
use Rattle.hc_project.specs.declared.located.Found.TheVariants.{InText, InProject}
use Rattle.hc_project.specs.Levels.{declared_groups}
use Rattle.hc_project.specs.Located.{LocatesFault, SaysOf}
use Rattle.hc_project.proofs.Texts.{found}

answered_of : (text : List ℕ) (tree : Members) (what : Option Found) → IsUtf8 text → parse_document text ≡ Some tree → SaysOf (table tree) what → LocatesFault text what
answered_of text tree None utf8 parsed says = subst (λ r. IsOk r) (sym (found text tree (declared_groups (table tree)) utf8 parsed refl)) says
answered_of text tree (Some (InText line column)) utf8 parsed says = absurd says
answered_of text tree (Some (InProject lowest location)) utf8 parsed says =
    record { refused = found text tree (declared_groups (table tree)) utf8 parsed refl ∙ says.0; placed = (tree, parsed, says.1) }

view_answer : (text : List ℕ) (tree : Members) (d : Data) (what : Option Found) → d ≡ table tree → IsUtf8 text → parse_document text ≡ Some tree → SaysOf d what → LocatesFault text what
view_answer text tree d what is utf8 parsed says = answered_of text tree what utf8 parsed (subst (λ d. SaysOf d what) is says)

-- so is it of an answer that may be `Memory`
pub answer_given : {E : Type 0} (text : List ℕ) (tree : Members) (d : Data) (answer : Result (Option Found) E)
    → d ≡ table tree → IsUtf8 text → parse_document text ≡ Some tree → IfOk answer (SaysOf d) → IfOk answer (LocatesFault text)
answer_given text tree d (Ok what) is utf8 parsed says = view_answer text tree d what is utf8 parsed says
answer_given text tree d (Err e) is utf8 parsed says = says
