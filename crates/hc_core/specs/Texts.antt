-- The bytes of a text.
use Rattle.std.specs.Prelude.{ℕ, List, [], ◌∷◌, ◌++◌}
use Rattle.hc_core.specs.declared.text.Text.{Text}
use Rattle.hc_core.specs.declared.text.Text.TheVariants.{Empty, Then'}

-- the bytes of a text, in order: the one that was added last is last
abbrev pub text_bytes : Text → List ℕ
text_bytes Empty = []
text_bytes (Then' m text byte) = text_bytes text ++ byte.value ∷ []
