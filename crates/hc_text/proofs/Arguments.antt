-- Numbers of arguments that `show` and `view` don't have.
use Rattle.std.proofs.Common.{◌≡◌, ℕ, ◌<◌, ◌≤◌, List, [], ◌∷◌, length, None, refl, arith}
use Rattle.hc_text.specs.ShortCommands.{show_in, view_in}

pub one_is_no_show : (arguments : List (List ℕ)) → length arguments < 2 → show_in arguments ≡ None
one_is_no_show [] short = refl
one_is_no_show (a ∷ []) short = refl
one_is_no_show (a ∷ b ∷ arguments) short = absurd (omega arith)

pub three_are_no_show : (arguments : List (List ℕ)) → 3 ≤ length arguments → show_in arguments ≡ None
three_are_no_show [] long = absurd (omega arith)
three_are_no_show (a ∷ []) long = absurd (omega arith)
three_are_no_show (a ∷ b ∷ []) long = absurd (omega arith)
three_are_no_show (a ∷ b ∷ c ∷ arguments) long = refl

pub one_is_no_view : (arguments : List (List ℕ)) → length arguments < 2 → view_in arguments ≡ None
one_is_no_view [] short = refl
one_is_no_view (a ∷ []) short = refl
one_is_no_view (a ∷ b ∷ arguments) short = absurd (omega arith)

pub three_are_no_view : (arguments : List (List ℕ)) → 3 ≤ length arguments → view_in arguments ≡ None
three_are_no_view [] long = absurd (omega arith)
three_are_no_view (a ∷ []) long = absurd (omega arith)
three_are_no_view (a ∷ b ∷ []) long = absurd (omega arith)
three_are_no_view (a ∷ b ∷ c ∷ arguments) long = refl
