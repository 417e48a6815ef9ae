-- Numbers of arguments that `remap` and `move` don't have.
use Rattle.std.proofs.Common.{◌≡◌, ℕ, ◌<◌, ◌≤◌, List, [], ◌∷◌, length, None, refl, arith}
use Rattle.hc_text.specs.EditWords.{move_in, remap_in}

pub one_is_no_remap : (arguments : List (List ℕ)) → length arguments < 2 → remap_in arguments ≡ None
one_is_no_remap [] short = refl
one_is_no_remap (a ∷ []) short = refl
one_is_no_remap (a ∷ b ∷ arguments) short = absurd (omega arith)

pub two_are_no_move : (arguments : List (List ℕ)) → length arguments < 3 → move_in arguments ≡ None
two_are_no_move [] short = refl
two_are_no_move (a ∷ []) short = refl
two_are_no_move (a ∷ b ∷ []) short = refl
two_are_no_move (a ∷ b ∷ c ∷ arguments) short = absurd (omega arith)

pub four_are_no_move : (arguments : List (List ℕ)) → 4 ≤ length arguments → move_in arguments ≡ None
four_are_no_move [] long = absurd (omega arith)
four_are_no_move (a ∷ []) long = absurd (omega arith)
four_are_no_move (a ∷ b ∷ []) long = absurd (omega arith)
four_are_no_move (a ∷ b ∷ c ∷ []) long = absurd (omega arith)
four_are_no_move (a ∷ b ∷ c ∷ d ∷ arguments) long = refl
