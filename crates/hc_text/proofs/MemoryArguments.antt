-- Numbers of arguments that `poke` and `peek` don't have.
use Rattle.std.proofs.Common.{◌≡◌, ℕ, ◌<◌, ◌≤◌, List, [], ◌∷◌, length, None, refl, arith}
use Rattle.hc_text.specs.MemoryWords.{peeking_in, poking_in}

pub two_are_no_poke : (arguments : List (List ℕ)) → length arguments < 3 → poking_in arguments ≡ None
two_are_no_poke [] short = refl
two_are_no_poke (a ∷ []) short = refl
two_are_no_poke (a ∷ b ∷ []) short = refl
two_are_no_poke (a ∷ b ∷ c ∷ arguments) short = absurd (omega arith)

pub four_are_no_poke : (arguments : List (List ℕ)) → 4 ≤ length arguments → poking_in arguments ≡ None
four_are_no_poke [] long = absurd (omega arith)
four_are_no_poke (a ∷ []) long = absurd (omega arith)
four_are_no_poke (a ∷ b ∷ []) long = absurd (omega arith)
four_are_no_poke (a ∷ b ∷ c ∷ []) long = absurd (omega arith)
four_are_no_poke (a ∷ b ∷ c ∷ d ∷ arguments) long = refl

pub two_are_no_peek : (arguments : List (List ℕ)) → length arguments < 3 → peeking_in arguments ≡ None
two_are_no_peek [] short = refl
two_are_no_peek (a ∷ []) short = refl
two_are_no_peek (a ∷ b ∷ []) short = refl
two_are_no_peek (a ∷ b ∷ c ∷ arguments) short = absurd (omega arith)

pub four_are_no_peek : (arguments : List (List ℕ)) → 4 ≤ length arguments → peeking_in arguments ≡ None
four_are_no_peek [] long = absurd (omega arith)
four_are_no_peek (a ∷ []) long = absurd (omega arith)
four_are_no_peek (a ∷ b ∷ []) long = absurd (omega arith)
four_are_no_peek (a ∷ b ∷ c ∷ []) long = absurd (omega arith)
four_are_no_peek (a ∷ b ∷ c ∷ d ∷ arguments) long = refl
