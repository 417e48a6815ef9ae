-- More words than there are tasks spell no tasks that are sent together.
use Rattle.std.proofs.Common.{◌≡◌, ◌<◌, ℕ, suc, Bool, true, false, cond, not, ◌&&◌, List, [], ◌∷◌, length, refl, sym, ap, ◌∙◌, arith, Option, Some, None}
use Rattle.std.specs.Prelude.{nat_le, nat_lt, option_and_then, option_map}
use Rattle.std.proofs.lemmas.Bool.{lt-leb}
use Rattle.hc_records.specs.declared.limits.TheConstants.{TASKS}
use Rattle.hc_records.specs.Lists.{has_repeat}
use Rattle.hc_events.specs.Calls.{are_together, if_together}
use Rattle.hc_text.specs.Numbers.{number_in, numbers_in}
use Rattle.hc_text.specs.TaskWords.{tasks_in}

count_more : (first : Option ℕ) (rest : Option (List ℕ)) (numbers : List ℕ) (n : ℕ) → ((others : List ℕ) → rest ≡ Some others → length others ≡ n)
    → option_and_then (λ number. option_map (λ others. number ∷ others) rest) first ≡ Some numbers → length numbers ≡ suc n
count_more None rest numbers n counts e = cc
count_more (Some number) None numbers n counts e = cc
count_more (Some number) (Some others) numbers n counts e =
    let same : number ∷ others ≡ numbers = cc in
    ap length (sym same) ∙ ap suc (counts others refl)

numbers_count : (words : List (List ℕ)) (numbers : List ℕ) → numbers_in 255 words ≡ Some numbers → length numbers ≡ length words
numbers_count [] numbers e = let same : [] ≡ numbers = cc in ap length (sym same)
numbers_count (word ∷ words) numbers e = count_more (number_in 255 word) (numbers_in 255 words) numbers (length words) (λ others is. numbers_count words others is) e

beyond : (some few distinct : Bool) → few ≡ false → (some && few && distinct) ≡ false
beyond true true distinct e = cc
beyond true false distinct e = refl
beyond false few distinct e = refl

too_many : (numbers : List ℕ) → TASKS < length numbers → are_together numbers ≡ false
too_many numbers many =
    beyond (nat_lt 0 (length numbers)) (nat_le (length numbers) TASKS) (not (has_repeat numbers)) (lt-leb (length numbers) TASKS many)

none_together : (found : Option (List ℕ)) → ((numbers : List ℕ) → found ≡ Some numbers → are_together numbers ≡ false) → option_and_then if_together found ≡ None
none_together None apart = refl
none_together (Some numbers) apart = ap (λ b. cond b (Some numbers) None) (apart numbers refl)

pub many_are_none : (words : List (List ℕ)) → TASKS < length words → tasks_in words ≡ None
many_are_none words many =
    none_together (numbers_in 255 words) (λ numbers is. let count = numbers_count words numbers is in too_many numbers (omega (arith, count, many)))
