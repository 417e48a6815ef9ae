-- The serial of a datagram's data after good answers, by the data that they leave.
use Rattle.std.proofs.Common.{◌≡◌, ℕ, Bool, true, false, cond, ◌||◌, List, [], ◌∷◌, refl, sym, ap, ◌∙◌, Option, Some, None}
use Rattle.std.specs.Prelude.{fold, is_some}
use Rattle.std.specs.List.{list_any}
use Rattle.hc_events.specs.Ages.{dated}
use Rattle.hc_events.specs.Images.{NewAnswer, is_for, renewed}

-- a choice of data, if there are some after one more answer
some_chosen : (own any : Bool) (bytes : List ℕ) (slot : Option (List ℕ)) → any || is_some (cond own (Some bytes) slot) ≡ (own || any) || is_some slot
some_chosen true true bytes slot = refl
some_chosen true false bytes slot = refl
some_chosen false any bytes slot = refl

-- there are data after good answers exactly if one of these is of the datagram, or if there were some before
some_renewed : (task d : ℕ) (slot : Option (List ℕ)) (answers : List NewAnswer) → is_some (fold (renewed task d) slot answers) ≡ list_any (is_for task d) answers || is_some slot
some_renewed task d slot [] = refl
some_renewed task d slot (good ∷ answers) = some_renewed task d (renewed task d slot good) answers ∙ some_chosen (is_for task d good) (list_any (is_for task d) answers) good.bytes slot

-- a choice of a serial after one more answer
serial_chosen : (own any : Bool) (serial : ℕ) (so_far : Option ℕ) → cond any (Some serial) (cond own (Some serial) so_far) ≡ cond (own || any) (Some serial) so_far
serial_chosen true true serial so_far = refl
serial_chosen true false serial so_far = refl
serial_chosen false any serial so_far = refl

-- the serial after good answers: the new one if one of these is of the datagram, otherwise the one before
dated_by : (serial task d : ℕ) (so_far : Option ℕ) (answers : List NewAnswer) → fold (dated serial task d) so_far answers ≡ cond (list_any (is_for task d) answers) (Some serial) so_far
dated_by serial task d so_far [] = refl
dated_by serial task d so_far (good ∷ answers) = dated_by serial task d (dated serial task d so_far good) answers ∙ serial_chosen (is_for task d good) (list_any (is_for task d) answers) serial so_far

-- a disjunct beside a false one
beside_false : (b : Bool) → b || false ≡ b
beside_false true = refl
beside_false false = refl

-- one of the good answers is of the datagram exactly if they leave data of it, with none before
any_for : (task d : ℕ) (answers : List NewAnswer) (slot : Option (List ℕ)) → fold (renewed task d) None answers ≡ slot → list_any (is_for task d) answers ≡ is_some slot
any_for task d answers slot left = sym (beside_false (list_any (is_for task d) answers)) ∙ sym (some_renewed task d None answers) ∙ ap is_some left

-- good answers that leave data, with none before, leave the new serial
pub dated-renewed : (serial task d : ℕ) (so_far : Option ℕ) (bytes : List ℕ) (answers : List NewAnswer) → fold (renewed task d) None answers ≡ Some bytes → fold (dated serial task d) so_far answers ≡ Some serial
dated-renewed serial task d so_far bytes answers left = dated_by serial task d so_far answers ∙ ap (λ b. cond b (Some serial) so_far) (any_for task d answers (Some bytes) left)

-- good answers that leave no data leave the serial so far
pub dated-left : (serial task d : ℕ) (so_far : Option ℕ) (answers : List NewAnswer) → fold (renewed task d) None answers ≡ None → fold (dated serial task d) so_far answers ≡ so_far
dated-left serial task d so_far answers left = dated_by serial task d so_far answers ∙ ap (λ b. cond b (Some serial) so_far) (any_for task d answers None left)
