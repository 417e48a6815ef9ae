-- A text that grows twice.
use Rattle.std.proofs.Common.{◌≡◌, ℕ, List, ◌++◌, ap, sym, ◌∙◌, append_assoc, Ok, Err, OnOk, OnErr}
use Rattle.std.specs.Prelude.{Result}

pub grown_ok : {A E : Type 0} (result : Result A E) (old now new front back : List ℕ) → now ≡ old ++ front → OnOk result (new ≡ now ++ back) → OnOk result (new ≡ old ++ (front ++ back))
grown_ok (Ok x) old now new front back first second = second ∙ ap (λ text. text ++ back) first ∙ append_assoc old front back
grown_ok (Err e) old now new front back first second = tt

pub grown_twice : (old now new front back : List ℕ) → now ≡ old ++ front → new ≡ now ++ back → new ≡ old ++ (front ++ back)
grown_twice old now new front back first second = second ∙ ap (λ text. text ++ back) first ∙ append_assoc old front back

-- a text that grows by what is reported
pub answered_ok : {A E : Type 0} (result : Result A E) (old now new text answer_given : List ℕ) → now ≡ old → answer_given ≡ text → OnOk result (new ≡ now ++ text) → OnOk result (new ≡ old ++ answer_given)
answered_ok (Ok x) old now new text answer_given same is grown = grown ∙ ap (λ front. front ++ text) same ∙ ap (λ back. old ++ back) (sym is)
answered_ok (Err e) old now new text answer_given same is grown = tt

-- the same where what is reported follows from what the call says of its own success
pub answered_when : {A E : Type 0} (result : Result A E) (old now new text answer_given : List ℕ) (P : Type 0) → now ≡ old → (P → answer_given ≡ text) → OnOk result P → OnOk result (new ≡ now ++ text) → OnOk result (new ≡ old ++ answer_given)
answered_when (Ok x) old now new text answer_given P same is holds grown =
    grown ∙ ap (λ front. front ++ text) same ∙ ap (λ back. old ++ back) (sym (is holds))
answered_when (Err e) old now new text answer_given P same is holds grown = tt

pub when_ok : {A E : Type 0} (result : Result A E) (P Q : Type 0) → (P → Q) → OnOk result P → OnOk result Q
when_ok (Ok x) P Q next holds = next holds
when_ok (Err e) P Q next holds = tt

-- what holds whatever was answered
pub any_ok : {A E : Type 0} (result : Result A E) (P : Type 0) → P → OnOk result P
any_ok (Ok x) P holds = holds
any_ok (Err e) P holds = tt

pub any_err : {A E : Type 0} (result : Result A E) (P : Type 0) → P → OnErr result P
any_err (Ok x) P holds = tt
any_err (Err e) P holds = holds
