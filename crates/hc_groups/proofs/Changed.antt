-- A list with one element changed, element by element.
use Rattle.std.proofs.Common.{◌≡◌, ◌≢◌, ℕ, zero, suc, ◌+◌, ◌<◌, Bool, true, false, if◌then◌else◌, List, [], ◌∷◌, ◌++◌, length, take, get_or, refl, sym, ap, ◌∙◌, arith}
use Rattle.std.specs.Prelude.{◌==◌}
use Rattle.std.proofs.Math.Seq.{take-suc, take-length}
use Rattle.std.proofs.lemmas.Bool.{eqb-true, eqb-false}
use Rattle.hc_records.specs.Lists.{changed_at}

pub length-changed_at : {X : Type 0} (index : ℕ) (change : X → X) (xs : List X) → length (changed_at index change xs) ≡ length xs
length-changed_at index change [] = refl
length-changed_at zero change (x ∷ xs) = refl
length-changed_at (suc index) change (x ∷ xs) = ap suc (length-changed_at index change xs)

-- up to and with the changed one
changed-here : {X : Type 0} (index : ℕ) (change : X → X) (xs : List X) (d : X) → index < length xs →
    take (suc index) (changed_at index change xs) ≡ take index (changed_at index change xs) ++ change (get_or xs index d) ∷ []
changed-here index change [] d within = absurd (omega arith)
changed-here zero change (x ∷ xs) d within = refl
changed-here (suc index) change (x ∷ xs) d within = ap (λ rest. x ∷ rest) (changed-here index change xs d (omega arith))

-- up to and with another one
changed-other : {X : Type 0} (index i : ℕ) (change : X → X) (xs : List X) (d : X) → i < length xs → i ≢ index →
    take (suc i) (changed_at index change xs) ≡ take i (changed_at index change xs) ++ get_or xs i d ∷ []
changed-other index i change [] d within other = absurd (omega arith)
changed-other zero zero change (x ∷ xs) d within other = absurd (other refl)
changed-other zero (suc i) change (x ∷ xs) d within other = ap (λ rest. change x ∷ rest) (take-suc xs i d (omega arith))
changed-other (suc index) zero change (x ∷ xs) d within other = refl
changed-other (suc index) (suc i) change (x ∷ xs) d within other =
    ap (λ rest. x ∷ rest) (changed-other index i change xs d (omega arith) (λ same. other (ap suc same)))

pub changed-by : {X : Type 0} (same : Bool) (index i : ℕ) (change : X → X) (xs : List X) (x : X) → (i == index) ≡ same → i < length xs → x ≡ get_or xs i x →
    take (i + 1) (changed_at index change xs) ≡ take i (changed_at index change xs) ++ (if same then change x else x) ∷ []
changed-by true index i change xs x test within is =
    let same : i ≡ index = eqb-true i index test in
    let next : i + 1 ≡ suc index = omega arith in
    ap (λ (n : ℕ). take n (changed_at index change xs)) next
    ∙ changed-here index change xs x (omega arith)
    ∙ ap (λ (n : ℕ). take n (changed_at index change xs) ++ change (get_or xs n x) ∷ []) (sym same)
    ∙ ap (λ y. take i (changed_at index change xs) ++ change y ∷ []) (sym is)
changed-by false index i change xs x test within is =
    let next : i + 1 ≡ suc i = omega arith in
    ap (λ (n : ℕ). take n (changed_at index change xs)) next
    ∙ changed-other index i change xs x within (eqb-false i index test)
    ∙ ap (λ y. take i (changed_at index change xs) ++ y ∷ []) (sym is)

pub changed-all : {X : Type 0} (index i : ℕ) (change : X → X) (xs : List X) → i ≡ length xs → take i (changed_at index change xs) ≡ changed_at index change xs
changed-all index i change xs end =
    ap (λ (n : ℕ). take n (changed_at index change xs)) (end ∙ sym (length-changed_at index change xs))
    ∙ take-length (changed_at index change xs)
