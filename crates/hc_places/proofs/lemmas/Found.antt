-- The element that `find` finds.
use Rattle.std.proofs.Common.{◌≡◌, ◌∙◌, Bool, true, false, cond, List, [], ◌∷◌, ap, refl, subst, sym}
use Rattle.std.specs.Prelude.{All, Option, Some, find}
use Rattle.std.proofs.lemmas.List.Elements.{All-head, All-tail}

first-holds : {X : Type 0} (P : X → Type 0) (test : X → Bool) (passes : Bool) (first x : X) (rest : Option X) → test first ≡ passes → P first
    → (rest ≡ Some x → P x × (test x ≡ true)) → cond passes (Some first) rest ≡ Some x → P x × (test x ≡ true)
first-holds P test true first x rest is holds later found =
    let same : first ≡ x = cc in
    (subst P same holds, ap test (sym same) ∙ is)
first-holds P test false first x rest is holds later found = later found

-- what is found has what each element has, and passes the test
pub find-holds : {X : Type 0} (P : X → Type 0) (test : X → Bool) (xs : List X) (x : X) → find test xs ≡ Some x → All P xs → P x × (test x ≡ true)
find-holds P test [] x found all = cc
find-holds P test (first ∷ xs) x found all =
    first-holds P test (test first) first x (find test xs) refl (All-head P first xs all) (λ later. find-holds P test xs x later (All-tail P first xs all)) found
