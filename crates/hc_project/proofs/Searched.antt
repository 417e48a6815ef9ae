-- Where a search finds nothing, none of its parts does.
use Rattle.std.proofs.Common.{◌≡◌, ℕ, suc, Bool, false, List, [], ◌∷◌, Option, Some, None, refl}
use Rattle.std.specs.List.{list_any}
use Rattle.hc_project.specs.Places.{first_from, first_some}

pub none_left : {P : Type 0} (a b : Option P) → first_some a b ≡ None → a ≡ None
unfolding first_some
none_left None b none = refl
none_left (Some x) b none = cc

pub none_right : {P : Type 0} (a b : Option P) → first_some a b ≡ None → b ≡ None
unfolding first_some
none_right None b none = none
none_right (Some x) b none = cc

-- a test that each item where nothing is found doesn't meet is met by none
pub none_meets : {X P : Type 0} (find : ℕ → X → Option P) (test : X → Bool) (index : ℕ) (xs : List X)
    → ((i : ℕ) (x : X) → find i x ≡ None → test x ≡ false) → first_from find index xs ≡ None → list_any test xs ≡ false
none_meets find test index [] unmet none = refl
none_meets find test index (x ∷ xs) unmet none =
    rw (unmet index x (none_left _ _ none)) (none_meets find test (suc index) xs unmet (none_right _ _ none))
