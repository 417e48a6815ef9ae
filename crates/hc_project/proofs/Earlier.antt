-- A number that isn't among those before has no place there.
use Rattle.std.proofs.Common.{◌≡◌, Bool, true, false, cond, find, List, [], ◌∷◌, Option, Some, None, refl}
use Rattle.std.specs.List.{list_any}
use Rattle.std.proofs.lemmas.Bool.{or_parts}

found_none : {X : Type 0} (test : Bool) (x : X) (rest : Option X) → test ≡ false → rest ≡ None → cond test (Some x) rest ≡ None
found_none true x rest unmet none = cc
found_none false x rest unmet none = none

pub none_found : {X : Type 0} (test : X → Bool) (list : List X) → list_any test list ≡ false → find test list ≡ None
none_found test [] none = refl
none_found test (x ∷ list) none =
    let parts = or_parts (test x) (list_any test list) none in
    found_none (test x) x (find test list) parts.0 (none_found test list parts.1)
