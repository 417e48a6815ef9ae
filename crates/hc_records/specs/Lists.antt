-- Words on lists that the definitions share.
use Rattle.std.specs.Prelude.{ℕ, zero, suc, ◌==◌, ◌||◌, Bool, false, if◌then◌else◌, List, [], ◌∷◌, Option, Some, None}
use Rattle.std.specs.List.{list_any}

-- two members of the list, an earlier and a later one, are so related
abbrev pub some_pair : {X : Type 0} → (X → X → Bool) → List X → Bool
some_pair related [] = false
some_pair related (x ∷ xs) = list_any (related x) xs || some_pair related xs

-- a number is twice in the list
abbrev pub has_repeat : List ℕ → Bool
has_repeat = some_pair (λ x y. y == x)

-- the list with its element at an index changed; unchanged if there is none
abbrev pub changed_at : {X : Type 0} → ℕ → (X → X) → List X → List X
changed_at index change [] = []
changed_at zero change (x ∷ xs) = change x ∷ xs
changed_at (suc index) change (x ∷ xs) = x ∷ changed_at index change xs

-- the first of a list of faults whose condition holds
abbrev pub lowest : {F : Type 0} → List (Bool × F) → Option F
lowest [] = None
lowest (judged ∷ rest) = if judged.0 then Some judged.1 else lowest rest
