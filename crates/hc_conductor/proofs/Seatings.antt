-- Lists that grow by what comes out of others.
use Rattle.std.proofs.Common.{◌≡◌, ℕ, List, [], ◌∷◌, ◌++◌, length, map, ◌∙◌, arith}
use Rattle.std.specs.List.{range_with_len}
use Rattle.std.proofs.lemmas.List.{length-append, map-append}
use Rattle.std.proofs.lemmas.List.FromFn.{map-range_with_len_more}
use Rattle.std.proofs.lemmas.Grind.{common_steps}

-- what came out is at the end of the one list, and what is left in the other
pub moved-on : {A B : Type 0} (f : A → B) (all more : List A) (a : A) (before left items : List B) → more ≡ all ++ a ∷ [] → before ≡ f a ∷ left → map f all ++ before ≡ items → map f more ++ left ≡ items
moved-on f all more a before left items e step i = grind (arith, common_steps)

-- each is given by its place, and so is one more
pub answer_given-on : {A : Type 0} (f : A → ℕ) (g : ℕ → ℕ) (all more : List A) (a : A) → more ≡ all ++ a ∷ [] → f a ≡ g (length all) → map f all ≡ map g (range_with_len 0 (length all)) → map f more ≡ map g (range_with_len 0 (length more))
answer_given-on f g all more a e own i = grind (arith, common_steps, map-range_with_len_more, map-append, length-append)
