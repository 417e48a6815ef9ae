-- The texts of numbered things, one after another.
use Rattle.std.proofs.Common.{◌≡◌, ◌<◌, ℕ, ◌+◌, List, [], ◌∷◌, ◌++◌, get_or, length, map, take, sym, ◌∙◌, ap, append-nil, append_assoc, arith}
use Rattle.std.specs.List.{flat_map, range_with_len}
use Rattle.std.proofs.lemmas.Grind.{flat_map-append, common_steps}
use Rattle.std.proofs.lemmas.List.FromFn.{map-range_with_len_more}
use Rattle.std.proofs.lemmas.List.Folds.{flat_map-map}

numbered_more : (f : ℕ → List ℕ) (n : ℕ) → flat_map f (range_with_len 0 (n + 1)) ≡ flat_map f (range_with_len 0 n) ++ f n
numbered_more f n =
    sym (flat_map-map f (λ m. m) (range_with_len 0 (n + 1)))
    ∙ ap (flat_map f) (map-range_with_len_more (λ m. m) 0 n n (omega arith))
    ∙ flat_map-append f (map (λ m. m) (range_with_len 0 n)) (n ∷ [])
    ∙ ap (λ front. front ++ flat_map f (n ∷ [])) (flat_map-map f (λ m. m) (range_with_len 0 n))
    ∙ ap (λ back. flat_map f (range_with_len 0 n) ++ back) (append-nil (f n))

-- a text that grows by the next of them
pub one_more : (f : ℕ → List ℕ) (n : ℕ) (old now new : List ℕ) → now ≡ old ++ flat_map f (range_with_len 0 n) → new ≡ now ++ f n
    → new ≡ old ++ flat_map f (range_with_len 0 (n + 1))
one_more f n old now new before step =
    step
    ∙ ap (λ text. text ++ f n) before
    ∙ append_assoc old (flat_map f (range_with_len 0 n)) (f n)
    ∙ ap (λ text. old ++ text) (sym (numbered_more f n))

-- a text that grows by the text of the next thing
pub next_text : {X : Type 0} (f : X → List ℕ) (xs : List X) (i : ℕ) (d : X) (old now new : List ℕ) → i < length xs
    → now ≡ old ++ flat_map f (take i xs) → new ≡ now ++ f (get_or xs i d) → new ≡ old ++ flat_map f (take (i + 1) xs)
next_text f xs i d old now new within before step = grind (arith, common_steps)
