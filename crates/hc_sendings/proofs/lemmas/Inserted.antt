-- A list with one more element in it.
use Rattle.std.proofs.Common.{List, [], ◌∷◌, ◌++◌}
use Rattle.std.specs.Prelude.{All, AllPairs}
use Rattle.std.proofs.lemmas.List.Elements.{All-append, All-cons, All-head, All-nil, All-tail}
use Rattle.std.proofs.lemmas.List.Kept.{AllPairs-cons}
use Rattle.hc_records.proofs.lemmas.Lists.{All-append_right, AllPairs-head, AllPairs-tail}

pub All-append_left : {X : Type 0} (P : X → Type 0) (xs ys : List X) → All P (xs ++ ys) → All P xs
All-append_left P [] ys all = All-nil P
All-append_left P (x ∷ xs) ys all = All-cons P x xs (All-head P x (xs ++ ys) all) (All-append_left P xs ys (All-tail P x (xs ++ ys) all))

pub all-more : {X : Type 0} (P : X → Type 0) (xs ys : List X) (more : X) → All P (xs ++ ys) → P more → All P (xs ++ more ∷ ys)
all-more P xs ys more all one = All-append P xs (more ∷ ys) (All-append_left P xs ys all) (All-cons P more ys one (All-append_right P xs ys all))

pub pairs-more : {X : Type 0} (R : X → X → Type 0) (xs ys : List X) (more : X) → AllPairs R (xs ++ ys) → All (λ x. R x more) xs → All (R more) ys → AllPairs R (xs ++ more ∷ ys)
pairs-more R [] ys more pairs before later = AllPairs-cons R more ys later pairs
pairs-more R (x ∷ xs) ys more pairs before later =
    AllPairs-cons R x (xs ++ more ∷ ys)
    (all-more (R x) xs ys more (AllPairs-head R x (xs ++ ys) pairs) (All-head (λ y. R y more) x xs before))
    (pairs-more R xs ys more (AllPairs-tail R x (xs ++ ys) pairs) (All-tail (λ y. R y more) x xs before) later)
