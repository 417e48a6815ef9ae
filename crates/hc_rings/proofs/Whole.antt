-- A ring whose end came.
use Rattle.std.proofs.Common.{◌≡◌, ℕ, Bool, true, false, List, [], ◌∷◌, ◌++◌, append_assoc, arith, take, refl, ap, subst, sym, ◌∙◌}
use Rattle.std.proofs.lemmas.List.{append-nil, length-append}
use Rattle.std.proofs.Math.Seq.{take-append_seam}
use Rattle.hc_rings.specs.Post.{Post}
use Rattle.hc_rings.specs.declared.item.Item.{Item}
use Rattle.hc_rings.specs.Items.{all_but, posts_of, is_open, items_of}
use Rattle.hc_rings.proofs.Items.{posts_of_items, is_open_items, is_open_posts}

-- who has met the end knows it
pub ended_is : (items : List Item) (posts : List Post) (ended : Bool) → items ≡ items_of (posts_of items) ended → items ≡ items_of posts true → ended ≡ true
ended_is items posts true came all = refl
ended_is items posts false came all =
    let e : is_open (items_of posts true) ≡ true = ap is_open (sym all ∙ came) ∙ is_open_posts (posts_of items) in
    let no = is_open_items posts true e in absurd (cc)

-- all that was posted is all that came
pub posts_are : (items : List Item) (posts : List Post) → items ≡ items_of posts true → posts_of items ≡ posts
posts_are items posts all = ap posts_of all ∙ posts_of_items posts true

-- after the end, what was taken and what is left is all that came
pub whole : (taken rest posts : List Post) (known : List Item) → taken ++ rest ≡ posts → known ≡ [] → taken ++ (rest ++ posts_of known) ≡ posts
whole taken rest posts known order none = ap (λ k. taken ++ (rest ++ posts_of k)) none ∙ ap (λ xs. taken ++ xs) (append-nil rest) ∙ order

-- the posts before the last of some
pub before_rest : (front rest all : List Post) → front ++ rest ≡ all → all_but rest all ≡ front
before_rest front rest all split = let size = length-append front rest in subst (λ (posts : List Post). all_but rest posts ≡ front) split
    (subst (λ (n : ℕ). take n (front ++ rest) ≡ front) (omega arith) (take-append_seam front rest))

-- the same, and the rest after them
pub rest_after : (front rest all : List Post) → front ++ rest ≡ all → all_but rest all ++ rest ≡ all
rest_after front rest all split = ap (λ posts. posts ++ rest) (before_rest front rest all split) ∙ split

-- where the first of the rest is taken
module _ (all rest : List Post) (post : Post) (split : all_but (post ∷ rest) all ++ post ∷ rest ≡ all) where
  longer : (all_but (post ∷ rest) all ++ post ∷ []) ++ rest ≡ all
  longer = append_assoc (all_but (post ∷ rest) all) (post ∷ []) rest ∙ split

  pub still_split : all_but rest all ++ rest ≡ all
  still_split = rest_after (all_but (post ∷ rest) all ++ post ∷ []) rest all longer

-- where one more comes out, after the rest
module _ (all rest : List Post) (post : Post) (split : all_but rest all ++ rest ≡ all) where
  one_more : all_but rest all ++ (rest ++ post ∷ []) ≡ all ++ post ∷ []
  one_more = sym (append_assoc (all_but rest all) rest (post ∷ [])) ∙ ap (λ posts. posts ++ post ∷ []) split

  pub none_taken : all_but (rest ++ post ∷ []) (all ++ post ∷ []) ≡ all_but rest all
  none_taken = before_rest (all_but rest all) (rest ++ post ∷ []) (all ++ post ∷ []) one_more
