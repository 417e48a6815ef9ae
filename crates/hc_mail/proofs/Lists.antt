-- Lists of contents and of what seats know.
use Rattle.std.proofs.Common.{◌≡◌, ◌≢◌, ℕ, zero, suc, ◌+◌, ◌%◌, ◌^◌, ◌<◌, ◌≤◌, List, [], ◌∷◌, ◌++◌, length, set, sym, refl, ap, ◌∙◌, subst, ⊎_elim, ◌⊎◌, inl, inr, arith, append_assoc, append-nil}
use Rattle.std.proofs.lemmas.List.{length-append}
use mathlib.Core.Option.{some, some-injective, some-ne-none}
use lib.ListN.{get_elem?}
use Rattle.atomic_table.proofs.Lists.{at_set}
use Rattle.hc_mail.specs.declared.letter.Letter.{Letter}
use Rattle.hc_mail.specs.declared.table.Insight.{Insight}
use Rattle.hc_mail.specs.Contents.{Kind, counted, last_after, StartsWith}
use Rattle.hc_mail.specs.Rule.{in_hand}

module _ {X : Type 0} where
  -- a fact of each seat holds after one of them learned something: of that seat, and of the others
  pub others_hold : (P : ℕ → Insight X → Type 0) (views : List (Insight X)) (seat : ℕ) (new : Insight X) → P seat new
      → ((j : ℕ) (i : Insight X) → j ≢ seat → get_elem? views j ≡ some i → P j i) → (j : ℕ) (i : Insight X) → get_elem? (set views seat new) j ≡ some i → P j i
  others_hold P views seat new mine others j i there = ⊎_elim
      (λ (here : (j ≡ seat) × (new ≡ i)). subst (λ (x : ℕ × Insight X). P x.0 x.1) (λ t. (sym here.0 t, here.1 t)) mine)
      (λ (else : (j ≢ seat) × (get_elem? views j ≡ some i)). others j i else.0 else.1)
      (at_set views seat j new i there)

  -- what is in a list with one more is of the list, or is the last
  pub at_last : (views : List (Insight X)) (last i : Insight X) (j : ℕ) → get_elem? (views ++ last ∷ []) j ≡ some i → (get_elem? views j ≡ some i) ⊎ ((j ≡ length views) × (last ≡ i))
  at_last [] last i zero there = inr (refl, some-injective last i there)
  at_last [] last i (suc j) there = absurd (some-ne-none i (sym there))
  at_last (first ∷ rest) last i zero there = inl there
  at_last (first ∷ rest) last i (suc j) there = ⊎_elim (λ (inside : get_elem? rest j ≡ some i). inl inside)
      (λ (end : (j ≡ length rest) × (last ≡ i)). let n = end.0 in inr (omega arith, end.1)) (at_last rest last i j there)

  pub last_of_one_more : (before : X) (contents : List X) (content : X) → last_after before (contents ++ content ∷ []) ≡ content
  last_of_one_more before [] content = refl
  last_of_one_more before (next ∷ rest) content = last_of_one_more next rest content

  -- the last of some does not depend on what is before them
  pub last_of_some : (one other : X) (contents : List X) → 0 < length contents → last_after one contents ≡ last_after other contents
  last_of_some one other [] has = absurd (omega (arith, has))
  last_of_some one other (next ∷ rest) has = refl

  pub one_more_starts : (all seen : List X) (content : X) → StartsWith all seen → StartsWith (all ++ content ∷ []) seen
  one_more_starts all seen content starts = (starts.0 ++ content ∷ [], ap (λ (l : List X). l ++ content ∷ []) starts.1 ∙ append_assoc seen starts.0 (content ∷ []))

  pub same_starts : (all seen : List X) → seen ≡ all → StartsWith all seen
  same_starts all seen same = ([], sym same ∙ sym (append-nil seen))

  -- what a list begins with is no longer
  pub starts_no_longer : (all seen : List X) → StartsWith all seen → length seen ≤ length all
  starts_no_longer all seen starts =
      let long : length all ≡ length seen + length starts.0 = ap (length {A = X}) starts.1 ∙ length-append seen starts.0 in omega (arith, long)

  pub one_more_is_longer : (all seen : List X) (content : X) → length seen ≤ length all → length seen < length (all ++ content ∷ [])
  one_more_is_longer all seen content less = let long : length (all ++ content ∷ []) ≡ length all + 1 = length-append all (content ∷ []) in omega (arith, long, less)

  -- one more, counted
  pub count_one_more : (count : ℕ) (seen : List X) (content : X) → count ≡ counted (length seen) → (count + 1) % 2 ^ 64 ≡ counted (length (seen ++ content ∷ []))
  count_one_more count seen content counts = let long : length (seen ++ content ∷ []) ≡ length seen + 1 = length-append seen (content ∷ []) in omega (arith, counts, long)

  -- what comes out of the slot in hand is what lies there
  pub comes_out : (kind : Kind X) (hand xs ys : List (ℕ × Letter X)) (slot other : ℕ) (there out : Letter X) → hand ≡ (slot, there) ∷ xs → hand ≡ (other, out) ∷ ys → out ≡ there
  comes_out kind hand xs ys slot other there out a b = sym (ap (in_hand kind) b) ∙ ap (in_hand kind) a
