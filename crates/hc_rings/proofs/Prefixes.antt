-- Beginnings of lists.
use Rattle.std.proofs.Common.{◌≡◌, List, [], ◌∷◌, ◌++◌, ap, sym, ◌∙◌}
use Rattle.std.proofs.lemmas.List.{append_assoc}
use mathlib.Core.List.{IsPrefix}

pub prefix_trans : {X : Type 0} (xs ys zs : List X) → IsPrefix xs ys → IsPrefix ys zs → IsPrefix xs zs
prefix_trans xs ys zs p q = (p.0 ++ q.0, sym (append_assoc xs p.0 q.0) ∙ ap (λ front. front ++ q.0) p.1 ∙ q.1)

prefix_after : {X : Type 0} (front xs ys : List X) → IsPrefix xs ys → IsPrefix (front ++ xs) (front ++ ys)
prefix_after front xs ys p = (p.0, append_assoc front xs p.0 ∙ ap (λ back. front ++ back) p.1)

-- what is known to be left is no less where its first comes out and is put after the rest
pub prefix_gathered : {X : Type 0} (rest longer known later : List X) (b : X) → longer ≡ rest ++ b ∷ [] → IsPrefix known (b ∷ later) → IsPrefix (rest ++ known) (longer ++ later)
prefix_gathered rest longer known later b put p =
    let q = prefix_after rest known (b ∷ later) p in
    (q.0, q.1 ∙ sym (ap (λ l. l ++ later) put ∙ append_assoc rest (b ∷ []) later))
