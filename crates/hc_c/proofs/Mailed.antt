-- What the ends of mailboxes say of each other.
use Rattle.std.proofs.Common.{◌≡◌, ◌<◌, List, [], ◌∷◌, ◌++◌, length, refl, ap, ◌∙◌, arith, append-nil}
use Rattle.std.proofs.lemmas.List.{length-append}
use Rattle.hc_mail.specs.Contents.{StartsWith, last_after}

module _ {X : Type 0} where
  none_more : (rest : List X) → length rest ≡ 0 → rest ≡ []
  none_more [] none = refl
  none_more (first ∷ rest) none = absurd (omega (arith, none))

  -- two lists that begin with each other are the same
  pub both-begin : (one other : List X) → StartsWith one other → StartsWith other one → one ≡ other
  both-begin one other a b =
      let long = ap (length {A = X}) a.1 ∙ length-append other a.0 in let back = ap (length {A = X}) b.1 ∙ length-append one b.0 in
      a.1 ∙ (ap (λ (rest : List X). other ++ rest) (none_more a.0 (omega (arith, long, back))) ∙ append-nil other)

  -- a longer list that begins with another has some more
  pub some-more : (old new : List X) → StartsWith new old → length old < length new → (first : X) × (rest : List X) × (new ≡ old ++ first ∷ rest)
  some-more old new ([], starts) longer = let same = ap (length {A = X}) starts ∙ length-append old [] in absurd (omega (arith, same, longer))
  some-more old new (first ∷ rest, starts) longer = (first, rest, starts)

  -- the last of some and some more is the last of these
  pub last-of-more : (before : X) (old : List X) (first : X) (rest : List X) → last_after before (old ++ first ∷ rest) ≡ last_after first rest
  last-of-more before [] first rest = refl
  last-of-more before (next ∷ old) first rest = last-of-more next old first rest

  -- the last of some and one more is that one
  pub last-of-one-more : (before : X) (old : List X) (last : X) → last_after before (old ++ last ∷ []) ≡ last
  last-of-one-more before old last = last-of-more before old last []
