-- What is true of a seat in its role stays true while the layout stays as far as the seat knows it.
use Rattle.std.proofs.Common.{◌≡◌, ◌<◌, ℕ, List, length, sym, ◌∙◌, subst}
use lib.ListN.{get_elem?}
use Rattle.hc_mail.specs.declared.table.Role.{Role}
use Rattle.hc_mail.specs.declared.table.Role.TheVariants.{Rests, Opens, Enters, Sends, Waits, Looks, Takes}
use Rattle.hc_mail.specs.Rule.{HomeSlots, Layout, Plays, SawAll}

module _ {X : Type 0} (p p' : Layout X) (slots slots' : HomeSlots X) (seat : ℕ) where
  -- what the sender knows of the layout is as before
  abbrev pub OwnerKeeps : Type 0
  OwnerKeeps = seat ≡ p.sender → (p'.sender ≡ p.sender) × (p'.all ≡ p.all) × (p'.own ≡ p.own) × (get_elem? slots' p.own ≡ get_elem? slots p.own)

  -- what the receiver knows of the layout, after it saw some contents, is as before
  abbrev pub TaskKeeps : List X → Type 0
  TaskKeeps seen = SawAll p slots seat seen → SawAll p' slots' seat seen × (p.newer ≡ 1 → p'.newer ≡ 1) × (p'.shown ≡ p.shown) × (get_elem? slots' p.shown ≡ get_elem? slots p.shown)

  pub plays_on : (role : Role) (seen : List X) → OwnerKeeps → TaskKeeps seen → Plays p slots seat role seen → Plays p' slots' seat role seen
  plays_on Rests seen owner task plays = tt
  plays_on Opens seen owner task plays = let o = owner plays.0.0 in let t = task plays.1 in (
    (plays.0.0 ∙ sym o.0, plays.0.1 ∙ sym o.1),
    t.0,
    (plays.2.0, subst (λ (i : ℕ). get_elem? slots' i ≡ get_elem? slots i) plays.4 o.3 ∙ plays.2.1),
    (plays.3.0, subst (λ (i : ℕ). get_elem? slots' i ≡ get_elem? slots i) plays.5 t.3 ∙ plays.3.1),
    o.2 ∙ plays.4,
    t.2 ∙ plays.5,
  )
  plays_on Enters seen owner task plays = let o = owner plays.0.0 in
      ((plays.0.0 ∙ sym o.0, plays.0.1 ∙ sym o.1), (plays.1.0, subst (λ (i : ℕ). get_elem? slots' i ≡ get_elem? slots i) plays.2 o.3 ∙ plays.1.1), o.2 ∙ plays.2)
  plays_on (Sends slot) seen owner task plays = let o = owner plays.0.0 in ((plays.0.0 ∙ sym o.0, plays.0.1 ∙ sym o.1), plays.1 ∙ sym o.2)
  plays_on Waits seen owner task plays = let t = task plays.0 in
      (t.0, (plays.1.0, subst (λ (i : ℕ). get_elem? slots' i ≡ get_elem? slots i) plays.2 t.3 ∙ plays.1.1), t.2 ∙ plays.2)
  plays_on (Looks slot) seen owner task plays = let t = task plays.0 in (t.0, plays.1 ∙ sym t.2)
  plays_on (Takes slot) seen owner task plays = let t = task plays.0 in (t.0, plays.1 ∙ sym t.2, t.1 plays.2)
