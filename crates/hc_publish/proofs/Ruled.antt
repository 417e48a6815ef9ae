-- Steps of the publisher and the seats keep the rule of the copies.
use Rattle.std.proofs.Common.{Bool, true, suc, length-append, ◌⊎◌, inl, inr, MatchResult, Result, Ok, Err, ◌≡◌, ◌≢◌, ℕ, ◌<◌, false, arith, length, List, [], ◌∷◌, ◌++◌, fold, set, refl, ap, sym, subst, ◌∙◌, ⊎_elim, append_assoc}
use Rattle.std.specs.Result.{is_err}
use Rattle.std.proofs.lemmas.List.{append-nil}
use mathlib.Core.Option.{some}
use lib.ListN.{get_elem?}
use Rattle.logbook.specs.Pages.{Book}
use Rattle.crossbeam_utils.specs.Register.{Admits, TurnsAt, Forks, Merges}
use Rattle.atomic_table.proofs.Lists.{at_set, at_snoc}
use Rattle.hc_records.specs.declared.records.Group.{Group}
use Rattle.hc_events.specs.declared.change.Change.{Change}
use Rattle.hc_events.specs.Changes.{AreLegal}
use Rattle.hc_publish.specs.ChangesSince.{ChangesSince}
use Rattle.hc_publish.specs.declared.absorb.Step.{Step}
use Rattle.hc_publish.specs.declared.absorb.Step.TheVariants.{Changed, Sealed}
use Rattle.hc_publish.specs.Stories.{Story}
use Rattle.hc_publish.specs.PublicationLog.{Extends, TheSeen, top}
use Rattle.hc_publish.specs.Rule.{publication_logs, copy_after, AreFew, changes_in, seals_in, after_steps, Bound, IsSealed, CopyIsSealed, Sees}
use Rattle.hc_publish.proofs.Rising.{extends_more}

bound_same : (v : List TheSeen) (x y : Story) → Bound v x → x.token.book ≡ y.token.book → Bound v y
bound_same [] x y a e = tt
bound_same (s ∷ v) x y a e = (a.0 ∙ e, bound_same v x y a.1 e)

bound-append : (v w : List TheSeen) (x : Story) → Bound v x → Bound w x → Bound (v ++ w) x
bound-append [] w x a b = b
bound-append (s ∷ v) w x a b = (a.0, bound-append v w x a.1 b)

pub admits : Admits CopyIsSealed []
admits x views h = (h.0, (λ seat v at. ⊎_elim (h.1 seat v) (λ (e : [] ≡ v). subst (λ z. Bound z x) e tt) (at_snoc views [] v seat at)))

-- a sealed copy of the same book
goes : (seat : ℕ) (v : List TheSeen) (x y : Story) → x.token.book ≡ y.token.book → (IsSealed x → IsSealed y) → TurnsAt CopyIsSealed seat v x y Sees
goes seat v x y publication_log seals views h at = (
  y.token ∷ [],
  (
    seals h.0,
    (λ j u e. ⊎_elim (λ (t : (j ≡ seat) × (y.token ∷ [] ≡ u)). subst (λ z. Bound z y) t.1 (refl, tt))
        (λ (t : (j ≢ seat) × (get_elem? views j ≡ some u)). bound_same u x y (h.1 j u t.1) publication_log) (at_set views seat j (y.token ∷ []) u e)),
  ),
  (refl, bound_same v x y (h.1 seat v at) publication_log, seals h.0),
)

set_bound : (x : Story) (views : List (List TheSeen)) (seat : ℕ) (v : List TheSeen) → ((j : ℕ) (u : List TheSeen) → get_elem? views j ≡ some u → Bound u x) → Bound v x
    → (j : ℕ) (u : List TheSeen) → get_elem? (set views seat v) j ≡ some u → Bound u x
set_bound x views seat v h b j u e =
    ⊎_elim (λ (t : (j ≡ seat) × (v ≡ u)). subst (λ z. Bound z x) t.1 b) (λ (t : (j ≢ seat) × (get_elem? views j ≡ some u)). h j u t.1) (at_set views seat j v u e)

pub forks : (seat : ℕ) (v : List TheSeen) → Forks CopyIsSealed seat v v v
forks seat v x views h at =
    (h.0, (λ j u e. ⊎_elim (set_bound x views seat v h.1 (h.1 seat v at) j u) (λ (same : v ≡ u). subst (λ z. Bound z x) same (h.1 seat v at)) (at_snoc (set views seat v) v u j e)))

pub merges : (seat : ℕ) (v : List TheSeen) (other : ℕ) (w : List TheSeen) → Merges CopyIsSealed seat v other w (v ++ w) []
merges seat v other w x views h at apart there =
    let a : Bound v x = h.1 seat v at in
    let b : Bound w x = ⊎_elim (λ (t : (other ≡ seat) × (v ++ w ≡ w)). absurd (apart t.0)) (λ (t : (other ≢ seat) × (get_elem? views other ≡ some w)). h.1 other w t.1) (at_set views seat other (v ++ w) w there) in
    (h.0, set_bound x (set views seat (v ++ w)) other [] (set_bound x views seat (v ++ w) h.1 (bound-append v w x a b)) tt)

pub stays : (seat : ℕ) (v : List TheSeen) (x : Story) → TurnsAt CopyIsSealed seat v x x Sees
stays seat v x = goes seat v x x refl (λ h. h)

pub changes-append : (xs ys : List Step) → changes_in (xs ++ ys) ≡ changes_in xs ++ changes_in ys
changes-append [] ys = refl
changes-append (Changed c ∷ xs) ys = ap (λ z. c ∷ z) (changes-append xs ys)
changes-append (Sealed f ∷ xs) ys = changes-append xs ys

-- the seals after an append of a change
seals-append : (xs : List Step) (c : Change) → seals_in (xs ++ Changed c ∷ []) ≡ seals_in xs
seals-append [] c = refl
seals-append (Changed d ∷ xs) c = seals-append xs c
seals-append (Sealed f ∷ xs) c = ap suc (seals-append xs c)

-- and of a seal
seals-more : (xs : List Step) (f : TheSeen) → seals_in (xs ++ Sealed f ∷ []) ≡ suc (seals_in xs)
seals-more [] f = refl
seals-more (Changed d ∷ xs) f = seals-more xs f
seals-more (Sealed g ∷ xs) f = ap suc (seals-more xs f)

grows : (old new : List Step) (c : Change) → new ≡ old ++ Changed c ∷ [] → length (changes_in new) ≡ suc (length (changes_in old))
grows old new c e =
    let is = ap (λ z. length (changes_in z)) e ∙ ap length (changes-append old (Changed c ∷ [])) in
    omega (arith, is, length-append (changes_in old) (c ∷ []))

-- the seals are few after a change
pub few_grown : (sealed : Bool) (old new : List Step) (c : Change) → new ≡ old ++ Changed c ∷ [] → AreFew sealed old → AreFew false new
few_grown true old new c e h = omega (arith, ap seals_in e ∙ seals-append old c, grows old new c e, h)
few_grown false old new c e h = omega (arith, ap seals_in e ∙ seals-append old c, grows old new c e, h)

-- and after the first seal since
pub few_sealed : (old new : List Step) (f : TheSeen) → new ≡ old ++ Sealed f ∷ [] → AreFew false old → AreFew true new
few_sealed old new f e h =
    let same = ap (λ z. length (changes_in z)) e ∙ ap length (changes-append old (Sealed f ∷ []) ∙ append-nil (changes_in old)) in
    omega (arith, ap seals_in e ∙ seals-more old f, same, h)

-- what is shown after some steps
pub fold_shown : (s : Story) (steps : List Step) → (fold copy_after s steps).shown ≡ after_steps s.shown steps
fold_shown s [] = ap (λ z. record { groups = s.shown.groups; changes = z }) (sym (append-nil s.shown.changes))
fold_shown s (Changed c ∷ steps) =
    fold_shown (copy_after s (Changed c)) steps ∙ ap (λ z. record { groups = s.shown.groups; changes = z }) (append_assoc s.shown.changes (c ∷ []) (changes_in steps))
fold_shown s (Sealed f ∷ steps) = fold_shown (copy_after s (Sealed f)) steps

-- the token after some steps and a seal
fold_seal : (s : Story) (steps : List Step) (f : TheSeen) → (fold copy_after s (steps ++ Sealed f ∷ [])).token ≡ f
fold_seal s [] f = refl
fold_seal s (Changed c ∷ steps) f = fold_seal (copy_after s (Changed c)) steps f
fold_seal s (Sealed g ∷ steps) f = fold_seal (copy_after s (Sealed g)) steps f

-- a thread that knows one book knows the copy's
pub one_publication_log : (v : List TheSeen) (b : Book) (x : Story) → publication_logs v ≡ b ∷ [] → Bound v x → x.token.book ≡ b
one_publication_log [] b x e k = absurd (cc e)
one_publication_log (s ∷ v) b x e k = cc (e, k.0)

-- what an append of a change leaves among the pending changes
pub appended : (r : Result (Unit {0}) Step) (old new : List Step) (c : Change) → MatchResult r (λ _. new ≡ old ++ Changed c ∷ []) (λ x. (x ≡ Changed c) × (new ≡ old))
    → (changes_in new ≡ changes_in old ++ c ∷ []) ⊎ (changes_in new ≡ changes_in old)
appended (Ok u) old new c h = inl (ap changes_in h ∙ changes-append old (Changed c ∷ []))
appended (Err x) old new c h = inr (ap changes_in h.1)

-- and of a seal
pub append_sealed : (r : Result (Unit {0}) Step) (old new : List Step) (f : TheSeen) → MatchResult r (λ _. new ≡ old ++ Sealed f ∷ []) (λ x. (x ≡ Sealed f) × (new ≡ old)) → changes_in new ≡ changes_in old
append_sealed (Ok u) old new f h = ap changes_in h ∙ (changes-append old (Sealed f ∷ []) ∙ append-nil (changes_in old))
append_sealed (Err x) old new f h = ap changes_in h.1

-- the legality of all, kept by an append or by its refusal
pub stays_legal : (groups : List Group) (shown old new : List Change) (c : Change) → (new ≡ old ++ c ∷ []) ⊎ (new ≡ old) → AreLegal groups (shown ++ old) → AreLegal groups (shown ++ old ++ c ∷ [])
    → AreLegal groups (shown ++ new)
stays_legal groups shown old new c e legal more =
    ⊎_elim (λ (t : new ≡ old ++ c ∷ []). subst (AreLegal groups) (append_assoc shown old (c ∷ []) ∙ ap (λ z. shown ++ z) (sym t)) more)
    (λ (t : new ≡ old). subst (λ z. AreLegal groups (shown ++ z)) (sym t) legal) e

-- so is what all begins with
pub stays_begun : (x s : ChangesSince) (old new : List Step) (c : Change) → (changes_in new ≡ changes_in old ++ c ∷ []) ⊎ (changes_in new ≡ changes_in old)
    → Extends x (after_steps s old) → Extends x (after_steps s new)
stays_begun x s old new c e b =
    ⊎_elim
    (λ (t : changes_in new ≡ changes_in old ++ c ∷ []). extends_more x (after_steps s old) (after_steps s new) b refl (c ∷ [], append_assoc s.changes (changes_in old) (c ∷ []) ∙ ap (λ z. s.changes ++ z) (sym t)))
    (λ (t : changes_in new ≡ changes_in old). subst (λ z. Extends x (record { groups = s.groups; changes = s.changes ++ z })) (sym t) b) e

-- the copy that has all steps; the last one seals all that is shown then
pub seals : (seat : ℕ) (v : List TheSeen) (x y : Story) (s : TheSeen) (steps front : List Step) → steps ≡ front ++ Sealed s ∷ [] → x.token.book ≡ s.book → top s.log ≡ after_steps x.shown steps
    → AreLegal x.shown.groups (x.shown.changes ++ changes_in steps) → y ≡ fold copy_after x steps → TurnsAt CopyIsSealed seat v x y Sees
seals seat v x y s steps front ends publication_log last legal e =
    let list : y.shown ≡ after_steps x.shown steps = ap (λ z. z.shown) e ∙ fold_shown x steps in
    let token : y.token ≡ s = ap (λ z. z.token) e ∙ (ap (λ z. (fold copy_after x z).token) ends ∙ fold_seal x front s) in
    goes seat v x y (publication_log ∙ ap (λ z. z.book) (sym token)) (λ h. (ap (λ z. top z.log) token ∙ (last ∙ sym list), subst (λ z. AreLegal z.groups z.changes) (sym list) legal))

-- what the copy then shows, and its token
pub sealed_shown : (x y : Story) (steps : List Step) → y ≡ fold copy_after x steps → y.shown ≡ after_steps x.shown steps
sealed_shown x y steps e = ap (λ z. z.shown) e ∙ fold_shown x steps

pub sealed_token : (x y : Story) (steps front : List Step) (s : TheSeen) → steps ≡ front ++ Sealed s ∷ [] → y ≡ fold copy_after x steps → y.token ≡ s
sealed_token x y steps front s ends e = ap (λ z. z.token) e ∙ (ap (λ z. (fold copy_after x z).token) ends ∙ fold_seal x front s)

-- nothing was pending
pub shows_again : (seat : ℕ) (v : List TheSeen) (x y : Story) (steps : List Step) → steps ≡ [] → IsSealed x → y ≡ fold copy_after x steps → TurnsAt CopyIsSealed seat v x y Sees
shows_again seat v x y steps none h e =
    let same : y ≡ x = e ∙ ap (λ z. fold copy_after x z) none in
    goes seat v x y (sym (ap (λ z. z.token.book) same)) (λ k. subst IsSealed (sym same) k)

-- what holds of a result that is no error
pub of_ok : {A E P : Type 0} (Q : Type 0) (r : Result A E) → false ≡ is_err r → MatchResult r (λ _. P) (λ _. Q) → P
of_ok Q (Ok a) e h = h
of_ok Q (Err x) e h = absurd (cc e)

-- no step, no change
pub none_in : (steps : List Step) → ¬ (0 < length steps) → changes_in steps ≡ []
none_in [] none = refl
none_in (x ∷ steps) none = absurd (none (omega arith))
