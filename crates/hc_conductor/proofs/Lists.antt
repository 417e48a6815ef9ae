-- Lists of changes one after another.
use Rattle.std.proofs.Common.{◌≡◌, List, [], ◌∷◌, ◌++◌, length, map, sym, subst, ◌∙◌, ap, append_assoc}
use Rattle.std.specs.Prelude.{reverse}
use Rattle.std.proofs.lemmas.List.{append-nil, map-append, reverse-append}
use Rattle.hc_records.specs.declared.limits.TheConstants.{TASKS}
use Rattle.hc_records.specs.declared.records.Group.{Group}
use Rattle.hc_records.specs.Line.{State, opened}
use Rattle.hc_events.specs.declared.change.Change.{Change}
use Rattle.hc_events.specs.Accepted.{just_opened}
use Rattle.hc_events.specs.Changes.{AreLegal, AreLegalFrom, updates_of, update_in}
use Rattle.hc_events.specs.Entries.{History}
use Rattle.hc_events.specs.UpdatesLaws.{state_after_changes}
use Rattle.hc_events.specs.Points.{opened_with, state_of}
use Rattle.hc_events.proofs.lemmas.Views.{changes-lead_on, legal-joined, legal-parts}
use Rattle.hc_core.specs.Update.{ShowUpdates}
use Rattle.hc_conductor.specs.Conducting.{Conducting, IsConducting, all_taken, conductor_origin, conductor_pending, conductor_published}

-- the last of a list is the first of the list turned round
pub last-first : (xs items : List Change) (c : Change) → items ≡ xs ++ c ∷ [] → reverse items ≡ c ∷ reverse xs
last-first xs items c e = ap reverse e ∙ reverse-append xs (c ∷ [])

-- the front of a legal list is legal
legal-front : (groups : List Group) (first second all : List Change) → all ≡ first ++ second → AreLegal groups all → AreLegal groups first
legal-front groups first second all e legal = (legal-parts (opened groups) first second (subst (AreLegal groups) e legal)).0

-- what is published and pending, with the first that waits, is legal
pub legal-next : (groups now : List Group) (p q pend pends turned turns rest : List Change) (c : Change) → now ≡ groups → q ≡ p → pends ++ turns ≡ pend ++ turned → turns ≡ c ∷ rest
    → AreLegal groups (p ++ pend ++ turned) → AreLegal now (q ++ pends ++ c ∷ [])
legal-next groups now p q pend pends turned turns rest c same e all first legal =
    let after_it : (q ++ pends ++ c ∷ []) ++ rest ≡ q ++ (pends ++ c ∷ rest) = append_assoc (q ++ pends) (c ∷ []) rest ∙ append_assoc q pends (c ∷ rest) in
    let whole : p ++ pend ++ turned ≡ (q ++ pends ++ c ∷ []) ++ rest =
    append_assoc p pend turned ∙ (ap (λ w. p ++ w) (sym all) ∙ (ap (λ w. p ++ (pends ++ w)) first ∙ (ap (λ z. z ++ (pends ++ c ∷ rest)) (sym e) ∙ sym after_it))) in
    subst (λ (g : List Group). AreLegal g (q ++ pends ++ c ∷ [])) (sym same) (legal-front groups (q ++ pends ++ c ∷ []) rest (p ++ pend ++ turned) whole legal)

-- a legal list that gives a record's updates goes on by what is current since
pub record Says (groups : List Group) (history : History) (changes : List Change) : Type 0 where
  pub legal : AreLegal groups changes
  pub updates : map update_in changes ≡ updates_of history
  pub after_it : state_after_changes (opened groups) changes ≡ state_of history

pub says-more : (groups : List Group) (taken history : History) (before more all : List Change) → Says groups taken before → ShowUpdates taken history more → all ≡ before ++ more → Says groups history all
says-more groups taken history before more all says updates e = record {
  legal = subst (AreLegal groups) (sym e) (legal-joined (opened groups) before more says.legal (subst (λ (s : State). AreLegalFrom s more) (sym says.after_it) updates.legal));
  updates = ap (map update_in) e ∙ (map-append update_in before more ∙ (ap (λ w. w ++ map update_in more) says.updates ∙ sym updates.updates));
  after_it = ap (state_after_changes (opened groups)) e ∙ ((changes-lead_on before more).state (opened groups) ∙ (ap (λ s. state_after_changes s more) says.after_it ∙ updates.after_it));
}

-- what is published goes on by all that waits, however it is parted
pub same-all : (p q pend pends turned turns : List Change) → q ≡ p → pends ++ turns ≡ pend ++ turned → q ++ pends ++ turns ≡ p ++ pend ++ turned
same-all p q pend pends turned turns e all =
    append_assoc q pends turns ∙ (ap (λ z. z ++ (pends ++ turns)) e ∙ (ap (λ w. p ++ w) all ∙ sym (append_assoc p pend turned)))

-- a conductor is as long as its lists in a row and its core are the same
pub is_placed-same : (p q : Conducting) → IsConducting p → q.core ≡ p.core → conductor_origin q ≡ conductor_origin p → all_taken q ≡ all_taken p → q.rings ≡ p.rings → IsConducting q
is_placed-same p q i core origin all rings = record {
  groups = ap (λ o. o.groups) origin ∙ (i.groups ∙ ap (λ s. opened_with s.history) (sym core));
  legal = subst (λ (g : List Group). AreLegal g (all_taken q)) (sym (ap (λ o. o.groups) origin)) (subst (AreLegal (conductor_origin p).groups) (sym all) i.legal);
  updates = ap (map update_in) all ∙ (i.updates ∙ ap (λ s. updates_of s.taken) (sym core));
  after_it = ap (λ o. state_after_changes (opened o.groups) (all_taken q)) origin ∙ (ap (state_after_changes (opened (conductor_origin p).groups)) all ∙ (i.after_it ∙ ap (λ s. state_of s.taken) (sym core)));
  rings = ap length rings ∙ i.rings;
}

-- a conductor is at its opening
pub is_placed-opened : (c : Conducting) (groups : List Group) → c.core ≡ record { history = just_opened groups; taken = just_opened groups } → (conductor_origin c).groups ≡ groups → conductor_published c ≡ [] → conductor_pending c ≡ [] → c.waiting ≡ [] → length c.rings ≡ TASKS → IsConducting c
is_placed-opened c groups core same shown none empty rings =
    let all : all_taken c ≡ [] =
    ap (λ w. conductor_published c ++ conductor_pending c ++ w) empty ∙ (append-nil (conductor_published c ++ conductor_pending c) ∙ (ap (λ w. conductor_published c ++ w) none ∙ (append-nil (conductor_published c) ∙ shown))) in
    record {
      groups = same ∙ sym (ap (λ s. opened_with s.history) core);
      legal = subst (AreLegal (conductor_origin c).groups) (sym all) tt;
      updates = ap (map update_in) all ∙ sym (ap (λ s. updates_of s.taken) core);
      after_it = ap (state_after_changes (opened (conductor_origin c).groups)) all ∙ (ap opened same ∙ sym (ap (λ s. state_of s.taken) core));
      rings = rings;
    }
