-- A publisher is given a plan's swaps.
use Rattle.std.proofs.Common.{◌≡◌, List, [], ◌∷◌, ◌++◌, sym, ap, subst, ◌∙◌, append_assoc}
use Rattle.std.specs.Prelude.{IsOk, Ok}
use Rattle.std.specs.Result.{is_ok, result_unwrap_or}
use Rattle.hc_records.specs.declared.edit.Edit.{Edit}
use Rattle.hc_records.specs.Edits.{edited, state_after}
use Rattle.hc_places.specs.Swap.{Swap, swapped}
use Rattle.hc_places.specs.Table.{table_of}
use Rattle.hc_events.specs.declared.change.Change.TheVariants as change
use Rattle.hc_records.specs.declared.records.Group.{Group}
use Rattle.hc_records.specs.Line.{State, line, opened}
use Rattle.hc_events.specs.declared.change.Change.{Change}
use Rattle.hc_events.specs.Changes.{AreLegal, AreLegalFrom}
use Rattle.hc_events.specs.UpdatesLaws.{state_after_changes}
use Rattle.hc_events.proofs.lemmas.Views.{changes-lead_on, legal-joined}
use Rattle.hc_publish.specs.PublishedState.{PublishedState, origin_of, pending, published}
use Rattle.worked_views.specs.Lines.{LeadsTo}

-- one change more
pub legal_on : (groups : List Group) (changes : List Change) (change : Change) (old : State) → AreLegal groups changes → state_after_changes (opened groups) changes ≡ old → AreLegalFrom old (change ∷ [])
    → AreLegal groups (changes ++ change ∷ [])
legal_on groups changes change old legal leads one =
    legal-joined (opened groups) changes (change ∷ []) legal (subst (λ s. AreLegalFrom s (change ∷ [])) (sym leads) one)

leads_on : (groups : List Group) (changes : List Change) (change : Change) (old : State) → state_after_changes (opened groups) changes ≡ old
    → state_after_changes (opened groups) (changes ++ change ∷ []) ≡ state_after_changes old (change ∷ [])
leads_on groups changes change old leads =
    (changes-lead_on changes (change ∷ [])).state (opened groups) ∙ ap (λ s. state_after_changes s (change ∷ [])) leads

-- the swap of an accepted edit is legal, and leads to the state that the edit leaves
after : (old new : State) (swap : Swap) (edit : Edit) → edited old edit ≡ Ok new → swap.edit ≡ edit → state_after old swap.edit ≡ new
after old new swap edit done named = ap (λ e. state_after old e) named ∙ ap (λ r. result_unwrap_or r old) done

pub swap_is_legal : (old new : State) (swap : Swap) (edit : Edit) → edited old edit ≡ Ok new → swap.edit ≡ edit → swapped swap.change (table_of (line old)) ≡ table_of (line new)
    → AreLegalFrom old (change.Swapped swap ∷ [])
swap_is_legal old new swap edit done named leads =
    let accepted : IsOk (edited old swap.edit) = ap (λ e. is_ok (edited old e)) named ∙ ap is_ok done in
    (record { accepted = accepted; leads = leads ∙ ap (λ s. table_of (line s)) (sym (after old new swap edit done named)) }, tt)

pub swap_leads : (old new : State) (swap : Swap) (edit : Edit) → edited old edit ≡ Ok new → swap.edit ≡ edit → state_after_changes old (change.Swapped swap ∷ []) ≡ new
swap_leads old new swap edit done named = after old new swap edit done named

pub leads_next : (p q : PublishedState) (change : Change) (old new : State) → LeadsTo p old → origin_of q ≡ origin_of p → published q ++ pending q ≡ published p ++ pending p ++ change ∷ []
    → AreLegalFrom old (change ∷ []) → state_after_changes old (change ∷ []) ≡ new → LeadsTo q new
leads_next p q change old new h origin all one next =
    let groups = (origin_of p).groups in
    let changes = published p ++ pending p in
    record {
      legal = subst (λ o. AreLegal o.groups (published q ++ pending q)) (sym origin) (subst (AreLegal groups) (sym all) (legal_on groups changes change old h.legal h.leads one));
      leads = ap (λ o. state_after_changes (opened o.groups) (published q ++ pending q)) origin ∙ (ap (state_after_changes (opened groups)) all ∙ (leads_on groups changes change old h.leads ∙ next));
    }

-- all that a publisher has after an append
pub all_appended : (p a : PublishedState) (change : Change) → published a ≡ published p → pending a ≡ pending p ++ change ∷ []
    → published a ++ pending a ≡ published p ++ pending p ++ change ∷ []
all_appended p a change same grown =
    let joined : published a ++ pending a ≡ published p ++ (pending p ++ change ∷ []) = cc (same, grown) in
    joined ∙ sym (append_assoc (published p) (pending p) (change ∷ []))
