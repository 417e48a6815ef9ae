-- The changes of a record are legal, and say all that is read.
use Rattle.std.proofs.Common.{◌≡◌, ◌⊎◌, inl, inr, ℕ, ◌+◌, ◌==◌, Bool, true, false, cond, List, [], ◌∷◌, ◌++◌, map, refl, sym, ap, ◌∙◌, subst, arith, Option, Some, None}
use Rattle.std.specs.Prelude.{All, IsOk, fold}
use Rattle.std.specs.Result.{result_unwrap_or}
use Rattle.std.proofs.lemmas.Bool.{and_parts, eqb-true}
use Rattle.std.proofs.lemmas.Bool.Decides.{nat_tests}
use Rattle.std.proofs.lemmas.List.Elements.{All-nil, All-cons, All-head, All-tail}
use Rattle.std.proofs.lemmas.Option.{same_Some}
use Rattle.hc_records.specs.declared.edit.Edit.{Edit}
use Rattle.hc_records.specs.declared.faults.EditFault.{EditFault}
use Rattle.hc_records.specs.declared.records.Group.{Group}
use Rattle.hc_records.specs.Lists.{lowest}
use Rattle.hc_records.specs.Line.{State, line, opened}
use Rattle.hc_records.specs.Edits.{changed, edit_faults, edited, refused_by, state_after}
use Rattle.hc_places.specs.Table.{table_of}
use Rattle.hc_events.specs.declared.change.Change.{Change}
use Rattle.hc_events.specs.declared.change.Change.TheVariants as change
use Rattle.hc_events.specs.Entries.{History, Opened, Edited, Posted, Sent, Wrote, Came, Forgot, Cleared, Unplugged}
use Rattle.hc_events.specs.Points.{epoch_of, opened_with, state_of}
use Rattle.hc_events.specs.Images.{NewAnswer, new_answer_by, is_for, renewed, slot_of}
use Rattle.hc_events.specs.Changes.{AreChangesOf, AreLegalFrom, IsAnswerIn, Update, Swapped, Answered, SwapsLeadFrom, epoch_after, updates_of, slot_after, table_after, update_in}
use Rattle.hc_events.specs.Accepted.{AreAccepted, IsInLine, just_opened}
use Rattle.hc_events.specs.UpdatesLaws.{DecidesAll, IsLastAnswer, LeadToTheSame, LeavesData, LeadsToHistory, state_after_changes}
use Rattle.hc_events.proofs.lemmas.Accepted.{StaysTrue, held-of_accepted}
use Rattle.hc_events.proofs.lemmas.Slots.{AllSent, FitsNewAnswer, new_answer-fits}

-- what updates lead to by themselves

abbrev slot_by : ℕ → ℕ → Option (List ℕ) → List Update → Option (List ℕ)
slot_by task d slot [] = slot
slot_by task d slot (Swapped edit ∷ updates) = slot_by task d None updates
slot_by task d slot (Answered good ∷ updates) = slot_by task d (renewed task d slot good) updates

abbrev state_by : State → List Update → State
state_by state [] = state
state_by state (Swapped edit ∷ updates) = state_by (state_after state edit) updates
state_by state (Answered good ∷ updates) = state_by state updates

abbrev epoch_by : ℕ → List Update → ℕ
epoch_by epoch [] = epoch
epoch_by epoch (Swapped edit ∷ updates) = epoch_by (epoch + 1) updates
epoch_by epoch (Answered good ∷ updates) = epoch_by epoch updates

-- of the whole list, then of one more piece

slot_joined : (task d : ℕ) (slot : Option (List ℕ)) (first second : List Update) → slot_by task d slot (first ++ second) ≡ slot_by task d (slot_by task d slot first) second
slot_joined task d slot [] second = refl
slot_joined task d slot (Swapped edit ∷ first) second = slot_joined task d None first second
slot_joined task d slot (Answered good ∷ first) second = slot_joined task d (renewed task d slot good) first second

state_joined : (state : State) (first second : List Update) → state_by state (first ++ second) ≡ state_by (state_by state first) second
state_joined state [] second = refl
state_joined state (Swapped edit ∷ first) second = state_joined (state_after state edit) first second
state_joined state (Answered good ∷ first) second = state_joined state first second

epoch_joined : (epoch : ℕ) (first second : List Update) → epoch_by epoch (first ++ second) ≡ epoch_by (epoch_by epoch first) second
epoch_joined epoch [] second = refl
epoch_joined epoch (Swapped edit ∷ first) second = epoch_joined (epoch + 1) first second
epoch_joined epoch (Answered good ∷ first) second = epoch_joined epoch first second

-- good answers change slots alone

slot_good_answers : (task d : ℕ) (slot : Option (List ℕ)) (good_answers : List NewAnswer) → slot_by task d slot (map Answered good_answers) ≡ fold (renewed task d) slot good_answers
slot_good_answers task d slot [] = refl
slot_good_answers task d slot (good ∷ good_answers) = slot_good_answers task d (renewed task d slot good) good_answers

state_good_answers : (state : State) (good_answers : List NewAnswer) → state_by state (map Answered good_answers) ≡ state
state_good_answers state [] = refl
state_good_answers state (good ∷ good_answers) = state_good_answers state good_answers

epoch_good_answers : (epoch : ℕ) (good_answers : List NewAnswer) → epoch_by epoch (map Answered good_answers) ≡ epoch
epoch_good_answers epoch [] = refl
epoch_good_answers epoch (good ∷ good_answers) = epoch_good_answers epoch good_answers

-- the updates of a record lead to its slots, its state and its epoch

record Follows (groups : List Group) (history : History) : Type 0 where
  pub slots : (task d : ℕ) → slot_by task d None (updates_of history) ≡ slot_of history task d
  pub state : state_by (opened groups) (updates_of history) ≡ state_of history
  pub epoch : epoch_by 0 (updates_of history) ≡ epoch_of history

follows_grows : (groups : List Group) → StaysTrue (Follows groups)
follows_grows groups history (Opened others) accepted follows = absurd accepted
follows_grows groups history (Edited edit) accepted follows = record {
  slots = λ task d. slot_joined task d None (updates_of history) (Swapped edit ∷ []);
  state = state_joined (opened groups) (updates_of history) (Swapped edit ∷ []) ∙ ap (λ state. state_after state edit) follows.state;
  epoch = epoch_joined 0 (updates_of history) (Swapped edit ∷ []) ∙ ap (λ n. n + 1) follows.epoch;
}
follows_grows groups history (Posted task bytes) accepted follows = record { slots = follows.slots; state = follows.state; epoch = follows.epoch }
follows_grows groups history (Forgot station) accepted follows = record { slots = follows.slots; state = follows.state; epoch = follows.epoch }
follows_grows groups history (Cleared station) accepted follows = record { slots = follows.slots; state = follows.state; epoch = follows.epoch }
follows_grows groups history (Unplugged station) accepted follows = record { slots = follows.slots; state = follows.state; epoch = follows.epoch }
follows_grows groups history (Sent frame) accepted follows = record { slots = follows.slots; state = follows.state; epoch = follows.epoch }
follows_grows groups history (Wrote blocks) accepted follows = record { slots = follows.slots; state = follows.state; epoch = follows.epoch }
follows_grows groups history (Came arrival) accepted follows = record {
  slots = λ task d. slot_joined task d None (updates_of history) (map Answered (new_answer_by history arrival))
      ∙ slot_good_answers task d (slot_by task d None (updates_of history)) (new_answer_by history arrival)
      ∙ ap (λ slot. fold (renewed task d) slot (new_answer_by history arrival)) (follows.slots task d);
  state = state_joined (opened groups) (updates_of history) (map Answered (new_answer_by history arrival))
      ∙ state_good_answers (state_by (opened groups) (updates_of history)) (new_answer_by history arrival) ∙ follows.state;
  epoch = epoch_joined 0 (updates_of history) (map Answered (new_answer_by history arrival))
      ∙ epoch_good_answers (epoch_by 0 (updates_of history)) (new_answer_by history arrival) ∙ follows.epoch;
}

abbrev FollowsOwn : History → Type 0
FollowsOwn history = Follows (opened_with history) history

follows_more : StaysTrue FollowsOwn
follows_more history (Opened others) accepted follows = absurd accepted
follows_more history (Edited edit) accepted follows = follows_grows (opened_with history) history (Edited edit) accepted follows
follows_more history (Posted task bytes) accepted follows = follows_grows (opened_with history) history (Posted task bytes) accepted follows
follows_more history (Forgot station) accepted follows = follows_grows (opened_with history) history (Forgot station) accepted follows
follows_more history (Cleared station) accepted follows = follows_grows (opened_with history) history (Cleared station) accepted follows
follows_more history (Unplugged station) accepted follows = follows_grows (opened_with history) history (Unplugged station) accepted follows
follows_more history (Sent frame) accepted follows = follows_grows (opened_with history) history (Sent frame) accepted follows
follows_more history (Wrote blocks) accepted follows = follows_grows (opened_with history) history (Wrote blocks) accepted follows
follows_more history (Came arrival) accepted follows = follows_grows (opened_with history) history (Came arrival) accepted follows

records-follow : (history : History) → AreAccepted history → Follows (opened_with history) history
records-follow history all =
    held-of_accepted FollowsOwn follows_more (λ groups. record { slots = λ task d. refl; state = refl; epoch = refl }) history all

-- changes lead where their updates lead

slot_answered : (task d : ℕ) (slot : Option (List ℕ)) (changes : List Change) → slot_after task d slot changes ≡ slot_by task d slot (map update_in changes)
slot_answered task d slot [] = refl
slot_answered task d slot (change.Swapped swap ∷ changes) = slot_answered task d None changes
slot_answered task d slot (change.Good good ∷ changes) = slot_answered task d (renewed task d slot good) changes

epoch_answered : (epoch : ℕ) (changes : List Change) → epoch_after epoch changes ≡ epoch_by epoch (map update_in changes)
epoch_answered epoch [] = refl
epoch_answered epoch (change.Swapped swap ∷ changes) = epoch_answered (epoch + 1) changes
epoch_answered epoch (change.Good good ∷ changes) = epoch_answered epoch changes

table_answered : (state : State) (changes : List Change) → SwapsLeadFrom state changes → table_after (table_of (line state)) changes ≡ table_of (line (state_by state (map update_in changes)))
table_answered state [] lead = refl
table_answered state (change.Swapped swap ∷ changes) lead =
    ap (λ table. table_after table changes) lead.0 ∙ table_answered (state_after state swap.edit) changes lead.1
table_answered state (change.Good good ∷ changes) lead = table_answered state changes lead

-- along a legal list the swaps lead to the next states' tables

pub legal-leads : (state : State) (changes : List Change) → AreLegalFrom state changes → SwapsLeadFrom state changes
legal-leads state [] legal = tt
legal-leads state (change.Swapped swap ∷ changes) legal = (legal.0.leads, legal-leads (state_after state swap.edit) changes legal.1)
legal-leads state (change.Good good ∷ changes) legal = legal-leads state changes legal.1

pub changes-say_all : (history : History) (changes : List Change) → AreAccepted history → AreLegalFrom (opened (opened_with history)) changes → map update_in changes ≡ updates_of history → LeadsToHistory (opened_with history) history changes
changes-say_all history changes all legal answer_given =
    let groups = opened_with history in
    let follows = records-follow history all in
    let lead = legal-leads (opened groups) changes legal in
    record {
      table = table_answered (opened groups) changes lead ∙ ap (λ updates. table_of (line (state_by (opened groups) updates))) answer_given ∙ ap (λ state. table_of (line state)) follows.state;
      epoch = epoch_answered 0 changes ∙ ap (epoch_by 0) answer_given ∙ follows.epoch;
      slots = λ task d. slot_answered task d None changes ∙ ap (slot_by task d None) answer_given ∙ follows.slots task d;
    }

pub changes-agree : (groups : List Group) (first second : List Change) → AreLegalFrom (opened groups) first → AreLegalFrom (opened groups) second → map update_in first ≡ map update_in second → LeadToTheSame groups first second
changes-agree groups first second legal legal' same = record {
  table = table_answered (opened groups) first (legal-leads (opened groups) first legal)
      ∙ ap (λ updates. table_of (line (state_by (opened groups) updates))) same
      ∙ sym (table_answered (opened groups) second (legal-leads (opened groups) second legal'));
  epoch = epoch_answered 0 first ∙ ap (epoch_by 0) same ∙ sym (epoch_answered 0 second);
  slots = λ task d. slot_answered task d None first ∙ ap (slot_by task d None) same ∙ sym (slot_answered task d None second);
}

-- what updates lead to is the last good answer in them

abbrev LastOr : ℕ → ℕ → List ℕ → Option (List ℕ) → List Update → Type 0
LastOr task d bytes slot updates = IsLastAnswer task d bytes updates ⊎ ((slot ≡ Some bytes) × All (LeavesData task d) updates)

last_later : (task d : ℕ) (bytes : List ℕ) (one : Update) (updates : List Update) → IsLastAnswer task d bytes updates → IsLastAnswer task d bytes (one ∷ updates)
last_later task d bytes one updates last = record { before = one ∷ last.before; after_it = last.after_it; split = ap (λ more. one ∷ more) last.split; leaves = last.leaves }

abbrev made : ℕ → ℕ → List ℕ → NewAnswer
made task d bytes = record { task = task; datagram = d; bytes = bytes }

made_same : (t u d e : ℕ) (bytes : List ℕ) → t ≡ u → d ≡ e → made t d bytes ≡ made u e bytes
made_same t u d e bytes task datagram = rw (task, datagram) refl

-- the datagram of a good answer
is_of : (task d : ℕ) (good : NewAnswer) → is_for task d good ≡ true → record { task = task; datagram = d; bytes = good.bytes } ≡ good
is_of task d good e =
    let parts = and_parts (good.task == task) (good.datagram == d) e in
    made_same task good.task d good.datagram good.bytes (sym (eqb-true good.task task parts.0)) (sym (eqb-true good.datagram d parts.1))

last_here : (task d : ℕ) (bytes : List ℕ) (slot : Option (List ℕ)) (good : NewAnswer) (updates : List Update) → All (LeavesData task d) updates → (own : Bool) → is_for task d good ≡ own
    → cond own (Some good.bytes) slot ≡ Some bytes → LastOr task d bytes slot (Answered good ∷ updates)
last_here task d bytes slot good updates leaves true own e =
    let one : record { task = task; datagram = d; bytes = bytes } ≡ good =
    ap (λ read. record { task = task; datagram = d; bytes = read }) (sym (same_Some good.bytes bytes e)) ∙ is_of task d good own in
    inl (record { before = []; after_it = updates; split = ap (λ g. Answered g ∷ updates) (sym one); leaves = leaves })
last_here task d bytes slot good updates leaves false own e = inr (e, All-cons (LeavesData task d) (Answered good) updates own leaves)

no_slot : (task d : ℕ) (bytes : List ℕ) (edit : Edit) (updates : List Update) → LastOr task d bytes None updates → IsLastAnswer task d bytes (Swapped edit ∷ updates)
no_slot task d bytes edit updates (inl last) = last_later task d bytes (Swapped edit) updates last
no_slot task d bytes edit updates (inr (e, leaves)) = cc

last_next : (task d : ℕ) (bytes : List ℕ) (slot : Option (List ℕ)) (good : NewAnswer) (updates : List Update) → LastOr task d bytes (renewed task d slot good) updates → LastOr task d bytes slot (Answered good ∷ updates)
last_next task d bytes slot good updates (inl last) = inl (last_later task d bytes (Answered good) updates last)
last_next task d bytes slot good updates (inr (e, leaves)) = last_here task d bytes slot good updates leaves (is_for task d good) refl e

last_of : (task d : ℕ) (bytes : List ℕ) (slot : Option (List ℕ)) (updates : List Update) → slot_by task d slot updates ≡ Some bytes → LastOr task d bytes slot updates
last_of task d bytes slot [] e = inr (e, All-nil (LeavesData task d))
last_of task d bytes slot (Swapped edit ∷ updates) e = inl (no_slot task d bytes edit updates (last_of task d bytes None updates e))
last_of task d bytes slot (Answered good ∷ updates) e = last_next task d bytes slot good updates (last_of task d bytes (renewed task d slot good) updates e)

from_none : (task d : ℕ) (bytes : List ℕ) (updates : List Update) → LastOr task d bytes None updates → IsLastAnswer task d bytes updates
from_none task d bytes updates (inl last) = last
from_none task d bytes updates (inr (e, leaves)) = cc

unchanged_slot : (task d : ℕ) (slot : Option (List ℕ)) (updates : List Update) → All (LeavesData task d) updates → slot_by task d slot updates ≡ slot
unchanged_slot task d slot [] leaves = refl
unchanged_slot task d slot (Swapped edit ∷ updates) leaves = absurd (All-head (LeavesData task d) (Swapped edit) updates leaves)
unchanged_slot task d slot (Answered good ∷ updates) leaves =
    ap (λ b. slot_by task d (cond b (Some good.bytes) slot) updates) (All-head (LeavesData task d) (Answered good) updates leaves)
    ∙ unchanged_slot task d slot updates (All-tail (LeavesData task d) (Answered good) updates leaves)

for_itself : (task d : ℕ) (bytes : List ℕ) → is_for task d (record { task = task; datagram = d; bytes = bytes }) ≡ true
for_itself task d bytes = grind (arith, nat_tests)

last_slot : (task d : ℕ) (bytes : List ℕ) (updates : List Update) → IsLastAnswer task d bytes updates → slot_by task d None updates ≡ Some bytes
last_slot task d bytes updates last =
    let good : NewAnswer = record { task = task; datagram = d; bytes = bytes } in
    ap (slot_by task d None) last.split
    ∙ slot_joined task d None last.before (Answered good ∷ last.after_it)
    ∙ ap (λ b. slot_by task d (cond b (Some bytes) (slot_by task d None last.before)) last.after_it) (for_itself task d bytes)
    ∙ unchanged_slot task d (Some bytes) last.after_it last.leaves

slots_last : (task d : ℕ) (bytes : List ℕ) (updates : List Update) (slot : Option (List ℕ)) → slot ≡ slot_by task d None updates
    → (slot ≡ Some bytes → IsLastAnswer task d bytes updates) × (IsLastAnswer task d bytes updates → slot ≡ Some bytes)
slots_last task d bytes updates slot same = (
  λ e. from_none task d bytes updates (last_of task d bytes None updates (sym same ∙ e)),
  λ last. same ∙ last_slot task d bytes updates last,
)

slot_updates : (task d : ℕ) (history : History) → slot_of history task d ≡ slot_by task d None (updates_of history)
slot_updates task d [] = refl
slot_updates task d (Opened groups ∷ history) = refl
slot_updates task d (Edited edit ∷ history) = sym (slot_joined task d None (updates_of history) (Swapped edit ∷ []))
slot_updates task d (Posted t bytes ∷ history) = slot_updates task d history
slot_updates task d (Forgot station ∷ history) = slot_updates task d history
slot_updates task d (Cleared station ∷ history) = slot_updates task d history
slot_updates task d (Unplugged station ∷ history) = slot_updates task d history
slot_updates task d (Sent frame ∷ history) = slot_updates task d history
slot_updates task d (Wrote blocks ∷ history) = slot_updates task d history
slot_updates task d (Came arrival ∷ history) =
    ap (λ slot. fold (renewed task d) slot (new_answer_by history arrival)) (slot_updates task d history)
    ∙ sym (slot_joined task d None (updates_of history) (map Answered (new_answer_by history arrival)) ∙ slot_good_answers task d (slot_by task d None (updates_of history)) (new_answer_by history arrival))

pub slots-last : (history : History) (task d : ℕ) (bytes : List ℕ) → (slot_of history task d ≡ Some bytes → IsLastAnswer task d bytes (updates_of history)) × (IsLastAnswer task d bytes (updates_of history) → slot_of history task d ≡ Some bytes)
slots-last history task d bytes = slots_last task d bytes (updates_of history) (slot_of history task d) (slot_updates task d history)

-- a legal list decides all by itself

state_answered : (state : State) (changes : List Change) → state_by state (map update_in changes) ≡ state_after_changes state changes
state_answered state [] = refl
state_answered state (change.Swapped swap ∷ changes) = state_answered (state_after state swap.edit) changes
state_answered state (change.Good good ∷ changes) = state_answered state changes

pub one-epoch : (fault : Option EditFault) (state next : State) → IsOk (refused_by fault next) → result_unwrap_or (refused_by fault next) state ≡ next
one-epoch None state next ok = refl
one-epoch (Some fault) state next ok = cc

pub epoch-legal : (state : State) (changes : List Change) → AreLegalFrom state changes → epoch_after state.epoch changes ≡ (state_after_changes state changes).epoch
epoch-legal state [] legal = refl
epoch-legal state (change.Swapped swap ∷ changes) legal =
    let next : state_after state swap.edit ≡ changed state swap.edit = one-epoch (lowest (edit_faults state swap.edit)) state (changed state swap.edit) legal.0.accepted in
    ap (λ s. epoch_after s.epoch changes) (sym next) ∙ epoch-legal (state_after state swap.edit) changes legal.1
epoch-legal state (change.Good good ∷ changes) legal = epoch-legal state changes legal.1

-- each slot is of a datagram of the state and has its length
abbrev FitsSlot : State → ℕ → ℕ → Option (List ℕ) → Type 0
FitsSlot state task d slot = (bytes : List ℕ) → slot ≡ Some bytes → IsAnswerIn state task d bytes

renewed_slot : (state : State) (task d : ℕ) (slot : Option (List ℕ)) (good : NewAnswer) (own : Bool) → is_for task d good ≡ own → IsAnswerIn state good.task good.datagram good.bytes → FitsSlot state task d slot
    → FitsSlot state task d (cond own (Some good.bytes) slot)
renewed_slot state task d slot good true own is before = λ bytes e.
    let one = is_of task d good own in
    subst (IsAnswerIn state task d) (same_Some good.bytes bytes e) (subst (λ g. IsAnswerIn state g.task g.datagram g.bytes) (sym one) is)
renewed_slot state task d slot good false own is before = before

slots_fit : (state : State) (changes : List Change) (task d : ℕ) (slot : Option (List ℕ)) → AreLegalFrom state changes → FitsSlot state task d slot → FitsSlot (state_after_changes state changes) task d (slot_after task d slot changes)
slots_fit state [] task d slot legal fit = fit
slots_fit state (change.Swapped swap ∷ changes) task d slot legal fit = slots_fit (state_after state swap.edit) changes task d None legal.1 (λ bytes e. cc)
slots_fit state (change.Good good ∷ changes) task d slot legal fit =
    slots_fit state changes task d (renewed task d slot good) legal.1 (renewed_slot state task d slot good (is_for task d good) refl legal.0 fit)

pub changes-decide : (groups : List Group) (changes : List Change) → AreLegalFrom (opened groups) changes → DecidesAll groups changes
changes-decide groups changes legal = record {
  table = table_answered (opened groups) changes (legal-leads (opened groups) changes legal) ∙ ap (λ state. table_of (line state)) (state_answered (opened groups) changes);
  epoch = epoch-legal (opened groups) changes legal;
  slots = λ task d bytes. slots_last task d bytes (map update_in changes) (slot_after task d None changes) (slot_answered task d None changes);
  fits = λ task d. slots_fit (opened groups) changes task d None legal (λ bytes e. cc);
}

-- updates are legal along the list

abbrev LegalUpdates : State → List Update → Type 0
LegalUpdates state [] = Unit {0}
LegalUpdates state (Swapped edit ∷ updates) = IsOk (edited state edit) × LegalUpdates (state_after state edit) updates
LegalUpdates state (Answered good ∷ updates) = IsAnswerIn state good.task good.datagram good.bytes × LegalUpdates state updates

legal_joined : (state : State) (first second : List Update) → LegalUpdates state first → LegalUpdates (state_by state first) second → LegalUpdates state (first ++ second)
legal_joined state [] second a b = b
legal_joined state (Swapped edit ∷ first) second a b = (a.0, legal_joined (state_after state edit) first second a.1 b)
legal_joined state (Answered good ∷ first) second a b = (a.0, legal_joined state first second a.1 b)

legal_good_answers : (state : State) (good_answers : List NewAnswer) → All (FitsNewAnswer IsInLine (line state)) good_answers → LegalUpdates state (map Answered good_answers)
legal_good_answers state [] all = tt
legal_good_answers state (good ∷ good_answers) all =
    let fit = All-head (FitsNewAnswer IsInLine (line state)) good good_answers all in
    (record { in_line = fit.1; fits = fit.0 }, legal_good_answers state good_answers (All-tail (FitsNewAnswer IsInLine (line state)) good good_answers all))

not_refused : (fault : Option EditFault) (next : State) → fault ≡ None → IsOk (refused_by fault next)
not_refused None next e = refl
not_refused (Some fault) next e = cc

record IsLegal (groups : List Group) (history : History) : Type 0 where
  follows : Follows groups history
  sent : AllSent IsInLine history
  legal : LegalUpdates (opened groups) (updates_of history)

legal_grows : (groups : List Group) → StaysTrue (IsLegal groups)
legal_grows groups history (Opened others) accepted before = absurd accepted
legal_grows groups history (Edited edit) accepted before = record {
  follows = follows_grows groups history (Edited edit) accepted before.follows;
  sent = before.sent;
  legal = legal_joined (opened groups) (updates_of history) (Swapped edit ∷ []) before.legal
      (subst (λ state. IsOk (edited state edit)) (sym before.follows.state) (not_refused (lowest (edit_faults (state_of history) edit)) (changed (state_of history) edit) accepted), tt);
}
legal_grows groups history (Posted task bytes) accepted before =
    record { follows = follows_grows groups history (Posted task bytes) accepted before.follows; sent = before.sent; legal = before.legal }
legal_grows groups history (Forgot station) accepted before =
    record { follows = follows_grows groups history (Forgot station) accepted before.follows; sent = before.sent; legal = before.legal }
legal_grows groups history (Cleared station) accepted before =
    record { follows = follows_grows groups history (Cleared station) accepted before.follows; sent = before.sent; legal = before.legal }
legal_grows groups history (Unplugged station) accepted before =
    record { follows = follows_grows groups history (Unplugged station) accepted before.follows; sent = before.sent; legal = before.legal }
legal_grows groups history (Sent frame) accepted before =
    record { follows = follows_grows groups history (Sent frame) accepted before.follows; sent = (accepted.in_line, before.sent); legal = before.legal }
legal_grows groups history (Wrote blocks) accepted before =
    record { follows = follows_grows groups history (Wrote blocks) accepted before.follows; sent = before.sent; legal = before.legal }
legal_grows groups history (Came arrival) accepted before = record {
  follows = follows_grows groups history (Came arrival) accepted before.follows;
  sent = before.sent;
  legal = legal_joined (opened groups) (updates_of history) (map Answered (new_answer_by history arrival)) before.legal
      (subst (λ state. LegalUpdates state (map Answered (new_answer_by history arrival))) (sym before.follows.state)
      (legal_good_answers (state_of history) (new_answer_by history arrival) (new_answer-fits IsInLine history arrival before.sent)));
}

legal_answered : (state : State) (changes : List Change) → LegalUpdates state (map update_in changes) → SwapsLeadFrom state changes → AreLegalFrom state changes
legal_answered state [] legal lead = tt
legal_answered state (change.Swapped swap ∷ changes) legal lead =
    (record { accepted = legal.0; leads = lead.0 }, legal_answered (state_after state swap.edit) changes legal.1 lead.1)
legal_answered state (change.Good good ∷ changes) legal lead = (legal.0, legal_answered state changes legal.1 lead)

abbrev LegalOwn : History → Type 0
LegalOwn history = IsLegal (opened_with history) history

legal_more : StaysTrue LegalOwn
legal_more history (Opened others) accepted before = absurd accepted
legal_more history (Edited edit) accepted before = legal_grows (opened_with history) history (Edited edit) accepted before
legal_more history (Posted task bytes) accepted before = legal_grows (opened_with history) history (Posted task bytes) accepted before
legal_more history (Forgot station) accepted before = legal_grows (opened_with history) history (Forgot station) accepted before
legal_more history (Cleared station) accepted before = legal_grows (opened_with history) history (Cleared station) accepted before
legal_more history (Unplugged station) accepted before = legal_grows (opened_with history) history (Unplugged station) accepted before
legal_more history (Sent frame) accepted before = legal_grows (opened_with history) history (Sent frame) accepted before
legal_more history (Wrote blocks) accepted before = legal_grows (opened_with history) history (Wrote blocks) accepted before
legal_more history (Came arrival) accepted before = legal_grows (opened_with history) history (Came arrival) accepted before

legal_opening : (groups : List Group) → LegalOwn (just_opened groups)
legal_opening groups = record { follows = record { slots = λ task d. refl; state = refl; epoch = refl }; sent = tt; legal = tt }

pub changes-are_legal : (history : History) (changes : List Change) → AreAccepted history → AreChangesOf (opened_with history) history changes → AreLegalFrom (opened (opened_with history)) changes
changes-are_legal history changes all are =
    let legal = (held-of_accepted LegalOwn legal_more legal_opening history all).legal in
    legal_answered (opened (opened_with history)) changes (subst (LegalUpdates (opened (opened_with history))) (sym are.updates) legal) are.lead
