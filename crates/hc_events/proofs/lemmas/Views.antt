-- Lists of changes one after another, and what they show.
use Rattle.std.proofs.Common.{◌≡◌, ℕ, zero, suc, ◌+◌, ◌<◌, ◌≤◌, ◌==◌, Bool, true, false, List, [], ◌∷◌, ◌++◌, length, map, refl, sym, ap, ◌∙◌, subst, arith, Option, Some, None}
use Rattle.std.specs.Prelude.{IsOk, is_some, unwrap_or}
use Rattle.std.specs.List.{range_with_len}
use Rattle.std.proofs.lemmas.Bool.Decides.{nat_tests}
use Rattle.std.proofs.lemmas.List.FromFn.{length-map-range_with_len}
use Rattle.hc_records.specs.declared.edit.Edit.{Edit}
use Rattle.hc_records.specs.declared.faults.EditFault.{EditFault}
use Rattle.hc_records.specs.declared.faults.EditFault.TheVariants.{EpochsSpent, TooManyDatagrams}
use Rattle.hc_records.specs.declared.limits.TheConstants.{LAST_EPOCH, TASKS}
use Rattle.hc_records.specs.declared.records.Group.{Group}
use Rattle.hc_records.specs.Lists.{lowest}
use Rattle.hc_records.specs.Line.{Member, State, line, opened}
use Rattle.hc_records.specs.Image.{datagram_count, task_places}
use Rattle.hc_records.specs.Edits.{changed, over_limit_task, edit_faults, edited, late_faults, own_faults, refused_by, state_after}
use Rattle.hc_places.specs.Table.{Table, datagram_of, datagrams_in, table_of}
use Rattle.hc_events.specs.declared.answer.Answer.TheVariants as answer
use Rattle.hc_events.specs.declared.change.Change.{Change}
use Rattle.hc_events.specs.declared.change.Change.TheVariants as change
use Rattle.hc_events.specs.declared.faults.CoreFault.TheVariants.{NoSuchTask}
use Rattle.hc_events.specs.Entries.{History}
use Rattle.hc_events.specs.Points.{line_of, opened_with}
use Rattle.hc_events.specs.Images.{renewed, slot_of, slots_of}
use Rattle.hc_events.specs.Changes.{AreLegalFrom, epoch_after, updates_of, slot_after, table_after, update_in}
use Rattle.hc_events.specs.Steps.{Reads, answer_to, image_of, is_no_task, unless}
use Rattle.hc_events.specs.Accepted.{AreAccepted}
use Rattle.hc_events.specs.UpdatesLaws.{LeadsToHistory, state_after_changes}
use Rattle.hc_events.specs.ViewLaws.{LeadsOn, answer_shown}
use Rattle.hc_places.specs.Swap.{swapped}
use Rattle.hc_events.proofs.lemmas.Accepted.{passed}
use Rattle.hc_events.proofs.lemmas.Changes.{changes-say_all, epoch-legal, one-epoch}

-- ---- one list after another

table_on : (first second : List Change) (table : Table) → table_after table (first ++ second) ≡ table_after (table_after table first) second
table_on [] second table = refl
table_on (change.Swapped swap ∷ first) second table = table_on first second (swapped swap.change table)
table_on (change.Good good ∷ first) second table = table_on first second table

epoch_on : (first second : List Change) (epoch : ℕ) → epoch_after epoch (first ++ second) ≡ epoch_after (epoch_after epoch first) second
epoch_on [] second epoch = refl
epoch_on (change.Swapped swap ∷ first) second epoch = epoch_on first second (epoch + 1)
epoch_on (change.Good good ∷ first) second epoch = epoch_on first second epoch

slot_on : (first second : List Change) (task d : ℕ) (slot : Option (List ℕ)) → slot_after task d slot (first ++ second) ≡ slot_after task d (slot_after task d slot first) second
slot_on [] second task d slot = refl
slot_on (change.Swapped swap ∷ first) second task d slot = slot_on first second task d None
slot_on (change.Good good ∷ first) second task d slot = slot_on first second task d (renewed task d slot good)

state_on : (first second : List Change) (state : State) → state_after_changes state (first ++ second) ≡ state_after_changes (state_after_changes state first) second
state_on [] second state = refl
state_on (change.Swapped swap ∷ first) second state = state_on first second (state_after state swap.edit)
state_on (change.Good good ∷ first) second state = state_on first second state

pub changes-lead_on : (first second : List Change) → LeadsOn first second
changes-lead_on first second = record {
  table = table_on first second;
  epoch = epoch_on first second;
  slots = slot_on first second;
  state = state_on first second;
}

-- ---- legal lists

pub legal-parts : (state : State) (first second : List Change) → AreLegalFrom state (first ++ second) → AreLegalFrom state first × AreLegalFrom (state_after_changes state first) second
legal-parts state [] second legal = (tt, legal)
legal-parts state (change.Swapped swap ∷ first) second legal =
    let rest = legal-parts (state_after state swap.edit) first second legal.1 in
    ((legal.0, rest.0), rest.1)
legal-parts state (change.Good good ∷ first) second legal =
    let rest = legal-parts state first second legal.1 in
    ((legal.0, rest.0), rest.1)

pub legal-joined : (state : State) (first second : List Change) → AreLegalFrom state first → AreLegalFrom (state_after_changes state first) second → AreLegalFrom state (first ++ second)
legal-joined state [] second a b = b
legal-joined state (change.Swapped swap ∷ first) second a b = (a.0, legal-joined (state_after state swap.edit) first second a.1 b)
legal-joined state (change.Good good ∷ first) second a b = (a.0, legal-joined state first second a.1 b)

-- ---- epochs

pub none_after : (first second : List (Bool × EditFault)) → lowest (first ++ second) ≡ None → lowest second ≡ None
none_after [] second e = e
none_after ((true, fault) ∷ first) second e = cc
none_after ((false, fault) ∷ first) second e = none_after first second e

pub no_fault : (fault : Option EditFault) (next : State) → IsOk (refused_by fault next) → fault ≡ None
no_fault None next ok = refl
no_fault (Some fault) next ok = cc

left_one : (epoch : ℕ) → epoch ≤ LAST_EPOCH → (epoch == LAST_EPOCH) ≡ false → epoch + 1 ≤ LAST_EPOCH
left_one epoch low more = grind (arith, nat_tests)

more_left : (state : State) (edit : Edit) → IsOk (edited state edit) → (state.epoch == LAST_EPOCH) ≡ false
more_left state edit ok =
    let over_limit = over_limit_task (line (changed state edit)) in
    let last : List (Bool × EditFault) = (state.epoch == LAST_EPOCH, EpochsSpent) ∷ late_faults state edit in
    let none = no_fault (lowest (edit_faults state edit)) (changed state edit) ok in
    let after_it = none_after (own_faults state edit) ((is_some over_limit, TooManyDatagrams (unwrap_or over_limit 0)) ∷ last) none in
    (passed (state.epoch == LAST_EPOCH) EpochsSpent (late_faults state edit) (passed (is_some over_limit) (TooManyDatagrams (unwrap_or over_limit 0)) last after_it).1).0

next_fits : (state : State) (edit : Edit) → state.epoch ≤ LAST_EPOCH → IsOk (edited state edit) → (state_after state edit).epoch ≤ LAST_EPOCH
next_fits state edit low ok =
    let next : state_after state edit ≡ changed state edit = one-epoch (lowest (edit_faults state edit)) state (changed state edit) ok in
    subst (λ (s : State). s.epoch ≤ LAST_EPOCH) (sym next) (left_one state.epoch low (more_left state edit ok))

fits_from : (state : State) (changes : List Change) → state.epoch ≤ LAST_EPOCH → AreLegalFrom state changes → (state_after_changes state changes).epoch ≤ LAST_EPOCH
fits_from state [] low legal = low
fits_from state (change.Swapped swap ∷ changes) low legal = fits_from (state_after state swap.edit) changes (next_fits state swap.edit low legal.0.accepted) legal.1
fits_from state (change.Good good ∷ changes) low legal = fits_from state changes low legal.1

first_fits : 0 ≤ LAST_EPOCH
first_fits = omega arith

pub legal-epochs : (groups : List Group) (changes : List Change) → AreLegalFrom (opened groups) changes → epoch_after 0 changes ≤ LAST_EPOCH
legal-epochs groups changes legal =
    subst (λ (n : ℕ). n ≤ LAST_EPOCH) (sym (epoch-legal (opened groups) changes legal)) (fits_from (opened groups) changes first_fits legal)

-- ---- what is shown

listed : (line : List Member) (task : ℕ) → length (map (datagram_of line task) (range_with_len 0 (datagram_count (task_places task line)))) ≡ datagram_count (task_places task line)
listed line task = length-map-range_with_len (datagram_of line task) 0 (datagram_count (task_places task line))

all_listed : (line : List Member) (task : ℕ) → task < TASKS → length (datagrams_in (table_of line) task) ≡ datagram_count (task_places task line)
all_listed line zero low = listed line 0
all_listed line (suc zero) low = listed line 1
all_listed line (suc (suc zero)) low = listed line 2
all_listed line (suc (suc (suc zero))) low = listed line 3
all_listed line (suc (suc (suc (suc zero)))) low = listed line 4
all_listed line (suc (suc (suc (suc (suc zero))))) low = listed line 5
all_listed line (suc (suc (suc (suc (suc (suc zero)))))) low = listed line 6
all_listed line (suc (suc (suc (suc (suc (suc (suc zero))))))) low = listed line 7
all_listed line (suc (suc (suc (suc (suc (suc (suc (suc task)))))))) low = absurd (omega arith)

pub is_task : (task : ℕ) → task < TASKS → is_no_task task ≡ false
is_task task low = grind (arith, nat_tests)

answered_as : (history : History) (task : ℕ) → is_no_task task ≡ false → answer_to history (Reads task) ≡ image_of history task
answered_as history task is = ap (λ (none : Bool). unless (lowest ((none, NoSuchTask) ∷ [])) (image_of history task)) is

slots_as : (f g : ℕ → Option (List ℕ)) → ((d : ℕ) → f d ≡ g d) → (ds : List ℕ) → map f ds ≡ map g ds
slots_as f g same [] = refl
slots_as f g same (d ∷ ds) = ap (λ (slot : Option (List ℕ)). slot ∷ map f ds) (same d) ∙ ap (λ (slots : List (Option (List ℕ))). g d ∷ slots) (slots_as f g same ds)

pub views-are_reads : (history : History) (changes : List Change) (task : ℕ) → AreAccepted history → AreLegalFrom (opened (opened_with history)) changes → map update_in changes ≡ updates_of history → task < TASKS
    → answer_to history (Reads task) ≡ answer_shown (opened_with history) changes task
views-are_reads history changes task all legal answer_given low =
    let says : LeadsToHistory (opened_with history) history changes = changes-say_all history changes all legal answer_given in
    let own : ℕ → Option (List ℕ) = λ d. slot_after task d None changes in
    let count : length (datagrams_in (table_after (table_of (line (opened (opened_with history)))) changes) task) ≡ datagram_count (task_places task (line_of history)) =
    ap (λ (table : Table). length (datagrams_in table task)) says.table ∙ all_listed (line_of history) task low in
    answered_as history task (is_task task low)
    ∙ ap (λ (epoch : ℕ). answer.Image epoch (slots_of history task)) (sym says.epoch)
    ∙ ap (answer.Image (epoch_after 0 changes)) (slots_as (slot_of history task) own (λ d. sym (says.slots task d)) (range_with_len 0 (datagram_count (task_places task (line_of history)))))
    ∙ ap (λ (n : ℕ). answer.Image (epoch_after 0 changes) (map own (range_with_len 0 n))) (sym count)
