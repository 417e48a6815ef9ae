-- Each update of a record is an accepted edit of the record, or a good answer among its arrivals.
use Rattle.std.proofs.Common.{◌≡◌, ◌==◌, Bool, true, false, cond, List, [], ◌∷◌, map, refl, sym, ap, ◌∙◌, Option, Some, None}
use Rattle.std.specs.Prelude.{All, Contains}
use Rattle.std.specs.Option.{option_map_or}
use Rattle.std.specs.List.{flat_map, list_any, zip}
use Rattle.std.proofs.lemmas.Bool.{eqb-true}
use Rattle.std.proofs.lemmas.List.Elements.{All-nil, All-cons, All-append, All-contains_itself, All-map, All-weaker}
use Rattle.hc_records.proofs.lemmas.Lists.{All-flat_map}
use Rattle.hc_records.proofs.lemmas.Choices.{contains-first, contains-later}
use Rattle.hc_events.specs.Arrivals.{Arrival, Part}
use Rattle.hc_events.specs.Entries.{HistoryEntry, History, Opened, Edited, Posted, Sent, Wrote, Came, Forgot, Cleared, Unplugged}
use Rattle.hc_events.specs.Heads.{Block, Datagram, Head, Item}
use Rattle.hc_events.specs.Answering.{Good, Sending, Stale, Wrong, answered_by, has_good, is_good, is_outdated, judge, judged, sends, verdict}
use Rattle.hc_events.specs.Images.{NewAnswer, new_answer, new_answer_by, new_answer_item}
use Rattle.hc_events.specs.Changes.{Answered, Update, Swapped, updates_of}
use Rattle.hc_events.specs.UpdatesLaws.{IsGoodAnswer, AreUpdatesOf}

-- with one more entry

further : (entry : HistoryEntry) (history : History) (one : Update) → AreUpdatesOf history one → AreUpdatesOf (entry ∷ history) one
further entry history (Swapped edit) at = contains-later entry (Edited edit) history at
further entry history (Answered good) is = record {
  since = entry ∷ is.since;
  arrival = is.arrival;
  before = is.before;
  split = ap (λ entries. entry ∷ entries) is.split;
  sending = is.sending;
  answered = is.answered;
  head = is.head;
  part = is.part;
  paired = is.paired;
  item = is.item;
  newest = is.newest;
  counter = is.counter;
  bytes = is.bytes;
}

all_further : (entry : HistoryEntry) (history : History) (updates : List Update) → All (AreUpdatesOf history) updates → All (AreUpdatesOf (entry ∷ history)) updates
all_further entry history updates all = All-weaker (AreUpdatesOf history) (AreUpdatesOf (entry ∷ history)) (further entry history) updates all

-- the good datagrams of an arrival

record IsNewAnswer (head : Head) (part : Part) (since : List HistoryEntry) : Type 0 where
  newest : is_outdated head.item since ≡ false
  counter : part.counter ≡ head.expected

good_means : (again same : Bool) → is_good (cond again Stale (cond same Good Wrong)) ≡ true → (again ≡ false) × (same ≡ true)
good_means true same good = cc
good_means false true good = (refl, refl)
good_means false false good = cc

is_new_answer : (head : Head) (part : Part) (since : List HistoryEntry) → is_good (verdict since head part) ≡ true → IsNewAnswer head part since
is_new_answer head part since good =
    let means = good_means (is_outdated head.item since) (part.counter == head.expected) good in
    record { newest = means.0; counter = eqb-true part.counter head.expected means.1 }

of_item : (history : History) (arrival : Arrival) (sending : Sending) (head : Head) (part : Part) → answered_by history arrival ≡ Some sending → Contains (zip sending.heads arrival.parts) (head, part) → IsNewAnswer head part sending.since
    → (item : Item) → head.item ≡ item → All (IsGoodAnswer (Came arrival ∷ history)) (new_answer_item item part.bytes)
of_item history arrival sending head part found at is (Block station number) same = All-nil (IsGoodAnswer (Came arrival ∷ history))
of_item history arrival sending head part found at is (Datagram task d) same =
    All-cons (IsGoodAnswer (Came arrival ∷ history)) (record { task = task; datagram = d; bytes = part.bytes }) [] (record {
      since = [];
      arrival = arrival;
      before = history;
      split = refl;
      sending = sending;
      answered = found;
      head = head;
      part = part;
      paired = at;
      item = same;
      newest = ap (λ one. list_any (sends one) sending.since) same ∙ sym (ap (λ one. is_outdated one sending.since) same) ∙ is.newest;
      counter = is.counter;
      bytes = refl;
    }) (All-nil (IsGoodAnswer (Came arrival ∷ history)))

if_good : (history : History) (arrival : Arrival) (good_answers : List NewAnswer) (good : Bool) → (good ≡ true → All (IsGoodAnswer (Came arrival ∷ history)) good_answers) → All (IsGoodAnswer (Came arrival ∷ history)) (cond good good_answers [])
if_good history arrival good_answers true all = all refl
if_good history arrival good_answers false all = All-nil (IsGoodAnswer (Came arrival ∷ history))

of_pair : (history : History) (arrival : Arrival) (sending : Sending) (pair : Head × Part) → answered_by history arrival ≡ Some sending → Contains (zip sending.heads arrival.parts) pair
    → All (IsGoodAnswer (Came arrival ∷ history)) (new_answer (judge sending.since pair))
of_pair history arrival sending pair found at =
    if_good history arrival (new_answer_item pair.0.item pair.1.bytes) (has_good (judge sending.since pair))
    (λ good. of_item history arrival sending pair.0 pair.1 found at (is_new_answer pair.0 pair.1 sending.since good) pair.0.item refl)

of_sending : (history : History) (arrival : Arrival) (found : Option Sending) → answered_by history arrival ≡ found → All (IsGoodAnswer (Came arrival ∷ history)) (flat_map new_answer (option_map_or (judged arrival) found []))
of_sending history arrival None e = All-nil (IsGoodAnswer (Came arrival ∷ history))
of_sending history arrival (Some sending) e =
    let pairs = zip sending.heads arrival.parts in
    All-flat_map (IsGoodAnswer (Came arrival ∷ history)) new_answer (judged arrival sending)
    (All-map (λ datagram. All (IsGoodAnswer (Came arrival ∷ history)) (new_answer datagram)) (judge sending.since) pairs
    (All-weaker (Contains pairs) (λ pair. All (IsGoodAnswer (Came arrival ∷ history)) (new_answer (judge sending.since pair)))
    (λ pair at. of_pair history arrival sending pair e at) pairs (All-contains_itself pairs)))

of_arrival : (history : History) (arrival : Arrival) → All (AreUpdatesOf (Came arrival ∷ history)) (map Answered (new_answer_by history arrival))
of_arrival history arrival = All-map (AreUpdatesOf (Came arrival ∷ history)) Answered (new_answer_by history arrival) (of_sending history arrival (answered_by history arrival) refl)

pub updates-of_history : (history : History) → All (AreUpdatesOf history) (updates_of history)
updates-of_history [] = All-nil (AreUpdatesOf [])
updates-of_history (Opened groups ∷ history) = All-nil (AreUpdatesOf (Opened groups ∷ history))
updates-of_history (Edited edit ∷ history) =
    All-append (AreUpdatesOf (Edited edit ∷ history)) (updates_of history) (Swapped edit ∷ []) (all_further (Edited edit) history (updates_of history) (updates-of_history history))
    (All-cons (AreUpdatesOf (Edited edit ∷ history)) (Swapped edit) [] (contains-first (Edited edit) history) (All-nil (AreUpdatesOf (Edited edit ∷ history))))
updates-of_history (Posted task bytes ∷ history) = all_further (Posted task bytes) history (updates_of history) (updates-of_history history)
updates-of_history (Forgot station ∷ history) = all_further (Forgot station) history (updates_of history) (updates-of_history history)
updates-of_history (Cleared station ∷ history) = all_further (Cleared station) history (updates_of history) (updates-of_history history)
updates-of_history (Unplugged station ∷ history) = all_further (Unplugged station) history (updates_of history) (updates-of_history history)
updates-of_history (Sent frame ∷ history) = all_further (Sent frame) history (updates_of history) (updates-of_history history)
updates-of_history (Wrote blocks ∷ history) = all_further (Wrote blocks) history (updates_of history) (updates-of_history history)
updates-of_history (Came arrival ∷ history) =
    All-append (AreUpdatesOf (Came arrival ∷ history)) (updates_of history) (map Answered (new_answer_by history arrival)) (all_further (Came arrival) history (updates_of history) (updates-of_history history))
    (of_arrival history arrival)
