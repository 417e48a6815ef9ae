-- The data that a task reads of a datagram are those of its last good answer.
use Rattle.std.proofs.Common.{◌≡◌, ◌⊎◌, inl, inr, ℕ, zero, suc, ◌+◌, ◌<◌, ◌==◌, Bool, true, false, cond, ◌&&◌, ◌||◌, List, [], ◌∷◌, ◌++◌, length, map, slice_get, refl, sym, ap, ◌∙◌, subst, arith, Option, Some, None, rules}
use Rattle.std.specs.Prelude.{All, fold}
use Rattle.std.specs.Option.{option_map_or}
use Rattle.std.specs.List.{flat_map, list_any, range_with_len, zip}
use Rattle.std.proofs.lemmas.Bool.{and_parts, eq-eqb, eqb-true, or_parts}
use Rattle.std.proofs.lemmas.Bool.Decides.{nat_tests}
use Rattle.std.proofs.lemmas.List.Elements.{All-head, All-tail}
use Rattle.std.proofs.lemmas.Option.{none-some, same_Some}
use Rattle.hc_records.specs.Line.{Member}
use Rattle.hc_records.specs.Image.{datagram_count, expected_counter, task_places}
use Rattle.hc_registers.specs.Blocks.{LineBlock}
use Rattle.hc_events.specs.declared.faults.CoreFault.TheVariants.{NoSuchTask}
use Rattle.hc_events.specs.Arrivals.{Arrival, Part}
use Rattle.hc_events.specs.Entries.{HistoryEntry, History, Opened, Edited, Sent, Wrote, Came}
use Rattle.hc_events.specs.Points.{epoch_of, line_of, next_serial}
use Rattle.hc_events.specs.Sendings.{Named}
use Rattle.hc_events.specs.Heads.{Datagram, Head, data_head, data_heads, item_of, write_heads}
use Rattle.hc_events.specs.Ages.{data_serial, dated}
use Rattle.hc_events.specs.Answering.{Good, Sending, Stale, Wrong, answered_by, has_good, has_heads, is_good, judge, judged, sends}
use Rattle.hc_events.specs.AnswerLaws.{LeavesAwaited}
use Rattle.hc_events.specs.Awaited.{is_no_arrival}
use Rattle.hc_events.specs.Images.{NewAnswer, new_answer, new_answer_by, new_answer_item, renewed, slot_of, slots_of}
use Rattle.hc_events.specs.SendingLaws.{heads_of, is_sending}
use Rattle.hc_events.specs.Steps.{image_of, unless}
use Rattle.hc_events.proofs.lemmas.Answers.{answers-first, none-opened}
use Rattle.hc_events.proofs.lemmas.Slots.{slots-fit}
use Rattle.hc_events.proofs.lemmas.Views.{is_task}
use Rattle.hc_core.proofs.LastSerials.{dated-left, dated-renewed}
use Rattle.hc_core.specs.LastData.{FrameCameBack, GoodAnswer, IsGoodIn, IsLastData, IsLater, TasksReadLastData, begins_epoch}

-- a frame that came back is the answer to its sending

answered_back : (history : History) (arrival : Arrival) (back : FrameCameBack history arrival)
    → answered_by history arrival ≡ Some (record { heads = data_heads (line_of back.before) back.frame; since = back.since })
answered_back history arrival back =
    let heads = data_heads (line_of back.before) back.frame in
    let either = answers-first history arrival (record { heads = heads; since = back.since }) in
    either.1 (record {
      sent = record {
        before = back.before;
        entry = Sent back.frame;
        split = back.sent;
        sends = refl;
        serial_is = sym back.serial;
        heads = refl;
        running = none-opened arrival.serial heads back.since back.first;
      };
      fits = back.fits;
      left_open = back.first;
    })

same_split : (since : List HistoryEntry) (one other : HistoryEntry) (a b : History) → since ++ one ∷ a ≡ since ++ other ∷ b → (one ≡ other) × (a ≡ b)
same_split [] one other a b e = search rules
same_split (entry ∷ since) one other a b e =
    let same : entry ∷ (since ++ one ∷ a) ≡ entry ∷ (since ++ other ∷ b) = e in
    let rest : since ++ one ∷ a ≡ since ++ other ∷ b = cc in
    same_split since one other a b rest

-- the data of a datagram after a frame's good answers

record GoodAt (since : List HistoryEntry) (line : List Member) (task d : ℕ) (pairs : List (Named × Part)) (n : ℕ) (part : Part) : Type 0 where
  at : slice_get pairs n ≡ Some ((task, d), part)
  last_sent : list_any (sends (Datagram task d)) since ≡ false
  counter : part.counter ≡ expected_counter task d line

record LastAt (since : List HistoryEntry) (line : List Member) (task d : ℕ) (pairs : List (Named × Part)) (slot : Option (List ℕ)) : Type 0 where
  n : ℕ
  part : Part
  good : GoodAt since line task d pairs n part
  is : slot ≡ Some part.bytes
  last : (m : ℕ) (other : Part) → n < m → ¬ (GoodAt since line task d pairs m other)

abbrev NoneAt : List HistoryEntry → List Member → ℕ → ℕ → List (Named × Part) → Option (List ℕ) → Option (List ℕ) → Type 0
NoneAt since line task d pairs before slot = (slot ≡ before) × ((m : ℕ) (other : Part) → ¬ (GoodAt since line task d pairs m other))

abbrev is_own : List HistoryEntry → List Member → ℕ → ℕ → Named → Part → Bool
is_own since line task d named part = has_good (judge since (data_head line named, part)) && ((named.0 == task) && (named.1 == d))

fold_one : (task d : ℕ) (slot : Option (List ℕ)) (good : Bool) (named : Named) (bytes : List ℕ) (rest : List NewAnswer)
    → fold (renewed task d) slot (cond good (new_answer_item (item_of named) bytes) [] ++ rest) ≡ fold (renewed task d) (cond (good && ((named.0 == task) && (named.1 == d))) (Some bytes) slot) rest
fold_one task d slot good named bytes rest = search rules

good_means : (again same : Bool) → is_good (cond again Stale (cond same Good Wrong)) ≡ true → (again ≡ false) × (same ≡ true)
good_means again same good = search rules

named_is : (named : Named) (task d : ℕ) → named.0 ≡ task → named.1 ≡ d → named ≡ (task, d)
named_is (t, e) task d first second = ap (λ (n : ℕ). (n, e)) first ∙ ap (λ (n : ℕ). (task, n)) second

own_here : (since : List HistoryEntry) (line : List Member) (task d : ℕ) (named : Named) (part : Part) (pairs : List (Named × Part)) → is_own since line task d named part ≡ true → GoodAt since line task d ((named, part) ∷ pairs) 0 part
own_here since line task d named part pairs own =
    let both = and_parts (has_good (judge since (data_head line named, part))) ((named.0 == task) && (named.1 == d)) own in
    let means = good_means (list_any (sends (item_of named)) since) (part.counter == expected_counter named.0 named.1 line) both.0 in
    let names = and_parts (named.0 == task) (named.1 == d) both.1 in
    let is = named_is named task d (eqb-true named.0 task names.0) (eqb-true named.1 d names.1) in
    record {
      at = ap (λ (one : Named). Some (one, part)) is;
      last_sent = subst (λ (one : Named). list_any (sends (item_of one)) since ≡ false) is means.0;
      counter = subst (λ (one : Named). part.counter ≡ expected_counter one.0 one.1 line) is (eqb-true part.counter (expected_counter named.0 named.1 line) means.1);
    }

its_own : (task d : ℕ) → ((task == task) && (d == d)) ≡ true
its_own task d = grind (arith, nat_tests)

here_own : (since : List HistoryEntry) (line : List Member) (task d : ℕ) (part : Part) → list_any (sends (Datagram task d)) since ≡ false → part.counter ≡ expected_counter task d line → is_own since line task d (task, d) part ≡ true
here_own since line task d part last_sent counter = search (rules, eq-eqb, its_own)

same_pair : (pair other : Named × Part) → Some pair ≡ Some other → (pair.0 ≡ other.0) × (pair.1 ≡ other.1)
same_pair pair other e = search (rules, same_Some)

not_here : (since : List HistoryEntry) (line : List Member) (task d : ℕ) (named : Named) (part other : Part) (pairs : List (Named × Part)) → is_own since line task d named part ≡ false → GoodAt since line task d ((named, part) ∷ pairs) 0 other → ⊥
not_here since line task d named part other pairs none good =
    let same = same_pair (named, part) ((task, d), other) good.at in
    let own = here_own since line task d other good.last_sent good.counter in
    let is : is_own since line task d named part ≡ is_own since line task d (task, d) other = search rules in
    let never : false ≡ true = sym none ∙ is ∙ own in
    cc

after_here : (since : List HistoryEntry) (line : List Member) (task d : ℕ) (pair : Named × Part) (pairs : List (Named × Part)) (n : ℕ) (part : Part) → GoodAt since line task d pairs n part → GoodAt since line task d (pair ∷ pairs) (suc n) part
after_here since line task d pair pairs n part good = record { at = good.at; last_sent = good.last_sent; counter = good.counter }

after_it : (since : List HistoryEntry) (line : List Member) (task d : ℕ) (pair : Named × Part) (pairs : List (Named × Part)) (n : ℕ) (part : Part) → GoodAt since line task d (pair ∷ pairs) (suc n) part → GoodAt since line task d pairs n part
after_it since line task d pair pairs n part good = record { at = good.at; last_sent = good.last_sent; counter = good.counter }

later_none : (since : List HistoryEntry) (line : List Member) (task d : ℕ) (pair : Named × Part) (pairs : List (Named × Part)) (n : ℕ) → ((m : ℕ) (other : Part) → n < m → ¬ (GoodAt since line task d pairs m other))
    → (m : ℕ) (other : Part) → suc n < m → GoodAt since line task d (pair ∷ pairs) m other → ⊥
later_none since line task d pair pairs n none m other less good = search (rules, after_it)

all_none : (since : List HistoryEntry) (line : List Member) (task d : ℕ) (pair : Named × Part) (pairs : List (Named × Part)) → ((m : ℕ) (other : Part) → ¬ (GoodAt since line task d pairs m other))
    → (m : ℕ) (other : Part) → 0 < m → GoodAt since line task d (pair ∷ pairs) m other → ⊥
all_none since line task d pair pairs none m other less good = search (rules, after_it)

none_more : (since : List HistoryEntry) (line : List Member) (task d : ℕ) (named : Named) (part : Part) (pairs : List (Named × Part)) → is_own since line task d named part ≡ false → ((m : ℕ) (other : Part) → ¬ (GoodAt since line task d pairs m other))
    → (m : ℕ) (other : Part) → GoodAt since line task d ((named, part) ∷ pairs) m other → ⊥
none_more since line task d named part pairs own none zero other good = not_here since line task d named part other pairs own good
none_more since line task d named part pairs own none (suc m) other good = none m other (after_it since line task d (named, part) pairs m other good)

answered_more : (since : List HistoryEntry) (line : List Member) (task d : ℕ) (named : Named) (part : Part) (pairs : List (Named × Part)) (before slot : Option (List ℕ)) (own : Bool) → is_own since line task d named part ≡ own
    → LastAt since line task d pairs slot ⊎ NoneAt since line task d pairs (cond own (Some part.bytes) before) slot
    → LastAt since line task d ((named, part) ∷ pairs) slot ⊎ NoneAt since line task d ((named, part) ∷ pairs) before slot
answered_more since line task d named part pairs before slot own is (inl last) = inl (record {
  n = suc last.n;
  part = last.part;
  good = after_here since line task d (named, part) pairs last.n last.part last.good;
  is = last.is;
  last = later_none since line task d (named, part) pairs last.n last.last;
})
answered_more since line task d named part pairs before slot true is (inr (same, none)) = inl (record {
  n = 0;
  part = part;
  good = own_here since line task d named part pairs is;
  is = same;
  last = all_none since line task d (named, part) pairs none;
})
answered_more since line task d named part pairs before slot false is (inr (same, none)) = inr (same, none_more since line task d named part pairs is none)

abbrev slot_after : List HistoryEntry → List Member → ℕ → ℕ → List Named → List Part → Option (List ℕ) → Option (List ℕ)
slot_after since line task d frame parts slot = fold (renewed task d) slot (flat_map new_answer (map (judge since) (zip (data_heads line frame) parts)))

nothing_at : (since : List HistoryEntry) (line : List Member) (task d n : ℕ) (part : Part) → GoodAt since line task d [] n part → ⊥
nothing_at since line task d n part good = let never = good.at in cc

answered_good_answers : (since : List HistoryEntry) (line : List Member) (task d : ℕ) (frame : List Named) (parts : List Part) (slot : Option (List ℕ))
    → LastAt since line task d (zip frame parts) (slot_after since line task d frame parts slot) ⊎ NoneAt since line task d (zip frame parts) slot (slot_after since line task d frame parts slot)
answered_good_answers since line task d [] parts slot = inr (refl, nothing_at since line task d)
answered_good_answers since line task d (named ∷ frame) [] slot = inr (refl, nothing_at since line task d)
answered_good_answers since line task d (named ∷ frame) (part ∷ parts) slot =
    let next = cond (is_own since line task d named part) (Some part.bytes) slot in
    search (rules, answered_more, fold_one, answered_good_answers since line task d frame parts next)

-- the data of a datagram after an arrival

record IsRenewed (history : History) (arrival : Arrival) (task d : ℕ) (slot : Option (List ℕ)) : Type 0 where
  place : ℕ
  part : Part
  good : IsGoodIn history arrival task d place part
  is : slot ≡ Some part.bytes
  last : (m : ℕ) (other : Part) → place < m → ¬ (IsGoodIn history arrival task d m other)

abbrev IsLeft : History → Arrival → ℕ → ℕ → Option (List ℕ) → Option (List ℕ) → Type 0
IsLeft history arrival task d before slot = (slot ≡ before) × ((m : ℕ) (other : Part) → ¬ (IsGoodIn history arrival task d m other))

abbrev Shows : History → Arrival → ℕ → ℕ → Option (List ℕ) → Option (List ℕ) → Type 0
Shows history arrival task d before slot = IsRenewed history arrival task d slot ⊎ IsLeft history arrival task d before slot

abbrev slot_by : Arrival → ℕ → ℕ → Option (List ℕ) → Option Sending → Option (List ℕ)
slot_by arrival task d slot found = fold (renewed task d) slot (flat_map new_answer (option_map_or (judged arrival) found []))

-- the sending that a frame came back from is the one that was answered
record IsThatSending (history : History) (arrival : Arrival) (back : FrameCameBack history arrival) (since : List HistoryEntry) (entry : HistoryEntry) (before : History) : Type 0 where
  since_is : since ≡ back.since
  entry_is : entry ≡ Sent back.frame
  before_is : before ≡ back.before

that_sending : (history : History) (arrival : Arrival) (back : FrameCameBack history arrival) (sending : Sending) (entry : HistoryEntry) (before : History) → answered_by history arrival ≡ Some sending → history ≡ sending.since ++ entry ∷ before
    → IsThatSending history arrival back sending.since entry before
that_sending history arrival back sending entry before found split = search (rules, same_Some, answered_back, same_split)

same_frame : (a b : List Named) → Sent a ≡ Sent b → a ≡ b
same_frame a b e = cc

-- a part that is good in a frame of tasks is good in the frame that came back
good_there : (history : History) (arrival : Arrival) (task d : ℕ) (sending : Sending) (frame : List Named) (before : History) → answered_by history arrival ≡ Some sending → history ≡ sending.since ++ Sent frame ∷ before
    → (n : ℕ) (part : Part) → IsGoodIn history arrival task d n part → GoodAt sending.since (line_of before) task d (zip frame arrival.parts) n part
good_there history arrival task d sending frame before found split n part good =
    let is = that_sending history arrival good.back sending (Sent frame) before found split in
    search (rules, same_frame)

good_here : (history : History) (arrival : Arrival) (task d n : ℕ) (part : Part) (back : FrameCameBack history arrival) → GoodAt back.since (line_of back.before) task d (zip back.frame arrival.parts) n part → IsGoodIn history arrival task d n part
good_here history arrival task d n part back good = record { back = back; at = good.at; last_sent = good.last_sent; counter = good.counter }

converted : (history : History) (arrival : Arrival) (task d : ℕ) (before slot : Option (List ℕ)) (back : FrameCameBack history arrival)
    → ((n : ℕ) (part : Part) → IsGoodIn history arrival task d n part → GoodAt back.since (line_of back.before) task d (zip back.frame arrival.parts) n part)
    → LastAt back.since (line_of back.before) task d (zip back.frame arrival.parts) slot ⊎ NoneAt back.since (line_of back.before) task d (zip back.frame arrival.parts) before slot
    → Shows history arrival task d before slot
converted history arrival task d before slot back there (inl last) = inl (record {
  place = last.n;
  part = last.part;
  good = good_here history arrival task d last.n last.part back last.good;
  is = last.is;
  last = λ m other less good. last.last m other less (there m other good);
})
converted history arrival task d before slot back there (inr (same, none)) = inr (same, λ m other good. none m other (there m other good))

abbrev no_good_answers : List NewAnswer
no_good_answers = []

nothing_of : (good : Bool) → cond good no_good_answers no_good_answers ++ no_good_answers ≡ no_good_answers
nothing_of good = search rules

write_good_answers : (since : List HistoryEntry) (blocks : List LineBlock) (parts : List Part) → flat_map new_answer (map (judge since) (zip (write_heads blocks) parts)) ≡ no_good_answers
write_good_answers since [] parts = refl
write_good_answers since (block ∷ blocks) [] = refl
write_good_answers since (block ∷ blocks) (part ∷ parts) = search (rules, nothing_of, write_good_answers since blocks parts)

by_entry : (history : History) (arrival : Arrival) (task d : ℕ) (slot : Option (List ℕ)) (sending : Sending) (entry : HistoryEntry) (before : History) → answered_by history arrival ≡ Some sending → history ≡ sending.since ++ entry ∷ before → is_sending entry ≡ true
    → next_serial before ≡ arrival.serial → sending.heads ≡ heads_of before entry → has_heads sending.heads arrival.parts ≡ true → All (LeavesAwaited arrival.serial sending.heads) sending.since
    → Shows history arrival task d slot (fold (renewed task d) slot (flat_map new_answer (map (judge sending.since) (zip (heads_of before entry) arrival.parts))))
by_entry history arrival task d slot sending (Wrote blocks) before found split sends serial heads fit left = inr (
  ap (fold (renewed task d) slot) (write_good_answers sending.since blocks arrival.parts),
  λ m other good. let is = that_sending history arrival good.back sending (Wrote blocks) before found split in let never = is.entry_is in cc,
)
by_entry history arrival task d slot sending (Sent frame) before found split sends serial heads fit left =
    let back : FrameCameBack history arrival = search rules in
    converted history arrival task d slot (slot_after sending.since (line_of before) task d frame arrival.parts slot) back
    (good_there history arrival task d sending frame before found split) (answered_good_answers sending.since (line_of before) task d frame arrival.parts slot)
by_entry history arrival task d slot sending other before found split sends serial heads fit left = cc

by_answer : (history : History) (arrival : Arrival) (task d : ℕ) (slot : Option (List ℕ)) (found : Option Sending) → answered_by history arrival ≡ found → Shows history arrival task d slot (slot_by arrival task d slot found)
by_answer history arrival task d slot None e = inr (refl, λ m other good. let never = sym e ∙ answered_back history arrival good.back in cc)
by_answer history arrival task d slot (Some sending) e =
    let either = answers-first history arrival sending in
    let first = either.0 e in
    let at = first.sent in
    search (rules, by_entry)

arrival_shows : (history : History) (arrival : Arrival) (task d : ℕ) (slot : Option (List ℕ)) → Shows history arrival task d slot (fold (renewed task d) slot (new_answer_by history arrival))
arrival_shows history arrival task d slot = by_answer history arrival task d slot (answered_by history arrival) refl

-- the serial of a datagram's data is the arrival's if something in the arrival is good
serial_renewed : (history : History) (arrival : Arrival) (task d : ℕ) (so_far : Option ℕ) (place : ℕ) (part : Part) → IsGoodIn history arrival task d place part
    → Shows history arrival task d None (fold (renewed task d) None (new_answer_by history arrival)) → fold (dated arrival.serial task d) so_far (new_answer_by history arrival) ≡ Some arrival.serial
serial_renewed history arrival task d so_far place part good (inl renewal) = dated-renewed arrival.serial task d so_far renewal.part.bytes (new_answer_by history arrival) renewal.is
serial_renewed history arrival task d so_far place part good (inr (same, none)) = absurd (none place part good)

-- the serial of a datagram's data stays if nothing in the arrival is good
serial_left : (history : History) (arrival : Arrival) (task d : ℕ) (so_far : Option ℕ) → ((m : ℕ) (part : Part) → ¬ (IsGoodIn history arrival task d m part))
    → Shows history arrival task d None (fold (renewed task d) None (new_answer_by history arrival)) → fold (dated arrival.serial task d) so_far (new_answer_by history arrival) ≡ so_far
serial_left history arrival task d so_far none (inl renewal) = absurd (none renewal.place renewal.part renewal.good)
serial_left history arrival task d so_far none (inr (same, also)) = dated-left arrival.serial task d so_far (new_answer_by history arrival) same

-- along the record

abbrev HasLast : History → ℕ → ℕ → Option (List ℕ) → Type 0
HasLast history task d None = ¬ (GoodAnswer history task d)
HasLast history task d (Some bytes) = (answer : GoodAnswer history task d) × (bytes ≡ answer.part.bytes) × (data_serial history task d ≡ Some answer.arrival.serial) × ((other : GoodAnswer history task d) → ¬ (IsLater other answer))

-- a good answer after one more entry is the newest entry, or one of the older ones
record Older (history : History) (task d : ℕ) (after_it : List HistoryEntry) (place : ℕ) : Type 0 where
  older : GoodAnswer history task d
  counted : length after_it ≡ suc (length older.after_it)
  place_is : place ≡ older.place

record LastSent (entry : HistoryEntry) (history : History) (after_it : List HistoryEntry) (arrival : Arrival) (before : History) : Type 0 where
  none : after_it ≡ []
  entry_is : entry ≡ Came arrival
  before_is : history ≡ before

popped : (entry : HistoryEntry) (history : History) (task d : ℕ) (after_it : List HistoryEntry) (arrival : Arrival) (before : History) (place : ℕ) (part : Part) → entry ∷ history ≡ after_it ++ Came arrival ∷ before → list_any begins_epoch after_it ≡ false
    → IsGoodIn before arrival task d place part → LastSent entry history after_it arrival before ⊎ Older history task d after_it place
popped entry history task d [] arrival before place part e present good = search rules
popped entry history task d (first ∷ after_it) arrival before place part e present good =
    let same : entry ∷ history ≡ first ∷ (after_it ++ Came arrival ∷ before) = e in
    let tail : history ≡ after_it ++ Came arrival ∷ before = cc in
    inr (record {
      older = record {
        after_it = after_it;
        arrival = arrival;
        before = before;
        came = tail;
        present = (or_parts (begins_epoch first) (list_any begins_epoch after_it) present).1;
        place = place;
        part = part;
        good = good;
      };
      counted = refl;
      place_is = refl;
    })

pop : (entry : HistoryEntry) (history : History) (task d : ℕ) (answer : GoodAnswer (entry ∷ history) task d) → LastSent entry history answer.after_it answer.arrival answer.before ⊎ Older history task d answer.after_it answer.place
pop entry history task d answer = popped entry history task d answer.after_it answer.arrival answer.before answer.place answer.part answer.came answer.present answer.good

-- there is no good answer at an entry that begins an epoch
none_begun : (entry : HistoryEntry) (history : History) (after_it : List HistoryEntry) (arrival : Arrival) (before : History) → begins_epoch entry ≡ true → entry ∷ history ≡ after_it ++ Came arrival ∷ before → list_any begins_epoch after_it ≡ false → ⊥
none_begun entry history [] arrival before begins e present = search rules
none_begun entry history (first ∷ after_it) arrival before begins e present = search (rules, or_parts)

nothing_in : (after_it : List HistoryEntry) (arrival : Arrival) (before : History) → [] ≡ after_it ++ Came arrival ∷ before → ⊥
nothing_in [] arrival before e = search rules
nothing_in (first ∷ after_it) arrival before e = search rules

-- the last good answer stays the last one after another entry
later_too : (l a b p q r : ℕ) → l ≡ suc a → p ≡ q → (l < suc b) ⊎ ((l ≡ suc b) × (r < p)) → (a < b) ⊎ ((a ≡ b) × (r < q))
later_too l a b p q r one same later = search rules

carried_on : (entry : HistoryEntry) (history : History) (task d : ℕ) (slot : Option (List ℕ)) → begins_epoch entry ≡ false → data_serial (entry ∷ history) task d ≡ data_serial history task d → ((answer : GoodAnswer (entry ∷ history) task d) → Older history task d answer.after_it answer.place) → HasLast history task d slot → HasLast (entry ∷ history) task d slot
carried_on entry history task d None plain dates older has = λ answer. let one = older answer in has one.older
carried_on entry history task d (Some bytes) plain dates older (answer, read, serial, last) =
    let unchanged : GoodAnswer (entry ∷ history) task d = record {
      after_it = entry ∷ answer.after_it;
      arrival = answer.arrival;
      before = answer.before;
      came = ap (λ entries. entry ∷ entries) answer.came;
      present = ap (λ b. b || list_any begins_epoch answer.after_it) plain ∙ answer.present;
      place = answer.place;
      part = answer.part;
      good = answer.good;
    } in (
      unchanged,
      read,
      dates ∙ serial,
      λ other later.
          let one = older other in
          last one.older (later_too (length other.after_it) (length one.older.after_it) (length answer.after_it) other.place one.older.place answer.place one.counted one.place_is later),
    )

no_last_sent : (entry : HistoryEntry) (history : History) (task d : ℕ) (after_it : List HistoryEntry) (arrival : Arrival) (before : History) (place : ℕ) → is_no_arrival entry ≡ true → LastSent entry history after_it arrival before ⊎ Older history task d after_it place → Older history task d after_it place
no_last_sent entry history task d after_it arrival before place plain (inl last_sent) = search rules
no_last_sent entry history task d after_it arrival before place plain (inr older) = older

plain_entry : (entry : HistoryEntry) (history : History) (task d : ℕ) (slot : Option (List ℕ)) → begins_epoch entry ≡ false → data_serial (entry ∷ history) task d ≡ data_serial history task d → is_no_arrival entry ≡ true → HasLast history task d slot → HasLast (entry ∷ history) task d slot
plain_entry entry history task d slot plain dates none has =
    carried_on entry history task d slot plain dates (λ answer. no_last_sent entry history task d answer.after_it answer.arrival answer.before answer.place none (pop entry history task d answer)) has

same_arrival : (a b : Arrival) → Came a ≡ Came b → a ≡ b
same_arrival a b e = cc

moved_good : (history before : History) (arrival other : Arrival) (task d place : ℕ) (part : Part) → Came arrival ≡ Came other → history ≡ before → IsGoodIn before other task d place part → IsGoodIn history arrival task d place part
moved_good history before arrival other task d place part one same good = search (rules, same_arrival)

none_later : (history : History) (arrival : Arrival) (task d place : ℕ) → ((m : ℕ) (part : Part) → place < m → ¬ (IsGoodIn history arrival task d m part)) → (other : GoodAnswer (Came arrival ∷ history) task d)
    → LastSent (Came arrival) history other.after_it other.arrival other.before ⊎ Older history task d other.after_it other.place → (length other.after_it < 0) ⊎ ((length other.after_it ≡ 0) × (place < other.place)) → ⊥
none_later history arrival task d place none other found later = search (rules, moved_good)

no_good : (history : History) (arrival : Arrival) (task d : ℕ) → ((m : ℕ) (part : Part) → ¬ (IsGoodIn history arrival task d m part)) → (answer : GoodAnswer (Came arrival ∷ history) task d)
    → LastSent (Came arrival) history answer.after_it answer.arrival answer.before ⊎ Older history task d answer.after_it answer.place → Older history task d answer.after_it answer.place
no_good history arrival task d none answer (inl last_sent) =
    absurd (none answer.place answer.part (moved_good history answer.before arrival answer.arrival task d answer.place answer.part last_sent.entry_is last_sent.before_is answer.good))
no_good history arrival task d none answer (inr older) = older

came : (history : History) (arrival : Arrival) (task d : ℕ) (before slot : Option (List ℕ)) → Shows history arrival task d before slot → HasLast history task d before → HasLast (Came arrival ∷ history) task d slot
came history arrival task d before slot (inl last_sent) has =
    let answer : GoodAnswer (Came arrival ∷ history) task d = record {
      after_it = [];
      arrival = arrival;
      before = history;
      came = refl;
      present = refl;
      place = last_sent.place;
      part = last_sent.part;
      good = last_sent.good;
    } in
    subst (HasLast (Came arrival ∷ history) task d) (sym last_sent.is)
    (answer, refl, serial_renewed history arrival task d (data_serial history task d) last_sent.place last_sent.part last_sent.good (arrival_shows history arrival task d None), λ other later. none_later history arrival task d last_sent.place last_sent.last other (pop (Came arrival) history task d other) later)
came history arrival task d before slot (inr (same, none)) has =
    subst (HasLast (Came arrival ∷ history) task d) (sym same)
    (carried_on (Came arrival) history task d before refl (serial_left history arrival task d (data_serial history task d) none (arrival_shows history arrival task d None)) (λ answer. no_good history arrival task d none answer (pop (Came arrival) history task d answer)) has)

has_last : (history : History) (task d : ℕ) → HasLast history task d (slot_of history task d)
has_last [] task d = λ answer. nothing_in answer.after_it answer.arrival answer.before answer.came
has_last (Opened groups ∷ history) task d = λ answer. none_begun (Opened groups) history answer.after_it answer.arrival answer.before refl answer.came answer.present
has_last (Edited edit ∷ history) task d = λ answer. none_begun (Edited edit) history answer.after_it answer.arrival answer.before refl answer.came answer.present
has_last (Came arrival ∷ history) task d = search (rules, came, arrival_shows, has_last history task d)
has_last (other ∷ history) task d = plain_entry other history task d (slot_of history task d) refl refl refl (has_last history task d)

-- in one epoch the line stays

line_stays : (after_it : List HistoryEntry) (history : History) → list_any begins_epoch after_it ≡ false → line_of (after_it ++ history) ≡ line_of history
line_stays [] history none = refl
line_stays (Opened groups ∷ after_it) history none = cc
line_stays (Edited edit ∷ after_it) history none = cc
line_stays (other ∷ after_it) history none = line_stays after_it history none

none_begins : (serial : ℕ) (heads : List Head) (since : List HistoryEntry) → All (LeavesAwaited serial heads) since → list_any begins_epoch since ≡ false
none_begins serial heads [] all = refl
none_begins serial heads (Opened groups ∷ since) all = absurd (All-head (LeavesAwaited serial heads) (Opened groups) since all)
none_begins serial heads (Edited edit ∷ since) all = absurd (All-head (LeavesAwaited serial heads) (Edited edit) since all)
none_begins serial heads (other ∷ since) all = none_begins serial heads since (All-tail (LeavesAwaited serial heads) other since all)

epoch_stays : (after_it : List HistoryEntry) (history : History) → list_any begins_epoch after_it ≡ false → epoch_of (after_it ++ history) ≡ epoch_of history
epoch_stays [] history none = refl
epoch_stays (Opened groups ∷ after_it) history none = cc
epoch_stays (Edited edit ∷ after_it) history none = cc
epoch_stays (other ∷ after_it) history none = epoch_stays after_it history none

epoch_here : (history : History) (task d : ℕ) (answer : GoodAnswer history task d) → epoch_of answer.good.back.before ≡ epoch_of history
epoch_here history task d answer =
    let back = answer.good.back in
    sym (ap epoch_of answer.came ∙ epoch_stays answer.after_it (Came answer.arrival ∷ answer.before) answer.present
    ∙ ap epoch_of back.sent ∙ epoch_stays back.since (Sent back.frame ∷ back.before) (none_begins answer.arrival.serial (data_heads (line_of back.before) back.frame) back.since back.first))

sent_here : (history : History) (task d : ℕ) (answer : GoodAnswer history task d) → line_of answer.good.back.before ≡ line_of history
sent_here history task d answer =
    let back = answer.good.back in
    sym (ap line_of answer.came ∙ line_stays answer.after_it (Came answer.arrival ∷ answer.before) answer.present
    ∙ ap line_of back.sent ∙ line_stays back.since (Sent back.frame ∷ back.before) (none_begins answer.arrival.serial (data_heads (line_of back.before) back.frame) back.since back.first))

is_last : (history : History) (task d : ℕ) (slot : Option (List ℕ)) → slot_of history task d ≡ slot → HasLast history task d slot → IsLastData history task d slot
is_last history task d None e has = has
is_last history task d (Some bytes) e (answer, read, serial, last) = search (rules, epoch_here, sent_here, slots-fit)

-- an image

listed : (f : ℕ → Option (List ℕ)) (first count d : ℕ) (slot : Option (List ℕ)) → slice_get (map f (range_with_len first count)) d ≡ Some slot → slot ≡ f (first + d)
listed f first zero d slot e = absurd (none-some slot e)
listed f first (suc count) zero slot e = search rules
listed f first (suc count) (suc d) slot e = search (rules, listed f (first + 1) count d slot e)

counted_list : (f : ℕ → Option (List ℕ)) (first count : ℕ) → length (map f (range_with_len first count)) ≡ count
counted_list f first zero = refl
counted_list f first (suc count) = ap suc (counted_list f (first + 1) count)

pub reads-last : (history : History) → TasksReadLastData history
reads-last history task low = record {
  slots = slots_of history task;
  image = ap (λ b. unless (cond b (Some NoSuchTask) None) (image_of history task)) (is_task task low);
  counted = counted_list (slot_of history task) 0 (datagram_count (task_places task (line_of history)));
  each = λ d slot e.
      let same = listed (slot_of history task) 0 (datagram_count (task_places task (line_of history))) d slot e in
      let zero_more : 0 + d ≡ d = omega arith in
      let is = same ∙ ap (slot_of history task) zero_more in
      subst (IsLastData history task d) (sym is) (is_last history task d (slot_of history task d) refl (has_last history task d));
}
