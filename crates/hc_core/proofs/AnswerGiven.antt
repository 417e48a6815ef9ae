-- The answer to an arrival fits the kind of the awaited sending.
use Rattle.std.proofs.Common.{◌≡◌, ◌⊎◌, ℕ, Bool, true, false, cond, not, ◌&&◌, ◌||◌, List, [], ◌∷◌, ◌++◌, map, refl, sym, ap, ◌∙◌, Option, Some, None, ⊎_elim, rules}
use Rattle.std.specs.Prelude.{option_and_then}
use Rattle.std.specs.List.{flat_map, list_all, list_any, zip}
use Rattle.std.proofs.lemmas.Bool.{and_parts}
use Rattle.hc_records.proofs.lemmas.Choices.{by_bool}
use Rattle.hc_registers.specs.Blocks.{LineBlock}
use Rattle.hc_events.specs.declared.answer.Answer.{Answer}
use Rattle.hc_events.specs.declared.answer.Answer.TheVariants as answer
use Rattle.hc_events.specs.declared.answer.Outcome.{Outcome}
use Rattle.hc_events.specs.declared.answer.Outcome.TheVariants.{Done, Missed}
use Rattle.hc_events.specs.Arrivals.{Arrival, Part}
use Rattle.hc_events.specs.AnswerLaws.{IsAwaited}
use Rattle.hc_events.specs.Entries.{HistoryEntry, History}
use Rattle.hc_events.specs.Heads.{Head, Item, Datagram, Block, is_block, write_heads}
use Rattle.hc_events.specs.Answering.{Judged, Sending, Verdict, has_good, is_current, is_stale, is_stale_to, judge, judged, judged_by, sending_of}
use Rattle.hc_events.specs.Awaited.{still_awaited, awaited, is_write_sending}
use Rattle.hc_events.specs.Images.{new_answer, new_answer_by, new_answer_item}
use Rattle.hc_events.specs.Steps.{outcome_for, outcome_of, judged_answer, write_answer, judged_blocks_answer}
use Rattle.hc_events.specs.SendingLaws.{heads_of, is_sending}
use Rattle.hc_events.proofs.lemmas.Answers.{awaited-answered}
use Rattle.hc_events.proofs.lemmas.Awaited.{awaited-heads}
use Rattle.hc_events.proofs.lemmas.OneWrite.{no_blocks}
use Rattle.hc_events.proofs.lemmas.Placing.{is_placed-at}
use Rattle.hc_core.specs.Chosen.{AreWriteOutcomes}
use Rattle.hc_core.specs.GoodAnswers.{good_of, good_answers_in}

-- an awaited sending is a frame of tasks or one of register writes

abbrev all_blocks : List Head → Bool
all_blocks heads = list_all (λ head. is_block head.item) heads

abbrev pub IsSort : Sending → Type 0
IsSort sending = (is_write_sending sending ≡ false) ⊎ (all_blocks sending.heads ≡ true)

blocks_all : (blocks : List LineBlock) → all_blocks (write_heads blocks) ≡ true
blocks_all [] = refl
blocks_all (block ∷ blocks) = blocks_all blocks

sort_by : (sending : Sending) (before : History) (entry : HistoryEntry) → is_sending entry ≡ true → sending.heads ≡ heads_of before entry → IsSort sending
sort_by sending before entry sends heads = search (rules, no_blocks, blocks_all)

made_or_none : (history : History) (serial : ℕ) (sending : Sending) (found : Option Sending) → sending_of history serial ≡ found → option_and_then (still_awaited serial) found ≡ Some sending → IsSort sending
made_or_none history serial sending None made e = cc
made_or_none history serial sending (Some older) made e =
    let at = is_placed-at history serial older made in
    sort_by sending at.before at.entry at.sends (awaited-heads serial older sending e ∙ at.heads)

sort_of : (history : History) (serial : ℕ) (sending : Sending) → awaited history serial ≡ Some sending → IsSort sending
sort_of history serial sending there = made_or_none history serial sending (sending_of history serial) refl there

-- frames of tasks

new_answer_alike : (head : Head) (part : Part) (verdict : Verdict) → new_answer (record { head = head; part = part; verdict = verdict }) ≡ good_of (outcome_for (record { head = head; part = part; verdict = verdict })) part
new_answer_alike head part verdict = search rules

good_answers_alike : (since : List HistoryEntry) (heads : List Head) (parts : List Part) → flat_map new_answer (map (judge since) (zip heads parts)) ≡ good_answers_in (map outcome_for (map (judge since) (zip heads parts))) parts
good_answers_alike since [] parts = refl
good_answers_alike since (head ∷ heads) [] = refl
good_answers_alike since (head ∷ heads) (part ∷ parts) = search (rules, new_answer_alike, good_answers_alike since heads parts)

-- an arrival that isn't stale answers an awaited sending

pub record IsCurrent (history : History) (arrival : Arrival) : Type 0 where
  pub new_answer : is_stale_to history arrival ≡ false
  pub awaits : IsAwaited history arrival
  pub judged_as : judged_by history arrival ≡ judged arrival awaits.sending

pub updates-of : (history : History) (arrival : Arrival) → list_any is_current (judged_by history arrival) ≡ true → IsCurrent history arrival
updates-of history arrival updates =
    let stale : is_stale_to history arrival ≡ false = ap not updates in
    let for = (awaited-answered history arrival).updates.0 stale in
    record { new_answer = stale; awaits = for; judged_as = ((awaited-answered history arrival).answers for).judged }

-- inputs

pub record ShowsInputs (history : History) (arrival : Arrival) (outcomes : List Outcome) : Type 0 where
  pub updates : is_stale_to history arrival ≡ false
  pub sending : Sending
  pub there : awaited history arrival.serial ≡ Some sending
  pub frame : is_write_sending sending ≡ false
  pub good_answers : new_answer_by history arrival ≡ good_answers_in outcomes arrival.parts

same_outcomes : (a b : List Outcome) → answer.Answered a ≡ answer.Answered b → a ≡ b
same_outcomes a b e = cc

not_answered : (verdict : Verdict) (outcomes : List Outcome) → write_answer verdict ≡ answer.Answered outcomes → ⊥
not_answered verdict outcomes e = search rules

-- if a list of datagrams is answered with `Answered`, one of them is current, the first one is a task's, and these are the
-- outcomes
pub record AreInputs (datagrams : List Judged) (outcomes : List Outcome) : Type 0 where
  pub updates : list_any is_current datagrams ≡ true
  pub first : Judged
  pub rest : List Judged
  pub split : datagrams ≡ first ∷ rest
  pub plain : is_block first.head.item ≡ false
  pub answer_given : outcomes ≡ map outcome_for datagrams

blocks_answered : (datagrams : List Judged) (outcomes : List Outcome) → judged_blocks_answer datagrams ≡ answer.Answered outcomes → ⊥
blocks_answered [] outcomes e = cc
blocks_answered (datagram ∷ []) outcomes e = not_answered datagram.verdict outcomes e
blocks_answered (datagram ∷ next ∷ datagrams) outcomes e =
    by_bool (list_any is_current (datagram ∷ next ∷ datagrams))
    (λ t. let never : answer.Written (map outcome_for (datagram ∷ next ∷ datagrams)) ≡ answer.Answered outcomes = rw t at e in cc)
    (λ t. let never : answer.Stale ≡ answer.Answered outcomes = rw t at e in cc)

pub are-inputs : (datagrams : List Judged) (outcomes : List Outcome) → judged_answer datagrams ≡ answer.Answered outcomes → AreInputs datagrams outcomes
are-inputs [] outcomes e = cc
are-inputs (datagram ∷ datagrams) outcomes e =
    by_bool (is_block datagram.head.item)
    (λ t. absurd (blocks_answered (datagram ∷ datagrams) outcomes (rw t at e)))
    (λ t. by_bool (list_any is_current (datagram ∷ datagrams))
    (λ u. let same : answer.Answered (map outcome_for (datagram ∷ datagrams)) ≡ answer.Answered outcomes = rw (t, u) at e in
    record { updates = u; first = datagram; rest = datagrams; split = refl; plain = t; answer_given = sym (same_outcomes _ outcomes same) })
    (λ u. let never : answer.Stale ≡ answer.Answered outcomes = rw (t, u) at e in cc))

-- no datagram of a sending is a block if the first one is a task's

plain_first : (since : List HistoryEntry) (heads : List Head) (parts : List Part) (first : Judged) (rest : List Judged) → map (judge since) (zip heads parts) ≡ first ∷ rest → is_block first.head.item ≡ false
    → all_blocks heads ≡ true → ⊥
plain_first since [] parts first rest split plain all = cc
plain_first since (head ∷ heads) [] first rest split plain all = cc
plain_first since (head ∷ heads) (part ∷ parts) first rest split plain all =
    let same : judge since (head, part) ≡ first = cc in
    let own : is_block head.item ≡ false = ap (λ (one : Judged). is_block one.head.item) same ∙ plain in
    let never : false ≡ true = sym (ap (λ b. b && all_blocks heads) own) ∙ all in cc

frame_of : (history : History) (arrival : Arrival) (outcomes : List Outcome) (is : IsCurrent history arrival) (inputs : AreInputs (judged_by history arrival) outcomes) → IsSort is.awaits.sending → is_write_sending is.awaits.sending ≡ false
frame_of history arrival outcomes is inputs sort =
    ⊎_elim (λ (plain : is_write_sending is.awaits.sending ≡ false). plain)
    (λ (all : all_blocks is.awaits.sending.heads ≡ true). absurd (plain_first is.awaits.sending.since is.awaits.sending.heads arrival.parts inputs.first inputs.rest (sym is.judged_as ∙ inputs.split) inputs.plain all)) sort

pub answer_given-inputs : (history : History) (arrival : Arrival) (outcomes : List Outcome) → judged_answer (judged_by history arrival) ≡ answer.Answered outcomes → ShowsInputs history arrival outcomes
answer_given-inputs history arrival outcomes e =
    let inputs = are-inputs (judged_by history arrival) outcomes e in
    let is = updates-of history arrival inputs.updates in
    let sending = is.awaits.sending in
    record {
      updates = is.new_answer;
      sending = sending;
      there = is.awaits.there;
      frame = frame_of history arrival outcomes is inputs (sort_of history arrival.serial sending is.awaits.there);
      good_answers = ap (flat_map new_answer) is.judged_as ∙ good_answers_alike sending.since sending.heads arrival.parts
          ∙ ap (λ all. good_answers_in (map outcome_for all) arrival.parts) (sym is.judged_as) ∙ ap (λ all. good_answers_in all arrival.parts) (sym inputs.answer_given);
    }

-- register writes: what is said of one block, and of several

block_outcome : (item : Item) (head : Head) (part : Part) (verdict : Verdict) → head.item ≡ item → is_block item ≡ true → write_answer verdict ≡ answer.WriteDone → outcome_of head part verdict ≡ Done
block_outcome (Datagram task d) head part verdict is block e = cc
block_outcome (Block station number) head part verdict is block e = search rules

missed_outcome : (item : Item) (head : Head) (part : Part) (verdict : Verdict) → head.item ≡ item → is_block item ≡ true → write_answer verdict ≡ answer.WriteMissed → outcome_of head part verdict ≡ Missed
missed_outcome (Datagram task d) head part verdict is block e = cc
missed_outcome (Block station number) head part verdict is block e = search rules

done_updates : (verdict : Verdict) → write_answer verdict ≡ answer.WriteDone → not (is_stale verdict) ≡ true
done_updates verdict e = search rules

missed_updates : (verdict : Verdict) → write_answer verdict ≡ answer.WriteMissed → not (is_stale verdict) ≡ true
missed_updates verdict e = search rules

-- a single one

record IsSingle (datagrams : List Judged) (answer_given : Answer) : Type 0 where
  one : Judged
  split : datagrams ≡ one ∷ []
  block : is_block one.head.item ≡ true
  verdict : write_answer one.verdict ≡ answer_given

single_of : (datagrams : List Judged) (answer_given : Answer) → judged_answer datagrams ≡ answer_given → ((outcomes : List Outcome) → answer.Answered outcomes ≡ answer_given → ⊥) → ((outcomes : List Outcome) → answer.Written outcomes ≡ answer_given → ⊥)
    → (answer.Stale ≡ answer_given → ⊥) → IsSingle datagrams answer_given
single_of [] answer_given e of_frame of_several of_none = absurd (of_none e)
single_of (datagram ∷ datagrams) answer_given e of_frame of_several of_none =
    by_bool (is_block datagram.head.item)
    (λ t. blocks_single datagram datagrams t (rw t at e))
    (λ t. by_bool (list_any is_current (datagram ∷ datagrams))
    (λ u. absurd (of_frame (map outcome_for (datagram ∷ datagrams)) (rw (t, u) at e)))
    (λ u. absurd (of_none (rw (t, u) at e))))
  where
    blocks_single : (first : Judged) (rest : List Judged) → is_block first.head.item ≡ true → judged_blocks_answer (first ∷ rest) ≡ answer_given → IsSingle (first ∷ rest) answer_given
    blocks_single first [] t e = record { one = first; split = refl; block = t; verdict = e }
    blocks_single first (next ∷ rest) t e =
        by_bool (list_any is_current (first ∷ next ∷ rest))
        (λ u. absurd (of_several (map outcome_for (first ∷ next ∷ rest)) (rw u at e)))
        (λ u. absurd (of_none (rw u at e)))

pub written-done : (datagrams : List Judged) → judged_answer datagrams ≡ answer.WriteDone → AreWriteOutcomes datagrams (Done ∷ [])
written-done datagrams e =
    let single = single_of datagrams answer.WriteDone e (λ outcomes same. cc) (λ outcomes same. cc) (λ same. cc) in
    record {
      updates = ap (list_any is_current) single.split ∙ ap (λ b. b || false) (done_updates single.one.verdict single.verdict);
      blocks = ap (list_any (λ datagram. is_block datagram.head.item)) single.split ∙ ap (λ b. b || false) single.block;
      exact = ap (λ one. one ∷ []) (sym (block_outcome single.one.head.item single.one.head single.one.part single.one.verdict refl single.block single.verdict)) ∙ sym (ap (map outcome_for) single.split);
    }

pub written-missed : (datagrams : List Judged) → judged_answer datagrams ≡ answer.WriteMissed → AreWriteOutcomes datagrams (Missed ∷ [])
written-missed datagrams e =
    let single = single_of datagrams answer.WriteMissed e (λ outcomes same. cc) (λ outcomes same. cc) (λ same. cc) in
    record {
      updates = ap (list_any is_current) single.split ∙ ap (λ b. b || false) (missed_updates single.one.verdict single.verdict);
      blocks = ap (list_any (λ datagram. is_block datagram.head.item)) single.split ∙ ap (λ b. b || false) single.block;
      exact = ap (λ one. one ∷ []) (sym (missed_outcome single.one.head.item single.one.head single.one.part single.one.verdict refl single.block single.verdict)) ∙ sym (ap (map outcome_for) single.split);
    }

same_written : (a b : List Outcome) → answer.Written a ≡ answer.Written b → a ≡ b
same_written a b e = cc

not_several : (verdict : Verdict) (outcomes : List Outcome) → write_answer verdict ≡ answer.Written outcomes → ⊥
not_several verdict outcomes e = search rules

several_of : (first : Judged) (rest : List Judged) (outcomes : List Outcome) → is_block first.head.item ≡ true → judged_blocks_answer (first ∷ rest) ≡ answer.Written outcomes → AreWriteOutcomes (first ∷ rest) outcomes
several_of first [] outcomes t e = absurd (not_several first.verdict outcomes e)
several_of first (next ∷ rest) outcomes t e =
    by_bool (list_any is_current (first ∷ next ∷ rest))
    (λ u. let same : answer.Written (map outcome_for (first ∷ next ∷ rest)) ≡ answer.Written outcomes = rw u at e in
    record {
      updates = u;
      blocks = ap (λ b. b || list_any (λ datagram. is_block datagram.head.item) (next ∷ rest)) t;
      exact = sym (same_written _ outcomes same);
    })
    (λ u. let never : answer.Stale ≡ answer.Written outcomes = rw u at e in cc)

pub written-several : (datagrams : List Judged) (outcomes : List Outcome) → judged_answer datagrams ≡ answer.Written outcomes → AreWriteOutcomes datagrams outcomes
written-several [] outcomes e = cc
written-several (datagram ∷ datagrams) outcomes e =
    by_bool (is_block datagram.head.item)
    (λ t. several_of datagram datagrams outcomes t (rw t at e))
    (λ t. by_bool (list_any is_current (datagram ∷ datagrams))
    (λ u. let never : answer.Answered (map outcome_for (datagram ∷ datagrams)) ≡ answer.Written outcomes = rw (t, u) at e in cc)
    (λ u. let never : answer.Stale ≡ answer.Written outcomes = rw (t, u) at e in cc))

-- an arrival for register writes has updates, is for an awaited frame of writes, and gives no task any
-- data

pub record ShowsWrites (history : History) (arrival : Arrival) : Type 0 where
  pub is : IsCurrent history arrival
  pub writes : is_write_sending is.awaits.sending ≡ true
  pub none : new_answer_by history arrival ≡ []

has_block : (since : List HistoryEntry) (heads : List Head) (parts : List Part) → list_any (λ datagram. is_block datagram.head.item) (map (judge since) (zip heads parts)) ≡ true → list_any (λ head. is_block head.item) heads ≡ true
has_block since [] parts e = cc
has_block since (head ∷ heads) [] e = cc
has_block since (head ∷ heads) (part ∷ parts) e =
    by_bool (is_block head.item)
    (λ t. ap (λ b. b || list_any (λ head. is_block head.item) heads) t)
    (λ t. ap (λ b. b || list_any (λ head. is_block head.item) heads) t ∙ has_block since heads parts (sym (ap (λ b. b || list_any (λ datagram. is_block datagram.head.item) (map (judge since) (zip heads parts))) t) ∙ e))

item_data : (item : Item) (good : Bool) (bytes : List ℕ) → is_block item ≡ true → cond good (new_answer_item item bytes) [] ≡ []
item_data (Datagram task d) good bytes e = cc
item_data (Block station number) true bytes e = refl
item_data (Block station number) false bytes e = refl

no_data : (since : List HistoryEntry) (heads : List Head) (parts : List Part) → all_blocks heads ≡ true → flat_map new_answer (map (judge since) (zip heads parts)) ≡ []
no_data since [] parts all = refl
no_data since (head ∷ heads) [] all = refl
no_data since (head ∷ heads) (part ∷ parts) all =
    let both = and_parts (is_block head.item) (all_blocks heads) all in
    ap (λ good_answers. good_answers ++ flat_map new_answer (map (judge since) (zip heads parts))) (item_data head.item (has_good (judge since (head, part))) part.bytes both.0) ∙ no_data since heads parts both.1

pub answer_given-writes : (history : History) (arrival : Arrival) (outcomes : List Outcome) → AreWriteOutcomes (judged_by history arrival) outcomes → ShowsWrites history arrival
answer_given-writes history arrival outcomes written =
    let is = updates-of history arrival written.updates in
    let sending = is.awaits.sending in
    let writes = has_block sending.since sending.heads arrival.parts (sym (ap (list_any (λ datagram. is_block datagram.head.item)) is.judged_as) ∙ written.blocks) in
    let all : all_blocks sending.heads ≡ true =
    ⊎_elim (λ (plain : is_write_sending sending ≡ false). let never : true ≡ false = sym writes ∙ plain in cc) (λ (all : all_blocks sending.heads ≡ true). all) (sort_of history arrival.serial sending is.awaits.there) in
    record { is = is; writes = writes; none = ap (flat_map new_answer) is.judged_as ∙ no_data sending.since sending.heads arrival.parts all }

-- nothing

is_over : (verdict : Verdict) → write_answer verdict ≡ answer.Stale → not (is_stale verdict) ≡ false
is_over verdict e = search rules

over_blocks : (datagrams : List Judged) → judged_blocks_answer datagrams ≡ answer.Stale → list_any is_current datagrams ≡ false
over_blocks [] e = refl
over_blocks (datagram ∷ []) e = ap (λ b. b || false) (is_over datagram.verdict e)
over_blocks (datagram ∷ next ∷ datagrams) e =
    by_bool (list_any is_current (datagram ∷ next ∷ datagrams))
    (λ t. let never : answer.Written (map outcome_for (datagram ∷ next ∷ datagrams)) ≡ answer.Stale = rw t at e in cc)
    (λ t. t)

over_all : (datagrams : List Judged) → judged_answer datagrams ≡ answer.Stale → list_any is_current datagrams ≡ false
over_all [] e = refl
over_all (datagram ∷ datagrams) e =
    by_bool (is_block datagram.head.item)
    (λ t. over_blocks (datagram ∷ datagrams) (rw t at e))
    (λ t. by_bool (list_any is_current (datagram ∷ datagrams))
    (λ u. let never : answer.Answered (map outcome_for (datagram ∷ datagrams)) ≡ answer.Stale = rw (t, u) at e in cc)
    (λ u. u))

pub answer_given-stale : (history : History) (arrival : Arrival) → judged_answer (judged_by history arrival) ≡ answer.Stale → is_stale_to history arrival ≡ true
answer_given-stale history arrival e = ap not (over_all (judged_by history arrival) e)
