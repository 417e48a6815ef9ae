-- A returned frame names by its own addresses the datagrams that were sent.
use Rattle.std.proofs.Common.{◌≡◌, ℕ, ◌+◌, ◌*◌, ◌-◌, ◌/◌, ◌%◌, ◌<◌, ◌==◌, true, false, ◌&&◌, List, [], ◌∷◌, length, map, refl, sym, ap, ◌∙◌, arith, Option, Some, None, cond, Bool}
use Rattle.std.specs.Prelude.{All}
use Rattle.std.specs.Option.{option_map_or}
use Rattle.std.specs.List.{list_any, zip}
use Rattle.std.proofs.lemmas.Bool.{and_parts, eqb-true, or_parts}
use Rattle.std.proofs.lemmas.List.Elements.{All-nil, All-cons, All-head, All-tail}
use Rattle.hc_records.specs.declared.limits.TheConstants.{MOST_DATAGRAMS}
use Rattle.hc_records.specs.Image.{logical_address}
use Rattle.hc_records.specs.Line.{Member}
use Rattle.hc_registers.specs.Blocks.{LineBlock}
use Rattle.hc_frames.specs.Commands.{code_of}
use Rattle.hc_events.specs.declared.answer.Answer.TheVariants as answer
use Rattle.hc_events.specs.declared.answer.Outcome.{Outcome}
use Rattle.hc_events.specs.Arrivals.{Arrival, Part}
use Rattle.hc_events.specs.Entries.{HistoryEntry, History, Opened, Edited, Posted, Sent, Wrote, Came, Forgot, Cleared, Unplugged}
use Rattle.hc_events.specs.Points.{line_of}
use Rattle.hc_events.specs.Sendings.{Named}
use Rattle.hc_events.specs.Heads.{Head, Item, Datagram, Block, is_block, write_heads}
use Rattle.hc_events.specs.Answering.{Sending, Verdict, Good, Wrong, Stale, answered_by, has_head, has_heads, judge, judged, judged_by, Judged, is_current}
use Rattle.hc_events.specs.Steps.{judged_answer, write_answer, judged_blocks_answer, outcome_for}
use Rattle.hc_events.specs.Accepted.{AreAccepted}
use Rattle.hc_events.specs.SendingLaws.{heads_of, is_sending}
use Rattle.hc_events.specs.AnswerLaws.{IsHeadOf, IsItemOf}
use Rattle.hc_events.specs.Names.{HasFewDatagrams, HasItsAddress, IsNamedByAddress, named_at}
use Rattle.hc_events.proofs.lemmas.Answers.{answered-of_line, answers-first}
use Rattle.hc_events.proofs.lemmas.OneWrite.{no_blocks}

-- a datagram that came back has its head's address

same_address : (head : Head) (part : Part) → has_head head part ≡ true → part.address ≡ head.address
same_address head part e =
    let first = and_parts ((code_of head.command == code_of part.command) && (head.address == part.address)) (head.length == length part.bytes) e in
    sym (eqb-true head.address part.address (and_parts (code_of head.command == code_of part.command) (head.address == part.address) first.0).1)

all_addresses : (sending : Sending) (heads : List Head) (parts : List Part) → has_heads heads parts ≡ true → All HasItsAddress (map (judge sending.since) (zip heads parts))
all_addresses sending [] parts e = All-nil HasItsAddress
all_addresses sending (head ∷ heads) [] e = cc
all_addresses sending (head ∷ heads) (part ∷ parts) e =
    let same = and_parts (has_head head part) _ e in
    All-cons HasItsAddress (judge sending.since (head, part)) (map (judge sending.since) (zip heads parts)) (same_address head part same.0) (all_addresses sending heads parts same.1)

addresses_by : (history : History) (arrival : Arrival) (found : Option Sending) → answered_by history arrival ≡ found → All HasItsAddress (option_map_or (judged arrival) found [])
addresses_by history arrival None is = All-nil HasItsAddress
addresses_by history arrival (Some sending) is =
    all_addresses sending sending.heads arrival.parts ((answers-first history arrival sending).0 is).fits

pub addresses-sent : (history : History) (arrival : Arrival) → All HasItsAddress (judged_by history arrival)
addresses-sent history arrival = addresses_by history arrival (answered_by history arrival) refl

-- a logical address gives its task and its number

task_back : (task d : ℕ) → d < 16 → (0x01000000 * (task + 1) + 2048 * d) / 0x01000000 - 1 ≡ task
task_back task d low = omega (arith, low)

number_back : (task d : ℕ) → d < 16 → (0x01000000 * (task + 1) + 2048 * d) / 2048 % 16 ≡ d
number_back task d low = omega (arith, low)

both_back : (task d first second : ℕ) → first ≡ task → second ≡ d → ◌≡◌ {A = Named} (first, second) (task, d)
both_back task d first second is same = ap (λ (one : ℕ). (one, second)) is ∙ ap (λ (other : ℕ). (task, other)) same

name_back : (task d address : ℕ) → d < MOST_DATAGRAMS → address ≡ logical_address task d → named_at address ≡ (task, d)
name_back task d address low is =
    ap named_at is ∙ both_back task d (named_at (logical_address task d)).0 (named_at (logical_address task d)).1 (task_back task d low) (number_back task d low)

-- the datagrams of a frame of tasks

named_item : (line : List Member) (since : List HistoryEntry) (head : Head) (part : Part) (item : Item) → HasFewDatagrams line → head.item ≡ item → IsItemOf line item head → is_block item ≡ false
    → part.address ≡ head.address → IsNamedByAddress line (judge since (head, part))
named_item line since head part (Block station number) few there is plain same = cc
named_item line since head part (Datagram task d) few there is plain same = record {
  named = (task, d);
  in_line = is.0;
  head = is.1;
  names = name_back task d part.address (few (task, d) is.0) (same ∙ ap (λ (one : Head). one.address) is.1);
}

all_named : (line : List Member) (since : List HistoryEntry) (heads : List Head) (parts : List Part) → HasFewDatagrams line → All (IsHeadOf line) heads
    → list_any (λ head. is_block head.item) heads ≡ false → has_heads heads parts ≡ true → All (IsNamedByAddress line) (map (judge since) (zip heads parts))
all_named line since [] parts few are plain fit = All-nil (IsNamedByAddress line)
all_named line since (head ∷ heads) [] few are plain fit = cc
all_named line since (head ∷ heads) (part ∷ parts) few are plain fit =
    let same = and_parts (has_head head part) _ fit in
    let none = or_parts (is_block head.item) (list_any (λ one. is_block one.item) heads) plain in
    All-cons (IsNamedByAddress line) (judge since (head, part)) (map (judge since) (zip heads parts))
    (named_item line since head part head.item few refl (All-head (IsHeadOf line) head heads are) none.0 (same_address head part same.0))
    (all_named line since heads parts few (All-tail (IsHeadOf line) head heads are) none.1 same.1)

-- what is answered datagram by datagram is no register write

not_answered : (one : Verdict) (outcomes : List Outcome) → write_answer one ≡ answer.Answered outcomes → ⊥
not_answered Good outcomes e = cc
not_answered Wrong outcomes e = cc
not_answered Stale outcomes e = cc

not_written : (updates : Bool) (written outcomes : List Outcome) → cond updates (answer.Written written) answer.Stale ≡ answer.Answered outcomes → ⊥
not_written true written outcomes e = cc
not_written false written outcomes e = cc

never_blocks : (datagrams : List Judged) (outcomes : List Outcome) → judged_blocks_answer datagrams ≡ answer.Answered outcomes → ⊥
never_blocks [] outcomes e = cc
never_blocks (datagram ∷ []) outcomes e = not_answered datagram.verdict outcomes e
never_blocks (datagram ∷ next ∷ datagrams) outcomes e =
    not_written (list_any is_current (datagram ∷ next ∷ datagrams)) (map outcome_for (datagram ∷ next ∷ datagrams)) outcomes e

never_write : (since : List HistoryEntry) (blocks : List LineBlock) (parts : List Part) (outcomes : List Outcome) → judged_answer (map (judge since) (zip (write_heads blocks) parts)) ≡ answer.Answered outcomes → ⊥
never_write since [] parts outcomes e = cc
never_write since (block ∷ blocks) [] outcomes e = cc
never_write since (block ∷ blocks) (part ∷ parts) outcomes e = never_blocks (map (judge since) (zip (write_heads (block ∷ blocks)) (part ∷ parts))) outcomes e

plain_by : (before : History) (entry : HistoryEntry) (since : List HistoryEntry) (heads : List Head) (parts : List Part) (outcomes : List Outcome) → is_sending entry ≡ true → heads ≡ heads_of before entry
    → judged_answer (map (judge since) (zip heads parts)) ≡ answer.Answered outcomes → list_any (λ head. is_block head.item) heads ≡ false
plain_by before (Opened groups) since heads parts outcomes sends is answer_given = cc
plain_by before (Edited edit) since heads parts outcomes sends is answer_given = cc
plain_by before (Posted task bytes) since heads parts outcomes sends is answer_given = cc
plain_by before (Forgot station) since heads parts outcomes sends is answer_given = cc
plain_by before (Cleared station) since heads parts outcomes sends is answer_given = cc
plain_by before (Unplugged station) since heads parts outcomes sends is answer_given = cc
plain_by before (Came arrival) since heads parts outcomes sends is answer_given = cc
plain_by before (Sent frame) since heads parts outcomes sends is answer_given = ap (list_any (λ (head : Head). is_block head.item)) is ∙ no_blocks (line_of before) frame
plain_by before (Wrote blocks) since heads parts outcomes sends is answer_given =
    absurd (never_write since blocks parts outcomes (sym (ap (λ all. judged_answer (map (judge since) (zip all parts))) is) ∙ answer_given))

named_by_answer : (history : History) (arrival : Arrival) (outcomes : List Outcome) (found : Option Sending) → AreAccepted history → HasFewDatagrams (line_of history) → answered_by history arrival ≡ found
    → judged_answer (option_map_or (judged arrival) found []) ≡ answer.Answered outcomes → All (IsNamedByAddress (line_of history)) (option_map_or (judged arrival) found [])
named_by_answer history arrival outcomes None all few is answer_given = All-nil (IsNamedByAddress (line_of history))
named_by_answer history arrival outcomes (Some sending) all few is answer_given =
    let first = (answers-first history arrival sending).0 is in
    let at = first.sent in
    all_named (line_of history) sending.since sending.heads arrival.parts few (answered-of_line history arrival sending all is)
    (plain_by at.before at.entry sending.since sending.heads arrival.parts outcomes at.sends at.heads answer_given) first.fits

pub answered-named : (history : History) (arrival : Arrival) (outcomes : List Outcome) → AreAccepted history → HasFewDatagrams (line_of history)
    → judged_answer (judged_by history arrival) ≡ answer.Answered outcomes → All (IsNamedByAddress (line_of history)) (judged_by history arrival)
answered-named history arrival outcomes all few answer_given = named_by_answer history arrival outcomes (answered_by history arrival) all few refl answer_given
