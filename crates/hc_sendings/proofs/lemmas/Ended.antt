-- An arrival that is current ends what is awaited with its serial, and nothing else.
use Rattle.std.proofs.Common.{◌≡◌, ◌≢◌, ℕ, ◌==◌, ◌<◌, Bool, true, false, cond, not, List, [], ◌∷◌, filter, refl, sym, ap, ◌∙◌, subst, Option, Some, None}
use Rattle.std.specs.Prelude.{All, AllPairs, find, option_and_then, option_map}
use Rattle.std.specs.Option.{option_or}
use Rattle.std.proofs.lemmas.Bool.{eqb-true}
use Rattle.std.proofs.lemmas.List.Elements.{All-filter, All-weaker, filter-append}
use Rattle.std.proofs.lemmas.List.Kept.{AllPairs-filter}
use Rattle.hc_records.specs.Line.{Member}
use Rattle.hc_records.proofs.lemmas.Choices.{by_bool}
use Rattle.hc_events.specs.Arrivals.{Arrival}
use Rattle.hc_events.specs.Accepted.{IsInLine, carries_first}
use Rattle.hc_events.specs.AnswerLaws.{IsAwaited}
use Rattle.hc_events.specs.Entries.{History, Came}
use Rattle.hc_events.specs.Points.{line_of, next_serial}
use Rattle.hc_events.specs.Answering.{Sending, has_heads, is_stale_to, sending_of}
use Rattle.hc_events.specs.Awaited.{awaited}
use Rattle.hc_events.proofs.lemmas.Answers.{awaited-answered}
use Rattle.hc_events.proofs.lemmas.Awaited.{awaited_came, same_is, unless_fits, unless-other}
use Rattle.hc_sendings.specs.Waiting.{AwaitedFrame, AwaitedWrite, Waiting, all_writes, ended}
use Rattle.hc_sendings.specs.Judging.{due_with, found_frame, found_write, frame_due, write_due}
use Rattle.hc_sendings.specs.History.{KeepsAwaited, due_by, dues_of}

-- among what is kept

either_none : {X : Type 0} (b : Bool) (x : Option X) → cond b x x ≡ x
either_none true x = refl
either_none false x = refl

same_other : (own serial n : ℕ) → (own == serial) ≡ true → (own == n) ≡ (serial == n)
same_other own serial n e = ap (λ m. m == n) (eqb-true own serial e)

first_gone : {X : Type 0} (over : Bool) (x rest : Option X) → cond (not over) x (cond over None rest) ≡ cond over None x
first_gone true x rest = refl
first_gone false x rest = refl

ended_many : {X : Type 0} (out found over : Bool) (x rest : Option X) → (found ≡ true → out ≡ over)
    → cond (not out) (cond found x (cond over None rest)) (cond over None rest) ≡ cond over None (cond found x rest)
ended_many out true over x rest same = ap (λ b. cond (not b) x (cond over None rest)) (same refl) ∙ first_gone over x rest
ended_many out false over x rest same = either_none (not out) (cond over None rest)

-- frames or writes, each with its serial
module _ {X : Type 0} (number : X → ℕ) where
  find_unchanged : (serial : ℕ) (keep : Bool) (one : X) (rest : List X) → find (λ x. number x == serial) (cond keep (one ∷ rest) rest)
      ≡ cond keep (cond (number one == serial) (Some one) (find (λ x. number x == serial) rest)) (find (λ x. number x == serial) rest)
  find_unchanged serial true one rest = refl
  find_unchanged serial false one rest = refl

  found_ended : (n serial : ℕ) (all : List X) → find (λ x. number x == serial) (filter (λ x. not (number x == n)) all)
      ≡ cond (serial == n) None (find (λ x. number x == serial) all)
  found_ended n serial [] = sym (either_none (serial == n) None)
  found_ended n serial (one ∷ all) =
      find_unchanged serial (not (number one == n)) one (filter (λ x. not (number x == n)) all)
      ∙ ap (λ rest. cond (not (number one == n)) (cond (number one == serial) (Some one) rest) rest) (found_ended n serial all)
      ∙ ended_many (number one == n) (number one == serial) (serial == n) (Some one) (find (λ x. number x == serial) all) (same_other (number one) serial n)

dues_ended : (line : List Member) (over : Bool) (write : Option AwaitedWrite) (frame : Option AwaitedFrame)
    → option_or (option_map write_due (cond over None write)) (option_map (frame_due line) (cond over None frame))
    ≡ cond over None (option_or (option_map write_due write) (option_map (frame_due line) frame))
dues_ended line true write frame = refl
dues_ended line false write frame = refl

all_ended : (n : ℕ) (waiting : Waiting) → all_writes (ended n waiting) ≡ filter (λ (write : AwaitedWrite). not (write.serial == n)) (all_writes waiting)
all_ended n waiting = sym (filter-append (λ (write : AwaitedWrite). not (write.serial == n)) waiting.further waiting.writes)

due_ended : (line : List Member) (n : ℕ) (waiting : Waiting) (serial : ℕ) → due_with line (ended n waiting) serial ≡ cond (serial == n) None (due_with line waiting serial)
due_ended line n waiting serial =
    ap (λ write. option_or (option_map write_due write) (option_map (frame_due line) (found_frame serial (ended n waiting))))
    (ap (find (λ (write : AwaitedWrite). write.serial == serial)) (all_ended n waiting) ∙ found_ended (λ (write : AwaitedWrite). write.serial) n serial (all_writes waiting))
    ∙ ap (λ frame. option_or (option_map write_due (cond (serial == n) None (found_write serial waiting))) (option_map (frame_due line) frame)) (found_ended (λ (frame : AwaitedFrame). frame.serial) n serial waiting.frames)
    ∙ dues_ended line (serial == n) (found_write serial waiting) (found_frame serial waiting)

-- by the record

fits_itself : (arrival : Arrival) (sending : Sending) → has_heads sending.heads arrival.parts ≡ true → unless_fits arrival.serial arrival sending ≡ None
fits_itself arrival sending fit = rw (same_is arrival.serial, fit) refl

due_answered : (history : History) (arrival : Arrival) (serial : ℕ) → IsAwaited history arrival → due_by (Came arrival ∷ history) serial ≡ cond (serial == arrival.serial) None (due_by history serial)
due_answered history arrival serial updates =
    ap (option_map dues_of) (awaited_came serial arrival (sending_of history serial))
    ∙ by_bool (serial == arrival.serial)
    (λ t. let number : serial ≡ arrival.serial = eqb-true serial arrival.serial t in
    let over : option_and_then (unless_fits serial arrival) (awaited history serial) ≡ None =
    subst (λ n. option_and_then (unless_fits n arrival) (awaited history n) ≡ None) (sym number)
    (ap (option_and_then (unless_fits arrival.serial arrival)) updates.there ∙ fits_itself arrival updates.sending updates.fits) in
    ap (option_map dues_of) over ∙ sym (ap (λ b. cond b None (due_by history serial)) t))
    (λ t. ap (option_map dues_of) (unless-other serial arrival (awaited history serial) t) ∙ sym (ap (λ b. cond b None (due_by history serial)) t))

-- so what is kept then is what the record awaits

pub waits-ended : (history : History) (waiting : Waiting) (arrival : Arrival) → KeepsAwaited history waiting → is_stale_to history arrival ≡ false
    → KeepsAwaited (Came arrival ∷ history) (ended arrival.serial waiting)
waits-ended history waiting arrival waits updates =
    let for = (awaited-answered history arrival).updates.0 updates in
    let keep : AwaitedFrame → Bool = λ frame. not (frame.serial == arrival.serial) in
    let stays : AwaitedWrite → Bool = λ write. not (write.serial == arrival.serial) in
    let differ : AwaitedWrite → AwaitedWrite → Type 0 = λ a b. a.serial ≢ b.serial in
    let back : (P : List AwaitedWrite → Type 0) → P (filter stays (all_writes waiting)) → P (all_writes (ended arrival.serial waiting)) = λ P holds. subst P (sym (all_ended arrival.serial waiting)) holds in
    record {
      due = λ serial. due_ended (line_of history) arrival.serial waiting serial ∙ ap (cond (serial == arrival.serial) None) (waits.due serial) ∙ sym (due_answered history arrival serial for);
      ascend = AllPairs-filter (λ (a b : AwaitedFrame). a.serial < b.serial) keep waiting.frames waits.ascend;
      below = All-filter keep (λ (frame : AwaitedFrame). frame.serial < next_serial history) waiting.frames waits.below;
      in_line = All-filter keep (λ (frame : AwaitedFrame). All (λ carried. IsInLine (line_of history) carried.datagram) frame.datagrams) waiting.frames waits.in_line;
      in_order = AllPairs-filter (λ (a b : AwaitedWrite). a.serial < b.serial) stays waiting.writes waits.in_order;
      distinct = back (AllPairs differ) (AllPairs-filter differ stays (all_writes waiting) waits.distinct);
      given = back (All (λ (write : AwaitedWrite). write.serial < next_serial history)) (All-filter stays (λ (write : AwaitedWrite). write.serial < next_serial history) (all_writes waiting) waits.given);
      apart = back (All (λ (write : AwaitedWrite). All (λ (frame : AwaitedFrame). frame.serial ≢ write.serial) (filter keep waiting.frames)))
          (All-filter stays (λ (write : AwaitedWrite). All (λ (frame : AwaitedFrame). frame.serial ≢ write.serial) (filter keep waiting.frames)) (all_writes waiting)
          (All-weaker (λ (write : AwaitedWrite). All (λ (frame : AwaitedFrame). frame.serial ≢ write.serial) waiting.frames) (λ (write : AwaitedWrite). All (λ (frame : AwaitedFrame). frame.serial ≢ write.serial) (filter keep waiting.frames))
          (λ write all. All-filter keep (λ (frame : AwaitedFrame). frame.serial ≢ write.serial) waiting.frames all) (all_writes waiting) waits.apart));
      first = All-filter stays (λ (write : AwaitedWrite). carries_first history write.serial) waiting.writes waits.first;
      forgotten = waits.forgotten;
    }
