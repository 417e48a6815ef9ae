-- The effect of forgetting a slave's registers. Histories without it say what they said.
use Rattle.std.proofs.Common.{◌≡◌, ℕ, ◌==◌, Bool, true, false, cond, not, ◌&&◌, ◌||◌, List, [], ◌∷◌, map, refl, sym, ap, ◌∙◌, subst, Option, Some, None}
use Rattle.std.specs.Prelude.{All, option_and_then}
use Rattle.std.specs.Option.{option_map_or}
use Rattle.std.specs.List.{list_any, zip}
use Rattle.std.specs.Str.{bytes_eq}
use Rattle.std.proofs.lemmas.Bool.{and_parts, and_right, not-true, or_left}
use Rattle.std.proofs.lemmas.List.Elements.{All-nil, All-cons}
use Rattle.hc_records.proofs.lemmas.Choices.{by_bool}
use Rattle.hc_registers.specs.Blocks.{LineBlock}
use Rattle.hc_events.specs.Answering.{Good, Sending, Stale, Verdict, Wrong, answered_by, followed_by, forgets, is_dropped, is_outdated, judge, judged, judged_by, sending_of, sends, starts_over}
use Rattle.hc_events.specs.Arrivals.{Arrival, Part}
use Rattle.hc_events.specs.Awaited.{all_outdated, awaited, is_write_sending}
use Rattle.hc_events.specs.Entries.{HistoryEntry, History, Forgot}
use Rattle.hc_events.specs.Forgetting.{IsForgotten, IsStaleFor, carries_other, is_of_other}
use Rattle.hc_events.specs.Heads.{Block, Datagram, Head, Item}
use Rattle.hc_events.specs.Owed.{if_confirmed, known_bytes, last_write}
use Rattle.hc_events.proofs.lemmas.Awaited.{awaited_other, awaited-new_answer, frame-untouched, same_is, unless_again}

-- what is known after it

known_if : (history : History) (station other number : ℕ) (own : Bool) → (other == station) ≡ own → known_bytes (Forgot station ∷ history) other number ≡ cond own None (known_bytes history other number)
known_if history station other number true e = ap (λ b. option_and_then (if_confirmed history (Block other number)) (cond b None (last_write history other number))) e
known_if history station other number false e = ap (λ b. option_and_then (if_confirmed history (Block other number)) (cond b None (last_write history other number))) e

owed_if : (block : LineBlock) (own : Bool) (known : Option (List ℕ)) → not (option_map_or (bytes_eq block.block.bytes) (cond own None known) false) ≡ (own || not (option_map_or (bytes_eq block.block.bytes) known false))
owed_if block true known = refl
owed_if block false known = refl

-- a frame of tasks stays awaited

pub frame-stays : (history : History) (station serial : ℕ) (sending : Sending) → awaited history serial ≡ Some sending → is_write_sending sending ≡ false
    → awaited (Forgot station ∷ history) serial ≡ Some (followed_by (Forgot station) sending)
frame-stays history station serial sending there frame =
    awaited_other serial (Forgot station) (λ heads. refl) refl (sending_of history serial)
    ∙ ap (option_and_then (unless_again (Forgot station))) there
    ∙ ap (λ b. cond b None (Some (followed_by (Forgot station) sending))) (frame-untouched (Forgot station) (λ task d. refl) sending.heads sending.since frame ∙ awaited-new_answer history serial sending there)

-- so does a frame of writes that has another slave's block that isn't out of date

pub other-judged : (station : ℕ) (since : List HistoryEntry) (item : Item) → is_of_other station item ≡ true → is_outdated item (Forgot station ∷ since) ≡ is_outdated item since
other-judged station since (Datagram task d) other = cc
other-judged station since (Block owner number) other =
    ap (λ b. ((b || list_any (forgets owner) since) || starts_over since) || list_any (sends (Block owner number)) since) (not-true (owner == station) other)

one_current : (station : ℕ) (since : List HistoryEntry) (heads : List Head) → list_any (λ head. is_of_other station head.item && not (is_outdated head.item since)) heads ≡ true
    → all_outdated (Forgot station ∷ since) heads ≡ false
one_current station since [] other = cc
one_current station since (head ∷ heads) other =
    by_bool (is_of_other station head.item && not (is_outdated head.item since))
    (λ t. let both = and_parts (is_of_other station head.item) (not (is_outdated head.item since)) t in
    ap (λ b. b && all_outdated (Forgot station ∷ since) heads) (other-judged station since head.item both.0 ∙ not-true (is_outdated head.item since) both.1))
    (λ t. and_right (is_outdated head.item (Forgot station ∷ since)) (all_outdated (Forgot station ∷ since) heads)
    (one_current station since heads (sym (ap (λ b. b || list_any (λ head. is_of_other station head.item && not (is_outdated head.item since)) heads) t) ∙ other)))

pub write-stays : (history : History) (station serial : ℕ) (sending : Sending) → awaited history serial ≡ Some sending → carries_other station sending ≡ true
    → awaited (Forgot station ∷ history) serial ≡ Some (followed_by (Forgot station) sending)
write-stays history station serial sending there other =
    awaited_other serial (Forgot station) (λ heads. refl) refl (sending_of history serial)
    ∙ ap (option_and_then (unless_again (Forgot station))) there
    ∙ ap (λ b. cond b None (Some (followed_by (Forgot station) sending))) (one_current station sending.since sending.heads other)

pub is-forgotten : (history : History) (station : ℕ) → IsForgotten history station
is-forgotten history station = record {
  own = λ number. known_if history station station number true (same_is station);
  others = λ other number e. known_if history station other number false e;
  owed = λ block.
      ap (λ known. not (option_map_or (bytes_eq block.block.bytes) known false)) (known_if history station block.station block.number (block.station == station) refl)
      ∙ owed_if block (block.station == station) (known_bytes history block.station block.number);
  state = refl;
  epoch = refl;
  serial = refl;
  slots = λ task d. refl;
  dates = λ task d. refl;
  values = λ variable k. refl;
  updates = refl;
  frames = λ serial sending there frame. frame-stays history station serial sending there frame;
  writes = λ serial sending there other. write-stays history station serial sending there other;
  judged = λ since item other. other-judged station since item other;
}

-- writes of its blocks that were sent before are stale

stale_verdict : (since : List HistoryEntry) (station number : ℕ) (head : Head) (part : Part) → list_any (forgets station) since ≡ true → head.item ≡ Block station number → (judge since (head, part)).verdict ≡ Stale
stale_verdict since station number head part forgotten is =
    let then' : Verdict = cond (part.counter == head.expected) Good Wrong in
    let outdated : is_outdated (Block station number) since ≡ true =
    or_left (is_dropped (Block station number) since) (list_any (sends (Block station number)) since) (or_left (list_any (forgets station) since) (starts_over since) forgotten) in
    ap (λ item. cond (is_outdated item since) Stale then') is ∙ ap (λ b. cond b Stale then') outdated

all_stale : (since : List HistoryEntry) (station : ℕ) (pairs : List (Head × Part)) → list_any (forgets station) since ≡ true → All (IsStaleFor station) (map (judge since) pairs)
all_stale since station [] forgotten = All-nil (IsStaleFor station)
all_stale since station (pair ∷ pairs) forgotten =
    All-cons (IsStaleFor station) (judge since pair) (map (judge since) pairs) (λ number is. stale_verdict since station number pair.0 pair.1 forgotten is) (all_stale since station pairs forgotten)

pub forgotten-stale : (history : History) (arrival : Arrival) (sending : Sending) (station : ℕ) → answered_by history arrival ≡ Some sending → list_any (forgets station) sending.since ≡ true
    → All (IsStaleFor station) (judged_by history arrival)
forgotten-stale history arrival sending station answered forgotten =
    subst (All (IsStaleFor station)) (sym (ap (λ found. option_map_or (judged arrival) found []) answered)) (all_stale sending.since station (zip sending.heads arrival.parts) forgotten)
