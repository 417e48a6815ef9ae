-- There are at most as many awaited frames as datagrams: each is the newest of one.
use Rattle.std.proofs.Common.{◌≡◌, ◌≢◌, ℕ, ◌*◌, ◌<◌, ◌≤◌, ◌==◌, true, nat_eq, List, [], ◌∷◌, length, map, filter, get_or, ap, ◌∙◌, arith, Option, Some, None, zero, suc}
use Rattle.std.specs.Prelude.{All, AllPairs, unwrap_or}
use Rattle.std.specs.List.{list_any, IsDistinct}
use Rattle.std.specs.Set.{is_member}
use Rattle.std.proofs.lemmas.Bool.Decides.{nat_tests, Decides-eqb}
use Rattle.std.proofs.lemmas.Cmp.{nat_eq_equiv}
use Rattle.std.proofs.lemmas.List.{length-map}
use Rattle.std.proofs.lemmas.List.Elements.{All-head, All-tail, filter_passes}
use Rattle.std.proofs.lemmas.List.Kept.{AllPairs-filter}
use Rattle.std.proofs.lemmas.Map.Made.{IsDistinct-from_AllPairs, length-le_from_is_member}
use Rattle.std.proofs.lemmas.Bool.{or_left, or_right}
use Rattle.hc_records.proofs.lemmas.Lists.{AllPairs-map, AllPairs-weaker}
use Rattle.hc_events.specs.Sendings.{Named}
use Rattle.hc_records.specs.declared.limits.TheConstants.{MOST_DATAGRAMS, TASKS}
use Rattle.hc_records.specs.Slots.{slot_number}
use Rattle.hc_records.proofs.lemmas.Choices.{by_bool, less_differs}
use Rattle.hc_sendings.specs.Waiting.{AwaitedDatagram, is_still_awaited}
use Rattle.hc_sendings.specs.Stored.{AreStored, StoredFrame, LastSent, is_serial, last_sent_of}
use Rattle.hc_sendings.proofs.AwaitedStill.{awaited_at, filter-map_is, stays_at, answered_at}

-- serials that ascend are distinct
distinct : (frames : List StoredFrame) → AllPairs (λ a b. a.serial < b.serial) frames → IsDistinct nat_eq (map (λ (frame : StoredFrame). frame.serial) frames)
distinct frames ascend =
    IsDistinct-from_AllPairs Decides-eqb (map (λ (frame : StoredFrame). frame.serial) frames)
    (AllPairs-map (λ a b. a ≢ b) (λ (frame : StoredFrame). frame.serial) frames
    (AllPairs-weaker (λ (a b : StoredFrame). a.serial < b.serial) (λ (a b : StoredFrame). a.serial ≢ b.serial) (λ a b below. less_differs a.serial b.serial below) frames ascend))

-- the serials of a table
abbrev serials : LastSent → List ℕ
serials last_sent = map (λ (found : Option ℕ). unwrap_or found 0) last_sent

turned : (m n : ℕ) → (m == n) ≡ true → nat_eq n m ≡ true
turned m n e = grind (arith, nat_tests)

same-number : (m n : ℕ) → nat_eq m n ≡ true → m ≡ n
same-number m n e = grind (arith, nat_tests)

is-found : (serial : ℕ) (found : Option ℕ) → is_serial serial found ≡ true → nat_eq serial (unwrap_or found 0) ≡ true
is-found serial None e = cc
is-found serial (Some n) e = turned n serial e

in-table : (serial : ℕ) (last_sent : LastSent) (place : ℕ) → is_serial serial (get_or last_sent place None) ≡ true → list_any (nat_eq serial) (serials last_sent) ≡ true
in-table serial [] place e = cc
in-table serial (found ∷ last_sent) zero e = or_left (nat_eq serial (unwrap_or found 0)) (list_any (nat_eq serial) (serials last_sent)) (is-found serial found e)
in-table serial (found ∷ last_sent) (suc place) e = or_right (nat_eq serial (unwrap_or found 0)) (list_any (nat_eq serial) (serials last_sent)) (in-table serial last_sent place e)

-- the serial of a frame that is the newest of a datagram is in the table
carried-in : (last_sent : LastSent) (serial : ℕ) (datagrams : List Named)
    → list_any (λ (carried : AwaitedDatagram). carried.last_sent) (map (λ named. record { datagram = named; last_sent = is_serial serial (last_sent_of last_sent named) }) datagrams) ≡ true
    → list_any (nat_eq serial) (serials last_sent) ≡ true
carried-in last_sent serial [] e = cc
carried-in last_sent serial (d ∷ ds) e =
    by_bool (is_serial serial (last_sent_of last_sent d))
    (λ t. in-table serial last_sent (slot_number d.0 d.1) t)
    (λ t. carried-in last_sent serial ds (rw t at e))

abbrev Stays : LastSent → StoredFrame → Type 0
Stays last_sent frame = stays_at (last_sent_of last_sent) frame ≡ true

all-in : (last_sent : LastSent) (frames : List StoredFrame) → All (Stays last_sent) frames → (q : ℕ)
    → is_member nat_eq (map (λ (frame : StoredFrame). frame.serial) frames) q ≡ true → is_member nat_eq (serials last_sent) q ≡ true
all-in last_sent [] awaited_still q e = cc
all-in last_sent (frame ∷ frames) awaited_still q e =
    by_bool (nat_eq q frame.serial)
    (λ t. ap (λ n. is_member nat_eq (serials last_sent) n) (same-number q frame.serial t) ∙ carried-in last_sent frame.serial frame.datagrams (All-head (Stays last_sent) frame frames awaited_still))
    (λ t. all-in last_sent frames (All-tail (Stays last_sent) frame frames awaited_still) q (rw t at e))

few : (last_sent : LastSent) (frames : List StoredFrame) → AllPairs (λ a b. a.serial < b.serial) frames → All (Stays last_sent) frames → length frames ≤ length last_sent
few last_sent frames ascend awaited_still =
    let least = length-le_from_is_member nat_eq_equiv (map (λ (frame : StoredFrame). frame.serial) frames) (serials last_sent) (distinct frames ascend) (all-in last_sent frames awaited_still) in
    let first = length-map frames (λ (frame : StoredFrame). frame.serial) in
    let second = length-map last_sent (λ (found : Option ℕ). unwrap_or found 0) in
    omega (arith, least, first, second)

-- so those of any frames that are awaited
pub few-stay : (last_sent : LastSent) (frames : List StoredFrame) → AllPairs (λ a b. a.serial < b.serial) frames → length (filter (stays_at (last_sent_of last_sent)) frames) ≤ length last_sent
few-stay last_sent frames ascend =
    few last_sent (filter (stays_at (last_sent_of last_sent)) frames) (AllPairs-filter (λ (a b : StoredFrame). a.serial < b.serial) (stays_at (last_sent_of last_sent)) frames ascend)
    (λ k d within. filter_passes (stays_at (last_sent_of last_sent)) frames k d within)

-- and what is said of them
pub few-answer_given : (last_sent : LastSent) (frames : List StoredFrame) → AreStored last_sent frames → length (awaited_at (last_sent_of last_sent) frames) ≤ TASKS * MOST_DATAGRAMS
few-answer_given last_sent frames are =
    let few = few-stay last_sent frames are.ascend in
    let answer_given = ap length (filter-map_is is_still_awaited (answered_at (last_sent_of last_sent)) frames) in
    let count = length-map (filter (stays_at (last_sent_of last_sent)) frames) (answered_at (last_sent_of last_sent)) in
    let places = are.places in
    omega (arith, few, answer_given, count, places)
