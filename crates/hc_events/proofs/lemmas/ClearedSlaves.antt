-- A slave that was cleared may hold, until the next edit, only what the line configures; what a slave outside the line may hold stays.
use Rattle.std.proofs.Common.{◌≡◌, ℕ, ◌==◌, ◌&&◌, ◌||◌, not, ◌∙◌, Bool, true, false, cond, List, [], ◌∷◌, ◌++◌, refl, sym, ap, ap₂, subst, Option, Some, None}
use Rattle.std.specs.Prelude.{All, Contains}
use Rattle.std.specs.List.{list_any}
use Rattle.std.proofs.lemmas.Bool.{and_parts, eqb-true}
use Rattle.std.proofs.lemmas.List.Elements.{All-nil, All-cons, All-contains, All-head, All-tail}
use Rattle.hc_records.specs.Edits.{over_limit_task}
use Rattle.hc_records.specs.Line.{State, groups_of, line}
use Rattle.hc_records.specs.Project.{lowest_fault}
use Rattle.hc_records.proofs.lemmas.Choices.{by_bool}
use Rattle.hc_registers.specs.Blocks.{LineBlock, line_blocks}
use Rattle.hc_events.specs.Accepted.{AreAccepted}
use Rattle.hc_events.specs.Answering.{judged_by}
use Rattle.hc_events.specs.Arrivals.{Arrival}
use Rattle.hc_events.specs.Entries.{HistoryEntry, History, Opened, Edited, Posted, Sent, Wrote, Came, Forgot, Cleared, Unplugged}
use Rattle.hc_events.specs.Heads.{Block, block_item, same_item}
use Rattle.hc_events.specs.Holding.{MayHold, cleared_register, held_after_answer, held_after_write, is_unplugged, may_hold}
use Rattle.hc_events.specs.Owed.{block_among, confirms, is_in_line, last_write}
use Rattle.hc_events.specs.Points.{line_of, state_of}
use Rattle.hc_events.specs.Ready.{concerns, concerns_outside, is_fmmu, is_ready, may_name, names_among, names_task, registers_outside, serves_task}
use Rattle.hc_events.specs.ReadyLaws.{IsHeldStill, StaysPlugged, changes_line}
use Rattle.hc_events.proofs.lemmas.Answers.{written-inside}
use Rattle.hc_events.proofs.lemmas.Awaited.{same_is}
use Rattle.hc_events.proofs.lemmas.Confirmed.{confirmed-last}
use Rattle.hc_events.proofs.lemmas.LineBlocks.{named-served}
use Rattle.hc_events.proofs.lemmas.Live.{find-is}
use Rattle.hc_events.proofs.lemmas.ReadyEdits.{ready-waits}
use Rattle.hc_events.proofs.lemmas.Undeclared.{confirmed-outside, wrote-outside}

-- bytes that a block of the line with this name has

record IsOwnBytes (blocks : List LineBlock) (station number : ℕ) (bytes : List ℕ) : Type 0 where
  block : LineBlock
  has : Contains blocks block
  at_station : block.station ≡ station
  at_number : block.number ≡ number
  same : block.block.bytes ≡ bytes

record HoldsOwn (blocks : List LineBlock) (station number : ℕ) (held : MayHold) : Type 0 where
  known : held.unknown ≡ false
  own : All (IsOwnBytes blocks station number) held.contents

own_name : (station number : ℕ) (block : LineBlock) → same_item (Block station number) (block_item block) ≡ true → (block.station ≡ station) × (block.number ≡ number)
own_name station number block same =
    let both = and_parts (station == block.station) (number == block.number) same in
    (sym (eqb-true station block.station both.0), sym (eqb-true number block.number both.1))

wrote_own : (all : List LineBlock) (station number : ℕ) (blocks : List LineBlock) (found : Option LineBlock) (held : MayHold) → All (Contains all) blocks → block_among station number blocks ≡ found → HoldsOwn all station number held
    → HoldsOwn all station number (held_after_write found held)
wrote_own all station number blocks None held inside is before = record { known = before.known; own = before.own }
wrote_own all station number blocks (Some block) held inside is before =
    let one = find-is (Contains all) (λ other. same_item (Block station number) (block_item other)) blocks block inside is in
    let name = own_name station number block one.1 in
    record {
      known = before.known;
      own = All-cons (IsOwnBytes all station number) block.block.bytes held.contents (record { block = block; has = one.0; at_station = name.0; at_number = name.1; same = refl }) before.own;
    }

came_own : (history : History) (arrival : Arrival) (station number : ℕ) → AreAccepted history → HoldsOwn (line_blocks (line_of history)) station number (may_hold history station number)
    → HoldsOwn (line_blocks (line_of history)) station number (may_hold (Came arrival ∷ history) station number)
came_own history arrival station number all before =
    let blocks = line_blocks (line_of history) in
    let P = HoldsOwn blocks station number in
    by_bool (list_any (confirms (Block station number)) (judged_by history arrival))
    (λ t. let one = confirmed-last history arrival station number t in
    let name = own_name station number one.block one.same in
    let held : may_hold (Came arrival ∷ history) station number ≡ record { unknown = false; contents = one.block.block.bytes ∷ [] } =
    ap (λ good. held_after_answer good (last_write history station number) (may_hold history station number)) t
    ∙ ap (λ write. held_after_answer true write (may_hold history station number)) one.last in
    subst P (sym held) (record {
      known = refl;
      own = All-cons (IsOwnBytes blocks station number) one.block.block.bytes [] (record { block = one.block; has = one.inside all; at_station = name.0; at_number = name.1; same = refl }) (All-nil (IsOwnBytes blocks station number));
    }))
    (λ t. subst P (sym (ap (λ good. held_after_answer good (last_write history station number) (may_hold history station number)) t)) before)

cleared_own : (all : List LineBlock) (station number : ℕ) (own : Bool) (held : MayHold) → HoldsOwn all station number held → HoldsOwn all station number (cond own cleared_register held)
cleared_own all station number true held before = record { known = refl; own = All-nil (IsOwnBytes all station number) }
cleared_own all station number false held before = before

-- since a slave was cleared

record OwnSince (since : List HistoryEntry) (history : History) (station : ℕ) : Type 0 where
  state : state_of (since ++ Cleared station ∷ history) ≡ state_of history
  own : (number : ℕ) → AreAccepted (since ++ Cleared station ∷ history) → HoldsOwn (line_blocks (line_of history)) station number (may_hold (since ++ Cleared station ∷ history) station number)

at_line : (now history : History) (station number : ℕ) (held : MayHold) → state_of now ≡ state_of history → HoldsOwn (line_blocks (line_of history)) station number held → HoldsOwn (line_blocks (line_of now)) station number held
at_line now history station number held same own = subst (λ (s : State). HoldsOwn (line_blocks (line s)) station number held) (sym same) own

from_line : (now history : History) (station number : ℕ) (held : MayHold) → state_of now ≡ state_of history → HoldsOwn (line_blocks (line_of now)) station number held → HoldsOwn (line_blocks (line_of history)) station number held
from_line now history station number held same own = subst (λ (s : State). HoldsOwn (line_blocks (line s)) station number held) same own

own_since : (since : List HistoryEntry) (history : History) (station : ℕ) → list_any changes_line since ≡ false → OwnSince since history station
own_since [] history station none = record {
  state = refl;
  own = λ number all.
      subst (HoldsOwn (line_blocks (line_of history)) station number) (sym (ap (λ b. cond b cleared_register (may_hold history station number)) (same_is station)))
      (record { known = refl; own = All-nil (IsOwnBytes (line_blocks (line_of history)) station number) });
}
own_since (Opened groups ∷ since) history station none = cc
own_since (Edited edit ∷ since) history station none = cc
own_since (Posted task bytes ∷ since) history station none = let before = own_since since history station none in record { state = before.state; own = λ number all. before.own number all.1 }
own_since (Sent frame ∷ since) history station none = let before = own_since since history station none in record { state = before.state; own = λ number all. before.own number all.1 }
own_since (Wrote blocks ∷ since) history station none =
    let now = since ++ Cleared station ∷ history in
    let before = own_since since history station none in
    record {
      state = before.state;
      own = λ number all.
          from_line now history station number (may_hold (Wrote blocks ∷ now) station number) before.state
          (wrote_own (line_blocks (line_of now)) station number blocks (block_among station number blocks) (may_hold now station number) (written-inside now blocks all.0) refl
          (at_line now history station number (may_hold now station number) before.state (before.own number all.1)));
    }
own_since (Came arrival ∷ since) history station none =
    let now = since ++ Cleared station ∷ history in
    let before = own_since since history station none in
    record {
      state = before.state;
      own = λ number all.
          from_line now history station number (may_hold (Came arrival ∷ now) station number) before.state
          (came_own now arrival station number all.1 (at_line now history station number (may_hold now station number) before.state (before.own number all.1)));
    }
own_since (Forgot other ∷ since) history station none = let before = own_since since history station none in record { state = before.state; own = λ number all. before.own number all.1 }
own_since (Cleared other ∷ since) history station none =
    let before = own_since since history station none in
    record {
      state = before.state;
      own = λ number all. cleared_own (line_blocks (line_of history)) station number (station == other) (may_hold (since ++ Cleared station ∷ history) station number) (before.own number all.1);
    }
own_since (Unplugged other ∷ since) history station none = let before = own_since since history station none in record { state = before.state; own = λ number all. before.own number all.1 }

-- so its blocks concern the tasks of their own areas alone

names_one : (task : ℕ) (blocks : List LineBlock) (station number : ℕ) (contents : List (List ℕ)) → All (IsOwnBytes blocks station number) contents → list_any (names_task task) contents ≡ true
    → (block : LineBlock) × Contains blocks block × (block.station ≡ station) × (block.number ≡ number) × (names_task task block.block.bytes ≡ true)
names_one task blocks station number [] all names = cc
names_one task blocks station number (bytes ∷ contents) all names =
    by_bool (names_task task bytes)
    (λ t. let one = All-head (IsOwnBytes blocks station number) bytes contents all in
    (one.block, one.has, one.at_station, one.at_number, ap (names_task task) one.same ∙ t))
    (λ t. names_one task blocks station number contents (All-tail (IsOwnBytes blocks station number) bytes contents all) (sym (ap (λ b. b || list_any (names_task task) contents) t) ∙ names))

pub cleared-serves : (since : List HistoryEntry) (history : History) (task : ℕ) (block : LineBlock) → AreAccepted (since ++ Cleared block.station ∷ history) → lowest_fault (groups_of (state_of history).groups) ≡ None
    → over_limit_task (line_of history) ≡ None → list_any changes_line since ≡ false → Contains (line_blocks (line_of history)) block → concerns (since ++ Cleared block.station ∷ history) task block ≡ true
    → serves_task (state_of history) task block ≡ true
cleared-serves since history task block all project uncrowded none has concerned =
    let now = since ++ Cleared block.station ∷ history in
    let own = own_since since history block.station none in
    let held = own.own block.number all in
    by_bool (serves_task (state_of history) task block)
    (λ t. t)
    (λ t. let names : may_name task block.number (may_hold now block.station block.number) ≡ true =
    sym (ap (λ b. b || may_name task block.number (may_hold now block.station block.number)) (ap (λ (s : State). serves_task s task block) own.state ∙ t)) ∙ concerned in
    let parts = and_parts (is_fmmu block.number) ((may_hold now block.station block.number).unknown || names_among task (may_hold now block.station block.number)) names in
    let among : names_among task (may_hold now block.station block.number) ≡ true = sym (ap (λ b. b || names_among task (may_hold now block.station block.number)) held.known) ∙ parts.1 in
    let one = names_one task (line_blocks (line_of history)) block.station block.number (may_hold now block.station block.number).contents held.own among in
    let other : LineBlock = one.0 in
    let odd : is_fmmu other.number ≡ true = ap is_fmmu one.3 ∙ parts.0 in
    let serves = named-served (state_of history) other task project uncrowded one.1 odd one.4 in
    sym (ap₂ (λ (s n : ℕ). serves_task (state_of history) task (record { station = s; number = n; block = block.block })) one.2 one.3) ∙ serves)

-- outside the line

pub outside-waits : (history : History) (task : ℕ) (register : ℕ × ℕ) → Contains (registers_outside (state_of history)) register → is_unplugged history register.0 ≡ false
    → names_among task (may_hold history register.0 register.1) ≡ true → is_ready history task ≡ false
outside-waits history task register has plugged names =
    by_bool (is_ready history task)
    (λ t. let free = All-contains (λ (r : ℕ × ℕ). concerns_outside history task r ≡ false) (registers_outside (state_of history)) register (ready-waits history task t).registers has in
    let concerned : concerns_outside history task register ≡ true = ap (λ b. not b && names_among task (may_hold history register.0 register.1)) plugged ∙ names in
    let never : true ≡ false = sym concerned ∙ free in cc)
    (λ t. t)

still : (history : History) (station : ℕ) → IsHeldStill history history station
still history station = record { contents = λ number. refl; unplugged = refl }

then_still : (a b c : History) (station : ℕ) → IsHeldStill a b station → ((number : ℕ) → (may_hold c station number).contents ≡ (may_hold b station number).contents) → is_unplugged c station ≡ is_unplugged b station → IsHeldStill a c station
then_still a b c station before contents unplugged = record { contents = λ number. contents number ∙ before.contents number; unplugged = unplugged ∙ before.unplugged }

other_station : (own : Bool) (held : MayHold) → own ≡ false → (cond own cleared_register held).contents ≡ held.contents
other_station true held is = cc
other_station false held is = refl

and_not_false : (gone here : Bool) → here ≡ false → (gone && not here) ≡ gone
and_not_false true here is = ap not is
and_not_false false here is = refl

nothing_before : (since : List HistoryEntry) (history : History) → since ++ history ≡ [] → history ≡ []
nothing_before [] history is = is
nothing_before (entry ∷ since) history is = cc

pub held-still : (since : List HistoryEntry) (history : History) (station : ℕ) → AreAccepted (since ++ history) → StaysPlugged station history since → IsHeldStill history (since ++ history) station
held-still [] history station all plugged = still history station
held-still (Opened groups ∷ since) history station all plugged =
    let none = nothing_before since history all in
    record { contents = λ number. sym (ap (λ (h : History). (may_hold h station number).contents) none); unplugged = sym (ap (λ (h : History). is_unplugged h station) none) }
held-still (Edited edit ∷ since) history station all plugged =
    let now = since ++ history in
    then_still history now (Edited edit ∷ now) station (held-still since history station all.1 plugged.0) (λ number. refl) (and_not_false (is_unplugged now station) (is_in_line (Edited edit ∷ now) station) plugged.1)
held-still (Posted task bytes ∷ since) history station all plugged =
    then_still history (since ++ history) (Posted task bytes ∷ since ++ history) station (held-still since history station all.1 plugged.0) (λ number. refl) refl
held-still (Sent frame ∷ since) history station all plugged =
    then_still history (since ++ history) (Sent frame ∷ since ++ history) station (held-still since history station all.1 plugged.0) (λ number. refl) refl
held-still (Wrote blocks ∷ since) history station all plugged =
    let now = since ++ history in
    then_still history now (Wrote blocks ∷ now) station (held-still since history station all.1 plugged.0)
    (λ number. ap (λ found. (held_after_write found (may_hold now station number)).contents) (wrote-outside now blocks station number all.0 plugged.1)) refl
held-still (Came arrival ∷ since) history station all plugged =
    let now = since ++ history in
    then_still history now (Came arrival ∷ now) station (held-still since history station all.1 plugged.0)
    (λ number. ap (λ good. (held_after_answer good (last_write now station number) (may_hold now station number)).contents) (confirmed-outside now arrival station number all.1 plugged.1)) refl
held-still (Forgot other ∷ since) history station all plugged =
    then_still history (since ++ history) (Forgot other ∷ since ++ history) station (held-still since history station all.1 plugged.0) (λ number. refl) refl
held-still (Cleared other ∷ since) history station all plugged =
    let now = since ++ history in
    then_still history now (Cleared other ∷ now) station (held-still since history station all.1 plugged.0) (λ number. other_station (station == other) (may_hold now station number) plugged.2) refl
held-still (Unplugged other ∷ since) history station all plugged =
    let now = since ++ history in
    then_still history now (Unplugged other ∷ now) station (held-still since history station all.1 plugged.0) (λ number. refl) (ap (λ b. b || is_unplugged now station) plugged.2)
