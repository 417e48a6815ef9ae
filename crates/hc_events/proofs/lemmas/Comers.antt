-- A record where each slave that came with an edit was cleared, and what holds of registers of slaves that aren't declared, or are unplugged.
use Rattle.std.proofs.Common.{◌≡◌, ℕ, ◌==◌, ◌&&◌, ◌||◌, not, ◌∙◌, Bool, true, false, cond, List, [], ◌∷◌, filter, map, refl, sym, ap, subst, arith, Option, Some, None}
use Rattle.std.specs.Prelude.{find, fold, is_some, option_and_then}
use Rattle.std.specs.List.{list_any}
use Rattle.std.proofs.lemmas.Bool.{and_parts, eqb-true, or_left, or_parts, or_right}
use Rattle.std.proofs.lemmas.Bool.Decides.{nat_tests}
use Rattle.hc_records.specs.declared.edit.Edit.{Edit}
use Rattle.hc_records.specs.Line.{Member, is_at}
use Rattle.hc_records.proofs.lemmas.Choices.{by_bool}
use Rattle.hc_events.specs.Accepted.{AreAccepted, IsUnplugging}
use Rattle.hc_events.specs.Entries.{History, Opened, Edited, Posted, Sent, Wrote, Came, Forgot, Cleared, Unplugged}
use Rattle.hc_events.specs.Heads.{Block}
use Rattle.hc_events.specs.Holding.{MayHold, cleared_register, comes, held_after_coming, is_unplugged, may_hold}
use Rattle.hc_events.specs.Owed.{if_confirmed, is_in_line, known_bytes, last_write}
use Rattle.hc_events.specs.Points.{line_of, state_of}
use Rattle.hc_events.specs.Ready.{comers, edited_and_cleared, with_cleared}
use Rattle.hc_events.proofs.lemmas.Accepted.{StaysTrue, held-of_accepted}

-- one slave that is cleared

either : {X : Type 0} (f : History → X) (b : Bool) (x y : History) (is : X) → f x ≡ is → f y ≡ is → f (cond b x y) ≡ is
either f true x y is a c = a
either f false x y is a c = c

pub cleared-state : (history : History) (station : ℕ) → state_of (with_cleared history station) ≡ state_of history
cleared-state history station = either state_of (is_in_line history station) (Cleared station ∷ Forgot station ∷ history) (Cleared station ∷ history) (state_of history) refl refl

cleared_held : (history : History) (own station number : ℕ) → may_hold (with_cleared history own) station number ≡ cond (station == own) cleared_register (may_hold history station number)
cleared_held history own station number =
    either (λ h. may_hold h station number) (is_in_line history own) (Cleared own ∷ Forgot own ∷ history) (Cleared own ∷ history) (cond (station == own) cleared_register (may_hold history station number)) refl refl

cleared_unplugged : (history : History) (own station : ℕ) → is_unplugged (with_cleared history own) station ≡ is_unplugged history station
cleared_unplugged history own station = either (λ h. is_unplugged h station) (is_in_line history own) (Cleared own ∷ Forgot own ∷ history) (Cleared own ∷ history) (is_unplugged history station) refl refl

cleared_known : (history : History) (own station number : ℕ) → (station == own) ≡ false → known_bytes (with_cleared history own) station number ≡ known_bytes history station number
cleared_known history own station number other =
    either (λ h. known_bytes h station number) (is_in_line history own) (Cleared own ∷ Forgot own ∷ history) (Cleared own ∷ history) (known_bytes history station number)
    (ap (λ b. option_and_then (if_confirmed history (Block station number)) (cond b None (last_write history station number))) other) refl

-- several

pub all-state : (stations : List ℕ) (history : History) → state_of (fold with_cleared history stations) ≡ state_of history
all-state [] history = refl
all-state (own ∷ stations) history = all-state stations (with_cleared history own) ∙ cleared-state history own

one_or : (a b : Bool) (held : MayHold) → cond b cleared_register (cond a cleared_register held) ≡ cond (a || b) cleared_register held
one_or true true held = refl
one_or true false held = refl
one_or false b held = refl

all_held : (stations : List ℕ) (history : History) (station number : ℕ)
    → may_hold (fold with_cleared history stations) station number ≡ cond (list_any (λ (own : ℕ). station == own) stations) cleared_register (may_hold history station number)
all_held [] history station number = refl
all_held (own ∷ stations) history station number =
    all_held stations (with_cleared history own) station number
    ∙ ap (cond (list_any (λ (other : ℕ). station == other) stations) cleared_register) (cleared_held history own station number)
    ∙ one_or (station == own) (list_any (λ (other : ℕ). station == other) stations) (may_hold history station number)

all_unplugged : (stations : List ℕ) (history : History) (station : ℕ) → is_unplugged (fold with_cleared history stations) station ≡ is_unplugged history station
all_unplugged [] history station = refl
all_unplugged (own ∷ stations) history station = all_unplugged stations (with_cleared history own) station ∙ cleared_unplugged history own station

all_known : (stations : List ℕ) (history : History) (station number : ℕ) → list_any (λ (own : ℕ). station == own) stations ≡ false
    → known_bytes (fold with_cleared history stations) station number ≡ known_bytes history station number
all_known [] history station number none = refl
all_known (own ∷ stations) history station number none =
    let parts = or_parts (station == own) (list_any (λ (other : ℕ). station == other) stations) none in
    all_known stations (with_cleared history own) station number parts.1 ∙ cleared_known history own station number parts.0

-- the slaves that an edit brings are those that come

turned : (a b : ℕ) → (a == b) ≡ (b == a)
turned a b = grind (arith, nat_tests)

any_passing : (station : ℕ) (test : ℕ → Bool) (stations : List ℕ) → test station ≡ true → list_any (λ (own : ℕ). station == own) stations ≡ true → list_any (λ (own : ℕ). station == own) (filter test stations) ≡ true
any_passing station test [] passes there = cc
any_passing station test (own ∷ stations) passes there =
    by_bool (station == own)
    (λ t. let same : station ≡ own = eqb-true station own t in
    let own_passes : test own ≡ true = ap test (sym same) ∙ passes in
    ap (λ b. list_any (λ (other : ℕ). station == other) (cond b (own ∷ filter test stations) (filter test stations))) own_passes
    ∙ or_left (station == own) (list_any (λ (other : ℕ). station == other) (filter test stations)) t)
    (λ t. let later = any_passing station test stations passes (sym (ap (λ b. b || list_any (λ (other : ℕ). station == other) stations) t) ∙ there) in
    passes_later (test own) own stations test later)
  where
    passes_later : (b : Bool) (own : ℕ) (stations : List ℕ) (test : ℕ → Bool) → list_any (λ (other : ℕ). station == other) (filter test stations) ≡ true
        → list_any (λ (other : ℕ). station == other) (cond b (own ∷ filter test stations) (filter test stations)) ≡ true
    passes_later true own stations test later = or_right (station == own) (list_any (λ (other : ℕ). station == other) (filter test stations)) later
    passes_later false own stations test later = later

none_passing : (station : ℕ) (test : ℕ → Bool) (stations : List ℕ) → test station ≡ false → list_any (λ (own : ℕ). station == own) (filter test stations) ≡ false
none_passing station test [] fails = refl
none_passing station test (own ∷ stations) fails =
    by_bool (test own)
    (λ t. ap (λ b. list_any (λ (other : ℕ). station == other) (cond b (own ∷ filter test stations) (filter test stations))) t
    ∙ by_bool (station == own)
    (λ e. let same : station ≡ own = eqb-true station own e in let never : true ≡ false = sym t ∙ ap test (sym same) ∙ fails in cc)
    (λ e. ap (λ b. b || list_any (λ (other : ℕ). station == other) (filter test stations)) e ∙ none_passing station test stations fails))
    (λ t. ap (λ b. list_any (λ (other : ℕ). station == other) (cond b (own ∷ filter test stations) (filter test stations))) t ∙ none_passing station test stations fails)

line_stations : (station : ℕ) (members : List Member) → list_any (λ (own : ℕ). station == own) (map (λ (member : Member). member.slave.station) members) ≡ is_some (find (is_at station) members)
line_stations station [] = refl
line_stations station (member ∷ members) =
    ap (λ b. b || list_any (λ (own : ℕ). station == own) (map (λ (other : Member). other.slave.station) members)) (turned station member.slave.station)
    ∙ ap (λ b. (member.slave.station == station) || b) (line_stations station members)
    ∙ by_found (member.slave.station == station) member (find (is_at station) members)
  where
    by_found : (b : Bool) (member : Member) (rest : Option Member) → (b || is_some rest) ≡ is_some (cond b (Some member) rest)
    by_found true member rest = refl
    by_found false member rest = refl

comers_are : (history : History) (edit : Edit) (station : ℕ) → list_any (λ (own : ℕ). station == own) (comers history edit) ≡ comes history edit station
comers_are history edit station =
    let stations = map (λ (member : Member). member.slave.station) (line_of (Edited edit ∷ history)) in
    by_bool (comes history edit station)
    (λ t. any_passing station (comes history edit) stations t
    (line_stations station (line_of (Edited edit ∷ history)) ∙ (and_parts (not (is_in_line history station)) (is_in_line (Edited edit ∷ history) station) t).1)
    ∙ sym t)
    (λ t. none_passing station (comes history edit) stations t ∙ sym t)

-- the record after the edit, where they are cleared

pub after-state : (history : History) (edit : Edit) → state_of (edited_and_cleared history edit) ≡ state_of (Edited edit ∷ history)
after-state history edit = all-state (comers history edit) (Edited edit ∷ history)

pub after-unplugged : (history : History) (edit : Edit) (station : ℕ) → is_unplugged (edited_and_cleared history edit) station ≡ (is_unplugged history station && not (is_in_line (Edited edit ∷ history) station))
after-unplugged history edit station = all_unplugged (comers history edit) (Edited edit ∷ history) station

coming_either : (b : Bool) (held : MayHold) → cond b cleared_register (held_after_coming b held) ≡ cond b cleared_register held
coming_either true held = refl
coming_either false held = refl

pub after-held : (history : History) (edit : Edit) (station number : ℕ) → may_hold (edited_and_cleared history edit) station number ≡ cond (comes history edit station) cleared_register (may_hold history station number)
after-held history edit station number =
    all_held (comers history edit) (Edited edit ∷ history) station number
    ∙ ap (λ b. cond b cleared_register (held_after_coming (comes history edit station) (may_hold history station number))) (comers_are history edit station)
    ∙ coming_either (comes history edit station) (may_hold history station number)

pub after-known : (history : History) (edit : Edit) (station number : ℕ) → is_in_line history station ≡ true → known_bytes (edited_and_cleared history edit) station number ≡ known_bytes history station number
after-known history edit station number here =
    let stays : comes history edit station ≡ false = ap (λ b. not b && is_in_line (Edited edit ∷ history) station) here in
    all_known (comers history edit) (Edited edit ∷ history) station number (comers_are history edit station ∙ stays)
    ∙ ap (λ b. option_and_then (if_confirmed history (Block station number)) (cond b (last_write history station number) None)) here

-- an unplugged slave isn't in the line

abbrev IsOutside : History → Type 0
IsOutside history = (station : ℕ) → is_unplugged history station ≡ true → is_in_line history station ≡ false

not_both : (a b : Bool) → (a && not b) ≡ true → b ≡ false
not_both true true e = cc
not_both true false e = refl
not_both false b e = cc

unplugged_or : (history : History) (other station : ℕ) (own : Bool) → (station == other) ≡ own → IsUnplugging history other → IsOutside history → (own || is_unplugged history station) ≡ true → is_in_line history station ≡ false
unplugged_or history other station true same unplugging before is = subst (λ (s : ℕ). is_in_line history s ≡ false) (sym (eqb-true station other same)) unplugging.outside
unplugged_or history other station false same unplugging before is = before station is

outside_grows : StaysTrue IsOutside
outside_grows history (Opened groups) accepted before = absurd accepted
outside_grows history (Edited edit) accepted before = λ station is. not_both (is_unplugged history station) (is_in_line (Edited edit ∷ history) station) is
outside_grows history (Posted task bytes) accepted before = before
outside_grows history (Sent frame) accepted before = before
outside_grows history (Wrote blocks) accepted before = before
outside_grows history (Came arrival) accepted before = before
outside_grows history (Forgot other) accepted before = before
outside_grows history (Cleared other) accepted before = before
outside_grows history (Unplugged other) accepted before = λ station is. unplugged_or history other station (station == other) refl accepted before is

pub unplugged-outside : (history : History) (station : ℕ) → AreAccepted history → is_unplugged history station ≡ true → is_in_line history station ≡ false
unplugged-outside history station all is = held-of_accepted IsOutside outside_grows (λ groups station is. cc) history all station is
