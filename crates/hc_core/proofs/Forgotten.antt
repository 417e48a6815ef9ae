-- The parts of a core stay right after a slave was forgotten, and the faults of forgetting are those of the event.
use Rattle.std.proofs.Common.{◌≡◌, ℕ, ◌+◌, Bool, true, false, cond, not, ◌||◌, List, [], ◌∷◌, length, refl, sym, ap, ◌∙◌, Option, Some, None}
use Rattle.std.specs.Prelude.{find, is_none, is_some, position, IfErr, IsErrAnd, Result, Ok, Err}
use Rattle.std.specs.List.{list_any, position_from}
use Rattle.std.proofs.lemmas.Bool.{or_left, or_right}
use Rattle.std.proofs.lemmas.Iterator.Adapters.{position_from-zero}
use Rattle.std.proofs.lemmas.List.Folds.{list_any-append}
use Rattle.hc_records.specs.declared.faults.EditFault.{EditFault}
use Rattle.hc_records.specs.declared.faults.EditFault.TheVariants as edit
use Rattle.hc_records.specs.declared.records.Declared.{Declared}
use Rattle.hc_records.specs.declared.records.Slave.{Slave}
use Rattle.hc_records.specs.Edits.{has_station, is_declared_station, slave_at}
use Rattle.hc_records.specs.Line.{Member, State, has_address, is_at, line, line_from, members_from, present_slaves}
use Rattle.hc_records.specs.Lists.{lowest}
use Rattle.hc_records.proofs.lemmas.Choices.{by_bool, member-by}
use Rattle.hc_plan.specs.Configuration.{found_or, position_of}
use Rattle.hc_events.specs.declared.faults.CoreFault.{CoreFault}
use Rattle.hc_events.specs.declared.faults.CoreFault.TheVariants.{Absent, UnknownStation}
use Rattle.hc_events.specs.Accepted.{IsClearing, IsUnplugging}
use Rattle.hc_events.specs.Entries.{History, Cleared, Forgot, Unplugged}
use Rattle.hc_events.specs.Faults.{edit_refusal}
use Rattle.hc_events.specs.Holding.{is_unplugged, may_hold}
use Rattle.hc_events.specs.Owed.{is_in_line, known_bytes}
use Rattle.hc_events.specs.Points.{state_of}
use Rattle.hc_events.specs.Steps.{forget_faults}
use Rattle.hc_images.specs.Packed.{Packed}
use Rattle.hc_owed.specs.declared.area.JudgedArea.{JudgedArea}
use Rattle.hc_owed.specs.Readiness.{readiness_of}
use Rattle.hc_owed.specs.ReadinessSteps.{held_without, unplugged_with}
use Rattle.hc_owed.specs.RegisterState.{RegisterState, register_state_of}
use Rattle.hc_owed.specs.Laws.{known_without}
use Rattle.hc_sendings.specs.Waiting.{forgot}
use Rattle.hc_core.proofs.AreasKept.{areas-alike, same-hold}
use Rattle.hc_core.proofs.Awaits.{waits-cleared, waits-forgot, waits-unplugged}
use Rattle.hc_core.proofs.Known.{unchanged-alike, known-forgot}
use Rattle.hc_core.specs.Agreement.{Agree, CoreParts}
use Rattle.hc_core.specs.Ready.{is_absent}
use Rattle.hc_core.specs.Values.{HoldsValues}

-- a slave of the line is a declared one

members_any : (station rank : ℕ) (slaves : List Slave) → list_any (is_at station) (members_from rank slaves) ≡ list_any (has_address station) slaves
members_any station rank [] = refl
members_any station rank (slave ∷ slaves) = ap (λ b. has_address station slave || b) (members_any station (rank + 1) slaves)

present_any : (station rank : ℕ) (declared : Declared) → list_any (is_at station) (members_from rank (present_slaves declared)) ≡ true → has_station station declared.group.slaves ≡ true
present_any station rank declared e = by declared.present (sym (members_any station rank (present_slaves declared)) ∙ e)
  where
    by : (present : Bool) → list_any (has_address station) (cond present declared.group.slaves []) ≡ true → has_station station declared.group.slaves ≡ true
    by true e = e
    by false e = cc

declared_any : (station rank : ℕ) (groups : List Declared) → list_any (is_at station) (line_from rank groups) ≡ true → list_any (λ declared. has_station station declared.group.slaves) groups ≡ true
declared_any station rank [] e = cc
declared_any station rank (declared ∷ groups) e =
    let own = members_from rank (present_slaves declared) in
    let rest = line_from (rank + length declared.group.slaves) groups in
    let either : (list_any (is_at station) own || list_any (is_at station) rest) ≡ true = sym (list_any-append (is_at station) own rest) ∙ e in
    by_bool (list_any (is_at station) own)
    (λ t. or_left (has_station station declared.group.slaves) (list_any (λ (one : Declared). has_station station one.group.slaves) groups) (present_any station rank declared t))
    (λ t. or_right (has_station station declared.group.slaves) (list_any (λ (one : Declared). has_station station one.group.slaves) groups)
    (declared_any station (rank + length declared.group.slaves) groups (member-by (list_any (is_at station) own) (list_any (is_at station) rest) either t)))

-- a slave has a position exactly if it is found

found_if : (passes : Bool) (test : Member → Bool) (member : Member) (members : List Member) → is_some (find test members) ≡ list_any test members → is_some (cond passes (Some member) (find test members)) ≡ (passes || list_any test members)
found_if true test member members rest = refl
found_if false test member members rest = rest

found_any : (test : Member → Bool) (members : List Member) → is_some (find test members) ≡ list_any test members
found_any test [] = refl
found_any test (member ∷ members) = found_if (test member) test member members (found_any test members)

position_if : {X : Type 0} (passes : Bool) (test : X → Bool) (at : ℕ) (members : List X) → is_some (position_from test (at + 1) members) ≡ list_any test members
    → is_some (cond passes (Some at) (position_from test (at + 1) members)) ≡ (passes || list_any test members)
position_if true test at members rest = refl
position_if false test at members rest = rest

pub position-any : {X : Type 0} (test : X → Bool) (at : ℕ) (members : List X) → is_some (position_from test at members) ≡ list_any test members
position-any test at [] = refl
position-any test at (member ∷ members) = position_if (test member) test at members (position-any test (at + 1) members)

has_position : (state : State) (station : ℕ) → is_some (position (is_at station) (line state)) ≡ is_some (slave_at state station)
has_position state station =
    ap (λ (found : Option ℕ). is_some found) (position_from-zero (is_at station) (line state)) ∙ position-any (is_at station) 0 (line state) ∙ sym (found_any (is_at station) (line state))

some_or_none : {X : Type 0} (found : Option X) → is_none found ≡ not (is_some found)
some_or_none None = refl
some_or_none (Some x) = refl

-- the plan refuses a slave's position as the event is refused

abbrev faults_by : Bool → Bool → List (Bool × CoreFault)
faults_by declared present = (not declared, UnknownStation) ∷ (not present, Absent) ∷ []

pub declared-too : (history : History) (station : ℕ) → is_in_line history station ≡ true → is_declared_station (state_of history) station ≡ true
declared-too history station inside = declared_any station 1 (state_of history).groups (sym (found_any (is_at station) (line (state_of history))) ∙ inside)

faults_are : (history : History) (station : ℕ) → forget_faults history station ≡ faults_by (is_declared_station (state_of history) station) (is_in_line history station)
faults_are history station =
    ap (λ absent. (not (is_declared_station (state_of history) station), UnknownStation) ∷ (absent, Absent) ∷ []) (some_or_none (slave_at (state_of history) station))

refused_by : (declared : Bool) (found : Option ℕ) (fault : EditFault) → found_or found (cond declared edit.Absent edit.UnknownStation) ≡ Err fault
    → (is_some found ≡ false) × (lowest (faults_by declared false) ≡ Some (edit_refusal fault))
refused_by declared (Some n) fault e = cc
refused_by true None fault e = (refl, ap (λ (one : EditFault). Some (edit_refusal one)) (same_fault edit.Absent fault e))
  where
    same_fault : (a b : EditFault) → found_or None a ≡ Err b → a ≡ b
    same_fault a b e = cc
refused_by false None fault e = (refl, ap (λ (one : EditFault). Some (edit_refusal one)) (same_fault edit.UnknownStation fault e))
  where
    same_fault : (a b : EditFault) → found_or None a ≡ Err b → a ≡ b
    same_fault a b e = cc

pub forget-refused : (history : History) (station : ℕ) (fault : EditFault) → position_of (state_of history) station ≡ Err fault → lowest (forget_faults history station) ≡ Some (edit_refusal fault)
forget-refused history station fault e =
    let state = state_of history in
    let is = refused_by (is_declared_station state station) (position (is_at station) (line state)) fault e in
    ap lowest (faults_are history station)
    ∙ ap (λ present. lowest (faults_by (is_declared_station state station) present)) (sym (has_position state station) ∙ is.0)
    ∙ is.1

pub refused-named : {X : Type 0} (result : Result X CoreFault) (named : Option CoreFault) (fault : EditFault) → IsErrAnd result (λ refusal. refusal ≡ edit_refusal fault) → named ≡ Some (edit_refusal fault)
    → IfErr result (λ one. named ≡ Some one)
refused-named (Ok x) named fault gives is = tt
refused-named (Err one) named fault gives is = is ∙ ap (λ (refusal : CoreFault). Some refusal) (sym gives)

found_ok : (fault : EditFault) (found : Option ℕ) (n : ℕ) → found_or found fault ≡ Ok n → is_some found ≡ true
found_ok fault None n e = cc
found_ok fault (Some m) n e = refl

pub forget-inside : (history : History) (station n : ℕ) → position_of (state_of history) station ≡ Ok n → is_in_line history station ≡ true
forget-inside history station n e =
    let state = state_of history in
    sym (has_position state station) ∙ found_ok (cond (is_declared_station state station) edit.Absent edit.UnknownStation) (position (is_at station) (line state)) n e

pub forget-accepted : (history : History) (station n : ℕ) → position_of (state_of history) station ≡ Ok n → lowest (forget_faults history station) ≡ None
forget-accepted history station n e =
    let inside = forget-inside history station n e in
    ap lowest (faults_are history station)
    ∙ ap (λ present. lowest (faults_by (is_declared_station (state_of history) station) present)) inside
    ∙ ap (λ declared. lowest (faults_by declared true)) (declared-too history station inside)

-- the parts of a core after a slave was forgotten

values_forgot : (history : History) (station : ℕ) (packed : Packed) → HoldsValues history packed → HoldsValues (Forgot station ∷ history) packed
values_forgot history station packed holds = holds

pub agree-forgot : (unchanged : CoreParts) (history taken : History) (station : ℕ) (owed : RegisterState) (readiness : List JudgedArea) → is_in_line history station ≡ true → owed ≡ register_state_of (known_without station (known_bytes history)) (state_of history)
    → readiness ≡ readiness_of (known_without station (known_bytes history)) (may_hold history) (is_unplugged history) (state_of history)
    → Agree unchanged history taken → Agree (record unchanged { awaited = forgot station unchanged.awaited; owed = owed; readiness = readiness }) (Forgot station ∷ history) taken
agree-forgot unchanged history taken station owed readiness inside right ready agree = record {
  accepted = (inside, agree.accepted);
  state = agree.state;
  project = agree.project;
  uncrowded = agree.uncrowded;
  serial = agree.serial;
  left = agree.left;
  waits = waits-forgot history unchanged.awaited station agree.waits;
  slots = agree.slots;
  dates = agree.dates;
  epochs = agree.epochs;
  values = values_forgot history station unchanged.outputs agree.values;
  known = right
      ∙ unchanged-alike (known_without station (known_bytes history)) (known_bytes (Forgot station ∷ history)) (state_of history) (λ other number. sym (known-forgot history station other number));
  ready = areas-alike readiness (known_without station (known_bytes history)) (may_hold history) (is_unplugged history) (Forgot station ∷ history) ready
      (λ other number. sym (known-forgot history station other number)) (λ other number. same-hold (may_hold history other number) (may_hold history other number) refl) (λ other. refl);
  shows = record { updates = agree.shows.updates; legal = agree.shows.legal; exact = agree.shows.exact; after_it = agree.shows.after_it };
}

-- the parts of a core after a slave was cleared or unplugged

values_cleared : (history : History) (station : ℕ) (packed : Packed) → HoldsValues history packed → HoldsValues (Cleared station ∷ history) packed
values_cleared history station packed holds = holds

pub agree-cleared : (unchanged : CoreParts) (history taken : History) (station : ℕ) (readiness : List JudgedArea) → IsClearing history station
    → readiness ≡ readiness_of (known_bytes history) (held_without station (may_hold history)) (is_unplugged history) (state_of history)
    → Agree unchanged history taken → Agree (record unchanged { readiness = readiness }) (Cleared station ∷ history) taken
agree-cleared unchanged history taken station readiness is ready agree = record {
  accepted = (is, agree.accepted);
  state = agree.state;
  project = agree.project;
  uncrowded = agree.uncrowded;
  serial = agree.serial;
  left = agree.left;
  waits = waits-cleared history unchanged.awaited station agree.waits;
  slots = agree.slots;
  dates = agree.dates;
  epochs = agree.epochs;
  values = values_cleared history station unchanged.outputs agree.values;
  known = agree.known;
  ready = areas-alike readiness (known_bytes history) (held_without station (may_hold history)) (is_unplugged history) (Cleared station ∷ history) ready
      (λ other number. refl) (λ other number. same-hold (held_without station (may_hold history) other number) (may_hold (Cleared station ∷ history) other number) refl) (λ other. refl);
  shows = record { updates = agree.shows.updates; legal = agree.shows.legal; exact = agree.shows.exact; after_it = agree.shows.after_it };
}

values_unplugged : (history : History) (station : ℕ) (packed : Packed) → HoldsValues history packed → HoldsValues (Unplugged station ∷ history) packed
values_unplugged history station packed holds = holds

pub agree-unplugged : (unchanged : CoreParts) (history taken : History) (station : ℕ) (readiness : List JudgedArea) → IsUnplugging history station
    → readiness ≡ readiness_of (known_bytes history) (may_hold history) (unplugged_with station (is_unplugged history)) (state_of history)
    → Agree unchanged history taken → Agree (record unchanged { readiness = readiness }) (Unplugged station ∷ history) taken
agree-unplugged unchanged history taken station readiness is ready agree = record {
  accepted = (is, agree.accepted);
  state = agree.state;
  project = agree.project;
  uncrowded = agree.uncrowded;
  serial = agree.serial;
  left = agree.left;
  waits = waits-unplugged history unchanged.awaited station agree.waits;
  slots = agree.slots;
  dates = agree.dates;
  epochs = agree.epochs;
  values = values_unplugged history station unchanged.outputs agree.values;
  known = agree.known;
  ready = areas-alike readiness (known_bytes history) (may_hold history) (unplugged_with station (is_unplugged history)) (Unplugged station ∷ history) ready
      (λ other number. refl) (λ other number. same-hold (may_hold history other number) (may_hold history other number) refl) (λ other. refl);
  shows = record { updates = agree.shows.updates; legal = agree.shows.legal; exact = agree.shows.exact; after_it = agree.shows.after_it };
}

-- a declared slave has a position, or it is absent

err_same : (a b : EditFault) → found_or None a ≡ Err b → a ≡ b
err_same a b e = cc

absent_by : (declared : Bool) (found : Option ℕ) → found_or found (cond declared edit.Absent edit.UnknownStation) ≡ Err edit.Absent → (declared ≡ true) × (is_some found ≡ false)
absent_by declared (Some n) e = cc
absent_by true None e = (refl, refl)
absent_by false None e = cc

unknown_by : (declared : Bool) (found : Option ℕ) (fault : EditFault) → found_or found (cond declared edit.Absent edit.UnknownStation) ≡ Err fault → (fault ≡ edit.Absent → ⊥)
    → (fault ≡ edit.UnknownStation) × (declared ≡ false)
unknown_by declared (Some n) fault e other = cc
unknown_by true None fault e other = absurd (other (sym (err_same edit.Absent fault e)))
unknown_by false None fault e other = (sym (err_same edit.UnknownStation fault e), refl)

pub station-found : (history : History) (station n : ℕ) → position_of (state_of history) station ≡ Ok n → (is_declared_station (state_of history) station ≡ true) × (is_in_line history station ≡ true)
station-found history station n e = let inside = forget-inside history station n e in (declared-too history station inside, inside)

-- an absent slave's fault differs from others

absent-is : (fault : EditFault) → is_absent fault ≡ true → fault ≡ edit.Absent
absent-is edit.Absent e = refl
absent-is fault e = cc

absent-not : (fault : EditFault) → is_absent fault ≡ false → fault ≡ edit.Absent → ⊥
absent-not fault e is = let never : true ≡ false = sym (ap is_absent is) ∙ e in cc

pub station-absent : (history : History) (station : ℕ) (fault : EditFault) → position_of (state_of history) station ≡ Err fault → is_absent fault ≡ true → (is_declared_station (state_of history) station ≡ true) × (is_in_line history station ≡ false)
station-absent history station fault e absent =
    let state = state_of history in
    let is = absent_by (is_declared_station state station) (position (is_at station) (line state)) (e ∙ ap (λ one. Err one) (absent-is fault absent)) in
    (is.0, sym (has_position state station) ∙ is.1)

pub station-unknown : (history : History) (station : ℕ) (fault : EditFault) → position_of (state_of history) station ≡ Err fault → is_absent fault ≡ false
    → (edit_refusal fault ≡ UnknownStation) × (is_declared_station (state_of history) station ≡ false)
station-unknown history station fault e other =
    let state = state_of history in
    let is = unknown_by (is_declared_station state station) (position (is_at station) (line state)) fault e (absent-not fault other) in
    (ap edit_refusal is.0, is.1)
