-- A line has a machine for each slave, whatever goes through it or is written to it, and after each edit.
use Rattle.std.proofs.Common.{◌≡◌, ◌≢◌, ◌≤◌, ◌+◌, ◌-◌, ℕ, zero, suc, Bool, true, false, cond, All, List, [], ◌∷◌, ◌++◌, length, map, take, drop, refl, ap, ap₂, sym, subst, ◌∙◌, arith, Some, None, length-append, length-take, length-drop}
use Rattle.std.specs.Prelude.{Option, AllPairs, sum_by, find, option_and_then}
use Rattle.std.specs.Option.{option_map_or}
use Rattle.std.proofs.lemmas.Bool.{eqb-true, ne_eqb}
use Rattle.std.proofs.lemmas.List.{length-map}
use Rattle.std.proofs.lemmas.List.Sums.{sum_by-cons}
use Rattle.std.proofs.lemmas.List.Elements.{All-head, All-tail}
use Rattle.hc_records.specs.declared.edit.Edit.{Edit}
use Rattle.hc_records.specs.declared.edit.Edit.TheVariants.{Connect, Disconnect, Remap, Move, Declare}
use Rattle.hc_records.specs.declared.records.Slave.{Slave}
use Rattle.hc_records.specs.declared.records.Declared.{Declared}
use Rattle.hc_records.specs.Edits.{groups_after, with_area, with_presence, with_slaves}
use Rattle.hc_records.specs.declared.records.Group.{Group}
use Rattle.hc_records.specs.Line.{groups_of, line_from, present_slaves}
use Rattle.hc_records.specs.Project.{lowest_fault}
use Rattle.hc_records.proofs.lemmas.Declaring.{line-absent}
use Rattle.hc_records.proofs.lemmas.Limits.{project-inside}
use Rattle.hc_records.proofs.lemmas.Lists.{AllPairs-head, AllPairs-tail}
use Rattle.hc_machine.specs.Frames.{frame_after}
use Rattle.hc_segment.specs.Line.{machines_after, machines_after_frame}
use Rattle.hc_segment.specs.Machines.{Replacement, coming_at, fresh_machines, going_at, has_alias, machines_after_edit, machines_of, opened_machines, poked, machines_replaced, slaves_before}
use Rattle.hc_segment.proofs.Counted.{before-line, found-line, length-fresh, length-line, present-all, present-few, slaves_in}

-- what goes through it

after_it-count : (ms : List (List ℕ)) (frame : List ℕ) → length (machines_after_frame ms frame) ≡ length ms
after_it-count [] frame = refl
after_it-count (m ∷ ms) frame = ap suc (after_it-count ms (frame_after m frame))

pub after-count : (ms frames : List (List ℕ)) → length (machines_after ms frames) ≡ length ms
after-count ms [] = refl
after-count ms (frame ∷ frames) = after-count (machines_after_frame ms frame) frames ∙ after_it-count ms frame

-- what is written to it

pub poked-count : (ms : List (List ℕ)) (i at : ℕ) (part : List ℕ) → length (poked i at part ms) ≡ length ms
poked-count [] i at part = refl
poked-count (m ∷ ms) zero at part = refl
poked-count (m ∷ ms) (suc i) at part = ap suc (poked-count ms i at part)

-- each edit

abbrev present_in : Declared → ℕ
present_in declared = length (present_slaves declared)

line-total : (rank : ℕ) (groups : List Declared) → length (line_from rank groups) ≡ sum_by present_in groups
line-total rank [] = refl
line-total rank (declared ∷ groups) =
    length-line rank declared groups
    ∙ ap (λ (n : ℕ). present_in declared + n) (line-total (rank + slaves_in declared) groups)
    ∙ sym (sum_by-cons present_in declared groups)

-- a group with another alias stays, so all do where none has it

abbrev HasOther : ℕ → Group → Type 0
HasOther alias group = alias ≢ group.alias

abbrev AreDistinct : Group → Group → Type 0
AreDistinct a b = a.alias ≢ b.alias

other-stays : (alias : ℕ) (present : Bool) (declared : Declared) → has_alias alias declared ≡ false → with_presence alias present declared ≡ declared
other-stays alias present declared other = ap (λ (b : Bool). cond b (record declared { present = present }) declared) other

others-stay : (alias : ℕ) (present : Bool) (groups : List Declared) → All (HasOther alias) (groups_of groups) → map (with_presence alias present) groups ≡ groups
others-stay alias present [] others = refl
others-stay alias present (declared ∷ groups) others =
    let other : has_alias alias declared ≡ false = ne_eqb declared.group.alias alias (λ same. All-head (HasOther alias) declared.group (groups_of groups) others (sym same)) in
    ap (λ (d : Declared). d ∷ map (with_presence alias present) groups) (other-stays alias present declared other)
    ∙ ap (λ (ds : List Declared). declared ∷ ds) (others-stay alias present groups (All-tail (HasOther alias) declared.group (groups_of groups) others))

-- after the first group with the alias the others stay
rest-stays : (alias : ℕ) (present : Bool) (declared : Declared) (groups : List Declared) → has_alias alias declared ≡ true → AllPairs AreDistinct (groups_of (declared ∷ groups))
    → map (with_presence alias present) groups ≡ groups
rest-stays alias present declared groups is distinct =
    let same : declared.group.alias ≡ alias = eqb-true declared.group.alias alias is in
    others-stay alias present groups (subst (λ (own : ℕ). All (HasOther own) (groups_of groups)) same (AllPairs-head AreDistinct declared.group (groups_of groups) distinct))

-- with its presence set it is another
set-there : (alias : ℕ) (present : Bool) (declared : Declared) → has_alias alias declared ≡ true → with_presence alias present declared ≡ record declared { present = present }
set-there alias present declared is = ap (λ (b : Bool). cond b (record declared { present = present }) declared) is

found-there : (alias : ℕ) (declared : Declared) (groups : List Declared) (b : Bool) → has_alias alias declared ≡ b → find (has_alias alias) (declared ∷ groups) ≡ cond b (Some declared) (find (has_alias alias) groups)
found-there alias declared groups b is = ap (λ (b : Bool). cond b (Some declared) (find (has_alias alias) groups)) is

-- as many slaves come

abbrev coming_count : Option Declared → ℕ
coming_count None = 0
coming_count (Some declared) = slaves_in declared - present_in declared

total-cons : (declared : Declared) (groups : List Declared) → sum_by present_in (declared ∷ groups) ≡ present_in declared + sum_by present_in groups
total-cons declared groups = sum_by-cons present_in declared groups

total-of : (a : Declared) (b : Declared) (xs ys : List Declared) → a ≡ b → xs ≡ ys → sum_by present_in (a ∷ xs) ≡ present_in b + sum_by present_in ys
total-of a b xs ys first rest = ap₂ (λ (d : Declared) (ds : List Declared). sum_by present_in (d ∷ ds)) first rest ∙ total-cons b ys

coming-step : (alias : ℕ) (declared : Declared) (groups : List Declared) (b : Bool) → has_alias alias declared ≡ b → AllPairs AreDistinct (groups_of (declared ∷ groups))
    → sum_by present_in (map (with_presence alias true) groups) ≡ sum_by present_in groups + coming_count (find (has_alias alias) groups)
    → sum_by present_in (map (with_presence alias true) (declared ∷ groups)) ≡ sum_by present_in (declared ∷ groups) + coming_count (find (has_alias alias) (declared ∷ groups))
coming-step alias declared groups true is distinct others =
    let new = total-of (with_presence alias true declared) (record declared { present = true }) (map (with_presence alias true) groups) groups (set-there alias true declared is) (rest-stays alias true declared groups is distinct) in
    let found = ap coming_count (found-there alias declared groups true is) in
    omega (arith, new, found, total-cons declared groups, present-few declared)
coming-step alias declared groups false is distinct others =
    let new = total-of (with_presence alias true declared) declared (map (with_presence alias true) groups) (map (with_presence alias true) groups) (other-stays alias true declared is) refl in
    let found = ap coming_count (found-there alias declared groups false is) in
    omega (arith, new, found, total-cons declared groups, others)

coming-total : (alias : ℕ) (groups : List Declared) → AllPairs AreDistinct (groups_of groups)
    → sum_by present_in (map (with_presence alias true) groups) ≡ sum_by present_in groups + coming_count (find (has_alias alias) groups)
coming-total alias [] distinct = refl
coming-total alias (declared ∷ groups) distinct =
    coming-step alias declared groups (has_alias alias declared) refl distinct (coming-total alias groups (AllPairs-tail AreDistinct declared.group (groups_of groups) distinct))

-- as many go

abbrev going_count : Option Declared → ℕ
going_count None = 0
going_count (Some declared) = present_in declared

going-step : (alias : ℕ) (declared : Declared) (groups : List Declared) (b : Bool) → has_alias alias declared ≡ b → AllPairs AreDistinct (groups_of (declared ∷ groups))
    → sum_by present_in (map (with_presence alias false) groups) + going_count (find (has_alias alias) groups) ≡ sum_by present_in groups
    → sum_by present_in (map (with_presence alias false) (declared ∷ groups)) + going_count (find (has_alias alias) (declared ∷ groups)) ≡ sum_by present_in (declared ∷ groups)
going-step alias declared groups true is distinct others =
    let new = total-of (with_presence alias false declared) (record declared { present = false }) (map (with_presence alias false) groups) groups (set-there alias false declared is) (rest-stays alias false declared groups is distinct) in
    let found = ap going_count (found-there alias declared groups true is) in
    omega (arith, new, found, total-cons declared groups)
going-step alias declared groups false is distinct others =
    let new = total-of (with_presence alias false declared) declared (map (with_presence alias false) groups) (map (with_presence alias false) groups) (other-stays alias false declared is) refl in
    let found = ap going_count (found-there alias declared groups false is) in
    omega (arith, new, found, total-cons declared groups, others)

going-total : (alias : ℕ) (groups : List Declared) → AllPairs AreDistinct (groups_of groups)
    → sum_by present_in (map (with_presence alias false) groups) + going_count (find (has_alias alias) groups) ≡ sum_by present_in groups
going-total alias [] distinct = refl
going-total alias (declared ∷ groups) distinct =
    going-step alias declared groups (has_alias alias declared) refl distinct (going-total alias groups (AllPairs-tail AreDistinct declared.group (groups_of groups) distinct))

-- an edit of a slave leaves their number
changed-in : (change : Slave → Slave) (declared : Declared) (present : Bool) → declared.present ≡ present → present_in (with_slaves change declared) ≡ present_in declared
changed-in change declared true is =
    ap (λ (b : Bool). length (cond b (map change declared.group.slaves) [])) is ∙ length-map declared.group.slaves change ∙ sym (ap (λ (b : Bool). length (cond b declared.group.slaves [])) is)
changed-in change declared false is =
    ap (λ (b : Bool). length (cond b (map change declared.group.slaves) [])) is ∙ sym (ap (λ (b : Bool). length (cond b declared.group.slaves [])) is)

changed-total : (change : Slave → Slave) (groups : List Declared) → sum_by present_in (map (with_slaves change) groups) ≡ sum_by present_in groups
changed-total change [] = refl
changed-total change (declared ∷ groups) =
    let one = changed-in change declared declared.present refl in
    let first = sum_by-cons present_in (with_slaves change declared) (map (with_slaves change) groups) in
    omega (arith, one, first, changed-total change groups, total-cons declared groups)

-- the machines after it

replaced-count : (ms coming : List (List ℕ)) (position gone : ℕ) → position + gone ≤ length ms
    → length (machines_replaced (record { position = position; gone = gone; coming = coming }) ms) + gone ≡ length ms + length coming
replaced-count ms coming position gone within =
    omega (arith, within, length-append (take position ms) (coming ++ drop (position + gone) ms), length-append coming (drop (position + gone) ms), length-take position ms, length-drop (position + gone) ms)

came : (alias : ℕ) (groups : List Declared) (ms : List (List ℕ)) (declared : Declared) (present : Bool) → declared.present ≡ present → slaves_before alias groups ≤ length ms
    → length (option_map_or (λ (r : Replacement). machines_replaced r ms) (coming_at (slaves_before alias groups) declared) ms) ≡ length ms + coming_count (Some declared)
came alias groups ms declared true is before =
    let here = present-all declared is in
    ap (λ (b : Bool). length (option_map_or (λ (r : Replacement). machines_replaced r ms) (cond b None (Some (record { position = slaves_before alias groups; gone = 0; coming = fresh_machines declared.group }))) ms)) is
    ∙ omega (arith, here)
came alias groups ms declared false is before =
    let none = ap (λ (b : Bool). length (cond b declared.group.slaves [])) is in
    let many = replaced-count ms (fresh_machines declared.group) (slaves_before alias groups) 0 (omega (arith, before)) in
    ap (λ (b : Bool). length (option_map_or (λ (r : Replacement). machines_replaced r ms) (cond b None (Some (record { position = slaves_before alias groups; gone = 0; coming = fresh_machines declared.group }))) ms)) is
    ∙ omega (arith, none, many, length-fresh declared.group.alias declared.group.slaves)

went : (alias : ℕ) (groups : List Declared) (ms : List (List ℕ)) (declared : Declared) (present : Bool) → declared.present ≡ present → (declared.present ≡ true → slaves_before alias groups + slaves_in declared ≤ length ms)
    → length (option_map_or (λ (r : Replacement). machines_replaced r ms) (going_at (slaves_before alias groups) declared) ms) + going_count (Some declared) ≡ length ms
went alias groups ms declared true is within =
    let here = present-all declared is in
    let many = replaced-count ms [] (slaves_before alias groups) (slaves_in declared) (within is) in
    let left = ap (λ (b : Bool). length (option_map_or (λ (r : Replacement). machines_replaced r ms) (cond b (Some (record { position = slaves_before alias groups; gone = slaves_in declared; coming = [] })) None) ms)) is in
    omega (arith, here, many, left)
went alias groups ms declared false is within =
    let none = ap (λ (b : Bool). length (cond b declared.group.slaves [])) is in
    let left = ap (λ (b : Bool). length (option_map_or (λ (r : Replacement). machines_replaced r ms) (cond b (Some (record { position = slaves_before alias groups; gone = slaves_in declared; coming = [] })) None) ms)) is in
    omega (arith, none, left)

came-any : (alias : ℕ) (groups : List Declared) (ms : List (List ℕ)) (found : Option Declared) → slaves_before alias groups ≤ length ms
    → length (option_map_or (λ (r : Replacement). machines_replaced r ms) (option_and_then (coming_at (slaves_before alias groups)) found) ms) ≡ length ms + coming_count found
came-any alias groups ms None before = omega arith
came-any alias groups ms (Some declared) before = came alias groups ms declared declared.present refl before

went-any : (alias : ℕ) (groups : List Declared) (ms : List (List ℕ)) (found : Option Declared) → ((declared : Declared) → found ≡ Some declared → declared.present ≡ true → slaves_before alias groups + slaves_in declared ≤ length ms)
    → length (option_map_or (λ (r : Replacement). machines_replaced r ms) (option_and_then (going_at (slaves_before alias groups)) found) ms) + going_count found ≡ length ms
went-any alias groups ms None within = omega arith
went-any alias groups ms (Some declared) within = went alias groups ms declared declared.present refl (within declared refl)

fresh-if : (present : Bool) (declared : Declared) → declared.present ≡ present → length (machines_of declared) ≡ present_in declared
fresh-if true declared is =
    ap (λ (b : Bool). length (cond b (fresh_machines declared.group) [])) is ∙ length-fresh declared.group.alias declared.group.slaves ∙ sym (ap (λ (b : Bool). length (cond b declared.group.slaves [])) is)
fresh-if false declared is =
    ap (λ (b : Bool). length (cond b (fresh_machines declared.group) [])) is ∙ sym (ap (λ (b : Bool). length (cond b declared.group.slaves [])) is)

opened-total : (groups : List Declared) → length (opened_machines groups) ≡ sum_by present_in groups
opened-total [] = refl
opened-total (declared ∷ groups) =
    omega (arith, length-append (machines_of declared) (opened_machines groups), fresh-if declared.present declared refl, opened-total groups, total-cons declared groups)

-- after an edit of a project's groups a line with a machine for each slave has one again
pub edit-count : (groups : List Declared) (edit : Edit) (ms : List (List ℕ)) → lowest_fault (groups_of groups) ≡ None → length ms ≡ length (line_from 1 groups)
    → length (machines_after_edit groups edit ms) ≡ length (line_from 1 (groups_after groups edit))
edit-count groups (Connect alias) ms project each =
    let found = find (has_alias alias) groups in
    let before = before-line alias 1 groups in
    let many = came-any alias groups ms found (omega (arith, before, each)) in
    let total = coming-total alias groups (project-inside (groups_of groups) project).aliases in
    omega (arith, many, total, each, line-total 1 groups, line-total 1 (map (with_presence alias true) groups))
edit-count groups (Disconnect alias) ms project each =
    let found = find (has_alias alias) groups in
    let many = went-any alias groups ms found (λ declared is present. omega (arith, found-line alias 1 groups declared is present, each)) in
    let total = going-total alias groups (project-inside (groups_of groups) project).aliases in
    omega (arith, many, total, each, line-total 1 groups, line-total 1 (map (with_presence alias false) groups))
edit-count groups (Remap station area pdos) ms project each =
    let total = changed-total (with_area station area (λ a. record a { assigned = pdos })) groups in
    omega (arith, total, each, line-total 1 groups, line-total 1 (map (with_slaves (with_area station area (λ a. record a { assigned = pdos }))) groups))
edit-count groups (Move station area task) ms project each =
    let total = changed-total (with_area station area (λ a. record a { task = task })) groups in
    omega (arith, total, each, line-total 1 groups, line-total 1 (map (with_slaves (with_area station area (λ a. record a { task = task }))) groups))
edit-count groups (Declare group) ms project each = each ∙ sym (ap length (line-absent 1 groups group))

-- so has one at its opening
pub opened-count : (groups : List Declared) → length (opened_machines groups) ≡ length (line_from 1 groups)
opened-count groups = opened-total groups ∙ sym (line-total 1 groups)
