-- The answers to a list of edits, one after another.
use Rattle.std.proofs.Common.{◌≡◌, ◌≢◌, ◌∙◌, ◌+◌, ◌<◌, ◌≤◌, ℕ, suc, Bool, true, false, List, [], ◌∷◌, ◌++◌, length, drop, refl, sym, ap, subst, arith, drop-cons, if◌then◌else◌}
use Rattle.std.specs.Prelude.{Option, Some, None, Ok, Err, IfErr, IfOk, IfSome, OnErr, OnOk, Result, filter, get_or, map, not}
use Rattle.std.specs.List.{zip}
use Rattle.std.specs.Result.{result_unwrap_or}
use Rattle.std.proofs.Math.ListN.{drop_of_length-le}
use Rattle.std.proofs.lemmas.List.{append_assoc, append-nil}
use Rattle.hc_records.specs.declared.edit.Edit.{Edit}
use Rattle.hc_records.specs.declared.faults.EditFault.{EditFault}
use Rattle.hc_records.specs.declared.faults.EditFault.TheVariants.{Memory}
use Rattle.hc_records.specs.Edits.{edited, state_after, state_after_all}
use Rattle.hc_records.specs.Line.{State}
use Rattle.hc_groups.specs.Edits.{own_fault}
use Rattle.hc_plan.specs.Reports.{Answer, AreAnswers, IsAnswer, ReportsEdit, carried_out, wants_memory}

-- what is left of the edits, answered from the present state on, makes all of them answered
abbrev pub Goes : State → List Edit → ℕ → List Answer → State → Type 0
Goes old edits index answers now =
    (rest : List Answer) (new : State) → AreAnswers now (zip (drop index edits) rest) new → AreAnswers old (zip edits (answers ++ rest)) new

pub goes-on : (old now next : State) (edits : List Edit) (index : ℕ) (edit : Edit) (answers : List Answer) (answer : Answer)
    → index < length edits → edit ≡ get_or edits index edit → IsAnswer now edit answer next
    → Goes old edits index answers now → Goes old edits (index + 1) (answers ++ answer ∷ []) next
goes-on old now next edits index edit answers answer within at is goes =
    let one : suc index ≡ index + 1 = omega arith in
    let here : drop index edits ≡ edit ∷ drop (index + 1) edits =
    drop-cons edits index edit within
    ∙ ap (λ (e : Edit). e ∷ drop (suc index) edits) (sym at)
    ∙ ap (λ (n : ℕ). edit ∷ drop n edits) one in
    λ rest new left.
    subst (λ (list : List Answer). AreAnswers old (zip edits list) new) (sym (append_assoc answers (answer ∷ []) rest))
    (goes (answer ∷ rest) new (subst (λ (list : List Edit). AreAnswers now (zip list (answer ∷ rest)) new) (sym here) (next, is, left)))

-- an edit's answer leaves the state that its definition gives, unless a growth was refused
unsaid : (fault : EditFault) → wants_memory (Err fault) ≡ false → fault ≢ Memory
unsaid fault other = λ is. let memory : wants_memory (Err fault) ≡ true = ap (λ (f : EditFault). wants_memory (Err f)) is in cc

abbrev after_one : State → Edit → Bool → State
after_one old edit wants = if wants then old else state_after old edit

refused : (old next : State) (edit : Edit) (fault : EditFault) (wants : Bool) → wants_memory (Err fault) ≡ wants
    → (fault ≢ Memory → edited old edit ≡ Err fault) → next ≡ old → next ≡ after_one old edit wants
refused old next edit fault true is says same = same
refused old next edit fault false is says same =
    same ∙ sym (ap (λ (r : Result State EditFault). result_unwrap_or r old) (says (unsaid fault is)))

left-by : (old next : State) (edit : Edit) (answer : Answer) → IsAnswer old edit answer next → next ≡ after_one old edit (wants_memory answer)
left-by old next edit (Ok report) is = sym (ap (λ (r : Result State EditFault). result_unwrap_or r old) is.0)
left-by old next edit (Err fault) is = refused old next edit fault (wants_memory (Err fault)) refl is.lowest is.stays

-- whether an edit is among those that were carried_out
taken : (pair : Edit × Answer) (pairs : List (Edit × Answer)) (wants : Bool) → wants_memory pair.1 ≡ wants
    → carried_out (pair ∷ pairs) ≡ (if wants then carried_out pairs else pair.0 ∷ carried_out pairs)
taken pair pairs true is =
    ap (λ (b : Bool). map (λ (p : Edit × Answer). p.0) (if not b then pair ∷ filter (λ p. not (wants_memory p.1)) pairs else filter (λ p. not (wants_memory p.1)) pairs)) is
taken pair pairs false is =
    ap (λ (b : Bool). map (λ (p : Edit × Answer). p.0) (if not b then pair ∷ filter (λ p. not (wants_memory p.1)) pairs else filter (λ p. not (wants_memory p.1)) pairs)) is

after_it : (pair : Edit × Answer) (pairs : List (Edit × Answer)) (old next new : State) (wants : Bool) → wants_memory pair.1 ≡ wants
    → next ≡ after_one old pair.0 wants → new ≡ state_after_all next (carried_out pairs) → new ≡ state_after_all old (carried_out (pair ∷ pairs))
after_it pair pairs old next new true is one rest =
    rest ∙ ap (λ (s : State). state_after_all s (carried_out pairs)) one ∙ ap (state_after_all old) (sym (taken pair pairs true is))
after_it pair pairs old next new false is one rest =
    rest ∙ ap (λ (s : State). state_after_all s (carried_out pairs)) one ∙ ap (state_after_all old) (sym (taken pair pairs false is))

pub follows : (pairs : List (Edit × Answer)) (old new : State) → AreAnswers old pairs new → new ≡ state_after_all old (carried_out pairs)
follows [] old new is = is
follows (pair ∷ pairs) old new is =
    after_it pair pairs old is.0 new (wants_memory pair.1) refl (left-by old is.0 pair.0 pair.1 is.1) (follows pairs is.0 new is.2)

abbrev err-of : EditFault → Answer
err-of fault = Err fault

named : (own : Option EditFault) (fault : EditFault) → IfSome own (λ found. err-of fault ≡ err-of found) → IfSome own (λ found. fault ≡ found)
named None fault is = is
named (Some found) fault is = cc

-- the clauses of one edit, as one fact
pub answer-of : (old new : State) (edit : Edit) (answer : Answer)
    → OnOk answer (edited old edit ≡ Ok new) → IfOk answer (ReportsEdit old edit new) → IfErr answer (λ fault. fault ≢ Memory → edited old edit ≡ Err fault)
    → IfSome (own_fault old.groups edit) (λ fault. answer ≡ Err fault) → OnErr answer (new ≡ old) → IsAnswer old edit answer new
answer-of old new edit (Ok report) makes shows says own same = (makes, shows)
answer-of old new edit (Err fault) makes shows says own same = record { stays = same; own = named (own_fault old.groups edit) fault own; lowest = says }

-- all edits are answered
pub goes-all : (old new : State) (edits : List Edit) (index : ℕ) (answers : List Answer) → length edits ≤ index
    → Goes old edits index answers new → AreAnswers old (zip edits answers) new
goes-all old new edits index answers history goes =
    let none : drop index edits ≡ [] = drop_of_length-le edits history in
    subst (λ (list : List Answer). AreAnswers old (zip edits list) new) (append-nil answers)
    (goes [] new (subst (λ (list : List Edit). AreAnswers new (zip list []) new) (sym none) refl))
