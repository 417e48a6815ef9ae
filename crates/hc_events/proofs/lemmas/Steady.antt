-- The epoch of a task and its steady data.
use Rattle.std.proofs.Common.{◌≡◌, ℕ, ◌+◌, ◌≤◌, ◌==◌, ◌∙◌, Bool, true, false, cond, List, [], ◌∷◌, length, refl, sym, ap, ap₂, subst, arith, Option, Some, None}
use Rattle.std.specs.Prelude.{All, fold}
use Rattle.std.proofs.lemmas.Bool.{and_parts, eqb-true}
use Rattle.std.proofs.lemmas.List.Elements.{All-head, All-tail}
use Rattle.hc_records.specs.declared.edit.Edit.{Edit}
use Rattle.hc_records.specs.Line.{Member}
use Rattle.hc_events.specs.Ages.{data_serial, dated}
use Rattle.hc_events.specs.Entries.{History, Opened, Edited, Posted, Sent, Wrote, Came, Forgot, Cleared, Unplugged}
use Rattle.hc_events.specs.Images.{NewAnswer, is_for, new_answer_by, renewed, slot_of}
use Rattle.hc_events.specs.Points.{epoch_of, line_of, state_of}
use Rattle.hc_events.specs.Sendings.{line_data_length}
use Rattle.hc_events.specs.Steady.{SteadyData, edit_changes, steadied, steady_data, task_epoch}
use Rattle.hc_events.specs.SteadyLaws.{AreSteady, FitsSteadily, MovesTaskEpoch}
use Rattle.hc_events.proofs.lemmas.Slots.{Any, FitsNewAnswer, any-sent, new_answer-fits}
use Rattle.hc_events.proofs.lemmas.Unchanged.{same-length, unchanged-parts}

-- the epoch of a task

bounded_if : (changes : Bool) (epoch own : ℕ) → own ≤ epoch → cond changes (epoch + 1) own ≤ epoch + 1
bounded_if true epoch own few = omega arith
bounded_if false epoch own few = omega arith

none_below : 0 ≤ 0
none_below = omega arith

pub epochs-bounded : (history : History) (task : ℕ) → task_epoch history task ≤ epoch_of history
epochs-bounded [] task = none_below
epochs-bounded (Opened groups ∷ history) task = none_below
epochs-bounded (Edited edit ∷ history) task = bounded_if (edit_changes history edit task) (epoch_of history) (task_epoch history task) (epochs-bounded history task)
epochs-bounded (Posted other bytes ∷ history) task = epochs-bounded history task
epochs-bounded (Sent frame ∷ history) task = epochs-bounded history task
epochs-bounded (Wrote blocks ∷ history) task = epochs-bounded history task
epochs-bounded (Came arrival ∷ history) task = epochs-bounded history task
epochs-bounded (Forgot station ∷ history) task = epochs-bounded history task
epochs-bounded (Cleared station ∷ history) task = epochs-bounded history task
epochs-bounded (Unplugged station ∷ history) task = epochs-bounded history task

pub edit-moves : (history : History) (edit : Edit) (task : ℕ) → MovesTaskEpoch history edit task
edit-moves history edit task = record {
  raised = λ t. ap (λ b. cond b (epoch_of history + 1) (task_epoch history task)) t;
  no_data = λ d t. ap (λ b. cond b None (steady_data history task d)) t;
  left = λ t. ap (λ b. cond b (epoch_of history + 1) (task_epoch history task)) t;
  same_data = λ d t. ap (λ b. cond b None (steady_data history task d)) t;
}

-- the data that a task reads are steady

abbrev Together : ℕ → Option (List ℕ) → Option ℕ → Option SteadyData → Type 0
Together epoch None date steady = Unit {0}
Together epoch (Some bytes) date steady = (serial : ℕ) × (date ≡ Some serial) × (steady ≡ Some (record { bytes = bytes; serial = serial; epoch = epoch }))

one_together : (own : Bool) (serial epoch : ℕ) (good : NewAnswer) (slot : Option (List ℕ)) (date : Option ℕ) (steady : Option SteadyData) → Together epoch slot date steady
    → Together epoch (cond own (Some good.bytes) slot) (cond own (Some serial) date) (cond own (Some (record { bytes = good.bytes; serial = serial; epoch = epoch })) steady)
one_together true serial epoch good slot date steady before = (serial, refl, refl)
one_together false serial epoch good slot date steady before = before

all_together : (task d serial epoch : ℕ) (good_answers : List NewAnswer) (slot : Option (List ℕ)) (date : Option ℕ) (steady : Option SteadyData) → Together epoch slot date steady
    → Together epoch (fold (renewed task d) slot good_answers) (fold (dated serial task d) date good_answers) (fold (steadied serial epoch task d) steady good_answers)
all_together task d serial epoch [] slot date steady before = before
all_together task d serial epoch (good ∷ good_answers) slot date steady before =
    all_together task d serial epoch good_answers (renewed task d slot good) (dated serial task d date good) (steadied serial epoch task d steady good) (one_together (is_for task d good) serial epoch good slot date steady before)

together : (history : History) (task d : ℕ) → Together (epoch_of history) (slot_of history task d) (data_serial history task d) (steady_data history task d)
together [] task d = tt
together (Opened groups ∷ history) task d = tt
together (Edited edit ∷ history) task d = tt
together (Posted other bytes ∷ history) task d = together history task d
together (Sent frame ∷ history) task d = together history task d
together (Wrote blocks ∷ history) task d = together history task d
together (Forgot station ∷ history) task d = together history task d
together (Cleared station ∷ history) task d = together history task d
together (Unplugged station ∷ history) task d = together history task d
together (Came arrival ∷ history) task d =
    all_together task d arrival.serial (epoch_of history) (new_answer_by history arrival) (slot_of history task d) (data_serial history task d) (steady_data history task d) (together history task d)

pub slots-steady : (history : History) (task d : ℕ) (bytes : List ℕ) → slot_of history task d ≡ Some bytes → AreSteady history task d bytes
slots-steady history task d bytes e =
    let both = subst (λ slot. Together (epoch_of history) slot (data_serial history task d) (steady_data history task d)) e (together history task d) in
    record { serial = both.0; date = both.1; steady = both.2 }

-- and steady data of the epoch are read

abbrev OfEpoch : ℕ → ℕ → ℕ → Option (List ℕ) → Option SteadyData → Type 0
OfEpoch size own epoch slot None = Unit {0}
OfEpoch size own epoch slot (Some found) = (own ≤ found.epoch) × (found.epoch ≤ epoch) × (length found.bytes ≡ size) × (found.epoch ≡ epoch → slot ≡ Some found.bytes)

at_most : (n : ℕ) → n ≤ n
at_most n = omega arith

one_of_epoch : (line : List Member) (is : Bool) (task d serial own epoch : ℕ) (good : NewAnswer) (slot : Option (List ℕ)) (steady : Option SteadyData) → is_for task d good ≡ is → own ≤ epoch → FitsNewAnswer Any line good
    → OfEpoch (line_data_length line (task, d)) own epoch slot steady
    → OfEpoch (line_data_length line (task, d)) own epoch (cond is (Some good.bytes) slot) (cond is (Some (record { bytes = good.bytes; serial = serial; epoch = epoch })) steady)
one_of_epoch line true task d serial own epoch good slot steady same few fit before =
    let both = and_parts (good.task == task) (good.datagram == d) same in
    (few, at_most epoch, fit.0 ∙ ap₂ (λ (t e : ℕ). line_data_length line (t, e)) (eqb-true good.task task both.0) (eqb-true good.datagram d both.1), λ e. refl)
one_of_epoch line false task d serial own epoch good slot steady same few fit before = before

all_of_epoch : (line : List Member) (task d serial own epoch : ℕ) (good_answers : List NewAnswer) (slot : Option (List ℕ)) (steady : Option SteadyData) → own ≤ epoch → All (FitsNewAnswer Any line) good_answers
    → OfEpoch (line_data_length line (task, d)) own epoch slot steady
    → OfEpoch (line_data_length line (task, d)) own epoch (fold (renewed task d) slot good_answers) (fold (steadied serial epoch task d) steady good_answers)
all_of_epoch line task d serial own epoch [] slot steady few fit before = before
all_of_epoch line task d serial own epoch (good ∷ good_answers) slot steady few fit before =
    all_of_epoch line task d serial own epoch good_answers (renewed task d slot good) (steadied serial epoch task d steady good) few (All-tail (FitsNewAnswer Any line) good good_answers fit)
    (one_of_epoch line (is_for task d good) task d serial own epoch good slot steady refl few (All-head (FitsNewAnswer Any line) good good_answers fit) before)

next_epoch : (size own epoch : ℕ) (slot : Option (List ℕ)) (steady : Option SteadyData) → OfEpoch size own epoch slot steady → OfEpoch size own (epoch + 1) None steady
next_epoch size own epoch slot None before = tt
next_epoch size own epoch slot (Some found) before = let most = before.1 in (before.0, omega arith, before.2, λ e. absurd (omega arith))

edited_if : (changes : Bool) (old new : ℕ) (own epoch : ℕ) (slot : Option (List ℕ)) (steady : Option SteadyData) → (changes ≡ false → new ≡ old) → OfEpoch old own epoch slot steady
    → OfEpoch new (cond changes (epoch + 1) own) (epoch + 1) None (cond changes None steady)
edited_if true old new own epoch slot steady same before = tt
edited_if false old new own epoch slot steady same before = subst (λ n. OfEpoch n own (epoch + 1) None steady) (sym (same refl)) (next_epoch old own epoch slot steady before)

pub of-epoch : (history : History) (task d : ℕ) → OfEpoch (line_data_length (line_of history) (task, d)) (task_epoch history task) (epoch_of history) (slot_of history task d) (steady_data history task d)
of-epoch [] task d = tt
of-epoch (Opened groups ∷ history) task d = tt
of-epoch (Edited edit ∷ history) task d =
    edited_if (edit_changes history edit task) (line_data_length (line_of history) (task, d)) (line_data_length (line_of (Edited edit ∷ history)) (task, d)) (task_epoch history task) (epoch_of history) (slot_of history task d)
    (steady_data history task d)
    (λ none. sym (same-length (line_of history) (line_of (Edited edit ∷ history)) task d (unchanged-parts (state_of history) (state_of (Edited edit ∷ history)) task none).table)) (of-epoch history task d)
of-epoch (Posted other bytes ∷ history) task d = of-epoch history task d
of-epoch (Sent frame ∷ history) task d = of-epoch history task d
of-epoch (Wrote blocks ∷ history) task d = of-epoch history task d
of-epoch (Forgot station ∷ history) task d = of-epoch history task d
of-epoch (Cleared station ∷ history) task d = of-epoch history task d
of-epoch (Unplugged station ∷ history) task d = of-epoch history task d
of-epoch (Came arrival ∷ history) task d =
    all_of_epoch (line_of history) task d arrival.serial (task_epoch history task) (epoch_of history) (new_answer_by history arrival) (slot_of history task d) (steady_data history task d) (epochs-bounded history task)
    (new_answer-fits Any history arrival (any-sent history)) (of-epoch history task d)

at_found : (history : History) (task d : ℕ) (found : SteadyData) → steady_data history task d ≡ Some found
    → (task_epoch history task ≤ found.epoch) × (found.epoch ≤ epoch_of history) × (length found.bytes ≡ line_data_length (line_of history) (task, d)) × (found.epoch ≡ epoch_of history → slot_of history task d ≡ Some found.bytes)
at_found history task d found e = subst (OfEpoch (line_data_length (line_of history) (task, d)) (task_epoch history task) (epoch_of history) (slot_of history task d)) e (of-epoch history task d)

pub steady-slots : (history : History) (task d : ℕ) (found : SteadyData) → steady_data history task d ≡ Some found → found.epoch ≡ epoch_of history → slot_of history task d ≡ Some found.bytes
steady-slots history task d found e now = (at_found history task d found e).3 now

pub steady-fits : (history : History) (task d : ℕ) (found : SteadyData) → steady_data history task d ≡ Some found → FitsSteadily history task d found
steady-fits history task d found e = let all = at_found history task d found e in record { from = all.0; most = all.1; size = all.2 }
