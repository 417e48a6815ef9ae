-- A sending is answered once, and serials are those of sendings.
use Rattle.std.proofs.Common.{◌≡◌, ℕ, ◌+◌, ◌<◌, ◌==◌, Bool, true, false, cond, ◌&&◌, List, [], ◌∷◌, refl, sym, ap, ◌∙◌, subst, arith, Option, Some, None, lt-ltb, ltb-true}
use Rattle.std.specs.Prelude.{is_some, nat_lt, option_map, option_and_then}
use Rattle.std.specs.List.{list_any}
use Rattle.std.proofs.lemmas.Bool.Decides.{nat_tests}
use Rattle.std.proofs.lemmas.Bool.{and_right, not_from_true, or_right}
use Rattle.std.proofs.lemmas.Grind.{common_steps}
use Rattle.hc_records.proofs.lemmas.Choices.{by_bool, is_other}
use Rattle.hc_events.specs.Arrivals.{Arrival}
use Rattle.hc_events.specs.Entries.{HistoryEntry, History, Opened, Edited, Posted, Sent, Wrote, Came, Forgot, Cleared, Unplugged}
use Rattle.hc_events.specs.Points.{line_of, next_serial}
use Rattle.hc_events.specs.Heads.{data_heads, write_heads}
use Rattle.hc_events.specs.Answering.{Sending, sending_of_heads, followed_by, sending_of, fits_sending, ends, is_answer, only_if, answered_by}
use Rattle.hc_events.specs.Steps.{Step, entries_after_all}
use Rattle.hc_events.proofs.lemmas.Accepted.{StaysTrue, unchanged-after_all}

none_below : (serial : ℕ) → false ≡ nat_lt serial 0
none_below serial = grind (arith, nat_tests)

-- the sending that an arrival answers

picked : {X : Type 0} (b : Bool) (other sending : X) → cond b (Some other) None ≡ Some sending → (b ≡ true) × (other ≡ sending)
picked true other sending e = (refl, cc)
picked false other sending e = cc

pub only-if_some : {X : Type 0} (found : Option X) (test : X → Bool) (sending : X) → option_and_then (only_if test) found ≡ Some sending → (found ≡ Some sending) × (test sending ≡ true)
only-if_some None test sending e = cc
only-if_some (Some other) test sending e =
    let found = picked (test other) other sending e in (ap Some found.1, ap test (sym found.1) ∙ found.0)

-- a serial is below the next one exactly where a sending has it

mapped_some : (entry : HistoryEntry) (found : Option Sending) → is_some (option_map (followed_by entry) found) ≡ is_some found
mapped_some entry None = refl
mapped_some entry (Some sending) = refl

next_or_before : (serial next : ℕ) → nat_lt serial (next + 1) ≡ cond (next == serial) true (nat_lt serial next)
next_or_before serial next = grind (arith, common_steps)

one_of : (c : Bool) (first : Option Sending) (rest : Option Sending) → is_some first ≡ true → is_some (cond c first rest) ≡ cond c true (is_some rest)
one_of true first rest e = e
one_of false first rest e = refl

pub serial-made : (history : History) (serial : ℕ) → is_some (sending_of history serial) ≡ nat_lt serial (next_serial history)
serial-made [] serial = none_below serial
serial-made (Opened groups ∷ history) serial = none_below serial
serial-made (Edited edit ∷ history) serial = mapped_some (Edited edit) (sending_of history serial) ∙ serial-made history serial
serial-made (Posted task bytes ∷ history) serial = mapped_some (Posted task bytes) (sending_of history serial) ∙ serial-made history serial
serial-made (Forgot station ∷ history) serial = mapped_some (Forgot station) (sending_of history serial) ∙ serial-made history serial
serial-made (Cleared station ∷ history) serial = mapped_some (Cleared station) (sending_of history serial) ∙ serial-made history serial
serial-made (Unplugged station ∷ history) serial = mapped_some (Unplugged station) (sending_of history serial) ∙ serial-made history serial
serial-made (Came arrival ∷ history) serial = mapped_some (Came arrival) (sending_of history serial) ∙ serial-made history serial
serial-made (Sent frame ∷ history) serial =
    one_of (next_serial history == serial) (Some (sending_of_heads (data_heads (line_of history) frame))) (option_map (followed_by (Sent frame)) (sending_of history serial)) refl
    ∙ ap (λ b. cond (next_serial history == serial) true b) (mapped_some (Sent frame) (sending_of history serial) ∙ serial-made history serial)
    ∙ sym (next_or_before serial (next_serial history))
serial-made (Wrote blocks ∷ history) serial =
    one_of (next_serial history == serial) (Some (sending_of_heads (write_heads blocks))) (option_map (followed_by (Wrote blocks)) (sending_of history serial)) refl
    ∙ ap (λ b. cond (next_serial history == serial) true b) (mapped_some (Wrote blocks) (sending_of history serial) ∙ serial-made history serial)
    ∙ sym (next_or_before serial (next_serial history))

pub serial-below : (history : History) (serial : ℕ) → is_some (sending_of history serial) ≡ true → serial < next_serial history
serial-below history serial some = ltb-true serial (next_serial history) (sym (serial-made history serial) ∙ some)

pub below-serial : (history : History) (serial : ℕ) → serial < next_serial history → is_some (sending_of history serial) ≡ true
below-serial history serial below = serial-made history serial ∙ lt-ltb serial (next_serial history) below

-- a sending that ended: nothing answers it any more

abbrev ended : ℕ → Option Sending → Type 0
ended serial None = Unit {0}
ended serial (Some sending) = list_any (ends serial sending.heads) sending.since ≡ true

-- a sending with the serial was made, and it ended
record HasEnded (serial : ℕ) (history : History) : Type 0 where
  pub made : serial < next_serial history
  pub over : ended serial (sending_of history serial)

ended_still : (serial : ℕ) (entry : HistoryEntry) (found : Option Sending) → ended serial found → ended serial (option_map (followed_by entry) found)
ended_still serial entry None over = over
ended_still serial entry (Some sending) over = or_right (ends serial sending.heads entry) _ over

pub below_more : (serial next : ℕ) → serial < next → serial < next + 1
below_more serial next below = omega arith

ended_older : (serial next : ℕ) (first : Option Sending) (rest : Option Sending) → serial < next → ended serial rest → ended serial (cond (next == serial) first rest)
ended_older serial next first rest below over = rw (is_other serial next below) over

ended_grows : (serial : ℕ) → StaysTrue (HasEnded serial)
ended_grows serial history (Opened groups) accepted over = absurd accepted
ended_grows serial history (Edited edit) accepted over = record { made = over.made; over = ended_still serial (Edited edit) (sending_of history serial) over.over }
ended_grows serial history (Posted task bytes) accepted over = record { made = over.made; over = ended_still serial (Posted task bytes) (sending_of history serial) over.over }
ended_grows serial history (Forgot station) accepted over = record { made = over.made; over = ended_still serial (Forgot station) (sending_of history serial) over.over }
ended_grows serial history (Cleared station) accepted over = record { made = over.made; over = ended_still serial (Cleared station) (sending_of history serial) over.over }
ended_grows serial history (Unplugged station) accepted over = record { made = over.made; over = ended_still serial (Unplugged station) (sending_of history serial) over.over }
ended_grows serial history (Came arrival) accepted over = record { made = over.made; over = ended_still serial (Came arrival) (sending_of history serial) over.over }
ended_grows serial history (Sent frame) accepted over = record {
  made = below_more serial (next_serial history) over.made;
  over = ended_older serial (next_serial history) _ (option_map (followed_by (Sent frame)) (sending_of history serial)) over.made (ended_still serial (Sent frame) (sending_of history serial) over.over);
}
ended_grows serial history (Wrote blocks) accepted over = record {
  made = below_more serial (next_serial history) over.made;
  over = ended_older serial (next_serial history) _ (option_map (followed_by (Wrote blocks)) (sending_of history serial)) over.made (ended_still serial (Wrote blocks) (sending_of history serial) over.over);
}

nothing_answers : (arrival : Arrival) (found : Option Sending) → ended arrival.serial found → option_and_then (only_if (is_answer arrival)) found ≡ None
nothing_answers arrival None over = refl
nothing_answers arrival (Some sending) over =
    ap (λ b. cond b (Some sending) None) (and_right (fits_sending arrival.serial sending.heads arrival) _ (not_from_true _ over))

pub and_left : (a b : Bool) → (a && b) ≡ true → a ≡ true
and_left true b e = refl
and_left false b e = cc

-- an answer ends what it answers
ended_now : (arrival : Arrival) (found : Option Sending) → is_some (option_and_then (only_if (is_answer arrival)) found) ≡ true → ended arrival.serial (option_map (followed_by (Came arrival)) found)
ended_now arrival None some = cc
ended_now arrival (Some sending) some =
    by_bool (is_answer arrival sending)
    (λ t. let fit : fits_sending arrival.serial sending.heads arrival ≡ true = and_left _ _ t in rw fit refl)
    (λ t. let never : false ≡ true = rw t at some in cc)

some_found : (arrival : Arrival) (found : Option Sending) → is_some (option_and_then (only_if (is_answer arrival)) found) ≡ true → is_some found ≡ true
some_found arrival None some = some
some_found arrival (Some sending) some = refl

pub answers-once : (history : History) (first second : Arrival) (steps : List Step) → is_some (answered_by history first) ≡ true → second.serial ≡ first.serial → answered_by (entries_after_all (Came first ∷ history) steps) second ≡ None
answers-once history first second steps some same =
    let made : first.serial < next_serial history = serial-below history first.serial (some_found first (sending_of history first.serial) some) in
    let then' = unchanged-after_all (HasEnded first.serial) (ended_grows first.serial) (Came first ∷ history) steps
    (record { made = made; over = ended_now first (sending_of history first.serial) some }) in
    nothing_answers second (sending_of (entries_after_all (Came first ∷ history) steps) second.serial)
    (subst (λ serial. ended serial (sending_of (entries_after_all (Came first ∷ history) steps) serial)) (sym same) then'.over)
