-- An arrival that is stale once its sending was made is stale for good.
use Rattle.std.proofs.Common.{◌≡◌, ℕ, ◌<◌, true, false, cond, not, List, ◌∷◌, refl, sym, ap, ◌∙◌, subst, Option, Some, None}
use Rattle.std.specs.Prelude.{option_map, option_and_then}
use Rattle.std.specs.List.{list_any}
use Rattle.std.proofs.lemmas.Bool.{not-false, not-true}
use Rattle.hc_records.proofs.lemmas.Choices.{by_bool, is_other}
use Rattle.hc_events.specs.Arrivals.{Arrival}
use Rattle.hc_events.specs.Entries.{HistoryEntry, History, Opened, Edited, Posted, Sent, Wrote, Came, Forgot, Cleared, Unplugged}
use Rattle.hc_events.specs.Points.{line_of, next_serial}
use Rattle.hc_events.specs.Heads.{data_heads, write_heads}
use Rattle.hc_events.specs.Answering.{Sending, sending_of_heads, followed_by, sending_of, has_heads, fits_sending, is_current, is_stale_to, judged_by}
use Rattle.hc_events.specs.Awaited.{all_outdated, still_awaited, awaited}
use Rattle.hc_events.specs.Steps.{Step, entries_after_all}
use Rattle.hc_events.proofs.lemmas.Accepted.{StaysTrue, unchanged-after_all}
use Rattle.hc_events.proofs.lemmas.Awaited.{updates_from, updates-is, awaited-any, again-more, unless_fits, unless_again, awaited_edited, awaited_came, awaited_other}
use Rattle.hc_events.proofs.lemmas.Once.{below_more}

-- an arrival is nothing new for what is awaited
abbrev quiet : Arrival → Option Sending → Type 0
quiet arrival found = list_any is_current (updates_from found arrival) ≡ false

quiet_came : (serial : ℕ) (other arrival : Arrival) (found : Option Sending) → quiet arrival found → quiet arrival (option_and_then (unless_fits serial other) found)
quiet_came serial other arrival None q = q
quiet_came serial other arrival (Some s) q = by_bool (fits_sending serial s.heads other) (λ t. rw t refl) (λ t. rw t q)

quiet_other : (entry : HistoryEntry) (arrival : Arrival) (found : Option Sending) → quiet arrival found → quiet arrival (option_and_then (unless_again entry) found)
quiet_other entry arrival None q = q
quiet_other entry arrival (Some s) q =
    by_bool (has_heads s.heads arrival.parts)
    (λ h. let all : all_outdated s.since s.heads ≡ true = not-false _ (sym (updates-is s.since s.heads arrival.parts h) ∙ rw h at q) in
    rw (again-more entry s.since s.heads all) refl)
    (λ h. by_bool (all_outdated (entry ∷ s.since) s.heads) (λ t. rw t refl) (λ t. rw t (rw h refl)))

-- one more entry
quiet_grows : (history : History) (entry : HistoryEntry) (arrival : Arrival) → arrival.serial < next_serial history → quiet arrival (awaited history arrival.serial) → quiet arrival (awaited (entry ∷ history) arrival.serial)
quiet_grows history (Opened groups) arrival below q = refl
quiet_grows history (Edited edit) arrival below q = subst (quiet arrival) (sym (awaited_edited arrival.serial edit (sending_of history arrival.serial))) refl
quiet_grows history (Came other) arrival below q = subst (quiet arrival) (sym (awaited_came arrival.serial other (sending_of history arrival.serial))) (quiet_came arrival.serial other arrival (awaited history arrival.serial) q)
quiet_grows history (Posted task bytes) arrival below q = subst (quiet arrival) (sym (awaited_other arrival.serial (Posted task bytes) (λ heads. refl) refl (sending_of history arrival.serial))) (quiet_other (Posted task bytes) arrival (awaited history arrival.serial) q)
quiet_grows history (Forgot station) arrival below q = subst (quiet arrival) (sym (awaited_other arrival.serial (Forgot station) (λ heads. refl) refl (sending_of history arrival.serial))) (quiet_other (Forgot station) arrival (awaited history arrival.serial) q)
quiet_grows history (Cleared station) arrival below q = subst (quiet arrival) (sym (awaited_other arrival.serial (Cleared station) (λ heads. refl) refl (sending_of history arrival.serial))) (quiet_other (Cleared station) arrival (awaited history arrival.serial) q)
quiet_grows history (Unplugged station) arrival below q = subst (quiet arrival) (sym (awaited_other arrival.serial (Unplugged station) (λ heads. refl) refl (sending_of history arrival.serial))) (quiet_other (Unplugged station) arrival (awaited history arrival.serial) q)
quiet_grows history (Sent frame) arrival below q =
    subst (quiet arrival) (sym
    (ap (λ b. option_and_then (still_awaited arrival.serial) (cond b (Some (sending_of_heads (data_heads (line_of history) frame))) (option_map (followed_by (Sent frame)) (sending_of history arrival.serial)))) (is_other arrival.serial (next_serial history) below)
    ∙ awaited_other arrival.serial (Sent frame) (λ heads. refl) refl (sending_of history arrival.serial))) (quiet_other (Sent frame) arrival (awaited history arrival.serial) q)
quiet_grows history (Wrote blocks) arrival below q =
    subst (quiet arrival) (sym
    (ap (λ b. option_and_then (still_awaited arrival.serial) (cond b (Some (sending_of_heads (write_heads blocks))) (option_map (followed_by (Wrote blocks)) (sending_of history arrival.serial)))) (is_other arrival.serial (next_serial history) below)
    ∙ awaited_other arrival.serial (Wrote blocks) (λ heads. refl) refl (sending_of history arrival.serial))) (quiet_other (Wrote blocks) arrival (awaited history arrival.serial) q)

-- a sending with the arrival's serial was made, and the arrival is nothing new for what is awaited
-- with it
record IsOver (arrival : Arrival) (history : History) : Type 0 where
  pub made : arrival.serial < next_serial history
  pub quiet_now : quiet arrival (awaited history arrival.serial)

over_grows : (arrival : Arrival) → StaysTrue (IsOver arrival)
over_grows arrival history (Opened groups) accepted over = absurd accepted
over_grows arrival history (Edited edit) accepted over = record { made = over.made; quiet_now = quiet_grows history (Edited edit) arrival over.made over.quiet_now }
over_grows arrival history (Posted task bytes) accepted over = record { made = over.made; quiet_now = quiet_grows history (Posted task bytes) arrival over.made over.quiet_now }
over_grows arrival history (Forgot station) accepted over = record { made = over.made; quiet_now = quiet_grows history (Forgot station) arrival over.made over.quiet_now }
over_grows arrival history (Cleared station) accepted over = record { made = over.made; quiet_now = quiet_grows history (Cleared station) arrival over.made over.quiet_now }
over_grows arrival history (Unplugged station) accepted over = record { made = over.made; quiet_now = quiet_grows history (Unplugged station) arrival over.made over.quiet_now }
over_grows arrival history (Sent frame) accepted over =
    record { made = below_more arrival.serial (next_serial history) over.made; quiet_now = quiet_grows history (Sent frame) arrival over.made over.quiet_now }
over_grows arrival history (Wrote blocks) accepted over =
    record { made = below_more arrival.serial (next_serial history) over.made; quiet_now = quiet_grows history (Wrote blocks) arrival over.made over.quiet_now }
over_grows arrival history (Came other) accepted over = record { made = over.made; quiet_now = quiet_grows history (Came other) arrival over.made over.quiet_now }

pub stale-stays : (history : History) (steps : List Step) (arrival : Arrival) → arrival.serial < next_serial history → is_stale_to history arrival ≡ true → is_stale_to (entries_after_all history steps) arrival ≡ true
stale-stays history steps arrival below stale =
    let now : quiet arrival (awaited history arrival.serial) = sym (awaited-any history arrival) ∙ not-true (list_any is_current (judged_by history arrival)) stale in
    let over = unchanged-after_all (IsOver arrival) (over_grows arrival) history steps (record { made = below; quiet_now = now }) in
    ap not (awaited-any (entries_after_all history steps) arrival ∙ over.quiet_now)
