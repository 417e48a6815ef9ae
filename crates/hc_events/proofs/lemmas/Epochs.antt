-- The epoch of the state is the number of accepted edits.
use Rattle.std.proofs.Common.{◌≡◌, ◌+◌, refl, ap, ◌∙◌}
use Rattle.std.specs.Result.{result_unwrap_or}
use Rattle.hc_records.specs.Edits.{changed, refused_by}
use Rattle.hc_events.specs.Entries.{History, Opened, Edited, Posted, Sent, Wrote, Came, Forgot, Cleared, Unplugged}
use Rattle.hc_events.specs.Points.{epoch_of, state_of}
use Rattle.hc_events.specs.Accepted.{AreAccepted}
use Rattle.hc_events.proofs.lemmas.Accepted.{StaysTrue, held-of_accepted}

abbrev pub Counted : History → Type 0
Counted history = (state_of history).epoch ≡ epoch_of history

counted-more : StaysTrue Counted
counted-more history (Opened groups) accepted before = absurd accepted
counted-more history (Edited edit) accepted before =
    ap (λ fault. (result_unwrap_or (refused_by fault (changed (state_of history) edit)) (state_of history)).epoch) accepted ∙ ap (λ n. n + 1) before
counted-more history (Posted task bytes) accepted before = before
counted-more history (Forgot station) accepted before = before
counted-more history (Cleared station) accepted before = before
counted-more history (Unplugged station) accepted before = before
counted-more history (Sent frame) accepted before = before
counted-more history (Wrote blocks) accepted before = before
counted-more history (Came arrival) accepted before = before

pub epochs-counted : (history : History) → AreAccepted history → Counted history
epochs-counted history all = held-of_accepted Counted counted-more (λ groups. refl) history all
