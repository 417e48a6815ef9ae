-- A slave was forgotten since an awaited register write exactly if one was forgotten since the last write.
use Rattle.std.proofs.Common.{◌≡◌, ℕ, ◌==◌, Bool, true, false, cond, ◌||◌, List, [], ◌∷◌, filter, refl, sym, ap, ◌∙◌, subst, Option, Some, None}
use Rattle.std.specs.Prelude.{option_and_then, option_map}
use Rattle.std.specs.List.{list_any}
use Rattle.hc_records.specs.Line.{Member}
use Rattle.hc_records.proofs.lemmas.Choices.{by_bool}
use Rattle.hc_events.specs.Entries.{HistoryEntry, History, Opened, Edited, Sent, Wrote, Came, Forgot}
use Rattle.hc_events.specs.Points.{line_of, next_serial}
use Rattle.hc_events.specs.Sendings.{Named}
use Rattle.hc_events.specs.Heads.{Head, data_heads, is_block, write_heads}
use Rattle.hc_events.specs.Answering.{Sending, ends, followed_by, is_forgetting, sending_of_heads, sending_of, starts_over}
use Rattle.hc_events.specs.Awaited.{still_awaited, all_outdated, awaited, is_ended, is_no_arrival, is_write_sending}
use Rattle.hc_events.proofs.lemmas.Awaited.{any-filter}
use Rattle.hc_sendings.specs.History.{was_forgotten}

-- the entries before the last one

record IsFollowed (entry : HistoryEntry) (found : Option Sending) (sending : Sending) : Type 0 where
  before : Sending
  there : found ≡ Some before
  is : sending ≡ followed_by entry before

followed : (entry : HistoryEntry) (found : Option Sending) (sending : Sending) → option_map (followed_by entry) found ≡ Some sending → IsFollowed entry found sending
followed entry None sending e = cc
followed entry (Some before) sending e = record { before = before; there = refl; is = cc }

same_sending : (a b : Sending) → Some a ≡ Some b → a ≡ b
same_sending a b e = cc

or_none : (a b : Bool) → (a || b) ≡ false → (a ≡ false) × (b ≡ false)
or_none true b e = cc
or_none false b e = (refl, e)

no_block : (line : List Member) (frame : List Named) → list_any (λ (head : Head). is_block head.item) (data_heads line frame) ≡ false
no_block line [] = refl
no_block line (named ∷ frame) = no_block line frame

abbrev Since : History → Sending → Type 0
Since history sending = list_any is_forgetting sending.since ≡ was_forgotten history

abbrev IsOpen : ℕ → Sending → Type 0
IsOpen serial sending = (is_ended serial sending ≡ false) × (starts_over sending.since ≡ false) × (is_write_sending sending ≡ true)

since : (history : History) (serial : ℕ) (sending : Sending) → sending_of history serial ≡ Some sending → IsOpen serial sending → Since history sending
since [] serial sending e going = cc
since (Opened groups ∷ history) serial sending e going = cc
since (Edited edit ∷ history) serial sending e going =
    let one = followed (Edited edit) (sending_of history serial) sending e in
    let never : true ≡ false = sym (ap (is_ended serial) one.is) ∙ going.0 in cc
since (Sent frame ∷ history) serial sending e going =
    by_bool (next_serial history == serial)
    (λ t. let is : sending_of_heads (data_heads (line_of history) frame) ≡ sending =
    same_sending _ _ (sym (ap (λ b. cond b (Some (sending_of_heads (data_heads (line_of history) frame))) (option_map (followed_by (Sent frame)) (sending_of history serial))) t) ∙ e) in
    let never : true ≡ false = sym going.2 ∙ sym (ap is_write_sending is) ∙ no_block (line_of history) frame in cc)
    (λ t. let one = followed (Sent frame) (sending_of history serial) sending (sym (ap (λ b. cond b (Some (sending_of_heads (data_heads (line_of history) frame))) (option_map (followed_by (Sent frame)) (sending_of history serial))) t) ∙ e) in
    let before : IsOpen serial one.before = subst (IsOpen serial) one.is going in
    ap (λ (s : Sending). list_any is_forgetting s.since) one.is ∙ since history serial one.before one.there before)
since (Wrote blocks ∷ history) serial sending e going =
    by_bool (next_serial history == serial)
    (λ t. let is : sending_of_heads (write_heads blocks) ≡ sending =
    same_sending _ _ (sym (ap (λ b. cond b (Some (sending_of_heads (write_heads blocks))) (option_map (followed_by (Wrote blocks)) (sending_of history serial))) t) ∙ e) in
    sym (ap (λ (s : Sending). list_any is_forgetting s.since) is))
    (λ t. let one = followed (Wrote blocks) (sending_of history serial) sending (sym (ap (λ b. cond b (Some (sending_of_heads (write_heads blocks))) (option_map (followed_by (Wrote blocks)) (sending_of history serial))) t) ∙ e) in
    let over : starts_over (Wrote blocks ∷ one.before.since) ≡ false = sym (ap (λ (s : Sending). starts_over s.since) one.is) ∙ going.1 in
    ap (λ (s : Sending). list_any is_forgetting s.since) one.is ∙ (or_none (list_any is_forgetting one.before.since) (starts_over one.before.since) over).0)
since (Came arrival ∷ history) serial sending e going =
    let one = followed (Came arrival) (sending_of history serial) sending e in
    let over : is_ended serial (followed_by (Came arrival) one.before) ≡ false = sym (ap (is_ended serial) one.is) ∙ going.0 in
    let ended = (or_none (ends serial one.before.heads (Came arrival)) (is_ended serial one.before) over).1 in
    let begun : starts_over one.before.since ≡ false = sym (ap (λ (s : Sending). starts_over s.since) one.is) ∙ going.1 in
    let writes : is_write_sending one.before ≡ true = sym (ap is_write_sending one.is) ∙ going.2 in
    ap (λ (s : Sending). list_any is_forgetting s.since) one.is ∙ since history serial one.before one.there (ended, begun, writes)
since (Forgot station ∷ history) serial sending e going =
    let one = followed (Forgot station) (sending_of history serial) sending e in
    ap (λ (s : Sending). list_any is_forgetting s.since) one.is
since (entry ∷ history) serial sending e going =
    let one = followed entry (sending_of history serial) sending e in
    let before : IsOpen serial one.before = subst (IsOpen serial) one.is going in
    ap (λ (s : Sending). list_any is_forgetting s.since) one.is ∙ since history serial one.before one.there before

-- what is awaited is such a sending without the arrivals since

record IsOriginal (history : History) (serial : ℕ) (now : Sending) : Type 0 where
  original : Sending
  there : sending_of history serial ≡ Some original
  going : is_ended serial original ≡ false
  is : now ≡ record { heads = original.heads; since = filter is_no_arrival original.since }

original_of : (serial : ℕ) (found : Option Sending) (now : Sending) → option_and_then (still_awaited serial) found ≡ Some now
    → (original : Sending) × (found ≡ Some original) × (is_ended serial original ≡ false) × (now ≡ record { heads = original.heads; since = filter is_no_arrival original.since })
original_of serial None now e = cc
original_of serial (Some original) now e =
    by_bool (is_ended serial original || all_outdated original.since original.heads)
    (λ t. let never : None ≡ Some now = sym (ap (λ b. cond b None (Some (record { heads = original.heads; since = filter is_no_arrival original.since }))) t) ∙ e in cc)
    (λ t. let is : record { heads = original.heads; since = filter is_no_arrival original.since } ≡ now =
    same_sending _ _ (sym (ap (λ b. cond b None (Some (record { heads = original.heads; since = filter is_no_arrival original.since }))) t) ∙ e) in
    (original, refl, (or_none (is_ended serial original) (all_outdated original.since original.heads) t).0, sym is))

starts_filter : (entries : List HistoryEntry) → starts_over (filter is_no_arrival entries) ≡ starts_over entries
starts_filter [] = refl
starts_filter (Wrote blocks ∷ entries) =
    ap (λ b. b || starts_over (filter is_no_arrival entries)) (any-filter is_forgetting (λ arrival. refl) entries)
    ∙ ap (λ b. list_any is_forgetting entries || b) (starts_filter entries)
starts_filter (Came arrival ∷ entries) = starts_filter entries
starts_filter (other ∷ entries) = starts_filter entries

pub forgetting-since : (history : History) (serial : ℕ) (now : Sending) → awaited history serial ≡ Some now → is_write_sending now ≡ true → starts_over now.since ≡ false → list_any is_forgetting now.since ≡ was_forgotten history
forgetting-since history serial now e writes over =
    let one = original_of serial (sending_of history serial) now e in
    let begun : starts_over one.0.since ≡ false = sym (starts_filter one.0.since) ∙ sym (ap (λ (s : Sending). starts_over s.since) one.3) ∙ over in
    let write : is_write_sending one.0 ≡ true = sym (ap is_write_sending one.3) ∙ writes in
    ap (λ (s : Sending). list_any is_forgetting s.since) one.3
    ∙ any-filter is_forgetting (λ arrival. refl) one.0.since
    ∙ since history serial one.0 one.1 (one.2, begun, write)
