-- What a copy shows once a change was taken in.
use Rattle.std.proofs.Common.{◌≡◌, ◌⊎◌, ℕ, ◌+◌, ◌-◌, ◌^◌, ◌≤◌, min, false, List, [], ◌∷◌, refl, sym, ap, ◌∙◌, arith, Option, None}
use Rattle.std.specs.Prelude.{All}
use Rattle.std.proofs.lemmas.Bool.Decides.{nat_tests}
use Rattle.std.proofs.lemmas.List.Elements.{All-append, All-cons, All-head, All-nil, All-tail}
use Rattle.hc_records.specs.declared.limits.TheConstants.{LAST_EPOCH, MOST_DATAGRAMS, TASKS}
use Rattle.hc_records.specs.Line.{line, opened}
use Rattle.hc_places.specs.Swap.{Swap, swapped}
use Rattle.hc_places.specs.Table.{Table, table_of}
use Rattle.hc_images.specs.Image.{HasNone, DatagramImage, Renews}
use Rattle.hc_events.specs.declared.change.Change.{Change}
use Rattle.hc_events.specs.declared.change.Change.TheVariants as change
use Rattle.hc_events.specs.Changes.{slot_after}
use Rattle.hc_events.specs.Images.{FitsImage, NewAnswer, is_for, renewed}
use Rattle.hc_events.proofs.lemmas.Views.{changes-lead_on}
use Rattle.hc_publish.specs.Shown.{FitsCopy, Shows}
use Rattle.hc_publish.specs.ChangesSince.{ChangesSince, with_change}

all_with : (changes_since : ChangesSince) (one : Change) → All FitsCopy changes_since.changes → FitsCopy one → All FitsCopy (with_change changes_since one).changes
all_with changes_since one all fits = All-append FitsCopy changes_since.changes (one ∷ []) all (All-cons FitsCopy one [] fits (All-nil FitsCopy))

next_epoch : (epoch shown : ℕ) → epoch ≡ min shown LAST_EPOCH → min (epoch + 1) (2 ^ 32 - 1) ≡ min (shown + 1) LAST_EPOCH
next_epoch epoch shown is = omega arith

pub shows-swapped : (changes_since : ChangesSince) (table : Table) (epoch : ℕ) (before after : DatagramImage) (swap : Swap) → Shows changes_since table epoch before → HasNone after
    → Shows (with_change changes_since (change.Swapped swap)) (swapped swap.change table) (min (epoch + 1) (2 ^ 32 - 1)) after
shows-swapped changes_since table epoch before after swap shows none =
    let leads = changes-lead_on changes_since.changes (change.Swapped swap ∷ []) in
    record {
      project = shows.project;
      fits = all_with changes_since (change.Swapped swap) shows.fits tt;
      table_is = ap (swapped swap.change) shows.table_is ∙ sym (leads.table (table_of (line (opened changes_since.groups))));
      epoch_is = next_epoch epoch _ shows.epoch_is ∙ ap (λ (n : ℕ). min n LAST_EPOCH) (sym (leads.epoch 0));
      data_is = λ task d low. none task d ∙ sym (leads.slots task d None);
    }

pub shows-good : (changes_since : ChangesSince) (table : Table) (epoch : ℕ) (before after : DatagramImage) (good : NewAnswer) → Shows changes_since table epoch before → FitsImage good → Renews before after good.task good.datagram good.bytes
    → Shows (with_change changes_since (change.Good good)) table epoch after
shows-good changes_since table epoch before after good shows fits renews =
    let leads = changes-lead_on changes_since.changes (change.Good good ∷ []) in
    record {
      project = shows.project;
      fits = all_with changes_since (change.Good good) shows.fits fits;
      table_is = shows.table_is ∙ sym (leads.table (table_of (line (opened changes_since.groups))));
      epoch_is = shows.epoch_is ∙ ap (λ (n : ℕ). min n LAST_EPOCH) (sym (leads.epoch 0));
      data_is = λ task d low.
          renews task d low ∙ ap (λ (slot : Option (List ℕ)). renewed task d slot good) (shows.data_is task d low) ∙ sym (leads.slots task d None);
    }

-- of a task or a datagram that no line has there are no data

not_for : (task d : ℕ) (good : NewAnswer) → FitsImage good → (TASKS ≤ task) ⊎ (MOST_DATAGRAMS ≤ d) → is_for task d good ≡ false
not_for task d good fits outside = let a = fits.task in let b = fits.datagram in grind (arith, nat_tests)

pub no-data : (task d : ℕ) (changes : List Change) → All FitsCopy changes → (TASKS ≤ task) ⊎ (MOST_DATAGRAMS ≤ d) → slot_after task d None changes ≡ None
no-data task d [] all outside = refl
no-data task d (change.Swapped swap ∷ changes) all outside = no-data task d changes (All-tail FitsCopy (change.Swapped swap) changes all) outside
no-data task d (change.Good good ∷ changes) all outside =
    rw (not_for task d good (All-head FitsCopy (change.Good good) changes all) outside) (no-data task d changes (All-tail FitsCopy (change.Good good) changes all) outside)
