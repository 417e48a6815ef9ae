-- No task from a number on has a seat: what is shown and taken there, and what a new seat changes of it.
use Rattle.std.proofs.Common.{◌≡◌, ℕ, zero, suc, ◌+◌, ◌<◌, ◌≤◌, true, false, List, [], ◌∷◌, Option, None, Some, set, refl, arith}
use Rattle.hc_events.specs.Entries.{History}
use Rattle.hc_core.specs.State.{CoreState}
use Rattle.hc_mail.specs.declared.image.LineState.{LineState}
use Rattle.hc_c.specs.SeatEnds.{has_seat_from}
use Rattle.hc_c.specs.SeatImages.{ShowsAll}
use Rattle.hc_c.specs.TakenPosts.{TakesAll}
use Rattle.hc_c.specs.declared.seat.ends.OwnerEnd.{OwnerEnd}

none_is : true ≡ false → ⊥
none_is e = cc

-- there nothing is shown
pub shows-none : (history : History) (firsts : List ℕ) (line : LineState) (task : ℕ) (ends : List (Option OwnerEnd)) → has_seat_from 0 ends ≡ false → ShowsAll history firsts line task ends ends
shows-none history firsts line task [] none = tt
shows-none history firsts line task (None ∷ ends) none = (tt, shows-none history firsts line (task + 1) ends none)
shows-none history firsts line task (Some end ∷ ends) none = absurd (none_is none)

-- and nothing taken
pub takes-none : (task : ℕ) (core : CoreState) (ends : List (Option OwnerEnd)) → has_seat_from 0 ends ≡ false → TakesAll task core core ends ends 0 0
takes-none task core [] none = (refl, refl, refl)
takes-none task core (None ∷ ends) none = (core, (false, false), (0, 0), (refl, refl), takes-none (task + 1) core ends none, refl, refl)
takes-none task core (Some end ∷ ends) none = absurd (none_is none)

-- none from a later number on
pub none-later : (n later : ℕ) (ends : List (Option OwnerEnd)) → n ≤ later → has_seat_from n ends ≡ false → has_seat_from later ends ≡ false
none-later zero zero ends before none = none
none-later zero (suc later) [] before none = none
none-later zero (suc later) (None ∷ ends) before none = none-later zero later ends (omega arith) none
none-later zero (suc later) (Some end ∷ ends) before none = absurd (none_is none)
none-later (suc n) zero ends before none = absurd (omega (arith, before))
none-later (suc n) (suc later) [] before none = none
none-later (suc n) (suc later) (end ∷ ends) before none = none-later n later ends (omega (arith, before)) none

-- a seat of a task before that number
pub placed-none : (n task : ℕ) (ends : List (Option OwnerEnd)) (owner : OwnerEnd) → task < n → has_seat_from n ends ≡ false → has_seat_from n (set ends task (Some owner)) ≡ false
placed-none zero task ends owner before none = absurd (omega (arith, before))
placed-none (suc n) task [] owner before none = none
placed-none (suc n) zero (end ∷ ends) owner before none = none
placed-none (suc n) (suc task) (end ∷ ends) owner before none = placed-none n task ends owner (omega (arith, before)) none
