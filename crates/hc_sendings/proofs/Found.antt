-- The frame with a serial, if serials ascend.
use Rattle.std.proofs.Common.{◌≡◌, ℕ, ◌<◌, ◌≤◌, ◌==◌, Bool, true, false, cond, ◌&&◌, List, [], ◌∷◌, get_or, refl, sym, ap, ◌∙◌, arith, Option, Some, None, ltb-true, ne_eqb}
use Rattle.std.specs.Prelude.{AllPairs, find, nat_lt, option_and_then, option_map, slice_get}
use Rattle.std.specs.List.Sorted.{IsPartitionedBy, IsPartitionPoint}
use Rattle.std.proofs.lemmas.List.Sorted.{IsPartitionedBy-ltb}
use Rattle.std.proofs.lemmas.Bool.Decides.{nat_tests}
use Rattle.std.proofs.lemmas.Bool.{eq-eqb}
use Rattle.hc_records.proofs.lemmas.Choices.{by_bool}
use Rattle.hc_cuts.proofs.lemmas.Found.{find-reached, unchanged}
use Rattle.hc_sendings.specs.Waiting.{AwaitedFrame, is_still_awaited}
use Rattle.hc_sendings.specs.Stored.{StoredFrame}
use Rattle.hc_sendings.proofs.AwaitedStill.{Table, awaited_at, stays_at, answered_at}
use Rattle.hc_sendings.proofs.Pieces.{weaker}

-- a frame with the serial that is awaited
abbrev pub is_sought : Table → ℕ → StoredFrame → Bool
is_sought at serial frame = (frame.serial == serial) && stays_at at frame

apart : (a b c : ℕ) → nat_lt a b ≡ true → (a == b) ≡ false
apart a b c below = grind (arith, nat_tests)

not-sought : (at : Table) (serial : ℕ) (frame : StoredFrame) → nat_lt frame.serial serial ≡ true → is_sought at serial frame ≡ false
not-sought at serial frame below = let other = apart frame.serial serial 0 below in rw other refl

pub above : (a b serial : ℕ) → a < b → nat_lt a serial ≡ false → (b == serial) ≡ false
above a b serial below reached = grind (arith, nat_tests)

after_it : (at : Table) (serial : ℕ) (a b : StoredFrame) → a.serial < b.serial → nat_lt a.serial serial ≡ false → is_sought at serial a ≡ false → is_sought at serial b ≡ false
after_it at serial a b below reached none = let other = above a.serial b.serial serial below reached in rw other refl

is-same : (i j : ℕ) → i ≤ j → nat_lt i j ≡ false → i ≡ j
is-same i j low t = grind (arith, nat_tests)

at-most : (m n : ℕ) → m ≡ n → m ≤ n
at-most m n e = omega (arith, e)

pub serials-parted : (frames : List StoredFrame) (serial : ℕ) → AllPairs (λ a b. a.serial < b.serial) frames → IsPartitionedBy (λ (frame : StoredFrame). nat_lt frame.serial serial) frames
serials-parted frames serial ascend =
    IsPartitionedBy-ltb (λ (frame : StoredFrame). frame.serial) frames serial
    (λ i j d low within. by_bool (nat_lt i j)
    (λ t. weaker (get_or frames i d).serial (get_or frames j d).serial (ascend i j d (ltb-true i j t) within))
    (λ t. at-most (get_or frames i d).serial (get_or frames j d).serial (ap (λ n. (get_or frames n d).serial) (is-same i j low t))))

found-either : (at : Table) (serial : ℕ) (frame : StoredFrame) (frames : List AwaitedFrame) (rest : Option StoredFrame) (awaited_still same : Bool)
    → is_still_awaited (answered_at at frame) ≡ awaited_still → (frame.serial == serial) ≡ same
    → option_map (answered_at at) rest ≡ find (λ (one : AwaitedFrame). one.serial == serial) frames
    → option_map (answered_at at) (cond (same && awaited_still) (Some frame) rest) ≡ find (λ (one : AwaitedFrame). one.serial == serial) (cond awaited_still (answered_at at frame ∷ frames) frames)
found-either at serial frame frames rest true true lives is e = rw is refl
found-either at serial frame frames rest true false lives is e = rw is e
found-either at serial frame frames rest false true lives is e = e
found-either at serial frame frames rest false false lives is e = e

sought-found : (at : Table) (serial : ℕ) (frames : List StoredFrame) → option_map (answered_at at) (find (is_sought at serial) frames) ≡ find (λ (one : AwaitedFrame). one.serial == serial) (awaited_at at frames)
sought-found at serial [] = refl
sought-found at serial (frame ∷ frames) =
    found-either at serial frame (awaited_at at frames) (find (is_sought at serial) frames) (is_still_awaited (answered_at at frame)) (frame.serial == serial) refl refl (sought-found at serial frames)

-- the frame with a serial is the one at the place at which the serials reach it, or there is none
pub found-at : (at : Table) (serial : ℕ) (frames : List StoredFrame) (place : ℕ) (reached : Option StoredFrame) → AllPairs (λ a b. a.serial < b.serial) frames
    → IsPartitionPoint (λ (frame : StoredFrame). nat_lt frame.serial serial ≡ true) (λ (frame : StoredFrame). nat_lt frame.serial serial ≡ false) frames place
    → slice_get frames place ≡ reached
    → option_map (answered_at at) (option_and_then (unchanged (is_sought at serial)) reached) ≡ find (λ (one : AwaitedFrame). one.serial == serial) (awaited_at at frames)
found-at at serial frames place reached ascend parts is =
    ap (λ (found : Option StoredFrame). option_map (answered_at at) (option_and_then (unchanged (is_sought at serial)) found)) (sym is)
    ∙ ap (option_map (answered_at at)) (sym (find-reached (λ (frame : StoredFrame). nat_lt frame.serial serial) (is_sought at serial) (λ (a b : StoredFrame). a.serial < b.serial) (not-sought at serial) (after_it at serial) frames place ascend parts))
    ∙ sought-found at serial frames

-- whether it is the one that is sought

pub sought-is : (at : Table) (serial : ℕ) (frame : StoredFrame) → frame.serial ≡ serial → is_still_awaited (answered_at at frame) ≡ true
    → option_map (answered_at at) (option_and_then (unchanged (is_sought at serial)) (Some frame)) ≡ Some (answered_at at frame)
sought-is at serial frame is awaited_still = let same = eq-eqb frame.serial serial is in rw (same, awaited_still) refl

pub sought-not : (at : Table) (serial : ℕ) (frame : StoredFrame) → is_still_awaited (answered_at at frame) ≡ false
    → option_map (answered_at at) (option_and_then (unchanged (is_sought at serial)) (Some frame)) ≡ None
sought-not at serial frame dead = by_bool (frame.serial == serial) (λ t. rw (t, dead) refl) (λ t. rw t refl)

pub not-serial : (at : Table) (serial : ℕ) (frame : StoredFrame) → (frame.serial ≡ serial → ⊥)
    → option_map (answered_at at) (option_and_then (unchanged (is_sought at serial)) (Some frame)) ≡ None
not-serial at serial frame other = let apart' = ne_eqb frame.serial serial other in rw apart' refl
