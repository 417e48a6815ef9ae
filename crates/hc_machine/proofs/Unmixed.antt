-- Where no logical bit is both read and written, what is read doesn't change what is written.
use Rattle.std.proofs.Common.{◌≡◌, ℕ, ◌+◌, ◌-◌, ◌*◌, ◌<◌, Bool, true, false, List, [], ◌∷◌, refl, sym, ap, ◌∙◌, arith, add-zero, lit<}
use Rattle.std.specs.Prelude.{◌&&◌, ◌||◌, if◌then◌else◌}
use Rattle.std.specs.List.{list_any}
use Rattle.std.proofs.lemmas.Bool.Decides.{nat_tests}
use Rattle.std.proofs.lemmas.List.{ext_get_or}
use Rattle.std.proofs.lemmas.List.FromFn.{length-map-range_with_len, get_or-map-range_with_len}
use Rattle.std.proofs.lemmas.Bool.{or_parts}
use Rattle.hc_machine.specs.declared.fmmu.Fmmu.{Fmmu}
use Rattle.hc_machine.specs.Fmmus.{is_in_run}
use Rattle.hc_machine.specs.Logical.{bit_read, bit_written, logical_bit, fmmu_meets, memory_bit, reads_any}
use Rattle.hc_machine.specs.Memory.{byte_with, bytes_with}

-- bytes of the same bits
byte-same : (f g : ℕ → ℕ) (at : ℕ) → ((j : ℕ) → j < 8 → f (at + j) ≡ g (at + j)) → byte_with f at ≡ byte_with g at
byte-same f g at same =
    summed (f at) (f (at + 1)) (f (at + 2)) (f (at + 3)) (f (at + 4)) (f (at + 5)) (f (at + 6)) (f (at + 7))
    (ap f (sym (add-zero at)) ∙ same 0 (lit< tt) ∙ ap g (add-zero at)) (same 1 (lit< tt)) (same 2 (lit< tt)) (same 3 (lit< tt)) (same 4 (lit< tt)) (same 5 (lit< tt)) (same 6 (lit< tt)) (same 7 (lit< tt))
  where
    summed : (b0 b1 b2 b3 b4 b5 b6 b7 : ℕ) → b0 ≡ g at → b1 ≡ g (at + 1) → b2 ≡ g (at + 2) → b3 ≡ g (at + 3) → b4 ≡ g (at + 4) → b5 ≡ g (at + 5) → b6 ≡ g (at + 6) → b7 ≡ g (at + 7)
        → b0 + 2 * b1 + 4 * b2 + 8 * b3 + 16 * b4 + 32 * b5 + 64 * b6 + 128 * b7 ≡ byte_with g at
    summed b0 b1 b2 b3 b4 b5 b6 b7 e0 e1 e2 e3 e4 e5 e6 e7 = rw (e0, e1, e2, e3, e4, e5, e6, e7) refl

pub bytes-same : (n : ℕ) (f g : ℕ → ℕ) → ((k : ℕ) → k < 8 * n → f k ≡ g k) → bytes_with n f ≡ bytes_with n g
unfolding bytes_with
bytes-same n f g same =
    let one : ℕ → ℕ = λ i. byte_with f (8 * i) in
    let other : ℕ → ℕ = λ i. byte_with g (8 * i) in
    ext_get_or 0 _ _ (length-map-range_with_len one 0 n ∙ sym (length-map-range_with_len other 0 n)) (λ i h.
    let low : i < n = omega (arith, length-map-range_with_len one 0 n) in
    get_or-map-range_with_len one 0 n i i 0 low (omega arith) ∙ byte-same f g (8 * i) (λ j small. same (8 * i + j) (omega arith)) ∙ sym (get_or-map-range_with_len other 0 n i i 0 low (omega arith)))

apart : (a b c : Bool) → (a && b) ≡ false → (b ≡ false → c ≡ false) → (a && c) ≡ false
apart false b c e f = refl
apart true b c e f = f e

-- a logical bit of a run that no FMMU reads stays
unread-stays : (fs : List Fmmu) (first width x : ℕ) (memory : ℕ → ℕ) (was : ℕ) → reads_any first width fs ≡ false → is_in_run first width x ≡ true → bit_read fs memory x was ≡ was
unfolding bit_read
unread-stays [] first width x memory was none inside = refl
unread-stays (f ∷ fs) first width x memory was none inside =
    let two = or_parts (f.reads && fmmu_meets first width f) (reads_any first width fs) none in
    let off : (f.reads && is_in_run f.logical f.width x) ≡ false = apart f.reads (fmmu_meets first width f) (is_in_run f.logical f.width x) two.0 (λ e. grind (arith, nat_tests)) in
    ap (λ (b : Bool). if b then memory (memory_bit f x) else bit_read fs memory x was) off ∙ unread-stays fs first width x memory was two.1 inside

-- what is written is what came in, also once the data were read
pub written-unmixed : (all fs : List Fmmu) (memory came now : ℕ → ℕ) (from n m was : ℕ) → list_any (λ f. f.writes && reads_any f.logical f.width all) fs ≡ false
    → ((k : ℕ) → k < n → now k ≡ bit_read all memory (from + k) (came k)) → bit_written fs now from n m was ≡ bit_written fs came from n m was
unfolding bit_written
written-unmixed all [] memory came now from n m was none is = refl
written-unmixed all (f ∷ fs) memory came now from n m was none is =
    let two = or_parts (f.writes && reads_any f.logical f.width all) (list_any (λ g. g.writes && reads_any g.logical g.width all) fs) none in
    by f.writes refl two.0 (is_in_run f.memory f.width m) refl (is_in_run from n (logical_bit f m)) refl (written-unmixed all fs memory came now from n m was two.1 is)
  where
    by : (w : Bool) → f.writes ≡ w → (w && reads_any f.logical f.width all) ≡ false → (a : Bool) → is_in_run f.memory f.width m ≡ a → (b : Bool) → is_in_run from n (logical_bit f m) ≡ b
        → bit_written fs now from n m was ≡ bit_written fs came from n m was
        → (if w && a && b then now (logical_bit f m - from) else bit_written fs now from n m was) ≡ (if w && a && b then came (logical_bit f m - from) else bit_written fs came from n m was)
    by true e off true ea true eb others =
        let k : ℕ = logical_bit f m - from in
        let low : k < n = grind (arith, nat_tests) in
        let inside : is_in_run f.logical f.width (from + k) ≡ true = grind (arith, nat_tests) in
        is k low ∙ unread-stays all f.logical f.width (from + k) memory (came k) off inside
    by true e off true ea false eb others = others
    by true e off false ea b eb others = others
    by false e off a ea b eb others = others
