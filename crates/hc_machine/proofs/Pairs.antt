-- One FMMU's part in what a datagram reads and writes, and a list of FMMUs by its first one.
use Rattle.std.proofs.Common.{◌≡◌, ℕ, ◌+◌, ◌-◌, ◌<◌, ◌≤◌, Bool, true, false, List, [], ◌∷◌, min, max, length, get_or, drop, length-drop, refl, sym, ◌∙◌, ap, arith, inl, inr}
use Rattle.std.specs.Prelude.{◌&&◌, if◌then◌else◌}
use Rattle.std.proofs.lemmas.Bool.{cases_lt}
use Rattle.std.proofs.lemmas.List.{drop_more}
use Rattle.std.proofs.lemmas.Bool.Decides.{nat_tests}
use Rattle.std.proofs.lemmas.Grind.{common_steps}
use Rattle.hc_bits.specs.Bits.{bit_of, ReplacesRun}
use Rattle.hc_machine.specs.declared.fmmu.Fmmu.{Fmmu}
use Rattle.hc_machine.specs.Fmmus.{idle, is_in_run}
use Rattle.hc_machine.specs.Logical.{memory_bit, logical_bit, bit_read, bit_written}

pub within_yes : (from n x : ℕ) → from ≤ x → x < from + n → is_in_run from n x ≡ true
within_yes from n x p q = grind (arith, nat_tests)

within_below : (from n x : ℕ) → x < from → is_in_run from n x ≡ false
within_below from n x p = grind (arith, nat_tests)

within_above : (from n x : ℕ) → from + n ≤ x → is_in_run from n x ≡ false
within_above from n x p = grind (arith, nat_tests)

-- the first FMMU is laid over what the others give
bit_read-over : (f : Fmmu) (fs : List Fmmu) (memory : ℕ → ℕ) (x was : ℕ) → bit_read (f ∷ fs) memory x was ≡ bit_read (f ∷ []) memory x (bit_read fs memory x was)
unfolding bit_read
bit_read-over f fs memory x was = refl

bit_written-over : (f : Fmmu) (fs : List Fmmu) (sent : ℕ → ℕ) (from n m was : ℕ) → bit_written (f ∷ fs) sent from n m was ≡ bit_written (f ∷ []) sent from n m (bit_written fs sent from n m was)
unfolding bit_written
bit_written-over f fs sent from n m was = refl

-- what one FMMU reads
read_yes : (f : Fmmu) (memory : ℕ → ℕ) (x was : ℕ) → f.reads ≡ true → f.logical ≤ x → x < f.logical + f.width → bit_read (f ∷ []) memory x was ≡ memory (memory_bit f x)
unfolding bit_read
read_yes f memory x was r p q = rw (r, within_yes f.logical f.width x p q) refl

pub read_off : (f : Fmmu) (memory : ℕ → ℕ) (x was : ℕ) → f.reads ≡ false → bit_read (f ∷ []) memory x was ≡ was
unfolding bit_read
read_off f memory x was r = rw r refl

read_out : (f : Fmmu) (memory : ℕ → ℕ) (x was : ℕ) → is_in_run f.logical f.width x ≡ false → bit_read (f ∷ []) memory x was ≡ was
unfolding bit_read
read_out f memory x was e = rw e (and_false f.reads)
  where
    and_false : (b : Bool) → (if b && false then memory (memory_bit f x) else was) ≡ was
    and_false true = refl
    and_false false = refl

-- an FMMU's part of a datagram, copied
pub clip_read : (f : Fmmu) (memory : ℕ → ℕ) (old new : List ℕ) (first n start stop : ℕ) → start ≡ max f.logical first → stop ≡ min (f.logical + f.width) (first + n)
    → start < stop → f.reads ≡ true → ReplacesRun old new (start - first) (stop - start) (λ k. memory (f.memory + (start - f.logical) + k))
    → (k : ℕ) → k < n → bit_of new k ≡ bit_read (f ∷ []) memory (first + k) (bit_of old k)
clip_read f memory old new first n start stop e g some r copied k h =
    elim (cases_lt k (start - first)) [
      | inl before ↦ copied.before k before ∙ sym (read_out f memory (first + k) (bit_of old k) (within_below f.logical f.width (first + k) (omega arith)))
      | inr from ↦ elim (cases_lt k (stop - first)) [
        | inl inside ↦
            let j = k - (start - first) in
            let there : start - first + j ≡ k = omega arith in
            let same : f.memory + (start - f.logical) + j ≡ f.memory + (first + k - f.logical) = omega arith in
            ap (bit_of new) (sym there) ∙ copied.inside j (omega arith) ∙ ap memory same
            ∙ sym (read_yes f memory (first + k) (bit_of old k) r (omega arith) (omega arith))
        | inr after ↦ copied.after k (omega arith) ∙ sym (read_out f memory (first + k) (bit_of old k) (within_above f.logical f.width (first + k) (omega arith)))
      ]
    ]

pub clip_none : (f : Fmmu) (memory : ℕ → ℕ) (first n start stop k was : ℕ) → start ≡ max f.logical first → stop ≡ min (f.logical + f.width) (first + n)
    → stop ≤ start → k < n → bit_read (f ∷ []) memory (first + k) was ≡ was
clip_none f memory first n start stop k was e g none h =
    elim (cases_lt (first + k) f.logical) [
      | inl low ↦ read_out f memory (first + k) was (within_below f.logical f.width (first + k) low)
      | inr high ↦ read_out f memory (first + k) was (within_above f.logical f.width (first + k) (omega arith))
    ]

-- what one FMMU writes
write_yes : (f : Fmmu) (sent : ℕ → ℕ) (from n m was : ℕ) → f.writes ≡ true → f.memory ≤ m → m < f.memory + f.width → from ≤ logical_bit f m → logical_bit f m < from + n
    → bit_written (f ∷ []) sent from n m was ≡ sent (logical_bit f m - from)
unfolding bit_written
write_yes f sent from n m was w p q a b = rw (w, within_yes f.memory f.width m p q, within_yes from n (logical_bit f m) a b) refl

pub write_off : (f : Fmmu) (sent : ℕ → ℕ) (from n m was : ℕ) → f.writes ≡ false → bit_written (f ∷ []) sent from n m was ≡ was
unfolding bit_written
write_off f sent from n m was w = rw w refl

and_first : (a b : Bool) (x y : ℕ) → (if a && false && b then x else y) ≡ y
and_first true b x y = refl
and_first false b x y = refl

and_last : (a b : Bool) (x y : ℕ) → (if a && b && false then x else y) ≡ y
and_last a b x y = grind (arith, common_steps)

write_out : (f : Fmmu) (sent : ℕ → ℕ) (from n m was : ℕ) → is_in_run f.memory f.width m ≡ false → bit_written (f ∷ []) sent from n m was ≡ was
unfolding bit_written
write_out f sent from n m was e = rw e (and_first f.writes (is_in_run from n (logical_bit f m)) _ _)

write_past : (f : Fmmu) (sent : ℕ → ℕ) (from n m was : ℕ) → is_in_run from n (logical_bit f m) ≡ false → bit_written (f ∷ []) sent from n m was ≡ was
unfolding bit_written
write_past f sent from n m was e = rw e (and_last f.writes (is_in_run f.memory f.width m) _ _)

pub clip_write : (f : Fmmu) (sent : ℕ → ℕ) (old new : List ℕ) (first n start stop : ℕ) → start ≡ max f.logical first → stop ≡ min (f.logical + f.width) (first + n)
    → start < stop → f.writes ≡ true → ReplacesRun old new (f.memory + (start - f.logical)) (stop - start) (λ k. sent (start - first + k))
    → (m : ℕ) → bit_of new m ≡ bit_written (f ∷ []) sent first n m (bit_of old m)
clip_write f sent old new first n start stop e g some w copied m =
    let to = f.memory + (start - f.logical) in
    elim (cases_lt m f.memory) [
      | inl low ↦ copied.before m (omega arith) ∙ sym (write_out f sent first n m (bit_of old m) (within_below f.memory f.width m low))
      | inr high ↦ elim (cases_lt m to) [
        | inl before ↦ copied.before m before ∙ sym (write_past f sent first n m (bit_of old m) (within_below first n (logical_bit f m) (omega arith)))
        | inr from ↦ elim (cases_lt m (to + (stop - start))) [
          | inl inside ↦
              let j = m - to in
              let there : to + j ≡ m = omega arith in
              let same : start - first + j ≡ logical_bit f m - first = omega arith in
              ap (bit_of new) (sym there) ∙ copied.inside j (omega arith) ∙ ap sent same
              ∙ sym (write_yes f sent first n m (bit_of old m) w high (omega arith) (omega arith) (omega arith))
          | inr after ↦ copied.after m after ∙ elim (cases_lt m (f.memory + f.width)) [
            | inl within ↦ sym (write_past f sent first n m (bit_of old m) (within_above first n (logical_bit f m) (omega arith)))
            | inr history ↦ sym (write_out f sent first n m (bit_of old m) (within_above f.memory f.width m history))
          ]
        ]
      ]
    ]

pub clip_no_write : (f : Fmmu) (sent : ℕ → ℕ) (first n start stop m was : ℕ) → start ≡ max f.logical first → stop ≡ min (f.logical + f.width) (first + n)
    → stop ≤ start → bit_written (f ∷ []) sent first n m was ≡ was
clip_no_write f sent first n start stop m was e g none =
    elim (cases_lt m f.memory) [
      | inl low ↦ write_out f sent first n m was (within_below f.memory f.width m low)
      | inr high ↦ elim (cases_lt m (f.memory + f.width)) [
        | inr history ↦ write_out f sent first n m was (within_above f.memory f.width m history)
        | inl within ↦ elim (cases_lt (logical_bit f m) first) [
          | inl before ↦ write_past f sent first n m was (within_below first n (logical_bit f m) before)
          | inr after ↦ write_past f sent first n m was (within_above first n (logical_bit f m) (omega arith))
        ]
      ]
    ]

-- a list of FMMUs by its first and the rest
read_none : (fs : List Fmmu) (memory : ℕ → ℕ) (x was : ℕ) → length fs < 1 → was ≡ bit_read fs memory x was
unfolding bit_read
read_none [] memory x was h = refl
read_none (f ∷ fs) memory x was h = absurd (omega arith)

written_none : (fs : List Fmmu) (sent : ℕ → ℕ) (from n m was : ℕ) → length fs < 1 → was ≡ bit_written fs sent from n m was
unfolding bit_written
written_none [] sent from n m was h = refl
written_none (f ∷ fs) sent from n m was h = absurd (omega arith)

pub read_first : (fs rest : List Fmmu) (f : Fmmu) (memory : ℕ → ℕ) (x was : ℕ) → fs ≡ f ∷ rest → bit_read (f ∷ []) memory x (bit_read rest memory x was) ≡ bit_read fs memory x was
read_first fs rest f memory x was e = sym (bit_read-over f rest memory x was) ∙ ap (λ l. bit_read l memory x was) (sym e)

pub written_first : (fs rest : List Fmmu) (f : Fmmu) (sent : ℕ → ℕ) (from n m was : ℕ) → fs ≡ f ∷ rest → bit_written (f ∷ []) sent from n m (bit_written rest sent from n m was) ≡ bit_written fs sent from n m was
written_first fs rest f sent from n m was e = sym (bit_written-over f rest sent from n m was) ∙ ap (λ l. bit_written l sent from n m was) (sym e)

-- the FMMUs from one on are it and those after it
pub laid-next : (fs : List Fmmu) (k : ℕ) → k < length fs → drop (length fs - (k + 1)) fs ≡ get_or fs (length fs - 1 - k) idle ∷ drop (length fs - k) fs
laid-next fs k low =
    let here : length fs - (k + 1) ≡ length fs - 1 - k = omega arith in
    let after_it : length fs - 1 - k + 1 ≡ length fs - k = omega arith in
    ap (λ (n : ℕ). drop n fs) here ∙ drop_more fs (length fs - 1 - k) idle (omega arith) ∙ ap (λ (n : ℕ). get_or fs (length fs - 1 - k) idle ∷ drop n fs) after_it

none-laid : (fs : List Fmmu) → length (drop (length fs - 0) fs) < 1
none-laid fs = omega (arith, length-drop (length fs - 0) fs)

pub read_start : (fs : List Fmmu) (memory : ℕ → ℕ) (x was : ℕ) → was ≡ bit_read (drop (length fs - 0) fs) memory x was
read_start fs memory x was = read_none (drop (length fs - 0) fs) memory x was (none-laid fs)

pub written_start : (fs : List Fmmu) (sent : ℕ → ℕ) (from n m was : ℕ) → was ≡ bit_written (drop (length fs - 0) fs) sent from n m was
written_start fs sent from n m was = written_none (drop (length fs - 0) fs) sent from n m was (none-laid fs)
