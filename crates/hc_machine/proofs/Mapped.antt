-- The FMMUs that a datagram doesn't meet change nothing.
use Rattle.std.proofs.Common.{◌≡◌, ℕ, ◌+◌, ◌-◌, ◌*◌, ◌<◌, ◌≤◌, Bool, true, false, cond, List, [], ◌∷◌, drop, refl, sym, ap, ◌∙◌, arith}
use Rattle.std.specs.Prelude.{◌&&◌, ◌||◌, filter, if◌then◌else◌, slice_index}
use Rattle.std.specs.List.{list_any}
use Rattle.std.proofs.lemmas.Bool.Decides.{nat_tests}
use Rattle.std.proofs.lemmas.List.{get_or-take, get_or-drop}
use Rattle.hc_machine.specs.declared.fmmu.Fmmu.{Fmmu}
use Rattle.hc_machine.specs.Fmmus.{fmmu_block_at, fmmu_of, idle, is_active, is_in_run}
use Rattle.hc_machine.specs.Logical.{bit_read, bit_written, logical_bit, fmmu_meets, memory_bit, reads_any, writes_any}
use Rattle.hc_machine.proofs.Paired.{fmmu-idle}

-- the activation byte of a block
pub activation-at : (memory : List ℕ) (i : ℕ) → slice_index (fmmu_block_at memory i) 12 ≡ slice_index memory (1536 + 16 * i + 12)
activation-at memory i =
    let at : ℕ = 1536 + 16 * i in
    get_or-take (at + 16 - at) (drop at memory) 12 0 (omega arith) ∙ get_or-drop at memory 12 0

unmet-read : (f : Fmmu) (from size x : ℕ) → fmmu_meets from size f ≡ false → from ≤ x → x < from + size → (f.reads && is_in_run f.logical f.width x) ≡ false
unmet-read f from size x off low high = outside f.reads (is_in_run f.logical f.width x) (grind (arith, nat_tests))
  where
    outside : (a b : Bool) → b ≡ false → (a && b) ≡ false
    outside true b e = e
    outside false b e = refl

unmet-written : (f : Fmmu) (from size m : ℕ) → fmmu_meets from size f ≡ false → (f.writes && is_in_run f.memory f.width m && is_in_run from size (logical_bit f m)) ≡ false
unmet-written f from size m off = outside f.writes (is_in_run f.memory f.width m) (is_in_run from size (logical_bit f m)) (apart (is_in_run f.memory f.width m) refl)
  where
    outside : (a b c : Bool) → (b && c) ≡ false → (a && b && c) ≡ false
    outside true b c e = e
    outside false b c e = refl

    apart : (b : Bool) → is_in_run f.memory f.width m ≡ b → (b && is_in_run from size (logical_bit f m)) ≡ false
    apart false e = refl
    apart true e = grind (arith, nat_tests)

pub read-mapped : (fs : List Fmmu) (memory : ℕ → ℕ) (from size x was : ℕ) → from ≤ x → x < from + size → bit_read (filter (fmmu_meets from size) fs) memory x was ≡ bit_read fs memory x was
unfolding bit_read
read-mapped [] memory from size x was low high = refl
read-mapped (f ∷ fs) memory from size x was low high = by (fmmu_meets from size f) refl (read-mapped fs memory from size x was low high)
  where
    by : (b : Bool) → fmmu_meets from size f ≡ b → bit_read (filter (fmmu_meets from size) fs) memory x was ≡ bit_read fs memory x was
        → bit_read (cond b (f ∷ filter (fmmu_meets from size) fs) (filter (fmmu_meets from size) fs)) memory x was ≡ bit_read (f ∷ fs) memory x was
    by true e others = ap (λ (n : ℕ). if f.reads && is_in_run f.logical f.width x then memory (memory_bit f x) else n) others
    by false e others =
        others
        ∙ sym (ap (λ (b : Bool). if b then memory (memory_bit f x) else bit_read fs memory x was) (unmet-read f from size x e low high))

pub written-mapped : (fs : List Fmmu) (came : ℕ → ℕ) (from size m was : ℕ) → bit_written (filter (fmmu_meets from size) fs) came from size m was ≡ bit_written fs came from size m was
unfolding bit_written
written-mapped [] came from size m was = refl
written-mapped (f ∷ fs) came from size m was = by (fmmu_meets from size f) refl (written-mapped fs came from size m was)
  where
    by : (b : Bool) → fmmu_meets from size f ≡ b → bit_written (filter (fmmu_meets from size) fs) came from size m was ≡ bit_written fs came from size m was
        → bit_written (cond b (f ∷ filter (fmmu_meets from size) fs) (filter (fmmu_meets from size) fs)) came from size m was ≡ bit_written (f ∷ fs) came from size m was
    by true e others = ap (λ (n : ℕ). if f.writes && is_in_run f.memory f.width m && is_in_run from size (logical_bit f m) then came (logical_bit f m - from) else n) others
    by false e others =
        others
        ∙ sym (ap (λ (b : Bool). if b then came (logical_bit f m - from) else bit_written fs came from size m was) (unmet-written f from size m e))

-- a test of the FMMUs that are met
any-mapped : (p : Fmmu → Bool) (fs : List Fmmu) (from size : ℕ) → list_any p (filter (fmmu_meets from size) fs) ≡ list_any (λ f. p f && fmmu_meets from size f) fs
any-mapped p [] from size = refl
any-mapped p (f ∷ fs) from size = by (fmmu_meets from size f) refl (any-mapped p fs from size)
  where
    on : (a : Bool) → (a && true) ≡ a
    on true = refl
    on false = refl

    off : (a : Bool) → (a && false) ≡ false
    off true = refl
    off false = refl

    by : (b : Bool) → fmmu_meets from size f ≡ b → list_any p (filter (fmmu_meets from size) fs) ≡ list_any (λ g. p g && fmmu_meets from size g) fs
        → list_any p (cond b (f ∷ filter (fmmu_meets from size) fs) (filter (fmmu_meets from size) fs)) ≡ list_any (λ g. p g && fmmu_meets from size g) (f ∷ fs)
    by true e others =
        ap (λ (b : Bool). p f || b) others
        ∙ ap (λ (b : Bool). b || list_any (λ g. p g && fmmu_meets from size g) fs) (sym (on (p f)) ∙ ap (λ (b : Bool). p f && b) (sym e))
    by false e others =
        others ∙ ap (λ (b : Bool). b || list_any (λ g. p g && fmmu_meets from size g) fs) (sym (off (p f)) ∙ ap (λ (b : Bool). p f && b) (sym e))

pub reads-mapped : (fs : List Fmmu) (from size : ℕ) → list_any (λ f. f.reads) (filter (fmmu_meets from size) fs) ≡ reads_any from size fs
reads-mapped fs from size = any-mapped (λ f. f.reads) fs from size

pub writes-mapped : (fs : List Fmmu) (from size : ℕ) → list_any (λ f. f.writes) (filter (fmmu_meets from size) fs) ≡ writes_any from size fs
writes-mapped fs from size = any-mapped (λ f. f.writes) fs from size

-- an FMMU that isn't active is met by no datagram
pub idle-unmet : (block : List ℕ) (from size : ℕ) → is_active block ≡ false → fmmu_meets from size (fmmu_of block) ≡ false
idle-unmet block from size off = ap (fmmu_meets from size) (sym (fmmu-idle block off)) ∙ none from size
  where
    none : (from size : ℕ) → fmmu_meets from size idle ≡ false
    none from size = grind (arith, nat_tests)
