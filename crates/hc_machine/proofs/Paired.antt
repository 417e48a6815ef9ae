-- The pairs of a block.
use Rattle.std.proofs.Common.{◌≡◌, ℕ, ◌+◌, ◌-◌, ◌<◌, ◌≤◌, ◌==◌, if◌then◌else◌, Bool, true, false, List, length, min, get_or, refl, sym, ap, ◌∙◌, arith, subst}
use Rattle.std.proofs.lemmas.Bool.Decides.{nat_tests}
use Rattle.std.proofs.lemmas.List.FromFn.{get_or-map-range_with_len, length-map-range_with_len}
use Rattle.hc_registers.specs.Fields.{word_at}
use Rattle.hc_machine.specs.declared.fmmu.Fmmu.{Fmmu}
use Rattle.hc_machine.specs.Fmmus.{fmmu_block_at, end_logical, first_logical, first_memory, fmmu_of, fmmus_of, idle, is_active, is_read, is_in_run, is_write_fmmu}
use Rattle.hc_machine.specs.Laws.{FmmusAreTheirPairs, IsPair, Pairs, Reads, FmmuWrites}
use Rattle.hc_machine.proofs.Pairs.{within_yes}

abbrev active-fmmu : List ℕ → Fmmu
active-fmmu block = record {
  logical = first_logical block;
  memory = first_memory block;
  width = min (end_logical block - first_logical block) (98304 - first_memory block);
  reads = is_read block;
  writes = is_write_fmmu block;
}

fmmu-active : (block : List ℕ) → is_active block ≡ true → active-fmmu block ≡ fmmu_of block
unfolding fmmu_of
fmmu-active block on = rw on refl

pub fmmu-idle : (block : List ℕ) → is_active block ≡ false → idle ≡ fmmu_of block
unfolding fmmu_of
fmmu-idle block off = rw off refl

-- a bit before the end of a block, over plain variables: n is the length, l the stop bit of the last byte
before-end : (b : Bool) (n l x : ℕ) → (n == 0) ≡ b → 1 ≤ n → x ≤ l → x < (if b then 0 else l + 1)
before-end true n l x none some high =
    let empty : n ≡ 0 = grind (arith, nat_tests) in
    absurd (omega arith)
before-end false n l x e some high = omega arith

end-after : (b : Bool) (n l x : ℕ) → (n == 0) ≡ b → x < (if b then 0 else l + 1) → (1 ≤ n) × (x ≤ l)
end-after true n l x none high = absurd (omega arith)
end-after false n l x e high = (grind (arith, nat_tests), omega arith)

-- the numbers of a block: a is the first logical bit, e the end before it is cut, b the first memory bit before it is cut
into : (x m a e b : ℕ) → a ≤ x → x < e → m + a ≡ x + b → m < 98304 → (a ≤ x) × (x < a + min (e - a) (98304 - min b 98304)) × (m ≡ min b 98304 + (x - a))
into x m a e b low high same inside = (low, omega arith, omega arith)

back : (x m a e b : ℕ) → a ≤ x → x < a + min (e - a) (98304 - min b 98304) → m ≡ min b 98304 + (x - a) → (x < e) × (m + a ≡ x + b) × (m < 98304)
back x m a e b low high same = (omega arith, omega arith, omega arith)

pairs-of-block : (block : List ℕ) (x m : ℕ) → IsPair block x m → Pairs (fmmu_of block) x m
pairs-of-block block x m pair =
    subst (λ (f : Fmmu). Pairs f x m) (fmmu-active block pair.active) (into x m _ (end_logical block) _ pair.first (before-end (word_at block 4 == 0) _ _ x refl pair.some pair.last) pair.paired pair.inside)

block-of-pairs : (b : Bool) (block : List ℕ) (x m : ℕ) → is_active block ≡ b → Pairs (fmmu_of block) x m → IsPair block x m
block-of-pairs false block x m off pairs =
    let none : Pairs idle x m = subst (λ (f : Fmmu). Pairs f x m) (sym (fmmu-idle block off)) pairs in
    absurd (omega (arith, none.0, none.1))
block-of-pairs true block x m on pairs =
    let some : Pairs (active-fmmu block) x m = subst (λ (f : Fmmu). Pairs f x m) (sym (fmmu-active block on)) pairs in
    let there = back x m _ (end_logical block) _ some.0 some.1 some.2 in
    let end = end-after (word_at block 4 == 0) (word_at block 4) _ x refl there.0 in
    record { active = on; first = some.0; some = end.0; last = end.1; paired = there.1; inside = there.2 }

pub pairs-are-blocks : FmmusAreTheirPairs
pairs-are-blocks block x m = (pairs-of-block block x m, block-of-pairs (is_active block) block x m refl)

-- an FMMU of the sixteen
pub fmmu-at : (memory : List ℕ) (i : ℕ) → i < 16 → get_or (fmmus_of memory) i idle ≡ fmmu_of (fmmu_block_at memory i)
unfolding fmmus_of
fmmu-at memory i low = get_or-map-range_with_len (λ i. fmmu_of (fmmu_block_at memory i)) 0 16 i i idle low (omega arith)

pub fmmu-count : (memory : List ℕ) → length (fmmus_of memory) ≡ 16
unfolding fmmus_of
fmmu-count memory = length-map-range_with_len (λ i. fmmu_of (fmmu_block_at memory i)) 0 16

reads-of-block : (block : List ℕ) → is_active block ≡ true → is_read block ≡ (fmmu_of block).reads
reads-of-block block on = ap (λ (f : Fmmu). f.reads) (fmmu-active block on)

writes-of-block : (block : List ℕ) → is_active block ≡ true → is_write_fmmu block ≡ (fmmu_of block).writes
writes-of-block block on = ap (λ (f : Fmmu). f.writes) (fmmu-active block on)

pub within-back : (from n x : ℕ) → is_in_run from n x ≡ true → (from ≤ x) × (x < from + n)
within-back from n x e = (grind (arith, nat_tests), grind (arith, nat_tests))

-- what reads and what writes, by the FMMU
pub read-by : (memory : List ℕ) (i x m : ℕ) → i < 16 → Reads memory i x m → ((get_or (fmmus_of memory) i idle).reads ≡ true) × Pairs (get_or (fmmus_of memory) i idle) x m
read-by memory i x m low reads =
    let here = sym (fmmu-at memory i low) in
    (ap (λ (f : Fmmu). f.reads) (sym here) ∙ sym (reads-of-block (fmmu_block_at memory i) reads.1.active) ∙ reads.0, subst (λ (f : Fmmu). Pairs f x m) here (pairs-of-block (fmmu_block_at memory i) x m reads.1))

pub write-by : (memory : List ℕ) (i x m : ℕ) → i < 16 → FmmuWrites memory i x m → ((get_or (fmmus_of memory) i idle).writes ≡ true) × Pairs (get_or (fmmus_of memory) i idle) x m
write-by memory i x m low writes =
    let here = sym (fmmu-at memory i low) in
    (ap (λ (f : Fmmu). f.writes) (sym here) ∙ sym (writes-of-block (fmmu_block_at memory i) writes.1.active) ∙ writes.0, subst (λ (f : Fmmu). Pairs f x m) here (pairs-of-block (fmmu_block_at memory i) x m writes.1))

pub reads-back : (memory : List ℕ) (i x m : ℕ) → i < 16 → (get_or (fmmus_of memory) i idle).reads ≡ true → Pairs (get_or (fmmus_of memory) i idle) x m → Reads memory i x m
reads-back memory i x m low on pairs =
    let here = fmmu-at memory i low in
    let pair : IsPair (fmmu_block_at memory i) x m = (pairs-are-blocks (fmmu_block_at memory i) x m).1 (subst (λ (f : Fmmu). Pairs f x m) here pairs) in
    (reads-of-block (fmmu_block_at memory i) pair.active ∙ ap (λ (f : Fmmu). f.reads) (sym here) ∙ on, pair)

pub writes-back : (memory : List ℕ) (i x m : ℕ) → i < 16 → (get_or (fmmus_of memory) i idle).writes ≡ true → Pairs (get_or (fmmus_of memory) i idle) x m → FmmuWrites memory i x m
writes-back memory i x m low on pairs =
    let here = fmmu-at memory i low in
    let pair : IsPair (fmmu_block_at memory i) x m = (pairs-are-blocks (fmmu_block_at memory i) x m).1 (subst (λ (f : Fmmu). Pairs f x m) here pairs) in
    (writes-of-block (fmmu_block_at memory i) pair.active ∙ ap (λ (f : Fmmu). f.writes) (sym here) ∙ on, pair)
