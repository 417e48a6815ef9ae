-- What a write of a block by FPWR leaves of a memory, byte by byte.
use Rattle.std.proofs.Common.{◌≡◌, ◌≢◌, ℕ, ◌+◌, ◌-◌, ◌*◌, ◌/◌, ◌%◌, ◌<◌, ◌≤◌, ◌⊎◌, ◌∙◌, inl, inr, Bool, true, false, List, ◌++◌, length, get_or, take, drop, set, refl, sym, ap, arith, length-append, length-take, length-drop, length-set, get_or-set_other, get_or-set_same}
use Rattle.std.specs.Prelude.{◌==◌, nat_le, if◌then◌else◌}
use Rattle.std.proofs.lemmas.Bool.{cases_eq, and_from, and_left}
use Rattle.std.proofs.lemmas.Bool.Decides.{nat_tests}
use Rattle.std.proofs.lemmas.List.{get_or_append_left, get_or-append_right, get_or-drop, get_or-take}
use Rattle.hc_frames.specs.Arrived.{word_at}
use Rattle.hc_frames.specs.FrameText.{station_address}
use Rattle.hc_frames.specs.declared.commands.Command.TheVariants.{Fpwr}
use Rattle.hc_machine.specs.Commands.{is_at_station, lies_in_memory, memory_after_command, register_of, register_written}
use Rattle.hc_machine.specs.Memory.{with_alias_of, with_part}
use Rattle.hc_registers.specs.Blocks.{LineBlock}

-- a byte outside of what is written, and one in it
abbrev pub Misses : ℕ → ℕ → ℕ → Type 0
Misses register size r = (r < register) ⊎ (register + size ≤ r)

part-length : (at : ℕ) (part bytes : List ℕ) → at + length part ≤ length bytes → length (with_part at part bytes) ≡ length bytes
part-length at part bytes within =
    length-append (take at bytes) (part ++ drop (at + length part) bytes) ∙ ap (λ (n : ℕ). length (take at bytes) + n) (length-append part (drop (at + length part) bytes))
    ∙ omega (arith, length-take at bytes, length-drop (at + length part) bytes)

part-below : (at : ℕ) (part bytes : List ℕ) (r : ℕ) → at ≤ length bytes → r < at → get_or (with_part at part bytes) r 0 ≡ get_or bytes r 0
part-below at part bytes r within low =
    let long : length (take at bytes) ≡ at = omega (arith, length-take at bytes) in
    get_or_append_left (take at bytes) (part ++ drop (at + length part) bytes) 0 r (omega arith) ∙ get_or-take at bytes r 0 low

part-inside : (at : ℕ) (part bytes : List ℕ) (r : ℕ) → at ≤ length bytes → at ≤ r → r < at + length part → get_or (with_part at part bytes) r 0 ≡ get_or part (r - at) 0
part-inside at part bytes r within low high =
    let long : length (take at bytes) ≡ at = omega (arith, length-take at bytes) in
    get_or-append_right (take at bytes) (part ++ drop (at + length part) bytes) at r 0 long low
    ∙ get_or_append_left part (drop (at + length part) bytes) 0 (r - at) (omega arith)

part-above : (at : ℕ) (part bytes : List ℕ) (r : ℕ) → at ≤ length bytes → at + length part ≤ r → get_or (with_part at part bytes) r 0 ≡ get_or bytes r 0
part-above at part bytes r within high =
    let long : length (take at bytes) ≡ at = omega (arith, length-take at bytes) in
    let after_it : at + length part + (r - at - length part) ≡ r = omega arith in
    get_or-append_right (take at bytes) (part ++ drop (at + length part) bytes) at r 0 long (omega arith)
    ∙ get_or-append_right part (drop (at + length part) bytes) (length part) (r - at) 0 refl (omega arith)
    ∙ get_or-drop (at + length part) bytes (r - at - length part) 0 ∙ ap (λ (n : ℕ). get_or bytes n 0) after_it

part-outside : (at : ℕ) (part bytes : List ℕ) (r : ℕ) → at ≤ length bytes → Misses at (length part) r → get_or (with_part at part bytes) r 0 ≡ get_or bytes r 0
part-outside at part bytes r within (inl low) = part-below at part bytes r within low
part-outside at part bytes r within (inr high) = part-above at part bytes r within high

-- the alias is put back
alias-other : (old new : List ℕ) (r : ℕ) → 20 ≤ r → get_or (with_alias_of old new) r 0 ≡ get_or new r 0
unfolding with_alias_of
alias-other old new r high =
    let first : r ≢ 19 = λ same. omega arith in
    let second : r ≢ 18 = λ same. omega arith in
    get_or-set_other (set new 18 (get_or old 18 0)) 19 r (get_or old 19 0) 0 first ∙ get_or-set_other new 18 r (get_or old 18 0) 0 second

alias-same : (old new : List ℕ) (r : ℕ) → 20 ≤ length new → get_or new r 0 ≡ get_or old r 0 → get_or (with_alias_of old new) r 0 ≡ get_or old r 0
unfolding with_alias_of
alias-same old new r long same = elim (cases_eq r 19) [
  | inl at ↦ ap (λ (n : ℕ). get_or (set (set new 18 (get_or old 18 0)) 19 (get_or old 19 0)) n 0) at
      ∙ get_or-set_same (set new 18 (get_or old 18 0)) 19 (get_or old 19 0) 0 (omega (arith, length-set {A = ℕ})) ∙ ap (λ (n : ℕ). get_or old n 0) (sym at)
  | inr other ↦ get_or-set_other (set new 18 (get_or old 18 0)) 19 r (get_or old 19 0) 0 other ∙ elim (cases_eq r 18) [
    | inl at ↦ ap (λ (n : ℕ). get_or (set new 18 (get_or old 18 0)) n 0) at ∙ get_or-set_same new 18 (get_or old 18 0) 0 (omega arith) ∙ ap (λ (n : ℕ). get_or old n 0) (sym at)
    | inr neither ↦ get_or-set_other new 18 r (get_or old 18 0) 0 neither ∙ same
  ]
]

-- a block that can be written: a station address of 16 bits, in registers after those of the addresses and before process memory
pub record IsPlain (block : LineBlock) : Type 0 where
  pub station : block.station < 65536
  pub from : 1536 ≤ block.block.register
  pub to : block.block.register + length block.block.bytes ≤ 4096
  pub some : 1 ≤ length block.block.bytes
  pub few : length block.block.bytes ≤ 16

pub written-length : (memory bytes : List ℕ) (register : ℕ) → register + length bytes ≤ length memory → length (register_written memory register bytes) ≡ length memory
unfolding register_written with_alias_of
written-length memory bytes register within =
    length-set (set (with_part register bytes memory) 18 (get_or memory 18 0)) 19 (get_or memory 19 0) ∙ length-set (with_part register bytes memory) 18 (get_or memory 18 0)
    ∙ part-length register bytes memory within

pub written-inside : (memory bytes : List ℕ) (register r : ℕ) → register ≤ length memory → 20 ≤ register → register ≤ r → r < register + length bytes
    → get_or (register_written memory register bytes) r 0 ≡ get_or bytes (r - register) 0
unfolding register_written
written-inside memory bytes register r within high low below =
    alias-other memory (with_part register bytes memory) r (omega arith) ∙ part-inside register bytes memory r within low below

pub written-outside : (memory bytes : List ℕ) (register r : ℕ) → register + length bytes ≤ length memory → 20 ≤ length memory → Misses register (length bytes) r
    → get_or (register_written memory register bytes) r 0 ≡ get_or memory r 0
unfolding register_written
written-outside memory bytes register r within long misses =
    alias-same memory (with_part register bytes memory) r (omega (arith, part-length register bytes memory within)) (part-outside register bytes memory r (omega arith) misses)

-- the memory after a write of a block
abbrev pub block_after : List ℕ → LineBlock → List ℕ
block_after memory block = memory_after_command Fpwr memory (station_address block.station block.block.register) block.block.bytes

address-parts : (station register : ℕ) → station < 65536 → ((station + 65536 * register) % 65536 ≡ station) × ((station + 65536 * register) / 65536 ≡ register)
address-parts station register low = (omega arith, omega arith)

-- a slave with the station address has the block written, and another one passes it on

pub own-after_it : (memory : List ℕ) (block : LineBlock) → length memory ≡ 12288 → IsPlain block → word_at memory 16 ≡ block.station
    → block_after memory block ≡ register_written memory block.block.register block.block.bytes
own-after_it memory block long plain own =
    let parts = address-parts block.station block.block.register plain.station in
    let address = station_address block.station block.block.register in
    let to = plain.to in
    let named : (word_at memory 16 == address % 65536) ≡ true = same-test (word_at memory 16) (address % 65536) (own ∙ sym parts.0) in
    let inside : lies_in_memory address (length block.block.bytes) ≡ true = below-test (register_of address + length block.block.bytes) 12288 (omega (arith, parts.1)) in
    let test : is_at_station memory address (length block.block.bytes) ≡ true = and_from (word_at memory 16 == address % 65536) (lies_in_memory address (length block.block.bytes)) named inside in
    ap (λ (b : Bool). if b then register_written memory (register_of address) block.block.bytes else memory) test
    ∙ ap (λ (n : ℕ). register_written memory n block.block.bytes) parts.1
  where
    same-test : (a b : ℕ) → a ≡ b → (a == b) ≡ true
    same-test a b e = grind (arith, nat_tests)

    below-test : (a b : ℕ) → a ≤ b → nat_le a b ≡ true
    below-test a b e = grind (arith, nat_tests)

pub other-after_it : (memory : List ℕ) (block : LineBlock) → IsPlain block → word_at memory 16 ≢ block.station → block_after memory block ≡ memory
other-after_it memory block plain other =
    let parts = address-parts block.station block.block.register plain.station in
    let address = station_address block.station block.block.register in
    let named : (word_at memory 16 == address % 65536) ≡ false = other-test (word_at memory 16) (address % 65536) (λ same. other (same ∙ parts.0)) in
    ap (λ (b : Bool). if b then register_written memory (register_of address) block.block.bytes else memory)
    (and_left (word_at memory 16 == address % 65536) (lies_in_memory address (length block.block.bytes)) named)
  where
    other-test : (a b : ℕ) → a ≢ b → (a == b) ≡ false
    other-test a b e = grind (arith, nat_tests)
