-- A task is ready where no slave holds it up, and masks say which tasks pass.
use Rattle.std.proofs.Common.{◌≡◌, ℕ, zero, suc, ◌+◌, ◌*◌, ◌<◌, ◌==◌, ◌&&◌, ◌∙◌, Bool, true, false, cond, List, [], ◌∷◌, ◌++◌, filter, length, map, refl, ap, arith}
use Rattle.std.specs.Prelude.{◌↔◌, All, Contains, slice_index_or}
use Rattle.std.specs.List.{flat_map, list_any, range_with_len}
use Rattle.std.proofs.lemmas.Bool.{and_parts}
use Rattle.std.proofs.lemmas.Bool.Decides.{nat_tests}
use Rattle.std.proofs.lemmas.List.Elements.{All-contains, All-map, Contains-get_or}
use Rattle.std.proofs.lemmas.List.Folds.{list_any_at}
use Rattle.std.specs.Int.{bit_at}
use Rattle.hc_bits.proofs.lemmas.Bits.{bit_at-number_of}
use Rattle.hc_records.specs.declared.limits.TheConstants.{TASKS}
use Rattle.hc_records.specs.declared.records.Slave.{Slave}
use Rattle.hc_records.specs.Image.{tasks}
use Rattle.hc_records.specs.Line.{Member}
use Rattle.hc_records.proofs.lemmas.Choices.{by_bool}
use Rattle.hc_records.proofs.lemmas.Lists.{All-flat_map, All-passing}
use Rattle.hc_registers.specs.Blocks.{LineBlock, line_blocks}
use Rattle.hc_events.specs.Entries.{History}
use Rattle.hc_events.specs.Owed.{is_owed, owed_blocks}
use Rattle.hc_events.specs.Points.{line_of, state_of}
use Rattle.hc_events.specs.Ready.{concerns, concerns_outside, fmmu_registers, holders, holds_up, holds_up_outside, is_ready, mask_of, registers_outside, slaves_outside, waited_for, waited_for_outside}
use Rattle.hc_events.proofs.lemmas.LineBlocks.{block-of}
use Rattle.hc_events.proofs.lemmas.ReadyEdits.{filtered-none, none-left, none-passes}

same_number : (a b : ℕ) → a ≡ b → (a == b) ≡ true
same_number a b e = grind (arith, nat_tests)

empty_of : {X : Type 0} (xs : List X) → ((x : X) → Contains xs x → ⊥) → xs ≡ []
empty_of [] none = refl
empty_of (x ∷ xs) none = absurd (none x (0, omega arith, refl))

empty_map : {X Y : Type 0} (f : X → Y) (xs : List X) → map f xs ≡ [] → xs ≡ []
empty_map f [] e = refl
empty_map f (x ∷ xs) e = cc

empty_both : {X : Type 0} (xs ys : List X) → xs ++ ys ≡ [] → (xs ≡ []) × (ys ≡ [])
empty_both [] ys e = (refl, e)
empty_both (x ∷ xs) ys e = cc

-- a block that a task waits for is one of a slave of the line, which holds it up

waited_in : (history : History) (task : ℕ) (block : LineBlock) → Contains (waited_for history task) block → Contains (line_blocks (line_of history)) block
waited_in history task block has =
    All-contains (Contains (line_blocks (line_of history))) (waited_for history task) block
    (All-passing (Contains (line_blocks (line_of history))) (concerns history task) (owed_blocks history)
    (λ k d low passes. All-passing (Contains (line_blocks (line_of history))) (is_owed history) (line_blocks (line_of history)) (λ j e within owed. Contains-get_or (line_blocks (line_of history)) j e within) k d low)) has

none_waited : (history : History) (task : ℕ) → All (λ (member : Member). holds_up history task member ≡ false) (line_of history) → waited_for history task ≡ []
none_waited history task none =
    empty_of (waited_for history task)
    (λ block has.
    let of = block-of (line_of history) block (waited_in history task block has) in
    let free : holds_up history task of.member ≡ false = All-contains (λ (member : Member). holds_up history task member ≡ false) (line_of history) of.member none of.inside in
    let held : holds_up history task of.member ≡ true =
    list_any_at (λ (other : LineBlock). other.station == of.member.slave.station) (waited_for history task) has.0 block has.1
    (ap (λ (other : LineBlock). other.station == of.member.slave.station) has.2 ∙ same_number block.station of.member.slave.station of.station) in
    never_both (holds_up history task of.member) held free)
  where
    never_both : (b : Bool) → b ≡ true → b ≡ false → ⊥
    never_both true t e = cc
    never_both false t e = cc

-- so is a register outside the line

record IsOf (slaves : List Slave) (register : ℕ × ℕ) : Type 0 where
  slave : Slave
  inside : Contains slaves slave
  station : register.0 ≡ slave.station

registers_of : (slaves : List Slave) → All (IsOf slaves) (flat_map fmmu_registers slaves)
registers_of slaves =
    All-flat_map (IsOf slaves) fmmu_registers slaves
    (λ k d low.
    let slave = slice_index_or slaves k d in
    All-map (IsOf slaves) (λ (index : ℕ). (slave.station, 2 * index + 1)) (range_with_len 0 (length slave.areas)) (λ j e within. record { slave = slave; inside = Contains-get_or slaves k d low; station = refl }))

waited_of : (history : History) (task : ℕ) (register : ℕ × ℕ) → Contains (waited_for_outside history task) register → IsOf (slaves_outside (state_of history)) register
waited_of history task register has =
    All-contains (IsOf (slaves_outside (state_of history))) (waited_for_outside history task) register
    (All-passing (IsOf (slaves_outside (state_of history))) (concerns_outside history task) (registers_outside (state_of history)) (λ k d low passes. registers_of (slaves_outside (state_of history)) k d low)) has

none_outside : (history : History) (task : ℕ) → All (λ (slave : Slave). holds_up_outside history task slave ≡ false) (slaves_outside (state_of history)) → waited_for_outside history task ≡ []
none_outside history task none =
    empty_of (waited_for_outside history task)
    (λ register has.
    let of = waited_of history task register has in
    let free : holds_up_outside history task of.slave ≡ false = All-contains (λ (slave : Slave). holds_up_outside history task slave ≡ false) (slaves_outside (state_of history)) of.slave none of.inside in
    let held : holds_up_outside history task of.slave ≡ true =
    list_any_at (λ (other : ℕ × ℕ). other.0 == of.slave.station) (waited_for_outside history task) has.0 register has.1
    (ap (λ (other : ℕ × ℕ). other.0 == of.slave.station) has.2 ∙ same_number register.0 of.slave.station of.station) in
    never_both (holds_up_outside history task of.slave) held free)
  where
    never_both : (b : Bool) → b ≡ true → b ≡ false → ⊥
    never_both true t e = cc
    never_both false t e = cc

-- both ways

no_holders : (history : History) (task : ℕ) → is_ready history task ≡ true → holders history task ≡ []
no_holders history task ready =
    let both = and_parts (length (waited_for history task) == 0) (length (waited_for_outside history task) == 0) ready in
    let blocks = none-left (waited_for history task) both.0 in
    let registers = none-left (waited_for_outside history task) both.1 in
    let inside : filter (holds_up history task) (line_of history) ≡ [] =
    none-passes (holds_up history task) (line_of history) (λ k d low. ap (list_any (λ (block : LineBlock). block.station == (slice_index_or (line_of history) k d).slave.station)) blocks) in
    let outside : filter (holds_up_outside history task) (slaves_outside (state_of history)) ≡ [] =
    none-passes (holds_up_outside history task) (slaves_outside (state_of history)) (λ k d low. ap (list_any (λ (register : ℕ × ℕ). register.0 == (slice_index_or (slaves_outside (state_of history)) k d).station)) registers) in
    ap (λ members. map (λ (member : Member). member.slave.station) members ++ map (λ (slave : Slave). slave.station) (filter (holds_up_outside history task) (slaves_outside (state_of history)))) inside
    ∙ ap (λ slaves. map (λ (slave : Slave). slave.station) slaves) outside

then_ready : (history : History) (task : ℕ) → holders history task ≡ [] → is_ready history task ≡ true
then_ready history task none =
    let both = empty_both (map (λ (member : Member). member.slave.station) (filter (holds_up history task) (line_of history)))
    (map (λ (slave : Slave). slave.station) (filter (holds_up_outside history task) (slaves_outside (state_of history)))) none in
    let blocks = none_waited history task (filtered-none (holds_up history task) (line_of history) (empty_map (λ (member : Member). member.slave.station) (filter (holds_up history task) (line_of history)) both.0)) in
    let registers = none_outside history task
    (filtered-none (holds_up_outside history task) (slaves_outside (state_of history)) (empty_map (λ (slave : Slave). slave.station) (filter (holds_up_outside history task) (slaves_outside (state_of history))) both.1)) in
    ap (λ list. (length list == 0) && (length (waited_for_outside history task) == 0)) blocks ∙ ap (λ list. length list == 0) registers

pub ready-holders : (history : History) (task : ℕ) → (is_ready history task ≡ true) ↔ (holders history task ≡ [])
ready-holders history task = (no_holders history task, then_ready history task)

-- masks

abbrev bit_for : (ℕ → Bool) → ℕ → ℕ
bit_for test task = cond (test task) 1 0

bits_small : (test : ℕ → Bool) (numbers : List ℕ) (i : ℕ) → slice_index_or (map (bit_for test) numbers) i 0 < 2
bits_small test [] i = omega arith
bits_small test (n ∷ numbers) zero = by_bool (test n) (λ t. let one : 1 < 2 = omega arith in rw t one) (λ t. let none : 0 < 2 = omega arith in rw t none)
bits_small test (n ∷ numbers) (suc i) = bits_small test numbers i

mask_at : (test : ℕ → Bool) (task : ℕ) → task < TASKS → slice_index_or (map (bit_for test) tasks) task 0 ≡ bit_for test task
mask_at test zero low = refl
mask_at test (suc zero) low = refl
mask_at test (suc (suc zero)) low = refl
mask_at test (suc (suc (suc zero))) low = refl
mask_at test (suc (suc (suc (suc zero)))) low = refl
mask_at test (suc (suc (suc (suc (suc zero))))) low = refl
mask_at test (suc (suc (suc (suc (suc (suc zero)))))) low = refl
mask_at test (suc (suc (suc (suc (suc (suc (suc zero))))))) low = refl
mask_at test (suc (suc (suc (suc (suc (suc (suc (suc task)))))))) low = absurd (omega arith)

pub mask-bit : (test : ℕ → Bool) (task : ℕ) → task < TASKS → bit_at (mask_of test) task ≡ bit_for test task
mask-bit test task low = bit_at-number_of (map (bit_for test) tasks) task (bits_small test tasks) ∙ mask_at test task low
