-- Two lists, two tables of a task, and two blocks that tests say are the same are one.
use Rattle.std.proofs.Common.{◌≡◌, ℕ, ◌==◌, ◌&&◌, ◌∙◌, Bool, true, List, [], ◌∷◌, refl, ap, ap₂}
use Rattle.std.specs.Str.{bytes_eq}
use Rattle.std.proofs.lemmas.Bool.{and_parts, eqb-true}
use Rattle.std.proofs.lemmas.Slice.Eq.{bytes_eq-Decides}
use Rattle.hc_registers.specs.Blocks.{LineBlock, RegisterBlock, same_bytes}
use Rattle.hc_places.specs.declared.table.Datagram.{Datagram}
use Rattle.hc_places.specs.Table.{TaskTable}
use Rattle.hc_events.specs.Steady.{same_datagram, same_line_block, same_lists, same_task}

pub lists-same : {X : Type 0} (same : X → X → Bool) → ((x y : X) → same x y ≡ true → x ≡ y) → (xs ys : List X) → same_lists same xs ys ≡ true → xs ≡ ys
lists-same same k [] [] e = refl
lists-same same k [] (y ∷ ys) e = cc
lists-same same k (x ∷ xs) [] e = cc
lists-same same k (x ∷ xs) (y ∷ ys) e =
    let both = and_parts (same x y) (same_lists same xs ys) e in
    ap₂ (λ a b. a ∷ b) (k x y both.0) (lists-same same k xs ys both.1)

-- tables

datagrams_same : (a b : Datagram) → same_datagram a b ≡ true → a ≡ b
datagrams_same a b e =
    let last = and_parts ((a.address == b.address) && (a.length == b.length) && (a.expected == b.expected)) (a.offset == b.offset) e in
    let third = and_parts ((a.address == b.address) && (a.length == b.length)) (a.expected == b.expected) last.0 in
    let both = and_parts (a.address == b.address) (a.length == b.length) third.0 in
    ap (λ (n : ℕ). record { address = n; length = a.length; expected = a.expected; offset = a.offset }) (eqb-true a.address b.address both.0)
    ∙ ap (λ (n : ℕ). record { address = b.address; length = n; expected = a.expected; offset = a.offset }) (eqb-true a.length b.length both.1)
    ∙ ap (λ (n : ℕ). record { address = b.address; length = b.length; expected = n; offset = a.offset }) (eqb-true a.expected b.expected third.1)
    ∙ ap (λ (n : ℕ). record { address = b.address; length = b.length; expected = b.expected; offset = n }) (eqb-true a.offset b.offset last.1)

pub tasks-same : (a b : TaskTable) → same_task a b ≡ true → a ≡ b
tasks-same a b e =
    let last = and_parts (same_lists same_datagram a.datagrams b.datagrams && (a.outputs == b.outputs)) (a.inputs == b.inputs) e in
    let both = and_parts (same_lists same_datagram a.datagrams b.datagrams) (a.outputs == b.outputs) last.0 in
    ap (λ (list : List Datagram). record { datagrams = list; outputs = a.outputs; inputs = a.inputs }) (lists-same same_datagram datagrams_same a.datagrams b.datagrams both.0)
    ∙ ap (λ (n : ℕ). record { datagrams = b.datagrams; outputs = n; inputs = a.inputs }) (eqb-true a.outputs b.outputs both.1)
    ∙ ap (λ (n : ℕ). record { datagrams = b.datagrams; outputs = b.outputs; inputs = n }) (eqb-true a.inputs b.inputs last.1)

-- blocks

pub blocks-same : (a b : LineBlock) → same_line_block a b ≡ true → a ≡ b
blocks-same a b e =
    let last = and_parts ((a.station == b.station) && (a.number == b.number)) (same_bytes a.block b.block) e in
    let both = and_parts (a.station == b.station) (a.number == b.number) last.0 in
    let own = and_parts (a.block.register == b.block.register) (bytes_eq a.block.bytes b.block.bytes) last.1 in
    let block : a.block ≡ b.block =
    ap (λ (n : ℕ). record { register = n; bytes = a.block.bytes }) (eqb-true a.block.register b.block.register own.0)
    ∙ ap (λ (bytes : List ℕ). record { register = b.block.register; bytes = bytes }) ((bytes_eq-Decides a.block.bytes b.block.bytes).0 own.1) in
    ap (λ (s : ℕ). record { station = s; number = a.number; block = a.block }) (eqb-true a.station b.station both.0)
    ∙ ap (λ (n : ℕ). record { station = b.station; number = n; block = a.block }) (eqb-true a.number b.number both.1)
    ∙ ap (λ (one : RegisterBlock). record { station = b.station; number = b.number; block = one }) block
