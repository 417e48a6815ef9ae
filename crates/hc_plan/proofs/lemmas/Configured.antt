-- The blocks that a line is configured with are its slaves'.
use Rattle.std.proofs.Common.{◌≡◌, ℕ, ◌<◌, ◌==◌, Bool, true, false, cond, List, [], ◌∷◌, Contains, refl, sym, ap, subst, ◌∙◌, ⊎_elim, arith, rules}
use Rattle.std.specs.Prelude.{Option, Some, None, find, option_and_then, option_map, slice_get}
use Rattle.std.specs.List.{flat_map, list_any}
use Rattle.std.proofs.lemmas.Bool.{eqb-true, or_parts}
use Rattle.std.proofs.lemmas.List.Elements.{Contains-append_cases, Contains-append_left, Contains-append_right}
use Rattle.std.proofs.lemmas.Option.{get_or_from_slice_get, slice_get-get_or, slice_get-map, slice_get_within}
use Rattle.hc_records.specs.Line.{Member, is_at}
use Rattle.hc_records.specs.Lists.{has_repeat}
use Rattle.hc_registers.specs.Blocks.{LineBlock, RegisterBlock, member_blocks, numbered, slave_blocks}
use Rattle.hc_plan.proofs.Numbered.{get-numbered-from-0}
use Rattle.hc_records.proofs.lemmas.Stations.{IsAbsent, stations}

-- an element that is at an index is contained, and a contained one is at an index

pub at-contained : {X : Type 0} (xs : List X) (i : ℕ) (x : X) → slice_get xs i ≡ Some x → Contains xs x
at-contained xs i x is = (i, slice_get_within xs i x is, get_or_from_slice_get xs i x x is)

contained-at : {X : Type 0} (xs : List X) (x : X) (at : Contains xs x) → slice_get xs at.0 ≡ Some x
contained-at xs x at = slice_get-get_or xs at.0 x at.1 ∙ ap (λ (y : _). Some y) at.2

-- the blocks of one slave

abbrev pub made : ℕ → ℕ → Option RegisterBlock → Option LineBlock
made station n blocks = option_map (λ (e : ℕ × RegisterBlock). record { station = station; number = e.0; block = e.1 }) (option_map (λ b. (n, b)) blocks)

pub get-own : (station n : ℕ) (blocks : List RegisterBlock) → slice_get (numbered station 0 blocks) n ≡ made station n (slice_get blocks n)
get-own station n blocks = search (rules, slice_get-map, get-numbered-from-0)

own-contained : (station n : ℕ) (blocks : List RegisterBlock) (block : RegisterBlock) → slice_get blocks n ≡ Some block
    → Contains (numbered station 0 blocks) (record { station = station; number = n; block = block })
own-contained station n blocks block is =
    at-contained (numbered station 0 blocks) n (record { station = station; number = n; block = block }) (get-own station n blocks ∙ ap (made station n) is)

made-parts : (station n : ℕ) (o : Option RegisterBlock) (found : LineBlock) → made station n o ≡ Some found
    → (found.station ≡ station) × (found.number ≡ n) × (o ≡ Some found.block)
made-parts station n o found is = search rules

pub contained-own : (station : ℕ) (blocks : List RegisterBlock) (found : LineBlock) → Contains (numbered station 0 blocks) found
    → (found.station ≡ station) × (slice_get blocks found.number ≡ Some found.block)
contained-own station blocks found at =
    let parts = made-parts station at.0 (slice_get blocks at.0) found (sym (get-own station at.0 blocks) ∙ contained-at (numbered station 0 blocks) found at) in
    (parts.0, ap (slice_get blocks) parts.1 ∙ parts.2)

-- the block that is found by its slave's station address and its number

abbrev pub block_of : List Member → ℕ → Option Member → Option RegisterBlock
block_of whole number member = option_and_then (λ m. slice_get (slave_blocks whole m) number) member

here-or-after_it : (whole members : List Member) (member : Member) (station number : ℕ) (block : RegisterBlock) (same : Bool) → (member.slave.station == station) ≡ same
    → block_of whole number (cond same (Some member) (find (is_at station) members)) ≡ Some block
    → (block_of whole number (find (is_at station) members) ≡ Some block → Contains (flat_map (member_blocks whole) members) (record { station = station; number = number; block = block }))
    → Contains (flat_map (member_blocks whole) (member ∷ members)) (record { station = station; number = number; block = block })
here-or-after_it whole members member station number block true is at after_it =
    Contains-append_left (member_blocks whole member) (flat_map (member_blocks whole) members) (record { station = station; number = number; block = block })
    (subst (λ (n : ℕ). Contains (member_blocks whole member) (record { station = n; number = number; block = block })) (eqb-true member.slave.station station is)
    (own-contained member.slave.station number (slave_blocks whole member) block at))
here-or-after_it whole members member station number block false is at after_it = search (rules, Contains-append_right)

pub block-configured : (whole members : List Member) (station number : ℕ) (block : RegisterBlock) → block_of whole number (find (is_at station) members) ≡ Some block
    → Contains (flat_map (member_blocks whole) members) (record { station = station; number = number; block = block })
block-configured whole [] station number block is = cc
block-configured whole (member ∷ members) station number block is =
    here-or-after_it whole members member station number block (member.slave.station == station) refl is (block-configured whole members station number block)

-- a slave that is first has no other with its station address after it

none-at : (station : ℕ) (members : List Member) → IsAbsent station (stations members) → find (is_at station) members ≡ None
none-at station [] absent = refl
none-at station (member ∷ members) absent =
    let parts = or_parts (member.slave.station == station) (list_any (λ y. y == station) (stations members)) absent in
    ap (λ (b : Bool). cond b (Some member) (find (is_at station) members)) parts.0 ∙ none-at station members parts.1

own-found : (whole members : List Member) (member : Member) (found : LineBlock) → (found.station ≡ member.slave.station) × (slice_get (slave_blocks whole member) found.number ≡ Some found.block)
    → (same : Bool) → (member.slave.station == found.station) ≡ same
    → block_of whole found.number (cond same (Some member) (find (is_at found.station) members)) ≡ Some found.block
own-found whole members member found own same is = search rules

later-found : (whole members : List Member) (member : Member) (found : LineBlock) → IsAbsent member.slave.station (stations members)
    → block_of whole found.number (find (is_at found.station) members) ≡ Some found.block → (same : Bool) → (member.slave.station == found.station) ≡ same
    → block_of whole found.number (cond same (Some member) (find (is_at found.station) members)) ≡ Some found.block
later-found whole members member found absent after_it same is = search (rules, eqb-true, none-at)

pub configured-block : (whole members : List Member) (found : LineBlock) → has_repeat (stations members) ≡ false → Contains (flat_map (member_blocks whole) members) found
    → block_of whole found.number (find (is_at found.station) members) ≡ Some found.block
configured-block whole [] found distinct at = let none : at.0 < 0 = at.1 in absurd (omega (arith, none))
configured-block whole (member ∷ members) found distinct at =
    let parts = or_parts (list_any (λ y. y == member.slave.station) (stations members)) (has_repeat (stations members)) distinct in
    ⊎_elim
    (λ own. own-found whole members member found (contained-own member.slave.station (slave_blocks whole member) found own) (member.slave.station == found.station) refl)
    (λ after_it. later-found whole members member found parts.0 (configured-block whole members found parts.1 after_it) (member.slave.station == found.station) refl)
    (Contains-append_cases (member_blocks whole member) (flat_map (member_blocks whole) members) found at)
