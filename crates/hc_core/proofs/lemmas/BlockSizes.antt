-- A register block has 8 or 16 bytes, so that the frame that writes it has 60: zeros fill it up.
use Rattle.std.proofs.Common.{◌≡◌, ◌<◌, ◌≤◌, ℕ, Bool, false, List, [], ◌∷◌, arith, get_or, length, Some, rules}
use Rattle.std.specs.Prelude.{All, nat_lt, slice_get}
use Rattle.std.specs.List.{enumerate_from}
use Rattle.std.proofs.lemmas.Bool.{le-ltb}
use Rattle.std.proofs.lemmas.List.Elements.{All-filter, All-head, All-map}
use Rattle.hc_records.specs.declared.records.Area.{Area}
use Rattle.hc_records.specs.Line.{Member}
use Rattle.hc_records.specs.Lists.{lowest}
use Rattle.hc_records.proofs.lemmas.Lists.{All-enumerate_from, All-flat_map}
use Rattle.hc_registers.specs.Blocks.{LineBlock, RegisterBlock, area_blocks, line_blocks, member_blocks, slave_blocks}
use Rattle.hc_events.specs.Calls.{write_into_faults, write_size}
use Rattle.hc_events.specs.declared.faults.CoreFault.TheVariants.{NothingOwed, Room, SerialsSpent}
use Rattle.hc_events.specs.Entries.{History}
use Rattle.hc_events.specs.Owed.{is_owed, owed_blocks}
use Rattle.hc_events.specs.Points.{line_of}
use Rattle.hc_events.specs.Steps.{write_faults}
use Rattle.hc_core.specs.Firsts.{HasBlockBytes}
use Rattle.hc_core.proofs.Firsts.{each-is}

area_has : (line : List Member) (rank : ℕ) (e : ℕ × Area) → All HasBlockBytes (area_blocks line rank e)
area_has line rank e = search rules

slave_has : (line : List Member) (member : Member) → All HasBlockBytes (slave_blocks line member)
slave_has line member = search (rules, All-flat_map, area_has)

abbrev Has : LineBlock → Type 0
Has found = HasBlockBytes found.block

member_has : (line : List Member) (member : Member) → All Has (member_blocks line member)
member_has line member =
    let made : ℕ × RegisterBlock → LineBlock = λ e. record { station = member.slave.station; number = e.0; block = e.1 } in
    All-map Has made (enumerate_from 0 (slave_blocks line member)) (All-enumerate_from HasBlockBytes 0 (slave_blocks line member) (slave_has line member))

line_has : (line : List Member) → All Has (line_blocks line)
line_has line = All-flat_map Has (member_blocks line) line (λ i d within. member_has line (get_or line i d))

first-size : (blocks : List LineBlock) → All Has blocks → write_size blocks ≤ 60
first-size blocks all = search (rules, All-head)

write-fits : (history : History) → write_size (owed_blocks history) ≤ 60
write-fits history = first-size (owed_blocks history) (All-filter (is_owed history) Has (line_blocks (line_of history)) (line_has (line_of history)))

least-size : (blocks : List LineBlock) → 0 < length blocks → 60 ≤ write_size blocks
least-size [] some = absurd (omega (arith, some))
least-size (block ∷ blocks) some = search rules

-- the frame of the first owed block has 60 bytes
pub write-sized : (history : History) → 0 < length (owed_blocks history) → write_size (owed_blocks history) ≡ 60
write-sized history some =
    let most = write-fits history in
    let least = least-size (owed_blocks history) some in
    omega (arith, most, least)

same-fault : (none spent room : Bool) (needed : ℕ) → room ≡ false
    → lowest ((none, NothingOwed) ∷ (spent, SerialsSpent) ∷ (room, Room needed) ∷ []) ≡ lowest ((none, NothingOwed) ∷ (spent, SerialsSpent) ∷ [])
same-fault none spent room needed fits = search rules

-- a slice of 60 bytes is never too short: the write is refused as the event is
pub write-has-room : (history : History) → lowest (write_into_faults history 60) ≡ lowest (write_faults history (owed_blocks history))
write-has-room history = same-fault _ _ (nat_lt 60 (write_size (owed_blocks history))) (write_size (owed_blocks history)) (le-ltb 60 (write_size (owed_blocks history)) (write-fits history))

-- each owed block has 1 to 16 bytes
pub owed-bytes : (history : History) (index : ℕ) (block : LineBlock) → slice_get (owed_blocks history) index ≡ Some block → HasBlockBytes block.block
owed-bytes history index block is =
    each-is Has (owed_blocks history) index block (All-filter (is_owed history) Has (line_blocks (line_of history)) (line_has (line_of history))) is
