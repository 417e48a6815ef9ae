-- The stored register blocks of a line are the blocks of its slaves.
use Rattle.std.proofs.Common.{◌≡◌, ◌∙◌, ℕ, ◌==◌, ◌<◌, ◌≤◌, Bool, true, false, Contains, List, length, refl, sym, ap, arith}
use Rattle.std.specs.Prelude.{None, Option, Some, find, nat_lt, option_and_then, option_map, slice_get}
use Rattle.std.proofs.lemmas.Bool.{eq-eqb, eqb-true, ltb-false, ltb-true}
use Rattle.std.proofs.lemmas.List.Elements.{All-contains, All-contains_itself}
use Rattle.std.proofs.lemmas.Option.{slice_get-map, slice_get_past}
use Rattle.hc_records.specs.declared.limits.TheConstants.{MOST_AREAS}
use Rattle.hc_records.specs.declared.records.Declared.{Declared}
use Rattle.hc_records.specs.Limits.{IsSlaveInside}
use Rattle.hc_records.specs.Line.{Member, State, is_at, line_from}
use Rattle.hc_records.proofs.lemmas.Slaves.{line-inside}
use Rattle.hc_groups.specs.Index.{owned_by}
use Rattle.hc_registers.specs.Blocks.{LineBlock, RegisterBlock, member_blocks, slave_blocks}
use Rattle.hc_registers.specs.RankLaws.{HasPlaces}
use Rattle.hc_registers.specs.RankPlaces.{place, places}
use Rattle.hc_registers.proofs.lemmas.RanksGapless.{length-member}
use Rattle.hc_registers.proofs.lemmas.RanksStanding.{members-are_placed, standing-of}
use Rattle.hc_changes.proofs.lemmas.Lists.{found-among}
use Rattle.hc_plan.specs.Configuration.{at_station, block_at, block_of_rank, line_block_at}
use Rattle.hc_plan.specs.RegisterBlocks.{AreBlocksOf, block_in, blocks_by_rank, has_at}
use Rattle.hc_plan.proofs.LineBlocks.{owner-blocks, owner-has}
use Rattle.hc_plan.proofs.lemmas.Configured.{get-own, made}
use Rattle.hc_plan.proofs.lemmas.StoredBlocks.{not-found}

block-made : (station n : ℕ) (block : Option RegisterBlock) → block_in (made station n block) ≡ block
block-made station n None = refl
block-made station n (Some block) = refl

unmade : (station n : ℕ) (block : Option RegisterBlock) → made station n block ≡ None → block ≡ None
unmade station n None is = refl
unmade station n (Some block) is = cc

-- what is read at a slave's place is the slave's block

abbrev pub Reads : List (Option RegisterBlock) → ℕ → ℕ → Option RegisterBlock → Type 0
Reads blocks rank number found = (number < 16 → found ≡ has_at blocks (place rank number)) × (16 ≤ number → found ≡ None)

pub stored-on : (groups : List Declared) (m : Member) (number : ℕ) → Contains (line_from 1 groups) m → number < 16
    → has_at (blocks_by_rank groups) (place m.rank number) ≡ slice_get (slave_blocks (line_from 1 groups) m) number
stored-on groups m number on low =
    let line = line_from 1 groups in
    let state : State = record { groups = groups; epoch = 0 } in
    let blocks = slice_get (slave_blocks line m) number in
    let at = All-contains (HasPlaces state) line m (members-are_placed state) on number low in
    ap (option_and_then (λ (b : Option RegisterBlock). b)) (slice_get-map block_in (places state) (place m.rank number) ∙ ap (option_map block_in) at)
    ∙ ap block_in (get-own m.slave.station number (slave_blocks line m))
    ∙ block-made m.slave.station number blocks

stored : (groups : List Declared) (blocks : List (Option RegisterBlock)) (m : Member) (rank number : ℕ) (found : Option RegisterBlock) → AreBlocksOf groups blocks → Contains (line_from 1 groups) m → rank ≡ m.rank
    → Reads blocks rank number found → found ≡ slice_get (slave_blocks (line_from 1 groups) m) number
stored groups blocks m rank number found known on ranked reads = by (nat_lt number 16) refl
  where
    line : List Member
    line = line_from 1 groups

    by : (below : Bool) → nat_lt number 16 ≡ below → found ≡ slice_get (slave_blocks line m) number
    by true is =
        let low = ltb-true number 16 is in
        reads.0 low
        ∙ ap (λ (r : ℕ). has_at blocks (place r number)) ranked
        ∙ ap (λ (b : List (Option RegisterBlock)). has_at b (place m.rank number)) known.are
        ∙ stored-on groups m number on low
    by false is =
        let high = ltb-false number 16 is in
        let few : length m.slave.areas ≤ MOST_AREAS = (All-contains (λ (one : Member). IsSlaveInside one.slave) line m (line-inside groups known.project) on).few in
        let size = length-member line m in
        reads.1 high
        ∙ sym (unmade m.slave.station number (slice_get (slave_blocks line m) number) (sym (get-own m.slave.station number (slave_blocks line m)) ∙ slice_get_past (member_blocks line m) number (omega (arith, high, few, size))))

-- nothing is stored for a slave outside the line

nothing-on : (groups : List Declared) (rank number : ℕ) → 1 ≤ rank → number < 16 → find (λ (m : Member). m.rank == rank) (line_from 1 groups) ≡ None → has_at (blocks_by_rank groups) (place rank number) ≡ None
nothing-on groups rank number from low none = by (slice_get (places state) n) refl
  where
    state : State
    state = record { groups = groups; epoch = 0 }

    n : ℕ
    n = place rank number

    by : (at : Option (Option LineBlock)) → slice_get (places state) n ≡ at → has_at (blocks_by_rank groups) n ≡ None
    by None is = ap (option_and_then (λ (b : Option RegisterBlock). b)) (slice_get-map block_in (places state) n ∙ ap (option_map block_in) is)
    by (Some None) is = ap (option_and_then (λ (b : Option RegisterBlock). b)) (slice_get-map block_in (places state) n ∙ ap (option_map block_in) is)
    by (Some (Some block)) is =
        let here = standing-of state n block is in
        let at = here.is in
        let least = here.from in
        let below = here.low in
        let same : here.member.rank ≡ rank = omega (arith, at, least, below, from, low) in
        absurd (not-found (λ (m : Member). m.rank == rank) (line_from 1 groups) here.member none (eq-eqb here.member.rank rank same) here.on)

-- so at the place of a rank and a number is the block of the slave with that rank
pub stored-by : (groups : List Declared) (rank number : ℕ) → 1 ≤ rank → number < 16
    → has_at (blocks_by_rank groups) (place rank number)
    ≡ option_and_then (λ (m : Member). slice_get (slave_blocks (line_from 1 groups) m) number) (find (λ (m : Member). m.rank == rank) (line_from 1 groups))
stored-by groups rank number from low = by (find (λ (m : Member). m.rank == rank) (line_from 1 groups)) refl
  where
    by : (found : Option Member) → find (λ (m : Member). m.rank == rank) (line_from 1 groups) ≡ found
        → has_at (blocks_by_rank groups) (place rank number) ≡ option_and_then (λ (m : Member). slice_get (slave_blocks (line_from 1 groups) m) number) found
    by None is = nothing-on groups rank number from low is
    by (Some m) is =
        let found = found-among (λ (one : Member). one.rank == rank) (line_from 1 groups) m is in
        ap (λ (r : ℕ). has_at (blocks_by_rank groups) (place r number)) (sym (eqb-true m.rank rank found.passes)) ∙ stored-on groups m number found.among low

-- by its slave's station address, by its rank, and by its number in the line

pub stored-at : (groups : List Declared) (blocks : List (Option RegisterBlock)) (station : ℕ) (m : Member) (rank number : ℕ) (found : Option RegisterBlock) → AreBlocksOf groups blocks
    → find (is_at station) (line_from 1 groups) ≡ Some m → rank ≡ m.rank → Reads blocks rank number found → found ≡ block_at (line_from 1 groups) station number
stored-at groups blocks station m rank number found known is ranked reads =
    let line = line_from 1 groups in
    stored groups blocks m rank number found known (found-among (is_at station) line m is).among ranked reads
    ∙ sym (ap (option_and_then (λ (one : Member). slice_get (slave_blocks line one) number)) is)

abbrev pub of_slave : ℕ → ℕ → RegisterBlock → LineBlock
of_slave station number block = record { station = station; number = number; block = block }

pub stored-ranked : (groups : List Declared) (blocks : List (Option RegisterBlock)) (wanted : ℕ) (m : Member) (rank number : ℕ) (found : Option RegisterBlock) → AreBlocksOf groups blocks
    → find (λ (one : Member). one.rank == wanted) (line_from 1 groups) ≡ Some m → rank ≡ m.rank → Reads blocks rank number found
    → option_map (of_slave m.slave.station number) found ≡ block_of_rank (line_from 1 groups) wanted number
stored-ranked groups blocks wanted m rank number found known is ranked reads =
    let line = line_from 1 groups in
    ap (option_map (of_slave m.slave.station number)) (stored groups blocks m rank number found known (found-among (λ (one : Member). one.rank == wanted) line m is).among ranked reads)
    ∙ sym (ap (option_and_then (λ (one : Member). option_map {U = LineBlock} (λ block. record { station = one.slave.station; number = number; block = block }) (slice_get (slave_blocks line one) number))) is)

pub stored-nth : (groups : List Declared) (blocks : List (Option RegisterBlock)) (n : ℕ) (m : Member) (rank number : ℕ) (found : Option RegisterBlock) → AreBlocksOf groups blocks
    → owned_by (line_from 1 groups) n ≡ Some (m, number) → rank ≡ m.rank → Reads blocks rank number found → option_map (at_station m.slave.station) found ≡ line_block_at (line_from 1 groups) n
stored-nth groups blocks n m rank number found known is ranked reads =
    let line = line_from 1 groups in
    let on = owner-has (Contains line) line n (m, number) (All-contains_itself line) is in
    ap (option_map (at_station m.slave.station)) (stored groups blocks m rank number found known on ranked reads)
    ∙ sym (owner-blocks groups n number m is)
