-- Owed blocks, by the register state.
use Rattle.std.proofs.Common.{◌≡◌, ℕ, zero, suc, ◌<◌, List, [], ◌∷◌, length, subst, Some, None, rules}
use Rattle.std.specs.Prelude.{All, Contains, slice_get}
use Rattle.std.proofs.lemmas.List.{length-map}
use Rattle.std.proofs.lemmas.List.Elements.{All-contains_itself, All-head, All-tail}
use Rattle.std.proofs.lemmas.Option.{same_Some, slice_get_within}
use Rattle.hc_records.specs.Line.{groups_of}
use Rattle.hc_records.specs.Project.{lowest_fault}
use Rattle.hc_records.proofs.lemmas.Lists.{All-passing}
use Rattle.hc_records.proofs.lemmas.Stations.{project-distinct}
use Rattle.hc_registers.specs.Blocks.{LineBlock, line_blocks}
use Rattle.hc_registers.specs.RankPlaces.{places}
use Rattle.hc_plan.proofs.lemmas.Configured.{configured-block}
use Rattle.hc_plan.specs.Configuration.{block_at}
use Rattle.hc_events.specs.Entries.{History}
use Rattle.hc_events.specs.Points.{line_of, state_of}
use Rattle.hc_events.specs.Owed.{is_owed, known_bytes, owed_blocks}
use Rattle.hc_owed.specs.Laws as owed
use Rattle.hc_core.specs.Agreement.{Agree, CoreParts}

-- a block's place is one of the stored places
pub place-within : (unchanged : CoreParts) (history taken : History) (n : ℕ) (block : LineBlock) → Agree unchanged history taken → slice_get (places (state_of history)) n ≡ Some (Some block) → n < length unchanged.owed.known
place-within unchanged history taken n block agree at = search (rules, slice_get_within, length-map)

-- the register state is right at a block's place
pub place-unchanged : (unchanged : CoreParts) (history taken : History) (n : ℕ) (block : LineBlock) → Agree unchanged history taken → slice_get (places (state_of history)) n ≡ Some (Some block)
    → owed.IsRightAt unchanged.owed n (known_bytes history) (state_of history) block
place-unchanged unchanged history taken n block agree at = record { right = agree.known; project = agree.project; is_placed = at }

-- a property of each owed block holds for the one with an index

pub each-is : (P : LineBlock → Type 0) (blocks : List LineBlock) (index : ℕ) (block : LineBlock) → All P blocks → slice_get blocks index ≡ Some block → P block
each-is P [] index block all is = cc
each-is P (first ∷ blocks) zero block all is = subst P (same_Some first block is) (All-head P first blocks all)
each-is P (first ∷ blocks) (suc index) block all is = each-is P blocks index block (All-tail P first blocks all) is

owed_among : (history : History) → All (Contains (line_blocks (line_of history))) (owed_blocks history)
owed_among history = All-passing (Contains (line_blocks (line_of history))) (is_owed history) (line_blocks (line_of history)) (λ k d within passes. All-contains_itself (line_blocks (line_of history)) k d within)

pub owed-configured : (history : History) (index : ℕ) (block : LineBlock) → lowest_fault (groups_of (state_of history).groups) ≡ None → slice_get (owed_blocks history) index ≡ Some block
    → block_at (line_of history) block.station block.number ≡ Some block.block
owed-configured history index block project is =
    let inside = each-is (Contains (line_blocks (line_of history))) (owed_blocks history) index block (owed_among history) is in
    search (rules, configured-block, project-distinct)
