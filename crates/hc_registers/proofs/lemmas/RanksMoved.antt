-- The moved blocks with their ranks are the moved blocks.
use Rattle.std.proofs.Common.{◌≡◌, ℕ, ◌==◌, Bool, List, [], ◌∷◌, map, refl, ap, ◌∙◌, rules}
use Rattle.std.specs.Prelude.{filter, not}
use Rattle.std.specs.List.{flat_map, list_any}
use Rattle.std.proofs.lemmas.List.{map-append}
use Rattle.hc_records.specs.Line.{Member}
use Rattle.hc_registers.specs.Blocks.{LineBlock, line_blocks, member_blocks, same_block}
use Rattle.hc_registers.specs.Ranked.{RankedBlock, member_ranked, ranked, ranked_blocks}
use Rattle.hc_registers.specs.RankLaws.{RankedAreMoved}

abbrev founds : List RankedBlock → List LineBlock
founds blocks = map (λ block. block.found) blocks

own-founds : (rank : ℕ) (blocks : List LineBlock) → founds (map (ranked rank) blocks) ≡ blocks
own-founds rank [] = refl
own-founds rank (block ∷ blocks) = ap (λ (rest : List LineBlock). block ∷ rest) (own-founds rank blocks)

members-founds : (line members : List Member) → founds (flat_map (member_ranked line) members) ≡ flat_map (member_blocks line) members
members-founds line [] = refl
members-founds line (member ∷ members) = search (rules, map-append, own-founds, members-founds line members)

-- the blocks of a line with their ranks are its blocks
ranked-are-blocks : (line : List Member) → founds (ranked_blocks line) ≡ line_blocks line
ranked-are-blocks line = members-founds line line

filter-founds : (test : LineBlock → Bool) (blocks : List RankedBlock) → founds (filter (λ block. test block.found) blocks) ≡ filter test (founds blocks)
filter-founds test [] = refl
filter-founds test (block ∷ blocks) = search (rules, filter-founds test blocks)

pub ranked-are-moved : RankedAreMoved
ranked-are-moved old new =
    let test : LineBlock → Bool = λ block. not (list_any (same_block block) (line_blocks old)) in
    filter-founds test (ranked_blocks new) ∙ ap (filter test) (ranked-are-blocks new)

-- each block of a line is one of its blocks, so that none has moved if the line is the same
