-- The blocks of a line are its areas', and so are they with the ranks of their slaves.
use Rattle.std.proofs.Common.{◌≡◌, ℕ, ◌+◌, ◌*◌, List, [], ◌∷◌, ◌++◌, map, refl, sym, ap, ◌∙◌, rules}
use Rattle.std.specs.List.{enumerate_from, flat_map}
use Rattle.std.proofs.lemmas.List.Folds.{flat_map-map}
use Rattle.hc_records.specs.declared.records.Area.{Area}
use Rattle.hc_records.specs.declared.keys.Key.{Key}
use Rattle.hc_records.specs.Line.{Member}
use Rattle.hc_records.proofs.lemmas.Choices.{flat_map-flat_map}
use Rattle.hc_registers.specs.Blocks.{LineBlock, RegisterBlock, fmmu_block, line_blocks, mapping_of, member_blocks, numbered, sync_manager_block}
use Rattle.hc_registers.specs.Ranked.{RankedBlock, member_ranked, ranked, ranked_blocks}
use Rattle.hc_changes.specs.MaybeMovedAreas.{LineArea, areas_of, line_area_blocks, line_areas}
use Rattle.hc_changes.proofs.lemmas.Lists.{map-flat_map}

-- of a slave whose areas from an index on give two blocks each
pairs-numbered : (station index : ℕ) (first second : ℕ × Area → RegisterBlock) (areas : List Area)
    → numbered station (2 * index) (flat_map (λ e. first e ∷ second e ∷ []) (enumerate_from index areas))
    ≡ flat_map (λ e. numbered station (2 * e.0) (first e ∷ second e ∷ [])) (enumerate_from index areas)
pairs-numbered station index first second [] = refl
pairs-numbered station index first second (area ∷ areas) = search (rules, pairs-numbered station (index + 1) first second areas)

pub flat_map-alike : {X Y : Type 0} (f g : X → List Y) → ((x : X) → f x ≡ g x) → (xs : List X) → flat_map f xs ≡ flat_map g xs
flat_map-alike f g same [] = refl
flat_map-alike f g same (x ∷ xs) = ap (λ (ys : List _). ys ++ flat_map f xs) (same x) ∙ ap (λ (ys : List _). g x ++ ys) (flat_map-alike f g same xs)

member-blocks : (line : List Member) (member : Member) → member_blocks line member ≡ flat_map (line_area_blocks line) (areas_of member)
member-blocks line member =
    let key : ℕ × Area → Key = λ e. record { dir = e.1.dir; rank = member.rank; area = e.0 } in
    pairs-numbered member.slave.station 0 (λ e. sync_manager_block e.1) (λ e. fmmu_block e.0 e.1 (mapping_of line e.1.task (key e))) member.slave.areas
    ∙ sym (flat_map-map (line_area_blocks line) (λ (e : ℕ × Area). record { member = member; index = e.0; area = e.1 }) (enumerate_from 0 member.slave.areas))

pub blocks-of-areas : (line : List Member) → line_blocks line ≡ flat_map (line_area_blocks line) (line_areas line)
blocks-of-areas line = search (rules, flat_map-alike, member-blocks, flat_map-flat_map)

-- what is said of the blocks of an area, with the rank of its slave
abbrev pub ranked_by : (LineArea → List LineBlock) → LineArea → List RankedBlock
ranked_by blocks found = map (ranked found.member.rank) (blocks found)

member-ranked : (line : List Member) (member : Member) → member_ranked line member ≡ flat_map (ranked_by (line_area_blocks line)) (areas_of member)
member-ranked line member = search (rules, member-blocks, map-flat_map, flat_map-map)

pub ranked-of-areas : (line : List Member) → ranked_blocks line ≡ flat_map (ranked_by (line_area_blocks line)) (line_areas line)
ranked-of-areas line = search (rules, flat_map-alike, member-ranked, flat_map-flat_map)
