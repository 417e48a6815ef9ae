-- A block of an area was one of the old line exactly if it is the one that had its number.
use Rattle.std.proofs.Common.{◌≡◌, ℕ, ◌+◌, ◌*◌, ◌<◌, ◌==◌, Bool, true, false, cond, List, [], ◌∷◌, length, Contains, Option, Some, None, refl, sym, ap, subst, ◌∙◌, ⊎_elim, ◌⊎◌, arith, rules}
use Rattle.std.specs.Prelude.{All, AllPairs, find, map, not, option_and_then, option_map, slice_get}
use Rattle.std.specs.Option.{option_map_or}
use Rattle.std.specs.List.{flat_map, list_any}
use Rattle.std.proofs.lemmas.Bool.{and_parts, eqb-true}
use Rattle.std.proofs.lemmas.List.{length-map}
use Rattle.std.proofs.lemmas.List.Elements.{All-contains, All-contains_itself, All-head, All-tail, All-weaker}
use Rattle.std.proofs.lemmas.List.Folds.{Any-from_list_any, list_any_at}
use Rattle.std.proofs.lemmas.Option.{slice_get-map, slice_get_within}
use Rattle.hc_records.specs.declared.edit.Edit.{Edit}
use Rattle.hc_records.specs.declared.records.Area.{Area}
use Rattle.hc_records.specs.declared.records.Declared.{Declared}
use Rattle.hc_records.specs.Edits.{groups_after}
use Rattle.hc_records.specs.Limits.{IsSlaveInside}
use Rattle.hc_records.specs.Line.{Member, groups_of, line_from}
use Rattle.hc_records.specs.Project.{lowest_fault}
use Rattle.hc_records.proofs.lemmas.Finds.{mapped-some}
use Rattle.hc_records.proofs.lemmas.Lines.{RanksBelow, line-ascends}
use Rattle.hc_records.proofs.lemmas.Slaves.{line-inside}
use Rattle.hc_registers.specs.Blocks.{LineBlock, fmmu_block, line_blocks, mapping_of, same_block, sync_manager_block}
use Rattle.hc_registers.specs.Ranked.{moved_ranked, ranked}
use Rattle.hc_changes.specs.MaybeMovedAreas.{DifferAt, LineArea, line_area_blocks, maybe_moved_areas, is_maybe_moved, line_areas, moved_of}
use Rattle.hc_changes.specs.Compared.{counterpart, differing_of, unlike}
use Rattle.hc_changes.proofs.lemmas.Bare.{bare}
use Rattle.hc_changes.proofs.lemmas.Blocks.{blocks-of-areas, ranked_by}
use Rattle.hc_changes.proofs.lemmas.Lists.{contains-after_it, contains-first, contains-flat_map, contains-unfiltered, flat_map-piece, found-among}
use Rattle.hc_changes.proofs.lemmas.Moved.{moved-answer_given}
use Rattle.hc_changes.proofs.lemmas.OneProject.{AreOfOneProject, at-own, edit-one-project, one-index, own-at}
use Rattle.hc_changes.proofs.lemmas.Others.{IsAreaOf, AreAlike, area-is_placed, line-area, member-found}

-- the area of a line at the position of another area

pub area-found : (line : List Member) (found was : LineArea) → AllPairs RanksBelow line → IsAreaOf line was → was.member.rank ≡ found.member.rank → was.index ≡ found.index → counterpart line found ≡ Some was
area-found line found was ranks of rank index =
    let make : ℕ → Member → Option LineArea = λ i m. option_map (λ a. record { member = m; index = i; area = a }) (slice_get m.slave.areas i) in
    ap (λ (n : ℕ). option_and_then (make found.index) (find (λ (m : Member). m.rank == n) line)) (sym rank)
    ∙ ap (option_and_then (make found.index)) (member-found line was.member ranks of.member)
    ∙ ap (λ (i : ℕ). make i was.member) (sym index)
    ∙ ap (option_map (λ (a : Area). record { member = was.member; index = was.index; area = a })) (own-at was.member.slave.areas (was.index, was.area) of.own)

pub record StoodAt (line : List Member) (found was : LineArea) : Type 0 where
  pub of : IsAreaOf line was
  pub rank : was.member.rank ≡ found.member.rank
  pub index : was.index ≡ found.index

stood-by : (line : List Member) (found was : LineArea) (member : Option Member) → find (λ (m : Member). m.rank == found.member.rank) line ≡ member
    → option_and_then (λ m. option_map (λ a. record { member = m; index = found.index; area = a }) (slice_get m.slave.areas found.index)) member ≡ Some was → StoodAt line found was
stood-by line found was member at is = search (rules, found-among, mapped-some, at-own, eqb-true)

pub area-stood : (line : List Member) (found was : LineArea) → counterpart line found ≡ Some was → StoodAt line found was
area-stood line found was is = stood-by line found was (find (λ (m : Member). m.rank == found.member.rank) line) refl is

-- the two blocks of an area

abbrev first_block : LineArea → LineBlock
first_block found = record { station = found.member.slave.station; number = 2 * found.index; block = sync_manager_block found.area }

abbrev second_block : List Member → LineArea → LineBlock
second_block line found =
    record {
      station = found.member.slave.station;
      number = 2 * found.index + 1;
      block = fmmu_block found.index found.area (mapping_of line found.area.task (record { dir = found.area.dir; rank = found.member.rank; area = found.index }));
    }

one-of-two : {X : Type 0} (a b x : X) → Contains (a ∷ b ∷ []) x → (a ≡ x) ⊎ (b ≡ x)
one-of-two a b x at = search rules

same-parts : (a b : LineBlock) → same_block a b ≡ true → (a.station ≡ b.station) × (a.block.register ≡ b.block.register)
same-parts a b same = search (rules, and_parts, eqb-true)

-- two blocks; each was there or wasn't

iff : (p q : Bool) → (p ≡ true → q ≡ true) → (q ≡ true → p ≡ true) → p ≡ q
iff p q to from = search rules

none-had : (p q : Bool) (a b : LineBlock) → (p ≡ true → false ≡ true) → (q ≡ true → false ≡ true)
    → cond (not p) (a ∷ cond (not q) (b ∷ []) []) (cond (not q) (b ∷ []) []) ≡ a ∷ b ∷ []
none-had p q a b first second = search rules

both-unchanged : (x y : Bool) (a b : LineBlock)
    → cond (not x) (a ∷ cond (not y) (b ∷ []) []) (cond (not y) (b ∷ []) []) ≡ cond x (cond y [] (b ∷ [])) (a ∷ cond y [] (b ∷ []))
both-unchanged x y a b = search rules

both-had : (p q x y : Bool) (a b : LineBlock) → p ≡ x → q ≡ y
    → cond (not p) (a ∷ cond (not q) (b ∷ []) []) (cond (not q) (b ∷ []) []) ≡ cond x (cond y [] (b ∷ [])) (a ∷ cond y [] (b ∷ []))
both-had p q x y a b first second = search (rules, both-unchanged)

-- blocks of two lines of one project at one register of one slave are of areas that are alike, and both are the first or both the second
module _ (old new : List Member) (one : AreOfOneProject old new) (inside : All (λ member. IsSlaveInside member.slave) old) where
  same-areas : (found was : LineArea) → IsAreaOf new found → IsAreaOf old was → found.member.slave.station ≡ was.member.slave.station
      → (was.member.rank ≡ found.member.rank) × (map bare was.member.slave.areas ≡ map bare found.member.slave.areas)
  same-areas found was of of' station =
      let rank = one.ranks was.member found.member of'.member of.member (sym station) in
      (rank, ap (λ (p : ℕ × List Area). p.1) (one.alike was.member found.member of'.member of.member rank))

  few-areas : (was : LineArea) → IsAreaOf old was → was.index < 8
  few-areas was of =
      let few = (All-contains (λ (m : Member). IsSlaveInside m.slave) old was.member inside of.member).few in
      let below = slice_get_within was.member.slave.areas was.index was.area (own-at was.member.slave.areas (was.index, was.area) of.own) in
      omega arith

  few-found : (found was : LineArea) → IsAreaOf new found → IsAreaOf old was → found.member.slave.station ≡ was.member.slave.station → found.index < 8
  few-found found was of of' station =
      let few = (All-contains (λ (m : Member). IsSlaveInside m.slave) old was.member inside of'.member).few in
      let below = slice_get_within found.member.slave.areas found.index found.area (own-at found.member.slave.areas (found.index, found.area) of.own) in
      let count : length was.member.slave.areas ≡ length found.member.slave.areas =
      sym (length-map was.member.slave.areas bare) ∙ ap length (same-areas found was of of' station).1 ∙ length-map found.member.slave.areas bare in
      omega arith

  both-first : (found was : LineArea) → IsAreaOf new found → IsAreaOf old was → same_block (first_block found) (first_block was) ≡ true → AreAlike was found
  both-first found was of of' same =
      let parts = same-parts (first_block found) (first_block was) same in
      let alike = same-areas found was of of' parts.0 in
      let own = own-at found.member.slave.areas (found.index, found.area) of.own in
      let before = mapped-some bare (slice_get was.member.slave.areas found.index) (bare found.area)
      (sym (slice_get-map bare was.member.slave.areas found.index) ∙ ap (λ (l : List Area). slice_get l found.index) alike.1
      ∙ slice_get-map bare found.member.slave.areas found.index ∙ ap (option_map bare) own) in
      let managers = (All-contains (λ (m : Member). IsSlaveInside m.slave) old was.member inside of'.member).managers in
      let manager : before.0.sm ≡ was.area.sm = search rules in
      record {
        rank = alike.0;
        index = sym (one-index (λ (a : Area). a.sm) was.member.slave.areas found.index was.index before.0 was.area managers before.1
            (own-at was.member.slave.areas (was.index, was.area) of'.own) manager);
      }

  both-second : (found was : LineArea) → IsAreaOf new found → IsAreaOf old was → same_block (second_block new found) (second_block old was) ≡ true → AreAlike was found
  both-second found was of of' same =
      let parts = same-parts (second_block new found) (second_block old was) same in
      record { rank = (same-areas found was of of' parts.0).0; index = omega arith }

  never-first : (found was : LineArea) → IsAreaOf new found → IsAreaOf old was → same_block (first_block found) (second_block old was) ≡ true → ⊥
  never-first found was of of' same = search (rules, same-parts, few-areas)

  never-second : (found was : LineArea) → IsAreaOf new found → IsAreaOf old was → same_block (second_block new found) (first_block was) ≡ true → ⊥
  never-second found was of of' same = search (rules, same-parts, few-found)

  -- what a block of the old line that is the same as another is
  record IsFound (block : LineBlock) : Type 0 where
    was : LineArea
    of : IsAreaOf old was
    same : (same_block block (first_block was) ≡ true) ⊎ (same_block block (second_block old was) ≡ true)

  found-any : (block : LineBlock) → list_any (same_block block) (line_blocks old) ≡ true → IsFound block
  found-any block is =
      let some = Any-from_list_any (same_block block) (line_blocks old) is in
      let other : LineBlock = some.1 in
      let stood : Contains (line_blocks old) other = (some.0, some.2, some.3) in
      let piece = flat_map-piece (line_area_blocks old) (line_areas old) other (subst (λ (blocks : List LineBlock). Contains blocks other) (blocks-of-areas old) stood) in
      record {
        was = piece.element;
        of = line-area old piece.element piece.among;
        same = search (rules, one-of-two);
      }

  any-from : (block : LineBlock) (was : LineArea) (other : LineBlock) → IsAreaOf old was → Contains (line_area_blocks old was) other → same_block block other ≡ true → list_any (same_block block) (line_blocks old) ≡ true
  any-from block was other of own same =
      let at = subst (λ (blocks : List LineBlock). Contains blocks other) (sym (blocks-of-areas old)) (contains-flat_map (line_area_blocks old) (line_areas old) was other (area-is_placed old was of) own) in
      list_any_at (same_block block) (line_blocks old) at.0 other at.1 (subst (λ (b : LineBlock). same_block block b ≡ true) (sym at.2) same)

  -- if no area was there, no block was one of the old line
  none-any : (found : LineArea) (block : LineBlock) → AllPairs RanksBelow old → counterpart old found ≡ None
      → ((was : LineArea) → IsAreaOf old was → same_block block (first_block was) ≡ true → AreAlike was found)
      → ((was : LineArea) → IsAreaOf old was → same_block block (second_block old was) ≡ true → AreAlike was found)
      → list_any (same_block block) (line_blocks old) ≡ true → false ≡ true
  none-any found block ranks none first second is =
      let some = found-any block is in
      let alike = ⊎_elim (first some.was some.of) (second some.was some.of) some.same in
      let there = area-found old found some.was ranks some.of alike.rank alike.index in
      cc

  -- if an area was there, it is the one that was found
  alone : (found was other : LineArea) → AllPairs RanksBelow old → counterpart old found ≡ Some was → IsAreaOf old other → AreAlike other found → other ≡ was
  alone found was other ranks is of alike =
      let there = area-found old found other ranks of alike.rank alike.index in
      cc

  first-any : (found was : LineArea) → AllPairs RanksBelow old → IsAreaOf new found → counterpart old found ≡ Some was
      → list_any (same_block (first_block found)) (line_blocks old) ≡ true → same_block (first_block found) (first_block was) ≡ true
  first-any found was ranks of is any =
      let some = found-any (first_block found) any in
      ⊎_elim
      (λ own. let same = alone found was some.was ranks is some.of (both-first found some.was of some.of own) in
      subst (λ (w : LineArea). same_block (first_block found) (first_block w) ≡ true) same own)
      (λ own. absurd (never-first found some.was of some.of own))
      some.same

  second-any : (found was : LineArea) → AllPairs RanksBelow old → IsAreaOf new found → counterpart old found ≡ Some was
      → list_any (same_block (second_block new found)) (line_blocks old) ≡ true → same_block (second_block new found) (second_block old was) ≡ true
  second-any found was ranks of is any =
      let some = found-any (second_block new found) any in
      ⊎_elim
      (λ own. absurd (never-second found some.was of some.of own))
      (λ own. let same = alone found was some.was ranks is some.of (both-second found some.was of some.of own) in
      subst (λ (w : LineArea). same_block (second_block new found) (second_block old w) ≡ true) same own)
      some.same

  compared-by : (found : LineArea) (was : Option LineArea) → AllPairs RanksBelow old → IsAreaOf new found → counterpart old found ≡ was
      → moved_of old new found ≡ unlike (option_map_or (line_area_blocks old) was []) (line_area_blocks new found)
  compared-by found None ranks of is =
      none-had (list_any (same_block (first_block found)) (line_blocks old)) (list_any (same_block (second_block new found)) (line_blocks old)) (first_block found) (second_block new found)
      (none-any found (first_block found) ranks is (λ was of' own. both-first found was of of' own) (λ was of' own. absurd (never-first found was of of' own)))
      (none-any found (second_block new found) ranks is (λ was of' own. absurd (never-second found was of of' own)) (λ was of' own. both-second found was of of' own))
  compared-by found (Some was) ranks of is =
      let stood = (area-stood old found was is).of in
      search (rules, both-had, iff, first-any, any-from, contains-first, second-any, contains-after_it)

pub compared : (groups : List Declared) (edit : Edit) (found : LineArea) → lowest_fault (groups_of groups) ≡ None → Contains (line_areas (line_from 1 (groups_after groups edit))) found
    → moved_of (line_from 1 groups) (line_from 1 (groups_after groups edit)) found ≡ differing_of (line_from 1 groups) (line_from 1 (groups_after groups edit)) found
compared groups edit found none at = search (rules, compared-by, edit-one-project, line-inside, line-ascends, line-area)

-- so the blocks that an edit moved are given by the candidates, each compared with the one that had its
-- number

pub flat_map-among : {X Y : Type 0} (f g : X → List Y) (xs : List X) → All (λ x. f x ≡ g x) xs → flat_map f xs ≡ flat_map g xs
flat_map-among f g [] all = refl
flat_map-among f g (x ∷ xs) all = search (rules, All-head, All-tail, flat_map-among f g xs (All-tail (λ y. f y ≡ g y) x xs all))

pub all-compared : (changed : ℕ → Bool) (groups : List Declared) (edit : Edit) → lowest_fault (groups_of groups) ≡ None → lowest_fault (groups_of (groups_after groups edit)) ≡ None
    → DifferAt changed (line_from 1 groups) (line_from 1 (groups_after groups edit))
    → moved_ranked (line_from 1 groups) (line_from 1 (groups_after groups edit))
    ≡ flat_map (ranked_by (differing_of (line_from 1 groups) (line_from 1 (groups_after groups edit))))
    (maybe_moved_areas changed (line_from 1 groups) (line_from 1 (groups_after groups edit)))
all-compared changed groups edit none none' differ =
    let old = line_from 1 groups in
    let new = line_from 1 (groups_after groups edit) in
    moved-answer_given changed (record { groups = groups; epoch = 0 }) (record { groups = groups_after groups edit; epoch = 0 }) none none' differ
    ∙ flat_map-among (ranked_by (moved_of old new)) (ranked_by (differing_of old new)) (maybe_moved_areas changed old new)
    (All-weaker (Contains (maybe_moved_areas changed old new)) (λ found. ranked_by (moved_of old new) found ≡ ranked_by (differing_of old new) found)
    (λ found at. ap (map (ranked found.member.rank)) (compared groups edit found none (contains-unfiltered (is_maybe_moved changed old new) (line_areas new) found at)))
    (maybe_moved_areas changed old new) (All-contains_itself (maybe_moved_areas changed old new)))
