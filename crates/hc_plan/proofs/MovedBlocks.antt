-- The blocks that an edit moves are those of its candidates that aren't stored at their places.
use Rattle.std.proofs.Common.{◌≡◌, ℕ, ◌+◌, ◌*◌, ◌<◌, ◌≤◌, ◌==◌, ◌&&◌, Bool, true, false, cond, List, [], ◌∷◌, length, get_or, Contains, Option, Some, None, arith, refl, sym, ap, subst, ◌∙◌, rules}
use Rattle.std.specs.Prelude.{All, find, map, not, option_and_then, option_map, slice_get}
use Rattle.std.specs.List.{enumerate_from, flat_map}
use Rattle.std.specs.Option.{option_map_or}
use Rattle.std.proofs.lemmas.Bool.{eq-eqb}
use Rattle.std.proofs.lemmas.List.Elements.{All-contains_itself, All-map, All-weaker}
use Rattle.std.proofs.lemmas.List.Folds.{flat_map-map}
use Rattle.hc_records.specs.declared.records.Area.{Area}
use Rattle.hc_records.specs.declared.records.Declared.{Declared}
use Rattle.hc_records.specs.Line.{Member, line_from}
use Rattle.hc_registers.specs.Blocks.{LineBlock, RegisterBlock, fmmu_block, mapping_of, same_block, same_bytes, slave_blocks, sync_manager_block}
use Rattle.hc_registers.specs.RankPlaces.{place}
use Rattle.hc_registers.specs.Ranked.{RankedBlock, moved_ranked, ranked}
use Rattle.hc_cuts.specs.LineChange.{changes}
use Rattle.hc_changes.specs.MaybeMovedAreas.{LineArea, MaybeMoved, is_maybe_moved, line_area_blocks, line_area_key, line_areas, maybe_moved_areas, maybe_moved_of}
use Rattle.hc_changes.specs.Compared.{counterpart, differing_of, unlike}
use Rattle.hc_changes.specs.EditedLine.{EditedLine, IsEditedLine, maybe_moved_areas_of}
use Rattle.hc_changes.proofs.lemmas.Blocks.{ranked_by}
use Rattle.hc_changes.proofs.lemmas.Compared.{StoodAt, all-compared, area-stood, flat_map-among}
use Rattle.hc_changes.proofs.lemmas.Lists.{contains-unfiltered}
use Rattle.hc_changes.proofs.lemmas.OneProject.{AreOfOneProject, edit-one-project}
use Rattle.hc_changes.proofs.lemmas.Others.{IsAreaOf, line-area}
use Rattle.hc_plan.specs.RegisterBlocks.{blocks_by_rank, has_at}
use Rattle.hc_plan.specs.inner.MovedBlocks.{IsWritableArea, blocks_moved}
use Rattle.hc_plan.proofs.LookUps.{stored-by}
use Rattle.hc_plan.proofs.Mapped.{area-writable, early, ranked-from}
use Rattle.hc_plan.proofs.Numbered.{get-first, get-numbered-from-0, get-second}

-- the blocks of each candidate can be written
pub candidates-writable : (it : EditedLine) → IsEditedLine it → All IsWritableArea (maybe_moved_areas_of it)
candidates-writable it is =
    let new = line_from 1 it.new in
    let test = is_maybe_moved (changes it.change) (line_from 1 it.old) new in
    let all = maybe_moved_areas (changes it.change) (line_from 1 it.old) new in
    All-map IsWritableArea (maybe_moved_of new) all
    (All-weaker (Contains all) (λ found. IsWritableArea (maybe_moved_of new found))
    (λ found at.
    let of = line-area new found (contains-unfiltered test (line_areas new) found at) in
    record { rank = ranked-from it.new found of; blocks = area-writable it.new is.is_project found of })
    all (All-contains_itself all))

pub writable-at : (it : EditedLine) (candidates : List MaybeMoved) (i : ℕ) (candidate : MaybeMoved) → IsEditedLine it → candidates ≡ maybe_moved_areas_of it → i < length candidates → candidate ≡ get_or candidates i candidate
    → IsWritableArea candidate
writable-at it candidates i candidate is all within met = search (rules, candidates-writable)

-- at a candidate's places are the blocks of the area that its slave had at its index

abbrev area_at : Member → ℕ → Area → LineArea
area_at member index area = record { member = member; index = index; area = area }

abbrev second_of : List Member → LineArea → RegisterBlock
second_of line was = fmmu_block was.index was.area (mapping_of line was.area.task (line_area_key was))

first-there : (member : Member) (index : ℕ) (area : Option Area)
    → option_map (λ (e : ℕ × Area). sync_manager_block e.1) (option_map (λ a. (index, a)) area) ≡ option_map (λ (was : LineArea). sync_manager_block was.area) (option_map (area_at member index) area)
first-there member index None = refl
first-there member index (Some area) = refl

second-there : (line : List Member) (member : Member) (index : ℕ) (area : Option Area)
    → option_map (λ (e : ℕ × Area). second_of line (area_at member e.0 e.1)) (option_map (λ a. (index, a)) area) ≡ option_map (second_of line) (option_map (area_at member index) area)
second-there line member index None = refl
second-there line member index (Some area) = refl

first-stored : (groups : List Declared) (found : LineArea) → 1 ≤ found.member.rank → found.index < 8
    → has_at (blocks_by_rank groups) (place found.member.rank (2 * found.index)) ≡ option_map (λ (was : LineArea). sync_manager_block was.area) (counterpart (line_from 1 groups) found)
first-stored groups found from low =
    stored-by groups found.member.rank (2 * found.index) from (omega (arith, low)) ∙ by (find (λ (m : Member). m.rank == found.member.rank) line)
  where
    line : List Member
    line = line_from 1 groups

    by : (member : Option Member) → option_and_then (λ (m : Member). slice_get (slave_blocks line m) (2 * found.index)) member
        ≡ option_map (λ (was : LineArea). sync_manager_block was.area) (option_and_then (λ (m : Member). option_map (area_at m found.index) (slice_get m.slave.areas found.index)) member)
    by None = refl
    by (Some m) =
        get-first (λ (e : ℕ × Area). sync_manager_block e.1) (λ (e : ℕ × Area). second_of line (area_at m e.0 e.1)) (enumerate_from 0 m.slave.areas) found.index (2 * found.index) refl
        ∙ ap (option_map (λ (e : ℕ × Area). sync_manager_block e.1)) (get-numbered-from-0 m.slave.areas found.index)
        ∙ first-there m found.index (slice_get m.slave.areas found.index)

second-stored : (groups : List Declared) (found : LineArea) → 1 ≤ found.member.rank → found.index < 8
    → has_at (blocks_by_rank groups) (place found.member.rank (2 * found.index + 1)) ≡ option_map (second_of (line_from 1 groups)) (counterpart (line_from 1 groups) found)
second-stored groups found from low =
    stored-by groups found.member.rank (2 * found.index + 1) from (omega (arith, low)) ∙ by (find (λ (m : Member). m.rank == found.member.rank) line)
  where
    line : List Member
    line = line_from 1 groups

    by : (member : Option Member) → option_and_then (λ (m : Member). slice_get (slave_blocks line m) (2 * found.index + 1)) member
        ≡ option_map (second_of line) (option_and_then (λ (m : Member). option_map (area_at m found.index) (slice_get m.slave.areas found.index)) member)
    by None = refl
    by (Some m) =
        get-second (λ (e : ℕ × Area). sync_manager_block e.1) (λ (e : ℕ × Area). second_of line (area_at m e.0 e.1)) (enumerate_from 0 m.slave.areas) found.index (2 * found.index + 1) refl
        ∙ ap (option_map (λ (e : ℕ × Area). second_of line (area_at m e.0 e.1))) (get-numbered-from-0 m.slave.areas found.index)
        ∙ second-there line m found.index (slice_get m.slave.areas found.index)

-- those of two blocks that differ from two others, with a rank

and-known : (a b : Bool) → a ≡ true → (a && b) ≡ b
and-known a b is = search rules

same-station : (a b : LineBlock) → a.station ≡ b.station → same_block a b ≡ same_bytes a.block b.block
same-station a b station = and-known (a.station == b.station) (same_bytes a.block b.block) (eq-eqb a.station b.station station)

abbrev those : ℕ → LineBlock → LineBlock → Bool → Bool → List RankedBlock
those rank a b x y = cond (not x) (ranked rank a ∷ cond (not y) (ranked rank b ∷ []) []) (cond (not y) (ranked rank b ∷ []) [])

two-blocks : (rank : ℕ) (x y : Bool) (a b : LineBlock) → map (ranked rank) (cond x (cond y [] (b ∷ [])) (a ∷ cond y [] (b ∷ []))) ≡ those rank a b x y
two-blocks rank x y a b = search rules

unlike-blocks : (rank : ℕ) (a b c d : LineBlock) → a.station ≡ c.station → b.station ≡ d.station
    → map (ranked rank) (unlike (c ∷ d ∷ []) (a ∷ b ∷ [])) ≡ those rank a b (same_bytes a.block c.block) (same_bytes b.block d.block)
unlike-blocks rank a b c d first second = search (rules, two-blocks, same-station)

-- so a candidate gives those of its blocks that differ from the blocks with their numbers

module _ (it : EditedLine) (is : IsEditedLine it) where
  abbrev old : List Member
  old = line_from 1 it.old

  abbrev new : List Member
  new = line_from 1 it.new

  abbrev stored : List (Option RegisterBlock)
  stored = blocks_by_rank it.old

  one-project : AreOfOneProject old new
  one-project = subst (λ (groups : List Declared). AreOfOneProject old (line_from 1 groups)) (sym is.edited.leads) (edit-one-project it.old is.edited.edit is.was_project)

  blocks-by : (found : LineArea) → IsAreaOf new found → (was : Option LineArea) → counterpart old found ≡ was
      → map (ranked found.member.rank) (unlike (option_map_or (line_area_blocks old) was []) (line_area_blocks new found)) ≡ blocks_moved stored (maybe_moved_of new found)
  blocks-by found of was here =
      let rank = found.member.rank in
      let a : LineBlock = record { station = found.member.slave.station; number = 2 * found.index; block = sync_manager_block found.area } in
      let b : LineBlock = record { station = found.member.slave.station; number = 2 * found.index + 1; block = second_of new found } in
      let kept : Option RegisterBlock → Option RegisterBlock → List RankedBlock = λ w z. those rank a b (option_map_or (same_bytes a.block) w false) (option_map_or (same_bytes b.block) z false) in
      let from = ranked-from it.new found of in
      let low = early it.new is.is_project found of in
      let first = first-stored it.old found from low ∙ ap (option_map (λ (w : LineArea). sync_manager_block w.area)) here in
      let second = second-stored it.old found from low ∙ ap (option_map (second_of old)) here in
      let read : blocks_moved stored (maybe_moved_of new found) ≡ kept (option_map (λ (w : LineArea). sync_manager_block w.area) was) (option_map (second_of old) was) =
      ap (λ (w : Option RegisterBlock). kept w (has_at stored (place rank (2 * found.index + 1)))) first ∙ ap (kept (option_map (λ (w : LineArea). sync_manager_block w.area) was)) second in
      by was here a b refl refl ∙ sym read
    where
      by : (had : Option LineArea) → counterpart old found ≡ had → (a b : LineBlock) → a ≡ record { station = found.member.slave.station; number = 2 * found.index; block = sync_manager_block found.area }
          → b ≡ record { station = found.member.slave.station; number = 2 * found.index + 1; block = second_of new found }
          → map (ranked found.member.rank) (unlike (option_map_or (line_area_blocks old) had []) (line_area_blocks new found))
          ≡ those found.member.rank a b (option_map_or (same_bytes a.block) (option_map (λ (w : LineArea). sync_manager_block w.area) had) false) (option_map_or (same_bytes b.block) (option_map (second_of old) had) false)
      by None at a b first second = search rules
      by (Some had) at a b first second =
          let stood : StoodAt old found had = area-stood old found had at in
          let station : found.member.slave.station ≡ had.member.slave.station =
          sym (ap (λ (p : ℕ × List Area). p.0) (one-project.alike had.member found.member stood.of.member of.member stood.rank)) in
          let c : LineBlock = record { station = had.member.slave.station; number = 2 * had.index; block = sync_manager_block had.area } in
          let d : LineBlock = record { station = had.member.slave.station; number = 2 * had.index + 1; block = second_of old had } in
          rw (first, second) (unlike-blocks found.member.rank (record { station = found.member.slave.station; number = 2 * found.index; block = sync_manager_block found.area })
          (record { station = found.member.slave.station; number = 2 * found.index + 1; block = second_of new found }) c d station station)

  -- and those of the candidates are all

  compared : moved_ranked old new ≡ flat_map (ranked_by (differing_of old new)) (maybe_moved_areas (changes it.change) old new)
  compared = search (rules, all-compared)

  pub candidates-moved : flat_map (blocks_moved stored) (maybe_moved_areas_of it) ≡ moved_ranked old new
  candidates-moved =
      let changed = changes it.change in
      let all = maybe_moved_areas changed old new in
      flat_map-map (blocks_moved stored) (maybe_moved_of new) all
      ∙ sym (flat_map-among (ranked_by (differing_of old new)) (λ found. blocks_moved stored (maybe_moved_of new found)) all
      (All-weaker (Contains all) (λ found. ranked_by (differing_of old new) found ≡ blocks_moved stored (maybe_moved_of new found))
      (λ found at. blocks-by found (line-area new found (contains-unfiltered (is_maybe_moved changed old new) (line_areas new) found at)) (counterpart old found) refl)
      all (All-contains_itself all)))
      ∙ sym compared
