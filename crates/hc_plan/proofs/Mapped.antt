-- In the line of a project every area's blocks can be written, by the places that packing gives.
use Rattle.std.proofs.Common.{◌≡◌, Contains, ℕ, ◌<◌, ◌≤◌, List, Some, None, sym, ap, subst, ◌∙◌, arith, rules}
use Rattle.std.specs.Prelude.{All, option_map, slice_get}
use Rattle.std.specs.List.{enumerate_from}
use Rattle.std.proofs.lemmas.List.Elements.{All-contains}
use Rattle.std.proofs.lemmas.Option.{slice_get_within}
use Rattle.hc_records.specs.declared.records.Declared.{Declared}
use Rattle.hc_records.specs.Image.{task_places}
use Rattle.hc_records.specs.Keys.{same_key}
use Rattle.hc_records.specs.Laws.{IsPackable}
use Rattle.hc_records.specs.Limits.{IsAreaInside, IsSlaveInside}
use Rattle.hc_records.specs.Line.{Member, groups_of, line_from}
use Rattle.hc_records.specs.Packing.{Placed, empty_front}
use Rattle.hc_records.specs.Project.{lowest_fault}
use Rattle.hc_records.specs.TaskList.{Keyed, task_list}
use Rattle.hc_records.proofs.lemmas.Lists.{All-unmap}
use Rattle.hc_records.proofs.lemmas.Packable.{project-packable}
use Rattle.hc_records.proofs.lemmas.Packed.{area_of, packed-areas}
use Rattle.hc_records.proofs.lemmas.Slaves.{line-inside}
use Rattle.hc_places.specs.Layout.{layout_of}
use Rattle.hc_places.proofs.lemmas.Layouts.{placed-in-line}
use Rattle.hc_changes.specs.MaybeMovedAreas.{LineArea, line_area_key, line_area_place}
use Rattle.hc_changes.proofs.lemmas.Lists.{found-among}
use Rattle.hc_changes.proofs.lemmas.OneProject.{line-declared, own-at}
use Rattle.hc_changes.proofs.lemmas.Others.{IsAreaOf}
use Rattle.hc_changes.proofs.lemmas.PlacedWidths.{placed-width}
use Rattle.hc_changes.proofs.lemmas.Places.{area-inside}
use Rattle.hc_plan.specs.inner.Blocks.{IsMappedSlave, IsWritable}
use Rattle.hc_plan.proofs.Numbered.{get-numbered-from-0}
use Rattle.hc_plan.proofs.lemmas.Configured.{at-contained}

placed-some : (groups : List Declared) → lowest_fault (groups_of groups) ≡ None → (found : LineArea) → (placed : Placed) → line_area_place (line_from 1 groups) found ≡ Some placed
    → 0 < placed.bits
placed-some groups none found placed is =
    let task = found.area.task in
    let list = task_list task (line_from 1 groups) in
    let places = task_places task (line_from 1 groups) in
    let stood = found-among (λ (p : Placed). same_key p.key (line_area_key found)) places placed is in
    let packable : IsPackable (area_of placed) =
    All-contains (λ (p : Placed). IsPackable (area_of p)) places placed
    (All-unmap IsPackable area_of places (subst (λ (l : List Keyed). All IsPackable l) (sym (packed-areas empty_front list)) (project-packable (record { groups = groups; epoch = 0 }) task none))) stood.among in
    packable.some

pub early : (groups : List Declared) → lowest_fault (groups_of groups) ≡ None → (found : LineArea) → IsAreaOf (line_from 1 groups) found → found.index < 8
early groups none found of =
    let few = (All-contains (λ (m : Member). IsSlaveInside m.slave) (line_from 1 groups) found.member (line-inside groups none) of.member).few in
    let below = slice_get_within found.member.slave.areas found.index found.area (own-at found.member.slave.areas (found.index, found.area) of.own) in
    omega (arith, few, below)

pub ranked-from : (groups : List Declared) (found : LineArea) → IsAreaOf (line_from 1 groups) found → 1 ≤ found.member.rank
ranked-from groups found of =
    let here = line-declared 1 groups found.member of.member in
    let rank = here.rank in
    omega (arith, rank)

pub area-writable : (groups : List Declared) → lowest_fault (groups_of groups) ≡ None → (found : LineArea) → IsAreaOf (line_from 1 groups) found
    → IsWritable found.index found.area (line_area_place (line_from 1 groups) found)
area-writable groups none found of =
    let below = early groups none found of in
    let inside : IsAreaInside found.area = area-inside (record { groups = groups; epoch = 0 }) none found of in
    search (rules, placed-width, placed-some)

-- so can those of each slave of the line, by its layout
pub slave-mapped : (groups : List Declared) (j : ℕ) (member : Member) → lowest_fault (groups_of groups) ≡ None → slice_get (line_from 1 groups) j ≡ Some member
    → IsMappedSlave (layout_of (line_from 1 groups)) member
slave-mapped groups j member none at = record {
  few = (All-contains (λ (m : Member). IsSlaveInside m.slave) line member (line-inside groups none) on).few;
  areas = λ index area found.
      let numbered = get-numbered-from-0 member.slave.areas index ∙ ap (option_map (λ a. (index, a))) found in
      let own : LineArea = record { member = member; index = index; area = area } in
      let writable = area-writable groups none own (record { member = on; own = at-contained (enumerate_from 0 member.slave.areas) index (index, area) numbered }) in
      subst (IsWritable index area) (sym (placed-in-line line area.task (line_area_key own) writable.task)) writable;
}
  where
    line : List Member
    line = line_from 1 groups

    on : Contains line member
    on = at-contained line j member at
