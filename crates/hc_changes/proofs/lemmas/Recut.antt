-- The areas that are recut: none of a task that no edit touched, and none up to which its datagram is kept.
use Rattle.std.proofs.Common.{◌≡◌, ℕ, ◌+◌, ◌<◌, ◌≤◌, zero, suc, Bool, true, false, List, [], ◌∷◌, ◌++◌, length, Option, Some, None, refl, sym, ap, ◌∙◌, arith, rules}
use Rattle.std.specs.Prelude.{Contains, not, slice_get, ◌&&◌, ◌||◌}
use Rattle.std.specs.Option.{option_map_or}
use Rattle.std.specs.List.{list_any, zip}
use Rattle.std.proofs.lemmas.Bool.{and_from}
use Rattle.std.proofs.lemmas.List.Elements.{All-contains}
use Rattle.std.proofs.lemmas.List.Folds.{list_any_at}
use Rattle.std.proofs.lemmas.Option.{get_or_from_slice_get, slice_get_within}
use Rattle.hc_records.specs.declared.keys.Key.{Key}
use Rattle.hc_records.specs.declared.keys.TheConstants.Key.{START, END}
use Rattle.hc_records.specs.declared.records.Dir.TheVariants.{Out, In}
use Rattle.hc_records.specs.Boundaries.{Interval, boundaries, hull, is_settled, is_touched_task, later_keys, meets_hull, touched}
use Rattle.hc_records.specs.Image.{datagram_count, task_places}
use Rattle.hc_records.specs.Keys.{same_key}
use Rattle.hc_records.specs.Line.{Member, State, groups_of, line}
use Rattle.hc_records.specs.Packing.{Placed, empty_front, packed}
use Rattle.hc_records.specs.Project.{lowest_fault}
use Rattle.hc_records.specs.SpanLaws.{IsTaskList}
use Rattle.hc_records.specs.TaskList.{Keyed, task_list}
use Rattle.hc_records.proofs.lemmas.Cuts.{count-later_keys}
use Rattle.hc_records.proofs.lemmas.Greatest.{greatest-all}
use Rattle.hc_records.proofs.lemmas.KeyOrder.{same_key-refl, same_key-same}
use Rattle.hc_records.proofs.lemmas.TaskLists.{project-list}
use Rattle.hc_cuts.specs.Keeping.{begins_at, is_unchanged_up_to}
use Rattle.hc_changes.specs.MaybeMovedAreas.{LineArea, is_recut, line_area_key, line_area_place}
use Rattle.hc_changes.proofs.lemmas.Lists.{found-among}
use Rattle.hc_changes.proofs.lemmas.Tables.{no-length, untouched-lists}

-- a datagram of a list is kept by the same list, up to each key

span-at : (first : Key) (later : List Key) (datagram : ℕ) → datagram < length later + 1
    → (span : Interval) × (slice_get (zip (first ∷ (later ++ END ∷ [])) (later ++ END ∷ [])) datagram ≡ Some span) × (slice_get (first ∷ (later ++ END ∷ [])) datagram ≡ Some span.0)
span-at first [] zero low = ((first, END), refl, refl)
span-at first (next ∷ later) zero low = ((first, next), refl, refl)
span-at first [] (suc datagram) low = absurd (omega arith)
span-at first (next ∷ later) (suc datagram) low = span-at next later datagram (omega arith)

own-settled : (list : List Keyed) (span : Interval) (datagram : ℕ) → touched list list ≡ [] → slice_get (boundaries list) datagram ≡ Some span.0 → is_settled list list span ≡ true
own-settled list span datagram none begins =
    and_from (list_any (same_key span.0) (boundaries list)) (not (meets_hull (hull Out (touched list list)) span || meets_hull (hull In (touched list list)) span))
    (list_any_at (same_key span.0) (boundaries list) datagram span.0 (slice_get_within (boundaries list) datagram span.0 begins)
    (ap (same_key span.0) (get_or_from_slice_get (boundaries list) datagram span.0 span.0 begins) ∙ same_key-refl span.0))
    (ap (λ (keys : List Key). not (meets_hull (hull Out keys) span || meets_hull (hull In keys) span)) none)

pub own-counted : (list : List Keyed) (datagram : ℕ) → IsTaskList list → datagram < datagram_count (packed empty_front list) → datagram < length (later_keys list) + 1
own-counted [] datagram is low = absurd (omega arith)
own-counted (area ∷ areas) datagram is low = let count = count-later_keys area areas is.packable in omega arith

own-unchanged : (list : List Keyed) (datagram : ℕ) (key : Key) → IsTaskList list → touched list list ≡ [] → datagram < datagram_count (packed empty_front list)
    → is_unchanged_up_to list list datagram key ≡ true
own-unchanged list datagram key is none low =
    let found = span-at START (later_keys list) datagram (own-counted list datagram is low) in
    let span : Interval = found.0 in
    ap (λ (s : Option Interval). option_map_or (λ t. is_settled list list (t.0, key) && begins_at list datagram t.0) s false) found.1
    ∙ and_from (is_settled list list (span.0, key)) (begins_at list datagram span.0) (own-settled list (span.0, key) datagram none found.2)
    (ap (λ (k : Option Key). option_map_or (same_key span.0) k false) found.2 ∙ same_key-refl span.0)

-- an area of a task that no edit touched is not recut

unrecut-by : (old new : List Keyed) (placed : Option Placed) → ((p : Placed) → placed ≡ Some p → is_unchanged_up_to old new p.datagram p.key ≡ true)
    → option_map_or (λ p. not (is_unchanged_up_to old new p.datagram p.key)) placed false ≡ false
unrecut-by old new placed each = search rules

pub untouched-areas : (old new : State) (found : LineArea) → lowest_fault (groups_of old.groups) ≡ None → lowest_fault (groups_of new.groups) ≡ None
    → is_touched_task (line old) (line new) found.area.task ≡ false → is_recut (line old) (line new) found ≡ false
untouched-areas old new found was is none =
    let task = found.area.task in
    let before = task_list task (line old) in
    let after = task_list task (line new) in
    let same : before ≡ after = untouched-lists old new task was is none in
    let nothing : touched after after ≡ [] = ap (λ (list : List Keyed). touched list after) (sym same) ∙ no-length (touched before after) none in
    unrecut-by before after (line_area_place (line new) found)
    (λ placed at.
    let here = found-among (λ (p : Placed). same_key p.key (line_area_key found)) (packed empty_front after) placed at in
    let counted : placed.datagram + 1 ≤ datagram_count (packed empty_front after) =
    All-contains (λ (p : Placed). p.datagram + 1 ≤ datagram_count (packed empty_front after)) (packed empty_front after) placed (greatest-all (λ (p : Placed). p.datagram + 1) 0 (packed empty_front after)) here.among in
    ap (λ (list : List Keyed). is_unchanged_up_to list after placed.datagram placed.key) same
    ∙ own-unchanged after placed.datagram placed.key (project-list new task is) nothing (omega arith))

-- a recut area of a line is in a datagram that was not kept up to it
pub record IsUnkeptAt (old new : List Member) (found : LineArea) : Type 0 where
  pub placed : Placed
  pub is_placed : Contains (task_places found.area.task new) placed
  pub key : placed.key ≡ line_area_key found
  pub unkept : is_unchanged_up_to (task_list found.area.task old) (task_list found.area.task new) placed.datagram placed.key ≡ false

unkept-by : (old new : List Member) (found : LineArea) (place : Option Placed) → line_area_place new found ≡ place
    → option_map_or (λ placed. not (is_unchanged_up_to (task_list found.area.task old) (task_list found.area.task new) placed.datagram placed.key)) place false ≡ true → IsUnkeptAt old new found
unkept-by old new found None at is = cc
unkept-by old new found (Some placed) at is =
    let here = found-among (λ (p : Placed). same_key p.key (line_area_key found)) (task_places found.area.task new) placed at in
    record {
      placed = placed;
      is_placed = here.among;
      key = same_key-same placed.key (line_area_key found) here.passes;
      unkept = not-true-false (is_unchanged_up_to (task_list found.area.task old) (task_list found.area.task new) placed.datagram placed.key) is;
    }
  where
    not-true-false : (b : Bool) → not b ≡ true → b ≡ false
    not-true-false true is = cc
    not-true-false false is = refl

pub recut-unkept : (old new : List Member) (found : LineArea) → is_recut old new found ≡ true → IsUnkeptAt old new found
recut-unkept old new found is = unkept-by old new found (line_area_place new found) refl is
