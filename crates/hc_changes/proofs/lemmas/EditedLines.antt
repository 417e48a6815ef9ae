-- The slaves that a change concerns are those in which the lines before it and after it differ.
use Rattle.std.proofs.Common.{◌≡◌, ℕ, zero, suc, ◌+◌, ◌<◌, ◌≤◌, Bool, true, false, not, List, [], ◌∷◌, ◌++◌, Option, None, length, refl, sym, ap, ◌∙◌, arith, if◌then◌else◌, rules}
use Rattle.std.specs.Prelude.{◌&&◌, IfNone, IfSome, Some, is_some, map, slice_index_or}
use Rattle.std.proofs.lemmas.Bool.{le-ltb, lt-ltb}
use Rattle.std.proofs.lemmas.List.{length-map, map-append}
use Rattle.std.proofs.lemmas.Grind.{common_steps}
use Rattle.hc_records.specs.declared.records.Area.{Area}
use Rattle.hc_records.specs.declared.records.Slave.{Slave}
use Rattle.hc_records.specs.declared.records.Declared.{Declared}
use Rattle.hc_records.specs.Line.{groups_of, line_from}
use Rattle.hc_records.specs.Project.{lowest_fault}
use Rattle.hc_groups.specs.declared.prepared.Prepared.{Prepared}
use Rattle.hc_groups.specs.Changes.{changed_groups}
use Rattle.hc_groups.specs.Rows.{ChangesRow, Ranked, areas_in_line, by_rank, present_ranked, row}
use Rattle.hc_cuts.specs.Areas.{areas_of_rank, areas_by_rank}
use Rattle.hc_cuts.specs.ApplyWidths.{AreLines}
use Rattle.hc_cuts.proofs.lemmas.Projects.{project-line}
use Rattle.hc_changes.specs.MaybeMovedAreas.{DifferAt, slave_of}
use Rattle.hc_changes.specs.Edited.{HasEdit}
use Rattle.hc_cuts.specs.LineChange.{LineChange, changes}
use Rattle.hc_changes.specs.EditedLine.{EditedLine, IsEditedLine, edited_line_of, line_change_of}
use Rattle.hc_changes.proofs.lemmas.InARow.{index-front}
use Rattle.hc_changes.proofs.lemmas.Ranks.{line-slots, none-below, slot, slots}

-- what is said of each declared slave by rank, and of those of one group

pub answer_given-of : {X : Type 0} (say : Ranked → X) (own : Bool → Slave → X) → ((present : Bool) (slave : Slave) → own present slave ≡ say (record { present = present; slave = slave }))
    → (present : Bool) (slaves : List Slave) → map (own present) slaves ≡ map say (present_ranked present slaves)
answer_given-of say own same present [] = refl
answer_given-of say own same present (slave ∷ slaves) = search (rules, answer_given-of say own same present slaves)

areas-answer_given : (groups : List Declared) → areas_by_rank groups ≡ map areas_in_line (by_rank groups)
areas-answer_given [] = refl
areas-answer_given (declared ∷ groups) =
    let slaves = declared.group.slaves in
    ap (λ (own : List (List Area)). own ++ areas_by_rank groups)
    (answer_given-of areas_in_line (λ (present : Bool) (slave : Slave). if present then slave.areas else []) (λ present slave. refl) declared.present slaves)
    ∙ ap (λ (rest : List (List Area)). map areas_in_line (present_ranked declared.present slaves) ++ rest) (areas-answer_given groups)
    ∙ sym (map-append areas_in_line (present_ranked declared.present slaves) (by_rank groups))

abbrev seat : Ranked → Option Slave
seat it = slot it.present it.slave

slots-answer_given : (groups : List Declared) → slots groups ≡ map seat (by_rank groups)
slots-answer_given [] = refl
slots-answer_given (declared ∷ groups) =
    let slaves = declared.group.slaves in
    ap (λ (own : List (Option Slave)). own ++ slots groups) (answer_given-of seat slot (λ present slave. refl) declared.present slaves)
    ∙ ap (λ (rest : List (Option Slave)). map seat (present_ranked declared.present slaves) ++ rest) (slots-answer_given groups)
    ∙ sym (map-append seat (present_ranked declared.present slaves) (by_rank groups))

around : {X : Type 0} (say : Ranked → X) (all front row after_it : List Ranked) → all ≡ front ++ (row ++ after_it) → map say all ≡ map say front ++ (map say row ++ map say after_it)
around say all front row after_it is = search (rules, map-append)

-- the lines differ in the areas of these slaves alone
change-lines : (groups : List Declared) (change : Prepared) → lowest_fault (groups_of groups) ≡ None → lowest_fault (groups_of (changed_groups change groups)) ≡ None → ChangesRow change groups →
    AreLines (line_change_of change groups) (areas_by_rank groups) (areas_by_rank (changed_groups change groups))
change-lines groups change was is it =
    let front_many = length-map {B = List Area} it.front areas_in_line in
    record {
      front = map areas_in_line it.front;
      after_it = map areas_in_line it.after_it;
      rank = omega (arith, front_many);
      many = length-map (row change (changed_groups change groups)) areas_in_line ∙ it.many_after ∙ sym it.many_before ∙ sym (length-map (row change groups) areas_in_line);
      was = areas-answer_given groups ∙ around areas_in_line (by_rank groups) it.front (row change groups) it.after_it it.before;
      is = areas-answer_given (changed_groups change groups) ∙ around areas_in_line (by_rank (changed_groups change groups)) it.front (row change (changed_groups change groups)) it.after_it it.after;
      old_line = project-line groups was;
      new_line = project-line (changed_groups change groups) is;
    }

-- lists that differ in a stretch have the same outside of it
outside : {X : Type 0} (front one other after_it : List X) (i : ℕ) (none : X) → length other ≡ length one → (length front ≤ i → i < length front + length one → ⊥) →
    slice_index_or (front ++ (one ++ after_it)) i none ≡ slice_index_or (front ++ (other ++ after_it)) i none
outside front one other after_it i none many out = grind (arith, common_steps)

inside-by : (low high : Bool) → low ≡ false → high ≡ true → (not low && high) ≡ true
inside-by low high below above = search rules

-- a slave that isn't among them is in both lines with the same record, or in neither
change-differs : (groups : List Declared) (change : Prepared) → ChangesRow change groups → DifferAt (changes (line_change_of change groups)) (line_from 1 groups) (line_from 1 (changed_groups change groups))
change-differs groups change it zero unchanged = none-below 1 groups 0 (omega arith) ∙ sym (none-below 1 (changed_groups change groups) 0 (omega arith))
change-differs groups change it (suc i) unchanged =
    let after = changed_groups change groups in
    let rank : suc i ≡ 1 + i = omega arith in
    let first = it.first in
    let front_many = length-map {B = Option Slave} it.front seat in
    let own_many = length-map {B = Option Slave} (row change groups) seat in
    let areas_many = length-map {B = List Area} (row change groups) areas_in_line in
    let many : length (map seat (row change after)) ≡ length (map seat (row change groups)) = search (rules, length-map) in
    let out : length (map seat it.front) ≤ i → i < length (map seat it.front) + length (map seat (row change groups)) → ⊥ = search (rules, inside-by, le-ltb, lt-ltb) in
    ap (slave_of (line_from 1 groups)) rank
    ∙ line-slots 1 groups i
    ∙ ap (λ (list : List (Option Slave)). slice_index_or list i None) (slots-answer_given groups ∙ around seat (by_rank groups) it.front (row change groups) it.after_it it.before)
    ∙ outside (map seat it.front) (map seat (row change groups)) (map seat (row change after)) (map seat it.after_it) i None many out
    ∙ sym (ap (λ (list : List (Option Slave)). slice_index_or list i None) (slots-answer_given after ∙ around seat (by_rank after) it.front (row change after) it.after_it it.after))
    ∙ sym (line-slots 1 after i)
    ∙ sym (ap (slave_of (line_from 1 after)) rank)

pub change-edited_line : (groups : List Declared) (change : Prepared) → HasEdit groups (changed_groups change groups) → lowest_fault (groups_of groups) ≡ None → lowest_fault (groups_of (changed_groups change groups)) ≡ None → ChangesRow change groups →
    IsEditedLine (edited_line_of change groups)
change-edited_line groups change edited was is it = search (rules, change-lines, change-differs)

-- what these slaves have in the line, and the others

among-at : (slaves front own after_it : List (List Area)) (first i : ℕ) → slaves ≡ front ++ (own ++ after_it) → first ≡ length front + 1 → i < length own →
    areas_of_rank slaves (first + i) ≡ slice_index_or own i []
among-at slaves front own after_it first i is begins within = search (rules, index-front)

pub after-at : (it : EditedLine) → IsEditedLine it → (rank i : ℕ) → rank ≡ it.change.first + i → i < length it.change.areas_before → areas_of_rank (areas_by_rank it.new) rank ≡ slice_index_or it.change.areas_after i []
after-at it is rank i at within =
    ap (areas_of_rank (areas_by_rank it.new)) at
    ∙ among-at (areas_by_rank it.new) is.lines.front it.change.areas_after is.lines.after_it it.change.first i is.lines.is is.lines.rank (omega (arith, within, is.lines.many))

pub other-at : (it : EditedLine) → IsEditedLine it → (rank : ℕ) → changes it.change rank ≡ false → areas_of_rank (areas_by_rank it.old) rank ≡ areas_of_rank (areas_by_rank it.new) rank
other-at it is rank unchanged = search (rules, inside-by, le-ltb, lt-ltb, outside)

-- the slave with a rank is one of those that change, or isn't, as its index is reported
pub index-answer_given : (change : LineChange) (rank : ℕ) (found : Option ℕ) → IfSome found (λ index. (rank ≡ change.first + index) × (index < length change.areas_before))
    → IfNone found (changes change rank ≡ false) → is_some found ≡ changes change rank
index-answer_given change rank None some none = sym none
index-answer_given change rank (Some index) some none =
    let low : change.first ≤ rank = omega (arith, some.0) in
    let high : rank < change.first + length change.areas_before = omega (arith, some.0, some.1) in
    sym (search (rules, inside-by, le-ltb, lt-ltb))
