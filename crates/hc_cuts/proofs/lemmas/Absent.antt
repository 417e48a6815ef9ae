-- A line with slaves after its own that have no areas, as those of a declared group that isn't present.
use Rattle.std.specs.Prelude.{map, replicate}
use Rattle.std.proofs.Common.{◌≡◌, ℕ, ◌+◌, false, List, [], ◌∷◌, ◌++◌, length, refl, ap, ◌∙◌, append-nil, length-append}
use Rattle.std.proofs.lemmas.Grind.{flat_map-append}
use Rattle.hc_records.specs.declared.records.Dir.{Dir}
use Rattle.hc_records.specs.declared.records.Dir.TheVariants.{Out, In}
use Rattle.hc_records.specs.declared.records.Area.{Area}
use Rattle.hc_records.specs.declared.records.Slave.{Slave}
use Rattle.hc_records.specs.declared.records.Group.{Group}
use Rattle.hc_records.specs.declared.records.Declared.{Declared}
use Rattle.hc_records.specs.TaskList.{Keyed}
use Rattle.hc_cuts.specs.Areas.{areas_by_rank, list_by, present_areas, rank_list}
use Rattle.hc_cuts.specs.Room.{with_absent}
use Rattle.hc_cuts.proofs.Lines.{absent-list, length-absent}
use Rattle.hc_cuts.proofs.lemmas.AnswerGiven.{rank_list-append}

rank-absent : (task : ℕ) (dir : Dir) (rank count : ℕ) (line : List (List Area)) → rank_list task dir rank (with_absent count line) ≡ rank_list task dir rank line
rank-absent task dir rank count line =
    rank_list-append task dir rank line (replicate count [])
    ∙ ap (λ (areas : List Keyed). rank_list task dir rank line ++ areas) (absent-list task dir (rank + length line) count)
    ∙ append-nil (rank_list task dir rank line)

-- they change the list of no task
pub list-absent : (task count : ℕ) (line : List (List Area)) → list_by task (with_absent count line) ≡ list_by task line
list-absent task count line = rw (rank-absent task Out 1 count line, rank-absent task In 1 count line) refl

pub length-with_absent : (count : ℕ) (line : List (List Area)) → length (with_absent count line) ≡ length line + count
length-with_absent count line = length-append line (replicate count []) ∙ ap (λ (n : ℕ). length line + n) (length-absent count)

-- a declared group that isn't present

none-present : (slaves : List Slave) → map (λ slave. []) slaves ≡ replicate {A = List Area} (length slaves) []
none-present [] = refl
none-present (slave ∷ slaves) = ap (λ (rest : List (List Area)). [] ∷ rest) (none-present slaves)

-- its slaves are after those of the groups before it
pub ranks-absent : (groups : List Declared) (group : Group) → areas_by_rank (groups ++ record { group = group; present = false } ∷ []) ≡ with_absent (length group.slaves) (areas_by_rank groups)
ranks-absent groups group =
    let own : Declared = record { group = group; present = false } in
    flat_map-append present_areas groups (own ∷ [])
    ∙ ap (λ (areas : List (List Area)). areas_by_rank groups ++ areas) (append-nil (present_areas own) ∙ none-present group.slaves)
