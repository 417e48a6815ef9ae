-- The tree of a whole project is read as that project.
use Rattle.std.specs.Prelude.{◌≡◌, ℕ, suc, ◌+◌, ◌-◌, ◌≤◌, ◌==◌, ◌||◌, not, nat_lt, Bool, true, false, if◌then◌else◌, List, [], ◌∷◌, ◌++◌, length, map, Option, Some, None, Ok, refl}
use Rattle.std.proofs.Common.{◌∙◌, arith, ap}
use Rattle.std.specs.List.{list_any}
use Rattle.std.proofs.lemmas.List.{length-append}
use Rattle.std.proofs.lemmas.Bool.Decides.{nat_tests}
use Rattle.toml.specs.Data.{table}
use Rattle.toml.specs.View.{items_of}
use Rattle.hc_records.specs.declared.limits.TheConstants.{MOST_GROUPS, MOST_SLAVES}
use Rattle.hc_records.specs.declared.records.Group.{Group}
use Rattle.hc_records.specs.declared.faults.ProjectFault.{ProjectFault}
use Rattle.hc_records.specs.Project.{is_bare, is_misplaced, slave_outside, some_slave, has_outside, slaves_of, lowest_fault}
use Rattle.hc_project.specs.declared.reading.Reading.{Reading}
use Rattle.hc_project.specs.Reading.{both, right}
use Rattle.hc_project.specs.Places.{document, first_some}
use Rattle.hc_project.specs.Levels as level
use Rattle.hc_project.specs.Levels.{slave, declared_groups}
use Rattle.hc_project.specs.Text.{groups_or_fault}
use Rattle.hc_project.specs.Laws.{slave_tree, group_tree, project_tree, slave_unheld, group_unheld, word_unheld, ProjectsReadBack}
use Rattle.hc_project.proofs.Inside.{at-most, or-left, or-right}
use Rattle.hc_project.proofs.ReadBack.{list-right, slave-right, group-right}

-- where there is no lowest fault, the first condition doesn't hold
none-first : (holds : Bool) (fault : ProjectFault) (rest : Option ProjectFault) → (if holds then Some fault else rest) ≡ None → holds ≡ false
none-first true fault rest none = cc
none-first false fault rest none = refl

-- a group and those after it, as `groups` joins them
abbrev joined : Reading Group → Reading (List Group) → Reading (List Group)
joined first rest = record { value = first.value ∷ rest.value; syntax_faults = both first.syntax_faults rest.syntax_faults }

-- groups in their ranges, whose slaves have room together, are read back
all-right : (room index : ℕ) (groups : List Group) → index + length groups ≤ MOST_GROUPS - 1 → length (slaves_of groups) ≤ room
    → list_any is_bare groups ≡ false → some_slave slave_outside groups ≡ false → list_any group_unheld groups ≡ false
    → level.groups room index (items_of (map group_tree groups)) ≡ right groups
unfolding both first_some
all-right room index [] few room-left bare inside held = refl
all-right room index (g ∷ gs) few room-left bare inside held =
    let whole : length (g.slaves ++ slaves_of gs) ≡ length g.slaves + length (slaves_of gs) = length-append g.slaves (slaves_of gs) in
    let first : level.group room index (group_tree g) ≡ right g =
    group-right room index g (omega (arith, few)) (or-left (is_bare g) (list_any is_bare gs) bare)
    (or-left (list_any slave_outside g.slaves) (some_slave slave_outside gs) inside) (omega (arith, room-left, whole))
    (or-left (group_unheld g) (list_any group_unheld gs) held) in
    let rest : level.groups (room - length g.slaves) (index + 1) (items_of (map group_tree gs)) ≡ right gs =
    all-right (room - length g.slaves) (index + 1) gs (omega (arith, few)) (omega (arith, room-left, whole))
    (or-right (is_bare g) (list_any is_bare gs) bare) (or-right (list_any slave_outside g.slaves) (some_slave slave_outside gs) inside)
    (or-right (group_unheld g) (list_any group_unheld gs) held) in
    ap (λ read. joined read (level.groups (room - length read.value.slaves) (index + 1) (items_of (map group_tree gs)))) first ∙ ap (joined (right g)) rest

first-alias : (alias : ℕ) → not (alias == 0) ≡ false → alias ≡ 0
first-alias alias zeroth = grind (arith, nat_tests)

groups-right : (mandatory : Group) (others : List Group) → list_any group_unheld (mandatory ∷ others) ≡ false → has_outside (mandatory ∷ others) ≡ false → declared_groups (table (project_tree (mandatory ∷ others))) ≡ right (mandatory ∷ others)
unfolding both first_some
groups-right mandatory others held inside =
    let misplaced = is_misplaced (mandatory ∷ others) in
    let many = nat_lt MOST_GROUPS (length (mandatory ∷ others)) in
    let slaves = nat_lt MOST_SLAVES (length (slaves_of (mandatory ∷ others))) in
    let outside = some_slave slave_outside (mandatory ∷ others) in
    let three = or-left (misplaced || many || slaves) outside inside in
    let two = or-left (misplaced || many) slaves three in
    let placed = or-left misplaced many two in
    let alias = first-alias mandatory.alias (or-left (not (mandatory.alias == 0)) (list_any is_bare others) placed) in
    let bare = or-right (not (mandatory.alias == 0)) (list_any is_bare others) placed in
    let whole : length (mandatory.slaves ++ slaves_of others) ≡ length mandatory.slaves + length (slaves_of others) = length-append mandatory.slaves (slaves_of others) in
    let few-slaves : length (mandatory.slaves ++ slaves_of others) ≤ MOST_SLAVES = at-most MOST_SLAVES _ (or-right (misplaced || many) slaves three) in
    let few-groups : suc (length others) ≤ MOST_GROUPS = at-most MOST_GROUPS _ (or-right misplaced many two) in
    let sound = or-right (misplaced || many || slaves) outside inside in
    let own-sound = or-left (list_any slave_outside mandatory.slaves) (some_slave slave_outside others) sound in
    let other-sound = or-right (list_any slave_outside mandatory.slaves) (some_slave slave_outside others) sound in
    let own-held = or-right (word_unheld mandatory.alias) (list_any slave_unheld mandatory.slaves) (or-left (group_unheld mandatory) (list_any group_unheld others) held) in
    let other-held = or-right (group_unheld mandatory) (list_any group_unheld others) held in
    rw (
      list-right slave_outside slave_unheld slave_tree slave MOST_SLAVES document mandatory.slaves slave-right (omega (arith, few-slaves, whole)) own-sound own-held,
      all-right (MOST_SLAVES - length mandatory.slaves) 0 others (omega (arith, few-groups)) (omega (arith, few-slaves, whole)) bare other-sound other-held,
      ← alias,
    ) refl

settled-right : (groups : List Group) → lowest_fault groups ≡ None → groups_or_fault (right groups) ≡ Ok groups
settled-right groups none = rw none refl

empty-outside : lowest_fault [] ≡ None → ⊥
empty-outside none = cc

pub project-read_back : ProjectsReadBack
project-read_back [] held none = absurd (empty-outside none)
project-read_back (mandatory ∷ others) held none =
    ap groups_or_fault (groups-right mandatory others held (none-first (has_outside (mandatory ∷ others)) _ _ none)) ∙ settled-right (mandatory ∷ others) none
