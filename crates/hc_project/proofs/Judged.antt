-- The lowest fault of what was read has a place in its document.
use Rattle.std.proofs.Common.{◌≡◌, ◌||◌, Bool, true, false, if◌then◌else◌, List, [], ◌∷◌, Option, Some, None, Err, refl}
use Rattle.std.specs.Prelude.{is_some}
use Rattle.std.proofs.lemmas.Bool.{or_left, or_right}
use Rattle.toml.specs.Data.{Data}
use Rattle.hc_records.specs.declared.records.Group.{Group}
use Rattle.hc_records.specs.declared.faults.ProjectFault.{ProjectFault}
use Rattle.hc_records.specs.declared.faults.ProjectFault.TheVariants as fault
use Rattle.hc_records.specs.Lists.{lowest}
use Rattle.hc_records.specs.Project.{has_outside, has_overlap, has_repeated_alias, has_repeated_station, has_repeated_variable, has_unknown_pdo, is_wide, repeats_sync_manager, some_area, some_slave}
use Rattle.hc_project.specs.declared.places.Location.{Location}
use Rattle.hc_project.specs.declared.reading.Reading.{Reading}
use Rattle.hc_project.specs.Levels.{declared_groups}
use Rattle.hc_project.specs.Located.{location_of}
use Rattle.hc_project.specs.Text.{reading_faults, groups_or_fault, unless_refused}
use Rattle.hc_project.proofs.Inspected.{groups_inside}
use Rattle.hc_project.proofs.Joined.{without}
use Rattle.hc_project.proofs.Placed.{aliases_none, managers_none, overlaps_none, stations_none, unknown_none, variables_none, wide_none}

-- the condition of a fault, over what was read
abbrev condition : Reading (List Group) → ProjectFault → Bool
condition read fault.NotToml = false
condition read fault.MissingField = is_some read.syntax_faults.missing
condition read fault.OutOfRange = is_some read.syntax_faults.outside || has_outside read.value
condition read fault.RepeatedAlias = has_repeated_alias read.value
condition read fault.RepeatedStation = has_repeated_station read.value
condition read fault.RepeatedSyncManager = some_slave repeats_sync_manager read.value
condition read fault.OverlappingAreas = some_slave has_overlap read.value
condition read fault.RepeatedVariable = has_repeated_variable read.value
condition read fault.UnknownPdo = some_area has_unknown_pdo read.value
condition read fault.AreaTooBig = some_area is_wide read.value
condition read fault.Memory = false
condition read fault.NotOneGroup = false

-- each of these faults whose test passes meets its condition
abbrev Judges : (ProjectFault → Bool) → List (Bool × ProjectFault) → Type 0
Judges meets [] = Unit {0}
Judges meets (judged ∷ rest) = (judged.0 ≡ true → meets judged.1 ≡ true) × Judges meets rest

same_meets : (meets : ProjectFault → Bool) (a b : ProjectFault) → meets a ≡ true → Some a ≡ Some b → meets b ≡ true
same_meets meets a b met same = cc

lowest_first : (meets : ProjectFault → Bool) (test : Bool) (first lowest_one : ProjectFault) (rest : Option ProjectFault)
    → (test ≡ true → meets first ≡ true) → (rest ≡ Some lowest_one → meets lowest_one ≡ true)
    → (if test then Some first else rest) ≡ Some lowest_one → meets lowest_one ≡ true
lowest_first meets true first lowest_one rest here after_it is = same_meets meets first lowest_one (here refl) is
lowest_first meets false first lowest_one rest here after_it is = after_it is

lowest_meets : (meets : ProjectFault → Bool) (list : List (Bool × ProjectFault)) (lowest_one : ProjectFault) → Judges meets list
    → lowest list ≡ Some lowest_one → meets lowest_one ≡ true
lowest_meets meets [] lowest_one judges is = cc
lowest_meets meets (judged ∷ rest) lowest_one judges is =
    lowest_first meets judged.0 judged.1 lowest_one (lowest rest) judges.0 (lowest_meets meets rest lowest_one judges.1) is

judges : (read : Reading (List Group)) → Judges (condition read) (reading_faults read)
judges read = (
  λ held. held,
  (
    or_left (is_some read.syntax_faults.outside) (has_outside read.value),
    (
      or_right (is_some read.syntax_faults.outside) (has_outside read.value),
      (λ held. held, (λ held. held, (λ held. held, (λ held. held, (λ held. held, (λ held. held, (λ held. held, tt))))))),
    ),
  ),
)

refused : (found : Option ProjectFault) (groups : List Group) (lowest_one : ProjectFault) → unless_refused found groups ≡ Err lowest_one → found ≡ Some lowest_one
refused None groups lowest_one is = cc
refused (Some found) groups lowest_one is = cc

-- where a value outside its range is the lowest fault, nothing is missing
none_missing : (missing : Option Location) (others : Option ProjectFault) (groups : List Group)
    → unless_refused (if is_some missing then Some fault.MissingField else others) groups ≡ Err fault.OutOfRange → missing ≡ None
none_missing None others groups is = refl
none_missing (Some location) others groups is = cc

unmet : (lowest_one : ProjectFault) (d : Data) → groups_or_fault (declared_groups d) ≡ Err lowest_one → location_of lowest_one (declared_groups d) ≡ None
    → condition (declared_groups d) lowest_one ≡ false
unmet fault.NotToml d is none = refl
unmet fault.MissingField d is none = rw none refl
unmet fault.OutOfRange d is none =
    let inside = groups_inside d (without (declared_groups d).syntax_faults (none_missing _ _ _ is) none) in
    rw (none, inside) refl
unmet fault.RepeatedAlias d is none = aliases_none (declared_groups d).value none
unmet fault.RepeatedStation d is none = stations_none (declared_groups d).value none
unmet fault.RepeatedSyncManager d is none = managers_none (declared_groups d).value none
unmet fault.OverlappingAreas d is none = overlaps_none (declared_groups d).value none
unmet fault.RepeatedVariable d is none = variables_none (declared_groups d).value none
unmet fault.UnknownPdo d is none = unknown_none (declared_groups d).value none
unmet fault.AreaTooBig d is none = wide_none (declared_groups d).value none
unmet fault.Memory d is none = refl
unmet fault.NotOneGroup d is none = refl

both-ways : (b : Bool) → b ≡ true → b ≡ false → ⊥
both-ways b held unheld = cc

-- a fault that is the lowest has a place
pub placed : (lowest_one : ProjectFault) (d : Data) → groups_or_fault (declared_groups d) ≡ Err lowest_one → location_of lowest_one (declared_groups d) ≡ None → ⊥
placed lowest_one d is none =
    both-ways (condition (declared_groups d) lowest_one)
    (lowest_meets (condition (declared_groups d)) (reading_faults (declared_groups d)) lowest_one (judges (declared_groups d)) (refused _ _ _ is))
    (unmet lowest_one d is none)
