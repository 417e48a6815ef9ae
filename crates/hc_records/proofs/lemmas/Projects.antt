-- Single conditions of a project's faults, for its groups; all of them together are in Limits.
pub use Rattle.hc_records.proofs.lemmas.Lists.{none-holds}
use Rattle.std.proofs.Common.{◌≡◌, ◌≤◌, false, List, None, length, arith}
use Rattle.hc_records.specs.declared.limits.TheConstants.{MOST_SLAVES}
use Rattle.hc_records.specs.declared.records.Group.{Group}
use Rattle.hc_records.specs.declared.faults.ProjectFault.TheVariants.{OutOfRange}
use Rattle.hc_records.specs.Project.{slaves_of, some_area, has_repeated_variable, has_unknown_pdo, project_faults, lowest_fault}
use Rattle.hc_records.proofs.lemmas.Limits.{project-inside}

pub project-names : (groups : List Group) → lowest_fault groups ≡ None → has_repeated_variable groups ≡ false
project-names groups none = none-holds (project_faults groups) none 5 (false, OutOfRange) (omega arith)

pub project-assigned : (groups : List Group) → lowest_fault groups ≡ None → some_area has_unknown_pdo groups ≡ false
project-assigned groups none = none-holds (project_faults groups) none 6 (false, OutOfRange) (omega arith)

pub project-few : (groups : List Group) → lowest_fault groups ≡ None → length (slaves_of groups) ≤ MOST_SLAVES
project-few groups none = (project-inside groups none).few_slaves
