-- The line of a project's groups can be configured.
use Rattle.std.proofs.Common.{◌≡◌, ℕ, ◌+◌, ◌≤◌, Bool, true, false, List, [], ◌∷◌, length, arith, length-append}
use Rattle.std.specs.Prelude.{None, map, if◌then◌else◌}
use Rattle.hc_records.specs.declared.records.Declared.{Declared}
use Rattle.hc_records.specs.declared.records.Slave.{Slave}
use Rattle.hc_records.specs.Line.{State, line_from, members_from, present_slaves}
use Rattle.hc_records.specs.Project.{lowest_fault}
use Rattle.hc_records.proofs.lemmas.Ascending.{keys-ascend}
use Rattle.hc_records.proofs.lemmas.Lines.{declared_slaves, line-ascends}
use Rattle.hc_records.proofs.lemmas.Packable.{project-packable}
use Rattle.hc_records.proofs.lemmas.Projects.{project-few}
use Rattle.hc_records.proofs.lemmas.Walks.{length-members_from}
use Rattle.hc_places.proofs.Project.{IsConfigurable}
use Rattle.hc_places.proofs.lemmas.Ranks.{counted-expected}
use Rattle.hc_places.proofs.Widths.{line-offers}

present-few : (present : Bool) (rank : ℕ) (slaves : List Slave) → length (members_from rank (if present then slaves else [])) ≤ length slaves
present-few true rank slaves = let all = length-members_from rank slaves in omega (arith, all)
present-few false rank slaves = omega arith

-- a line has no more slaves than are declared
line-few : (rank : ℕ) (groups : List Declared) → length (line_from rank groups) ≤ length (declared_slaves groups)
line-few rank [] = omega arith
line-few rank (declared ∷ groups) =
    let slaves = declared.group.slaves in
    let own = present-few declared.present rank slaves in
    let rest = line-few (rank + length slaves) groups in
    let all = length-append slaves (declared_slaves groups) in
    let line = length-append (members_from rank (present_slaves declared)) (line_from (rank + length slaves) groups) in
    omega (arith, own, rest, all, line)

abbrev state_of : List Declared → State
state_of groups = record { groups = groups; epoch = 0 }

pub project-configurable : (groups : List Declared) → lowest_fault (map (λ declared. declared.group) groups) ≡ None → IsConfigurable (line_from 1 groups)
project-configurable groups none = record {
  few =
      let line = line-few 1 groups in
      let declared = project-few (map (λ declared. declared.group) groups) none in
      omega (arith, line, declared);
  offers = line-offers groups none;
  packable = λ task. project-packable (state_of groups) task none;
  ascends = λ task. keys-ascend (state_of groups) task;
  counted = λ task d. counted-expected task d (line_from 1 groups) (keys-ascend (state_of groups) task) (line-ascends 1 groups);
}
