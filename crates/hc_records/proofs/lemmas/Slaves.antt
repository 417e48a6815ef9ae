-- The limits of a project, for the slaves of its line.
pub use Rattle.hc_records.specs.Limits.{IsAreaInside, IsSlaveInside}
use Rattle.std.proofs.Common.{◌≡◌, ℕ, ◌+◌, List, [], ◌∷◌, length, refl, sym, ap, ◌∙◌, arith, length-append}
use Rattle.std.specs.Prelude.{All, AllPairs, None, map, sum_by, ◌≢◌}
use Rattle.std.proofs.lemmas.List.Sums.{sum_by-cons}
use Rattle.hc_records.specs.declared.records.Declared.{Declared}
use Rattle.hc_records.specs.Line.{IsCounted, groups_of, line_from}
use Rattle.hc_records.specs.Project.{lowest_fault, slaves_of}
use Rattle.hc_records.proofs.lemmas.Limits.{project-inside}
use Rattle.hc_records.proofs.lemmas.Lines.{declared_slaves, each-group, line-pairs, line-slaves}
use Rattle.hc_records.proofs.lemmas.Projects.{project-few}

-- every slave of the line of a project's groups is inside its ranges
pub line-inside : (groups : List Declared) → lowest_fault (map (λ declared. declared.group) groups) ≡ None → All (λ member. IsSlaveInside member.slave) (line_from 1 groups)
line-inside groups none = line-slaves IsSlaveInside 1 groups (each-group IsSlaveInside groups (project-inside (groups_of groups) none).slaves)

-- no two slaves of the line have one station address
pub line-stations : (groups : List Declared) → lowest_fault (map (λ declared. declared.group) groups) ≡ None → AllPairs (λ a b. a.slave.station ≢ b.slave.station) (line_from 1 groups)
line-stations groups none = line-pairs (λ a b. a.station ≢ b.station) 1 groups (project-inside (groups_of groups) none).stations

pub length-slaves : (groups : List Declared) → length (slaves_of (map (λ declared. declared.group) groups)) ≡ sum_by (λ declared. length declared.group.slaves) groups
length-slaves [] = refl
length-slaves (declared ∷ groups) =
    length-append declared.group.slaves (declared_slaves groups)
    ∙ ap (λ (n : ℕ). length declared.group.slaves + n) (length-slaves groups)
    ∙ sym (sum_by-cons (λ (d : Declared). length d.group.slaves) declared groups)

-- every declared slave of a project has a rank of 16 bits
pub project-counted : (groups : List Declared) → lowest_fault (map (λ declared. declared.group) groups) ≡ None → IsCounted groups
project-counted groups none =
    let few = project-few (map (λ declared. declared.group) groups) none in
    let count = length-slaves groups in
    omega (arith, few, count)
