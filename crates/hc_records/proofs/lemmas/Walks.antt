-- The number of slaves of a line.
pub use Rattle.hc_records.proofs.lemmas.Lists.{get-back, get-front}
use Rattle.std.proofs.Common.{◌≡◌, ℕ, suc, ◌+◌, ◌≤◌, Bool, true, false, List, [], ◌∷◌, length, refl, ap, arith, length-append, if◌then◌else◌}
use Rattle.std.specs.Prelude.{sum_by}
use Rattle.std.proofs.lemmas.List.Sums.{sum_by-cons}
use Rattle.hc_records.specs.declared.records.Slave.{Slave}
use Rattle.hc_records.specs.declared.records.Declared.{Declared}
use Rattle.hc_records.specs.Line.{line_from, members_from, present_slaves}

pub length-members_from : (rank : ℕ) (slaves : List Slave) → length (members_from rank slaves) ≡ length slaves
length-members_from rank [] = refl
length-members_from rank (slave ∷ slaves) = ap suc (length-members_from (rank + 1) slaves)

-- how many slaves are declared

few-present : (present : Bool) (slaves : List Slave) → length (if present then slaves else []) ≤ length slaves
few-present true slaves = omega arith
few-present false slaves = omega arith

-- the line has at most the declared slaves
pub length-line : (rank : ℕ) (groups : List Declared) → length (line_from rank groups) ≤ sum_by (λ (d : Declared). length d.group.slaves) groups
length-line rank [] = omega arith
length-line rank (declared ∷ groups) =
    let front : length (line_from rank (declared ∷ groups)) ≡ length (members_from rank (present_slaves declared)) + length (line_from (rank + length declared.group.slaves) groups) =
    length-append (members_from rank (present_slaves declared)) (line_from (rank + length declared.group.slaves) groups) in
    let own = length-members_from rank (present_slaves declared) in
    let few = few-present declared.present declared.group.slaves in
    let rest = length-line (rank + length declared.group.slaves) groups in
    let sum = sum_by-cons (λ (d : Declared). length d.group.slaves) declared groups in
    omega (arith, front, own, few, rest, sum)
