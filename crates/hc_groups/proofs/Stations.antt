-- In a project the area that an edit judges is the area of every slave with its station address.
use Rattle.std.proofs.Common.{◌≡◌, ℕ, Bool, true, false, cond, List, [], ◌∷◌, Option, Some, None, refl, rules}
use Rattle.std.specs.Prelude.{All, ◌==◌, find, map, option_and_then, slice_get}
use Rattle.std.specs.List.{list_any}
use Rattle.std.proofs.lemmas.Bool.{or_parts}
use Rattle.std.proofs.lemmas.List.Elements.{All-nil, All-head, All-tail}
use Rattle.hc_records.specs.declared.records.Area.{Area}
use Rattle.hc_records.specs.declared.records.Slave.{Slave}
use Rattle.hc_records.specs.declared.records.Declared.{Declared}
use Rattle.hc_records.specs.Lists.{has_repeat}
use Rattle.hc_records.specs.Line.{Member, is_at, line_from}
use Rattle.hc_records.specs.Edits.{area_at}
use Rattle.hc_records.proofs.lemmas.Lists.{All-from_none, All-unmap}
use Rattle.hc_records.proofs.lemmas.Lines.{declared_slaves, each-group, line-slaves}
use Rattle.hc_groups.specs.Edits.{groups_state}

-- a slave is the only one of a list with its station address
abbrev IsOnly : List Slave → Slave → Type 0
IsOnly slaves found = All (λ slave. slave.station ≡ found.station → slave ≡ found) slaves

only : (slaves : List Slave) → has_repeat (map (λ slave. slave.station) slaves) ≡ false → All (IsOnly slaves) slaves
only [] once = All-nil (IsOnly [])
only (slave ∷ slaves) once =
    let parts = or_parts (list_any (λ y. y == slave.station) (map (λ (s : Slave). s.station) slaves)) (has_repeat (map (λ (s : Slave). s.station) slaves)) once in
    let apart = All-unmap (λ y. (y == slave.station) ≡ false) (λ (s : Slave). s.station) slaves (All-from_none (λ y. y == slave.station) (map (λ (s : Slave). s.station) slaves) parts.0) in
    let others = only slaves parts.1 in
    search rules

-- what a search finds
record IsFound (P : Member → Type 0) (test : Member → Bool) (found : Member) : Type 0 where
  holds : P found
  passes : test found ≡ true

found-first : (passes : Bool) (P : Member → Type 0) (test : Member → Bool) (member found : Member) (rest : List Member) → test member ≡ passes → P member →
    (find test rest ≡ Some found → IsFound P test found) → cond passes (Some member) (find test rest) ≡ Some found → IsFound P test found
found-first passes P test member found rest is holds later at = search rules

found-in : (P : Member → Type 0) (test : Member → Bool) (members : List Member) (found : Member) → All P members → find test members ≡ Some found → IsFound P test found
found-in P test [] found all at = cc
found-in P test (member ∷ members) found all at =
    found-first (test member) P test member found members refl (All-head P member members all) (found-in P test members found (All-tail P member members all)) at

-- each declared slave with the station address has the area
abbrev pub HasArea : ℕ → ℕ → Area → Slave → Type 0
HasArea station index area slave = slave.station ≡ station → slice_get slave.areas index ≡ Some area

only-has : (found : Member) (slaves : List Slave) (station index : ℕ) (area : Area) → slice_get found.slave.areas index ≡ Some area →
    IsFound (λ member. IsOnly slaves member.slave) (is_at station) found → All (HasArea station index area) slaves
only-has found slaves station index area has is i d within same = search rules

member-has : (at : Option Member) (groups : List Declared) (station index : ℕ) (area : Area) → All (λ member. IsOnly (declared_slaves groups) member.slave) (line_from 1 groups) →
    find (is_at station) (line_from 1 groups) ≡ at → option_and_then (λ member. slice_get member.slave.areas index) at ≡ Some area →
    All (HasArea station index area) (declared_slaves groups)
member-has None groups station index area all is has = cc
member-has (Some found) groups station index area all is has = search (rules, only-has, found-in)

pub all-have : (groups : List Declared) (station index : ℕ) (area : Area) → has_repeat (map (λ slave. slave.station) (declared_slaves groups)) ≡ false →
    area_at (groups_state groups) station index ≡ Some area → All (HasArea station index area) (declared_slaves groups)
all-have groups station index area once at =
    let slaves = declared_slaves groups in
    member-has (find (is_at station) (line_from 1 groups)) groups station index area
    (line-slaves (IsOnly slaves) 1 groups (each-group (IsOnly slaves) groups (only slaves once))) refl at
