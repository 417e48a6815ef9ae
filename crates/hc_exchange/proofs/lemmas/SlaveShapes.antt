-- The declared slaves of a state: over an edit each keeps its station address and the sync managers of its areas.
use Rattle.std.proofs.Common.{◌≡◌, ℕ, zero, suc, ◌==◌, ◌∙◌, inl, inr, Bool, true, false, cond, List, [], ◌∷◌, ◌++◌, refl, sym, ap, ap₂, subst}
use Rattle.std.specs.Prelude.{◌≢◌, All, Contains, None, map, slice_index_or}
use Rattle.std.proofs.lemmas.List.{map-append}
use Rattle.std.proofs.lemmas.List.Elements.{All-contains, All-contains_itself}
use Rattle.hc_records.specs.declared.edit.Edit.{Edit}
use Rattle.hc_records.specs.declared.edit.Edit.TheVariants.{Connect, Disconnect, Remap, Move, Declare}
use Rattle.hc_records.specs.declared.records.Area.{Area}
use Rattle.hc_records.specs.declared.records.Declared.{Declared}
use Rattle.hc_records.specs.declared.records.Slave.{Slave}
use Rattle.hc_records.specs.Edits.{groups_after, with_area, with_presence, with_slaves}
use Rattle.hc_records.specs.Line.{Member, groups_of, line_from}
use Rattle.hc_records.specs.Lists.{changed_at}
use Rattle.hc_records.specs.Project.{lowest_fault}
use Rattle.hc_records.proofs.lemmas.Declaring.{line-absent}
use Rattle.hc_records.proofs.lemmas.Limits.{project-inside}
use Rattle.hc_records.proofs.lemmas.Lines.{declared_slaves, each-group, line-slaves}
use Rattle.hc_plan.proofs.lemmas.Elements.{contains-mapped, contains-order, contains-unmapped}

-- a slave's station address, and the sync managers of its areas

abbrev pub Shape : Type 0
Shape = ℕ × List ℕ

abbrev pub shape : Slave → Shape
shape slave = (slave.station, map (λ (area : Area). area.sm) slave.areas)

abbrev pub shapes : List Declared → List Shape
shapes groups = map shape (declared_slaves groups)

-- an edit that declares nothing leaves them

managers-changed : (index : ℕ) (change : Area → Area) (areas : List Area) → ((area : Area) → (change area).sm ≡ area.sm) → map (λ (area : Area). area.sm) (changed_at index change areas) ≡ map (λ (area : Area). area.sm) areas
managers-changed index change [] same = refl
managers-changed zero change (area ∷ areas) same = ap (λ (n : ℕ). n ∷ map (λ (a : Area). a.sm) areas) (same area)
managers-changed (suc index) change (area ∷ areas) same = ap (λ (ns : List ℕ). area.sm ∷ ns) (managers-changed index change areas same)

shape-changed : (own : Bool) (index : ℕ) (change : Area → Area) (slave : Slave) → ((area : Area) → (change area).sm ≡ area.sm)
    → shape (cond own (record slave { areas = changed_at index change slave.areas }) slave) ≡ shape slave
shape-changed true index change slave same = ap (λ (ns : List ℕ). (slave.station, ns)) (managers-changed index change slave.areas same)
shape-changed false index change slave same = refl

shapes-changed : (station index : ℕ) (change : Area → Area) (slaves : List Slave) → ((area : Area) → (change area).sm ≡ area.sm) → map shape (map (with_area station index change) slaves) ≡ map shape slaves
shapes-changed station index change [] same = refl
shapes-changed station index change (slave ∷ slaves) same =
    ap₂ (λ (s : Shape) (ss : List Shape). s ∷ ss) (shape-changed (slave.station == station) index change slave same) (shapes-changed station index change slaves same)

-- group by group
all-groups : (change : Declared → Declared) (groups : List Declared) → ((declared : Declared) → map shape (change declared).group.slaves ≡ map shape declared.group.slaves) → shapes (map change groups) ≡ shapes groups
all-groups change [] same = refl
all-groups change (declared ∷ groups) same =
    map-append shape (change declared).group.slaves (declared_slaves (map change groups)) ∙ ap₂ (λ (a b : List Shape). a ++ b) (same declared) (all-groups change groups same)
    ∙ sym (map-append shape declared.group.slaves (declared_slaves groups))

presence-same : (own present : Bool) (declared : Declared) → map shape (cond own (record declared { present = present }) declared).group.slaves ≡ map shape declared.group.slaves
presence-same true present declared = refl
presence-same false present declared = refl

-- each slave of the new line has the shape of a declared slave before

line-shapes : (groups : List Declared) → All (λ (member : Member). Contains (shapes groups) (shape member.slave)) (line_from 1 groups)
line-shapes groups =
    line-slaves (λ (slave : Slave). Contains (shapes groups) (shape slave)) 1 groups
    (each-group (λ (slave : Slave). Contains (shapes groups) (shape slave)) groups
    (λ k d within. contains-mapped shape (declared_slaves groups) (slice_index_or (declared_slaves groups) k d) (All-contains_itself (declared_slaves groups) k d within)))

same-shapes : (groups groups' : List Declared) → shapes groups' ≡ shapes groups → All (λ (member : Member). Contains (shapes groups) (shape member.slave)) (line_from 1 groups')
same-shapes groups groups' same = subst (λ (ss : List Shape). All (λ (member : Member). Contains ss (shape member.slave)) (line_from 1 groups')) same (line-shapes groups')

edited-shapes : (groups : List Declared) (edit : Edit) → All (λ (member : Member). Contains (shapes groups) (shape member.slave)) (line_from 1 (groups_after groups edit))
edited-shapes groups (Connect alias) =
    same-shapes groups (map (with_presence alias true) groups) (all-groups (with_presence alias true) groups (λ declared. presence-same (declared.group.alias == alias) true declared))
edited-shapes groups (Disconnect alias) =
    same-shapes groups (map (with_presence alias false) groups) (all-groups (with_presence alias false) groups (λ declared. presence-same (declared.group.alias == alias) false declared))
edited-shapes groups (Remap station area pdos) =
    let change = λ (a : Area). record a { assigned = pdos } in
    same-shapes groups (map (with_slaves (with_area station area change)) groups)
    (all-groups (with_slaves (with_area station area change)) groups (λ declared. shapes-changed station area change declared.group.slaves (λ a. refl)))
edited-shapes groups (Move station area task) =
    let change = λ (a : Area). record a { task = task } in
    same-shapes groups (map (with_slaves (with_area station area change)) groups)
    (all-groups (with_slaves (with_area station area change)) groups (λ declared. shapes-changed station area change declared.group.slaves (λ a. refl)))
edited-shapes groups (Declare group) = subst (All (λ (member : Member). Contains (shapes groups) (shape member.slave))) (sym (line-absent 1 groups group)) (line-shapes groups)

-- so a slave that stays in the line has the same sync managers

one-slave : (groups : List Declared) (a b : Slave) → lowest_fault (groups_of groups) ≡ None → Contains (declared_slaves groups) a → Contains (declared_slaves groups) b → a.station ≡ b.station → a ≡ b
one-slave groups a b project has has' same =
    elim (contains-order (λ (x y : Slave). x.station ≢ y.station) (declared_slaves groups) a b (project-inside (groups_of groups) project).stations has has') [
      | inl one ↦ one
      | inr (inl differ) ↦ absurd (differ same)
      | inr (inr differ) ↦ absurd (differ (sym same))
    ]

of-shape : (groups : List Declared) (slave other : Slave) → lowest_fault (groups_of groups) ≡ None → Contains (shapes groups) (shape slave) → Contains (shapes groups) (shape other) → other.station ≡ slave.station
    → map (λ (area : Area). area.sm) other.areas ≡ map (λ (area : Area). area.sm) slave.areas
of-shape groups slave other project has has' same =
    let a = contains-unmapped shape (declared_slaves groups) (shape slave) has in
    let b = contains-unmapped shape (declared_slaves groups) (shape other) has' in
    let stations : a.0.station ≡ b.0.station = ap (λ (s : Shape). s.0) a.2 ∙ sym same ∙ sym (ap (λ (s : Shape). s.0) b.2) in
    let one = one-slave groups a.0 b.0 project a.1 b.1 stations in
    sym (ap (λ (s : Shape). s.1) b.2) ∙ ap (λ (slave : Slave). map (λ (area : Area). area.sm) slave.areas) (sym one) ∙ ap (λ (s : Shape). s.1) a.2

pub edited-managers : (groups : List Declared) (edit : Edit) (member member' : Member) → lowest_fault (groups_of groups) ≡ None → Contains (line_from 1 groups) member
    → Contains (line_from 1 (groups_after groups edit)) member' → member'.slave.station ≡ member.slave.station
    → map (λ (area : Area). area.sm) member'.slave.areas ≡ map (λ (area : Area). area.sm) member.slave.areas
edited-managers groups edit member member' project has has' same =
    of-shape groups member.slave member'.slave project
    (All-contains (λ (m : Member). Contains (shapes groups) (shape m.slave)) (line_from 1 groups) member (line-shapes groups) has)
    (All-contains (λ (m : Member). Contains (shapes groups) (shape m.slave)) (line_from 1 (groups_after groups edit)) member' (edited-shapes groups edit) has') same
