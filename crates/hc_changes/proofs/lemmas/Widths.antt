-- An area is in its task's list exactly if it has a width.
use Rattle.std.proofs.Common.{◌≡◌, ℕ, ◌==◌, ◌<◌, true, List, Contains, Option, Some, refl, sym, ap, subst, ◌∙◌, rules}
use Rattle.std.specs.Prelude.{All, AllPairs, filter, find, nat_lt, ◌&&◌}
use Rattle.std.specs.List.{enumerate_from}
use Rattle.std.proofs.lemmas.Bool.{and_from, and_parts, eq-eqb, eqb-true}
use Rattle.std.proofs.lemmas.List.Elements.{All-contains, All-contains_itself, All-weaker, Contains-append_left, Contains-append_right}
use Rattle.hc_records.specs.declared.keys.Key.{Key}
use Rattle.hc_records.specs.declared.records.Area.{Area}
use Rattle.hc_records.specs.declared.records.Dir.{Dir}
use Rattle.hc_records.specs.declared.records.Dir.TheVariants.{Out, In}
use Rattle.hc_records.specs.Area.{width}
use Rattle.hc_records.specs.Keys.{same_dir}
use Rattle.hc_records.specs.Line.{Member}
use Rattle.hc_records.specs.TaskList.{Keyed, Listed, belongs, keyed, slave_areas, task_areas, task_list}
use Rattle.hc_records.proofs.lemmas.KeyOrder.{same_dir-refl}
use Rattle.hc_records.proofs.lemmas.Lines.{RanksBelow}
use Rattle.hc_records.proofs.lemmas.Lists.{AllPairs-numbers, AllPairs-weaker}
use Rattle.hc_records.proofs.lemmas.Tasks.{listed, task-list-all}
use Rattle.hc_changes.specs.MaybeMovedAreas.{LineArea, line_area_key}
use Rattle.hc_changes.proofs.lemmas.Lists.{contains-filtered, contains-flat_map, find-only}
use Rattle.hc_changes.proofs.lemmas.Others.{IsAreaOf, contains-mapped, member-found, never-both}

by-dir : (dir : Dir) (task : ℕ) (line : List Member) (member : Member) (area : Listed) → Contains line member → Contains (slave_areas task dir member) area
    → Contains (task_areas task line) area
by-dir Out task line member area at own = search (rules, Contains-append_left, contains-flat_map)
by-dir In task line member area at own = search (rules, Contains-append_right, contains-flat_map)

-- an area with a width is in the list of its task
pub wide-listed : (line : List Member) (found : LineArea) → IsAreaOf line found → nat_lt 0 (width found.area) ≡ true
    → Contains (task_list found.area.task line) (line_area_key found, width found.area)
wide-listed line found of wide =
    let area = found.area in
    let e : ℕ × Area = (found.index, area) in
    let own = enumerate_from 0 found.member.slave.areas in
    let belonging : belongs area.task area.dir area ≡ true = search (rules, and_from, eq-eqb, same_dir-refl) in
    let unchanged = contains-filtered (λ (x : ℕ × Area). belongs area.task area.dir x.1) own e of.own belonging in
    let made = contains-mapped (listed area.dir found.member.rank) (filter (λ (x : ℕ × Area). belongs area.task area.dir x.1) own) e unchanged in
    contains-mapped keyed (task_areas area.task line) (listed area.dir found.member.rank e)
    (by-dir area.dir area.task line found.member (listed area.dir found.member.rank e) of.member made)

pub all-contained : {X : Type 0} (P : X → Type 0) (xs : List X) → ((x : X) → Contains xs x → P x) → All P xs
all-contained P xs each = All-weaker (Contains xs) P each xs (All-contains_itself xs)

-- slaves of a line with one rank are one, and so are areas of a slave with one index

one-found : {X : Type 0} (first second : X) (found : Option X) → found ≡ Some first → found ≡ Some second → first ≡ second
one-found first second found is is' = let same : Some first ≡ Some second = sym is ∙ is' in cc

one-member : (line : List Member) (a b : Member) → AllPairs RanksBelow line → Contains line a → Contains line b → a.rank ≡ b.rank → a ≡ b
one-member line a b ranks at at' same =
    one-found a b (find (λ (m : Member). m.rank == b.rank) line)
    (subst (λ (n : ℕ). find (λ (m : Member). m.rank == n) line ≡ Some a) same (member-found line a ranks at)) (member-found line b ranks at')

numbered-found : (areas : List Area) (e : ℕ × Area) → Contains (enumerate_from 0 areas) e → find (λ x. x.0 == e.0) (enumerate_from 0 areas) ≡ Some e
numbered-found areas e at =
    find-only (λ (x : ℕ × Area). x.0 == e.0) (enumerate_from 0 areas) e
    (AllPairs-weaker (λ a b. a.0 < b.0) (λ a b. (a.0 == e.0) ≡ true → (b.0 == e.0) ≡ true → ⊥)
    (λ a b below is is'. never-both e.0 a.0 b.0 below (eqb-true a.0 e.0 is) (eqb-true b.0 e.0 is')) (enumerate_from 0 areas) (AllPairs-numbers 0 areas))
    at (eq-eqb e.0 e.0 refl)

one-area : (areas : List Area) (a b : ℕ × Area) → Contains (enumerate_from 0 areas) a → Contains (enumerate_from 0 areas) b → a.0 ≡ b.0 → a ≡ b
one-area areas a b at at' same =
    one-found a b (find (λ (x : ℕ × Area). x.0 == b.0) (enumerate_from 0 areas))
    (subst (λ (n : ℕ). find (λ (x : ℕ × Area). x.0 == n) (enumerate_from 0 areas) ≡ Some a) same (numbered-found areas a at)) (numbered-found areas b at')

-- and an area in the list of its task has a width
pub listed-wide : (line : List Member) (found : LineArea) (task : ℕ) (area : Keyed) → AllPairs RanksBelow line → IsAreaOf line found → Contains (task_list task line) area
    → area.0 ≡ line_area_key found → nat_lt 0 (width found.area) ≡ true
listed-wide line found task area ranks of at same =
    All-contains (λ (k : Keyed). k.0 ≡ line_area_key found → nat_lt 0 (width found.area) ≡ true) (task_list task line) area
    (task-list-all (λ (k : Keyed). k.0 ≡ line_area_key found → nat_lt 0 (width found.area) ≡ true) task line
    (λ dir. all-contained
    (λ (member : Member). All (λ e. belongs task dir e.1 ≡ true → (keyed (listed dir member.rank e)).0 ≡ line_area_key found → nat_lt 0 (width found.area) ≡ true) (enumerate_from 0 member.slave.areas))
    line
    (λ member there. all-contained
    (λ (e : ℕ × Area). belongs task dir e.1 ≡ true → (keyed (listed dir member.rank e)).0 ≡ line_area_key found → nat_lt 0 (width found.area) ≡ true)
    (enumerate_from 0 member.slave.areas)
    (λ e own belonging key. own-width member dir e there own belonging key))))
    at same
  where
    own-width : (member : Member) (dir : Dir) (e : ℕ × Area) → Contains line member → Contains (enumerate_from 0 member.slave.areas) e → belongs task dir e.1 ≡ true
        → (keyed (listed dir member.rank e)).0 ≡ line_area_key found → nat_lt 0 (width found.area) ≡ true
    own-width member dir e there own belonging key =
        let rank : member.rank ≡ found.member.rank = ap (λ (k : Key). k.rank) key in
        let index : e.0 ≡ found.index = ap (λ (k : Key). k.area) key in
        let one = one-member line member found.member ranks there of.member rank in
        let here : Contains (enumerate_from 0 found.member.slave.areas) e = subst (λ (m : Member). Contains (enumerate_from 0 m.slave.areas) e) one own in
        let alike = one-area found.member.slave.areas e (found.index, found.area) here of.own index in
        let wide : nat_lt 0 (width e.1) ≡ true = (and_parts ((e.1.task == task) && same_dir e.1.dir dir) (nat_lt 0 (width e.1)) belonging).1 in
        subst (λ (x : ℕ × Area). nat_lt 0 (width x.1) ≡ true) alike wide
