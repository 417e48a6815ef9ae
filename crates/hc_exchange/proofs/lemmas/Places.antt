-- Where the areas of a configurable line are mapped.
use Rattle.std.proofs.Common.{◌≡◌, ℕ, ◌+◌, ◌*◌, ◌<◌, ◌≤◌, ◌-◌, ◌∙◌, inl, inr, Bool, true, false, cond, List, [], ◌∷◌, refl, sym, ap, ap₂, subst, arith}
use Rattle.std.specs.Prelude.{All, Contains, Option, Some, find, slice_get, slice_index_or}
use Rattle.std.specs.List.{enumerate_from}
use Rattle.std.proofs.lemmas.List.Elements.{All-contains_itself, Contains-get_or}
use Rattle.std.proofs.lemmas.Grind.{common_steps}
use Rattle.hc_records.specs.declared.keys.Key.{Key}
use Rattle.hc_records.specs.declared.limits.TheConstants.{TASKS}
use Rattle.hc_records.specs.declared.records.Area.{Area}
use Rattle.hc_records.specs.Area.{width}
use Rattle.hc_records.specs.Image.{task_places}
use Rattle.hc_records.specs.Keys.{same_key}
use Rattle.hc_records.specs.Line.{Member}
use Rattle.hc_records.specs.Packing.{Placed, empty_front, packed}
use Rattle.hc_records.specs.TaskList.{Keyed, task_list}
use Rattle.hc_records.proofs.lemmas.Disjoint.{LiesBefore, packed-apart}
use Rattle.hc_records.proofs.lemmas.Finds.{found-all, mapped-some}
use Rattle.hc_records.proofs.lemmas.KeyOrder.{same_key-same}
use Rattle.hc_records.proofs.lemmas.Lists.{All-unmap}
use Rattle.hc_records.proofs.lemmas.Packed.{area_of, packed-areas}
use Rattle.hc_records.proofs.lemmas.Tasks.{task-list-all}
use Rattle.hc_registers.specs.declared.fmmu.Mapping.{Mapping}
use Rattle.hc_registers.specs.Blocks.{IsMappable, mapping_at, mapping_of}
use Rattle.hc_exchange.specs.Pairs.{member_area_key}
use Rattle.hc_plan.proofs.lemmas.AreaKeys.{one-rank}
use Rattle.hc_plan.proofs.lemmas.Elements.{contains-order, numbered-at}
use Rattle.hc_exchange.proofs.lemmas.Members.{IsGoodPlace, KeepsLine, area-inside}

passes-by : {X : Type 0} (passes : Bool) (test : X → Bool) (first found : X) (rest : Option X) → test first ≡ passes → (rest ≡ Some found → test found ≡ true)
    → cond passes (Some first) rest ≡ Some found → test found ≡ true
passes-by true test first found rest is later has = let same : first ≡ found = cc in ap test (sym same) ∙ is
passes-by false test first found rest is later has = later has

-- what is found passes the test
pub found-passes : {X : Type 0} (test : X → Bool) (xs : List X) (found : X) → find test xs ≡ Some found → test found ≡ true
found-passes test [] found has = cc
found-passes test (x ∷ xs) found has = passes-by (test x) test x found (find test xs) refl (found-passes test xs found) has

-- the area that a key names has the width that is beside the key

named-width : (member other : Member) (index number : ℕ) (area found : Area) → other ≡ member → number ≡ index → slice_get other.slave.areas number ≡ Some found
    → slice_get member.slave.areas index ≡ Some area → width found ≡ width area
named-width member other index number area found same same_number has own =
    let equal : Some found ≡ Some area = sym has ∙ ap₂ (λ (m : Member) (n : ℕ). slice_get m.slave.areas n) same same_number ∙ own in
    let one : found ≡ area = cc in
    ap width one

list-widths : (line : List Member) (member : Member) (index : ℕ) (area : Area) (task : ℕ) → KeepsLine line → Contains line member → slice_get member.slave.areas index ≡ Some area
    → All (λ (k : Keyed). k.0 ≡ member_area_key member index area → k.1 ≡ width area) (task_list task line)
list-widths line member index area task stays has own =
    task-list-all (λ (k : Keyed). k.0 ≡ member_area_key member index area → k.1 ≡ width area) task line
    (λ dir j d low i e within belongs same.
    let other = slice_index_or line j d in
    let numbered = numbered-at 0 other.slave.areas i e within in
    let one : other ≡ member = one-rank line other member stays.ranks (Contains-get_or line j d low) has (ap (λ (key : Key). key.rank) same) in
    let number = slice_index_or (enumerate_from 0 other.slave.areas) i e in
    let none : number.0 - 0 ≡ number.0 = omega arith in
    named-width member other index number.0 area number.1 one (ap (λ (key : Key). key.area) same)
    (ap (slice_get other.slave.areas) (sym none) ∙ numbered.1) own)

pub place-widths : (line : List Member) (member : Member) (index : ℕ) (area : Area) (task : ℕ) → KeepsLine line → Contains line member → slice_get member.slave.areas index ≡ Some area
    → All (λ (p : Placed). p.key ≡ member_area_key member index area → p.bits ≡ width area) (task_places task line)
place-widths line member index area task stays has own =
    let list = task_list task line in
    let named = λ (k : Keyed). (k.0 ≡ member_area_key member index area → k.1 ≡ width area) in
    All-unmap named area_of (packed empty_front list) (subst (All named) (sym (packed-areas empty_front list)) (list-widths line member index area task stays has own))

-- where an area is mapped: at its place in its task's list
pub record Place (line : List Member) (member : Member) (index : ℕ) (area : Area) (mapping : Mapping) : Type 0 where
  pub placed : Placed
  pub in_task : Contains (task_places area.task line) placed
  pub key : placed.key ≡ member_area_key member index area
  pub bits : placed.bits ≡ width area
  pub good : IsGoodPlace placed
  pub is : mapping_at area.task placed ≡ mapping

pub mapped-place : (line : List Member) (member : Member) (index : ℕ) (area : Area) (mapping : Mapping) → KeepsLine line → Contains line member
    → slice_get member.slave.areas index ≡ Some area → mapping_of line area.task (member_area_key member index area) ≡ Some mapping → Place line member index area mapping
mapped-place line member index area mapping stays has own mapped =
    let key = member_area_key member index area in
    let places = task_places area.task line in
    let low : area.task < TASKS = (area-inside line member index area stays has own).task in
    let found = mapped-some (mapping_at area.task) (find (λ (p : Placed). same_key p.key key) places) mapping mapped in
    let same : found.0.key ≡ key = same_key-same found.0.key key (found-passes (λ (p : Placed). same_key p.key key) places found.0 found.1) in
    record {
      placed = found.0;
      in_task = found-all (Contains places) (λ (p : Placed). same_key p.key key) places found.0 (All-contains_itself places) found.1;
      key = same;
      bits = found-all (λ (p : Placed). p.key ≡ key → p.bits ≡ width area) (λ (p : Placed). same_key p.key key) places found.0
          (place-widths line member index area area.task stays has own) found.1 same;
      good = found-all IsGoodPlace (λ (p : Placed). same_key p.key key) places found.0 (stays.places area.task low) found.1;
      is = found.2;
    }

mappable-at : (area : Area) (placed : Placed) → area.task < TASKS → placed.bits ≡ width area → IsGoodPlace placed → IsMappable area (mapping_at area.task placed)
mappable-at area placed low bits good =
    let some : 0 < placed.bits = good.some in
    let inside : placed.bit + placed.bits ≤ 11888 = good.inside in
    let early : placed.datagram < 16 = good.early in
    record { some = omega arith; inside = omega arith; room = omega arith }

pub place-mappable : (line : List Member) (member : Member) (index : ℕ) (area : Area) (mapping : Mapping) → area.task < TASKS → Place line member index area mapping → IsMappable area mapping
place-mappable line member index area mapping low place = subst (IsMappable area) place.is (mappable-at area place.placed low place.bits place.good)

-- a logical bit names its task, its datagram and its bit there
pub logical-answer_given : (task datagram bit bits k task' datagram' bit' bits' k' : ℕ) → datagram < 16 → datagram' < 16 → bit + bits ≤ 11888 → bit' + bits' ≤ 11888 → k < bits → k' < bits'
    → 8 * (16777216 * (task + 1) + 2048 * datagram) + bit + k ≡ 8 * (16777216 * (task' + 1) + 2048 * datagram') + bit' + k'
    → (task ≡ task') × (datagram ≡ datagram') × (bit + k ≡ bit' + k')
logical-answer_given task datagram bit bits k task' datagram' bit' bits' k' early early' inside inside' below below' same = grind (arith, common_steps)

meet-no : (a b : Placed) (k l : ℕ) → a.datagram ≡ b.datagram → a.bit + k ≡ b.bit + l → k < a.bits → LiesBefore a b → ⊥
meet-no a b k l same bits below (inl earlier) = omega arith
meet-no a b k l same bits below (inr after_it) = let ends = after_it.1 in omega arith

-- two places of a task that have a logical bit in common are one
one-place : (list : List Keyed) (a b : Placed) (k l : ℕ) → Contains (packed empty_front list) a → Contains (packed empty_front list) b → a.datagram ≡ b.datagram → a.bit + k ≡ b.bit + l
    → k < a.bits → l < b.bits → a ≡ b
one-place list a b k l has has' same bits below below' =
    elim (contains-order LiesBefore (packed empty_front list) a b (packed-apart empty_front list) has has') [
      | inl one ↦ one
      | inr (inl before) ↦ absurd (meet-no a b k l same bits below before)
      | inr (inr before) ↦ absurd (meet-no b a l k (sym same) (sym bits) below' before)
    ]

-- so a logical bit names one area of the line
pub one-area : (line : List Member) (member other : Member) (index number : ℕ) (a b : Area) (mapping mapping' : Mapping) (x k l : ℕ)
    → Place line member index a mapping → Place line other number b mapping' → k < width a → x ≡ 8 * mapping.address + mapping.bit + k
    → l < width b → x ≡ 8 * mapping'.address + mapping'.bit + l → (member.rank ≡ other.rank) × (index ≡ number)
one-area line member other index number a b mapping mapping' x k l place place' below is below' is' =
    let p = place.placed in
    let q = place'.placed in
    let few : k < p.bits = omega (arith, place.bits) in
    let few' : l < q.bits = omega (arith, place'.bits) in
    let first : x ≡ 8 * (16777216 * (a.task + 1) + 2048 * p.datagram) + p.bit + k = subst (λ (m : Mapping). x ≡ 8 * m.address + m.bit + k) (sym place.is) is in
    let second : x ≡ 8 * (16777216 * (b.task + 1) + 2048 * q.datagram) + q.bit + l = subst (λ (m : Mapping). x ≡ 8 * m.address + m.bit + l) (sym place'.is) is' in
    let answer_given = logical-answer_given a.task p.datagram p.bit p.bits k b.task q.datagram q.bit q.bits l place.good.early place'.good.early place.good.inside place'.good.inside few few' (sym first ∙ second) in
    let there : Contains (task_places a.task line) q = subst (λ (task : ℕ). Contains (task_places task line) q) (sym answer_given.0) place'.in_task in
    let one : p ≡ q = one-place (task_list a.task line) p q k l place.in_task there answer_given.1 answer_given.2 few few' in
    let same : member_area_key member index a ≡ member_area_key other number b = sym place.key ∙ ap (λ (placed : Placed). placed.key) one ∙ place'.key in
    (ap (λ (key : Key). key.rank) same, ap (λ (key : Key). key.area) same)
