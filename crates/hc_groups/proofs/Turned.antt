-- The index of groups where one comes or goes.
use Rattle.std.proofs.Common.{◌≡◌, ℕ, zero, suc, ◌+◌, ◌-◌, ◌<◌, ◌≤◌, Bool, true, false, List, [], ◌∷◌, ◌++◌, length, length-drop, get_or, take, drop, Option, Some, None, refl, sym, ap, subst, ◌∙◌, arith, if◌then◌else◌, rules}
use Rattle.std.specs.Prelude.{All, map, option_map, position, slice_get, sum_by}
use Rattle.std.specs.Option.{option_map_or}
use borrow.Rule.Slice.PartMut.{put_mid}
use Rattle.std.proofs.lemmas.List.{append-nil, drop_all, take_all}
use Rattle.std.proofs.lemmas.List.Elements.{All-cons, All-nil, All-weaker}
use Rattle.std.proofs.lemmas.List.Sums.{sum_by-cons, sum_by_more_le}
use Rattle.std.proofs.lemmas.Option.{get_or_from_slice_get, slice_get_within}
use Rattle.hc_records.specs.declared.edit.Edit.{Edit}
use Rattle.hc_records.specs.declared.edit.Edit.TheVariants.{Connect, Disconnect, Remap, Move, Declare}
use Rattle.hc_records.specs.declared.records.Declared.{Declared}
use Rattle.hc_records.specs.declared.records.Slave.{Slave}
use Rattle.hc_records.specs.Edits.{declares, groups_after}
use Rattle.hc_records.specs.Line.{groups_of}
use Rattle.hc_records.specs.Lists.{changed_at}
use Rattle.hc_records.specs.Project.{lowest_fault}
use Rattle.hc_records.proofs.lemmas.Finds.{mapped-some}
use Rattle.hc_records.proofs.lemmas.Slaves.{IsSlaveInside, project-counted}
use Rattle.hc_groups.specs.declared.changes.AreasChange.{AreasChange}
use Rattle.hc_groups.specs.declared.changes.PresenceChange.{PresenceChange}
use Rattle.hc_groups.specs.declared.prepared.Prepared.{Prepared}
use Rattle.hc_groups.specs.declared.prepared.Prepared.TheVariants.{Areas, Presence}
use Rattle.hc_groups.specs.Changes.{IsMade, areas_change, change_by, changed_groups, has_alias, presence_change, presence_at, slaves_at, with_present}
use Rattle.hc_groups.specs.Index.{BeginsWithLine, Index, IsIndexOf, IsIndexOfDeclared, block_sum, declared_count, own_sum, present_count, sums_from}
use Rattle.hc_groups.specs.inner.Turned.{recounted, turned_index}
use Rattle.hc_groups.proofs.Indexes.{line-low}
use Rattle.hc_groups.proofs.Lines.{line-length}
use Rattle.hc_groups.proofs.Owners.{all-inside, few-blocks, few-groups}
use Rattle.hc_groups.proofs.Presences.{alias-inside}
use Rattle.hc_groups.proofs.Summed.{sums-first}
use Rattle.hc_groups.proofs.lemmas.CarriedOut.{carried-after}
use Rattle.hc_groups.proofs.lemmas.Edited.{unchanged-declared, move-stays, remap-stays}

-- the sums after an element, shifted
pub recounted-slice : (index after count own : ℕ) (sums : List ℕ) → after ≡ suc index → own ≡ get_or sums after 0 - get_or sums index 0
    → take after sums ++ map (λ sum. sum + count - own) (drop after sums) ≡ recounted index count sums
recounted-slice index after count own [] next is = rw next refl
recounted-slice zero after count own (sum ∷ sums) next is =
    let own-is : own ≡ get_or sums 0 0 - sum = is ∙ ap (λ (n : ℕ). get_or (sum ∷ sums) n 0 - sum) next in
    rw next (ap (λ (o : ℕ). sum ∷ map (λ s. s + count - o) sums) own-is)
recounted-slice (suc index) after count own (sum ∷ sums) next is =
    rw next (ap (λ (rest : List ℕ). sum ∷ rest) (recounted-slice index (suc index) count own sums refl (is ∙ ap (λ (n : ℕ). get_or (sum ∷ sums) n 0 - get_or sums index 0) next)))

pub recounted-after_it : (index count own : ℕ) (sums shifted : List ℕ) → index + 1 < length sums → own ≡ get_or sums (index + 1) 0 - get_or sums index 0
    → shifted ≡ map (λ sum. sum + count - own) (take (length sums - (index + 1)) (drop (index + 1) sums)) → put_mid (index + 1) (length sums - (index + 1)) sums shifted ≡ recounted index count sums
recounted-after_it index count own sums shifted inside is same =
    let after = index + 1 in
    let long = length-drop after sums in
    ap (λ (rest : List ℕ). take after sums ++ (shifted ++ rest)) (drop_all (length sums - after) (drop after sums) (omega (arith, long)))
    ∙ ap (λ (rest : List ℕ). take after sums ++ rest) (append-nil shifted ∙ same ∙ ap (map (λ (sum : ℕ). sum + count - own)) (take_all (length sums - after) (drop after sums) (omega (arith, long))))
    ∙ recounted-slice index after count own sums (omega arith) is

module _ {X : Type 0} (count : X → ℕ) where
  pub sums-shifted : (front more own first next : ℕ) (xs : List X) → first ≡ front + own → next ≡ front + more
      → map (λ sum. sum + more - own) (sums_from count first xs) ≡ sums_from count next xs
  sums-shifted front more own first next [] is also = ap (λ (sum : ℕ). sum ∷ []) (omega (arith, is, also))
  sums-shifted front more own first next (x ∷ xs) is also =
      ap (λ (sum : ℕ). sum ∷ map (λ s. s + more - own) (sums_from count (first + count x) xs)) (omega (arith, is, also))
      ∙ ap (λ (rest : List ℕ). next ∷ rest) (sums-shifted (front + count x) more own (first + count x) (next + count x) xs (omega (arith, is)) (omega (arith, also)))

  own-count : (front : ℕ) (x : X) (xs : List X) → get_or (sums_from count (front + count x) xs) 0 0 - front ≡ count x
  own-count front x xs =
      let next = get_or_from_slice_get (sums_from count (front + count x) xs) 0 (front + count x) 0 (sums-first count (front + count x) xs) in
      omega (arith, next)

  -- sums of a list with one element changed
  pub sums-changed : (front index : ℕ) (change : X → X) (x : X) (xs : List X) → slice_get xs index ≡ Some x
      → sums_from count front (changed_at index change xs) ≡ recounted index (count (change x)) (sums_from count front xs)
  sums-changed front index change x [] at = cc
  sums-changed front zero change x (first ∷ xs) at =
      let same : first ≡ x = cc in
      ap (λ (rest : List ℕ). front ∷ rest)
      (ap (λ (c : ℕ). sums_from count (front + c) xs) (ap (λ (y : X). count (change y)) same)
      ∙ sym (sums-shifted front (count (change x)) (count first) (front + count first) (front + count (change x)) xs refl refl)
      ∙ ap (λ (own : ℕ). map (λ sum. sum + count (change x) - own) (sums_from count (front + count first) xs)) (sym (own-count front first xs)))
  sums-changed front (suc index) change x (first ∷ xs) at = ap (λ (rest : List ℕ). front ∷ rest) (sums-changed (front + count first) index change x xs at)

  -- none is above the last
  pub sums-below : (front : ℕ) (xs : List X) → All (λ sum. sum ≤ front + sum_by count xs) (sums_from count front xs)
  sums-below front [] = All-cons (λ sum. sum ≤ front + 0) front [] (omega arith) (All-nil (λ sum. sum ≤ front + 0))
  sums-below front (x ∷ xs) =
      let sum = sum_by-cons count x xs in
      All-cons (λ s. s ≤ front + sum_by count (x ∷ xs)) front (sums_from count (front + count x) xs) (omega arith)
      (All-weaker (λ s. s ≤ front + count x + sum_by count xs) (λ s. s ≤ front + sum_by count (x ∷ xs)) (λ s low. omega (arith, low, sum)) (sums_from count (front + count x) xs) (sums-below (front + count x) xs))

-- how much the sums may grow

few-unchanged : (present : Bool) (slaves : List Slave) → length (if present then slaves else []) ≤ length slaves
few-unchanged present slaves = search rules

few-own : (present : Bool) (slaves : List Slave) → block_sum (if present then slaves else []) ≤ block_sum slaves
few-own present slaves = search rules

pub slaves-low : (groups : List Declared) (group : ℕ) (declared : Declared) (present : Bool) (sums : List ℕ) → lowest_fault (groups_of groups) ≡ None → slice_get groups group ≡ Some declared
    → sums ≡ sums_from present_count 0 groups → All (λ sum. sum + length (if present then declared.group.slaves else []) < 4294967296) sums
slaves-low groups group declared present sums none at is =
    let total = line-length 1 groups in
    let low = line-low groups none in
    let counted = project-counted groups none in
    let own = sum_by_more_le declared_count groups group declared (slice_get_within groups group declared at) in
    let same = ap declared_count (get_or_from_slice_get groups group declared declared at) in
    let few = few-unchanged present declared.group.slaves in
    subst (All (λ sum. sum + length (if present then declared.group.slaves else []) < 4294967296)) (sym is)
    (All-weaker (λ sum. sum ≤ 0 + sum_by present_count groups) (λ sum. sum + length (if present then declared.group.slaves else []) < 4294967296)
    (λ sum below. omega (arith, below, total, low, counted, own, same, few)) (sums_from present_count 0 groups) (sums-below present_count 0 groups))

pub blocks-low : (groups : List Declared) (group : ℕ) (declared : Declared) (present : Bool) (sums : List ℕ) → lowest_fault (groups_of groups) ≡ None → slice_get groups group ≡ Some declared
    → sums ≡ sums_from own_sum 0 groups → All (λ sum. sum + block_sum (if present then declared.group.slaves else []) < 4294967296) sums
blocks-low groups group declared present sums none at is =
    let counted = project-counted groups none in
    let within = slice_get_within groups group declared at in
    let all = few-groups groups (all-inside groups none) in
    let own = sum_by_more_le declared_count groups group declared within in
    let here = get_or_from_slice_get groups group declared declared at in
    let same = ap declared_count here in
    let most = few-blocks declared.group.slaves (subst (λ (d : Declared). All IsSlaveInside d.group.slaves) here (all-inside groups none group declared within)) in
    let few = few-own present declared.group.slaves in
    subst (All (λ sum. sum + block_sum (if present then declared.group.slaves else []) < 4294967296)) (sym is)
    (All-weaker (λ sum. sum ≤ 0 + sum_by own_sum groups) (λ sum. sum + block_sum (if present then declared.group.slaves else []) < 4294967296)
    (λ sum below. omega (arith, below, counted, all, own, same, most, few)) (sums_from own_sum 0 groups) (sums-below own_sum 0 groups))

-- the index of the groups that a change leaves

made-line : (groups : List Declared) (edit : Edit) (change : Prepared) → change_by groups edit ≡ Some change → declares edit ≡ false
made-line groups (Connect alias) change made = refl
made-line groups (Disconnect alias) change made = refl
made-line groups (Remap station area pdos) change made = refl
made-line groups (Move station area task) change made = refl
made-line groups (Declare group) change made = cc

pub counted-at : (present : Bool) (groups : List Declared) (group : ℕ) (declared : Declared) → slice_get groups group ≡ Some declared
    → (if present then declared.group.slaves else []) ≡ (if present then slaves_at groups group else [])
counted-at present groups group declared at =
    ap (λ (slaves : List Slave). if present then slaves else []) (sym (ap (λ (o : Option Declared). option_map_or (λ (d : Declared). d.group.slaves) o []) at))

pub turned-unchanged : (groups : List Declared) (change : PresenceChange) (index : Index) (declared : Declared) (line : List ℕ) → IsIndexOf groups index → IsMade groups (Presence change)
    → lowest_fault (groups_of (changed_groups (Presence change) groups)) ≡ None → slice_get groups change.group ≡ Some declared → BeginsWithLine (changed_groups (Presence change) groups) line
    → IsIndexOf (changed_groups (Presence change) groups) (record (turned_index groups change index) { line = line })
turned-unchanged groups change index declared line is made none at begins =
    let after = carried-after groups made.0 (Presence change) is.declared.project made.1 in
    let counted = counted-at change.present groups change.group declared at in
    let unchanged = unchanged-declared groups index made.0 (made-line groups made.0 (Presence change) made.1) is.declared (subst (λ (g : List Declared). lowest_fault (groups_of g) ≡ None) after none) in
    let own = subst (λ (g : List Declared). IsIndexOfDeclared g index) (sym after) unchanged in
    record {
      declared = record { project = own.project; aliases = own.aliases; stations = own.stations; variables = own.variables; owners = own.owners; fronts = own.fronts; ranks = own.ranks };
      slaves =
          ap (λ (s : List Slave). recounted change.group (length s) index.slaves) (sym counted)
          ∙ ap (recounted change.group (length (if change.present then declared.group.slaves else []))) is.slaves
          ∙ sym (sums-changed present_count 0 change.group (with_present change.present) declared groups at);
      blocks =
          ap (λ (s : List Slave). recounted change.group (block_sum s) index.blocks) (sym counted)
          ∙ ap (recounted change.group (block_sum (if change.present then declared.group.slaves else []))) is.blocks
          ∙ sym (sums-changed own_sum 0 change.group (with_present change.present) declared groups at);
      line = begins;
    }

-- the group is one of them

by-alias : (groups : List Declared) (alias : ℕ) (present : Bool) (change : PresenceChange) → option_map Presence (presence_change groups alias present) ≡ Some (Presence change) → change.group < length groups
by-alias groups alias present change made =
    let own = mapped-some Presence (presence_change groups alias present) (Presence change) made in
    let at = mapped-some (presence_at groups present) (position (has_alias alias) groups) own.0 own.1 in
    let inside = alias-inside groups alias at.0 at.1 in
    let number : own.0.group ≡ at.0 = sym (ap (λ (c : PresenceChange). c.group) at.2) in
    let same : own.0 ≡ change = let is = own.2 in cc in
    let group = ap (λ (c : PresenceChange). c.group) same in
    omega (arith, inside, number, group)

no-areas : (found : Option AreasChange) (change : PresenceChange) → option_map Areas found ≡ Some (Presence change) → ⊥
no-areas found change is = search rules

pub made-inside : (groups : List Declared) (change : PresenceChange) → IsMade groups (Presence change) → change.group < length groups
made-inside groups change (Connect alias, made) = by-alias groups alias true change made
made-inside groups change (Disconnect alias, made) = by-alias groups alias false change made
made-inside groups change (Remap station area pdos, made) = absurd (no-areas (areas_change groups station area (λ a. record a { assigned = pdos })) change made)
made-inside groups change (Move station area task, made) = absurd (no-areas (areas_change groups station area (λ a. record a { task = task })) change made)
made-inside groups change (Declare group, made) = cc

-- where a slave gets other areas it stays

no-presence : (found : Option PresenceChange) (change : AreasChange) → option_map Presence found ≡ Some (Areas change) → ⊥
no-presence found change is = search rules

by-edit : (groups : List Declared) (change : AreasChange) (edit : Edit) (index : Index) → IsIndexOf groups index → change_by groups edit ≡ Some (Areas change) → lowest_fault (groups_of (groups_after groups edit)) ≡ None
    → IsIndexOf (groups_after groups edit) index
by-edit groups change (Connect alias) index is made none = absurd (no-presence (presence_change groups alias true) change made)
by-edit groups change (Disconnect alias) index is made none = absurd (no-presence (presence_change groups alias false) change made)
by-edit groups change (Remap station area pdos) index is made none = remap-stays groups index station area pdos is none
by-edit groups change (Move station area task) index is made none = move-stays groups index station area task is none
by-edit groups change (Declare group) index is made none = cc

pub areas-unchanged : (groups : List Declared) (change : AreasChange) (index : Index) → IsIndexOf groups index → IsMade groups (Areas change) → lowest_fault (groups_of (changed_groups (Areas change) groups)) ≡ None
    → IsIndexOf (changed_groups (Areas change) groups) index
areas-unchanged groups change index is made none =
    let after = carried-after groups made.0 (Areas change) is.declared.project made.1 in
    subst (λ (g : List Declared). IsIndexOf g index) (sym after)
    (by-edit groups change made.0 index is made.1 (subst (λ (g : List Declared). lowest_fault (groups_of g) ≡ None) after none))
