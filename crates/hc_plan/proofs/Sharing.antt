-- The share of a slave in a datagram's counter, by the places of its areas, is the share by the datagram's keys.
use Rattle.std.proofs.Common.{◌≡◌, ℕ, ◌+◌, ◌<◌, ◌==◌, ◌∙◌, Bool, true, false, if◌then◌else◌, List, [], ◌∷◌, Contains, refl, sym, ap, ap₂, subst, arith}
use Rattle.std.specs.Prelude.{◌&&◌, All, AllPairs, IsTrue, Option, Some, None, find, map, option_and_then, option_map, slice_get, slice_index_or, sum_by, unwrap_or}
use Rattle.std.specs.Option.{option_map_or}
use Rattle.std.specs.List.{enumerate_from, list_any}
use Rattle.std.proofs.lemmas.Bool.{and_from, and_parts, eq-eqb, eqb-true}
use Rattle.std.proofs.lemmas.List.Elements.{All-contains, All-contains_itself, All-head, All-tail, Contains-get_or}
use Rattle.std.proofs.lemmas.List.Sums.{sum_by-cons}
use Rattle.hc_records.specs.declared.keys.Key.{Key}
use Rattle.hc_records.specs.declared.limits.TheConstants.{TASKS}
use Rattle.hc_records.specs.declared.records.Declared.{Declared}
use Rattle.hc_records.specs.declared.records.Dir.{Dir}
use Rattle.hc_records.specs.declared.records.Dir.TheVariants.{Out, In}
use Rattle.hc_records.specs.Image.{counter_share, inside, area_is_of, task_places}
use Rattle.hc_records.specs.Keys.{is_before, same_dir, same_key}
use Rattle.hc_records.specs.Line.{Member, State, is_at, line, line_from}
use Rattle.hc_records.specs.Packing.{Placed}
use Rattle.hc_records.proofs.lemmas.KeyOrder.{key, same_dir-refl, same_key-refl, same_key-same}
use Rattle.hc_records.proofs.lemmas.Lines.{line-ascends}
use Rattle.hc_records.proofs.lemmas.Lists.{AllPairs-weaker}
use Rattle.hc_records.proofs.lemmas.Packed.{area_of}
use Rattle.hc_records.proofs.lemmas.Slaves.{line-stations}
use Rattle.hc_records.proofs.lemmas.VariablePlaces.{same_dir-same}
use Rattle.hc_changes.proofs.lemmas.Lists.{find-only}
use Rattle.hc_places.specs.declared.table.Datagram.{Datagram}
use Rattle.hc_places.specs.Layout.{layout_of, placed_in}
use Rattle.hc_places.proofs.lemmas.Found.{find-holds}
use Rattle.hc_places.proofs.lemmas.Layouts.{placed-in-line}
use Rattle.hc_plan.specs.inner.Blocks.{IsLayoutOf}
use Rattle.hc_plan.specs.inner.Shares.{is_area_in, area_lies_in, share_in}
use Rattle.hc_plan.specs.Shares.{SharesAddUp, datagram_keys, share_at, share_of}
use Rattle.hc_plan.proofs.lemmas.AreaKeys.{HasArea, keys-apart, not-before, one-rank, placed-areas}
use Rattle.hc_plan.proofs.lemmas.TableRows.{row-is}
use Rattle.hc_plan.proofs.lemmas.Elements.{contains-unchanged, contains-mapped, contains-numbered, contains-unkept, contains-unmapped, some-passes, which-passes}

same-by : (a b : Bool) → (a ≡ true → b ≡ true) → (b ≡ true → a ≡ true) → a ≡ b
same-by true b to from = sym (to refl)
same-by false true to from = from refl
same-by false false to from = refl

passed : {X : Type 0} (test : X → Bool) (found : Option X) → option_map_or test found false ≡ true → (x : X) × (found ≡ Some x) × (test x ≡ true)
passed test None is = cc
passed test (Some x) is = (x, refl, is)

own-key : (dir : Dir) (rank index : ℕ) → area_is_of rank dir (key dir rank index) ≡ true
own-key dir rank index = and_from (rank == rank) (same_dir dir dir) (eq-eqb rank rank refl) (same_dir-refl dir)

-- an area that lies in the datagram by its place has a key there
carried-listed : (state : State) (task datagram : ℕ) (member : Member) (dir : Dir) → task < TASKS
    → list_any (is_area_in (layout_of (line state)) (task, datagram) dir member.rank) (enumerate_from 0 member.slave.areas) ≡ true
    → list_any (area_is_of member.rank dir) (datagram_keys (line state) task datagram) ≡ true
carried-listed state task datagram member dir low some =
    let members = line state in
    let places = task_places task members in
    let e = which-passes (is_area_in (layout_of members) (task, datagram) dir member.rank) (enumerate_from 0 member.slave.areas) some in
    let own : Key = key dir member.rank e.0.0 in
    let tests = and_parts ((e.0.1.task == task) && same_dir e.0.1.dir dir) (area_lies_in (layout_of members) (task, datagram) own) e.2 in
    let place = passed (λ (p : Placed). p.datagram == datagram) (placed_in (layout_of members) task own) tests.1 in
    let holds =
    find-holds (Contains places) (λ (p : Placed). same_key p.key own) places place.0 (sym (placed-in-line members task own low) ∙ place.1) (All-contains_itself places) in
    let same : place.0.key ≡ own = same_key-same place.0.key own holds.1 in
    let here = contains-unchanged (λ (p : Placed). p.datagram == datagram) places place.0 holds.0 place.2 in
    some-passes (area_is_of member.rank dir) (datagram_keys members task datagram) place.0.key
    (contains-mapped (λ (p : Placed). p.key) (inside datagram places) place.0 here)
    (ap (area_is_of member.rank dir) same ∙ own-key dir member.rank e.0.0)

-- a place of a task is found by its key
place-found : (state : State) (task : ℕ) (p : Placed) (own : Key) → Contains (task_places task (line state)) p → p.key ≡ own
    → find (λ (q : Placed). same_key q.key own) (task_places task (line state)) ≡ Some p
place-found state task p own has same =
    find-only (λ (q : Placed). same_key q.key own) (task_places task (line state)) p
    (AllPairs-weaker (λ (a b : Placed). IsTrue (is_before a.key b.key)) (λ (a b : Placed). same_key a.key own ≡ true → same_key b.key own ≡ true → ⊥)
    (λ a b before is is'. not-before a.key b.key (same_key-same a.key own is ∙ sym (same_key-same b.key own is')) before)
    (task_places task (line state)) (keys-apart state task))
    has (ap (λ (k : Key). same_key k own) same ∙ same_key-refl own)

-- and an area has a key of the slave there; its place lies in the datagram
listed-carried : (state : State) (task datagram : ℕ) (member : Member) (dir : Dir) → task < TASKS → Contains (line state) member
    → list_any (area_is_of member.rank dir) (datagram_keys (line state) task datagram) ≡ true
    → list_any (is_area_in (layout_of (line state)) (task, datagram) dir member.rank) (enumerate_from 0 member.slave.areas) ≡ true
listed-carried state task datagram member dir low has some =
    let members = line state in
    let places = task_places task members in
    let areas = member.slave.areas in
    let listed = which-passes (area_is_of member.rank dir) (datagram_keys members task datagram) some in
    let tests = and_parts (listed.0.rank == member.rank) (same_dir listed.0.dir dir) listed.2 in
    let placed = contains-unmapped (λ (p : Placed). p.key) (inside datagram places) listed.0 listed.1 in
    let p = placed.0 in
    let here = contains-unkept (λ (q : Placed). q.datagram == datagram) places p placed.1 in
    let source : HasArea members task (area_of p) = All-contains (λ (q : Placed). HasArea members task (area_of q)) places p (placed-areas members task) here.0 in
    let own = sym source.key ∙ placed.2 in
    let rank : source.member.rank ≡ member.rank = ap (λ (k : Key). k.rank) own ∙ eqb-true listed.0.rank member.rank tests.0 in
    let way : source.area.dir ≡ dir = ap (λ (k : Key). k.dir) own ∙ same_dir-same listed.0.dir dir tests.1 in
    let one : source.member ≡ member = one-rank members source.member member (line-ascends 1 state.groups) source.in_line has rank in
    let found : slice_get areas source.index ≡ Some source.area = subst (λ (m : Member). slice_get m.slave.areas source.index ≡ Some source.area) one source.found in
    let number : 0 + source.index ≡ source.index = omega arith in
    let numbered : Contains (enumerate_from 0 areas) (source.index, source.area) =
    subst (λ (n : ℕ). Contains (enumerate_from 0 areas) (n, source.area)) number (contains-numbered 0 source.index areas source.area found) in
    let mine : Key = key dir member.rank source.index in
    let same : p.key ≡ mine = source.key ∙ ap₂ (λ (d : Dir) (r : ℕ). key d r source.index) way rank in
    let at : placed_in (layout_of members) task mine ≡ Some p = placed-in-line members task mine low ∙ place-found state task p mine here.0 same in
    let lies : area_lies_in (layout_of members) (task, datagram) mine ≡ true = ap (λ (o : Option Placed). option_map_or (λ (q : Placed). q.datagram == datagram) o false) at ∙ here.1 in
    let task_is : (source.area.task == task) ≡ true = eq-eqb source.area.task task source.task_is in
    let dir_is : same_dir source.area.dir dir ≡ true = ap (λ (d : Dir). same_dir d dir) way ∙ same_dir-refl dir in
    some-passes (is_area_in (layout_of members) (task, datagram) dir member.rank) (enumerate_from 0 areas) (source.index, source.area) numbered
    (and_from ((source.area.task == task) && same_dir source.area.dir dir) (area_lies_in (layout_of members) (task, datagram) mine)
    (and_from (source.area.task == task) (same_dir source.area.dir dir) task_is dir_is) lies)

share-listed : (state : State) (task datagram : ℕ) (member : Member) → task < TASKS → Contains (line state) member
    → share_in (layout_of (line state)) (task, datagram) member.rank member.slave.areas ≡ counter_share (datagram_keys (line state) task datagram) member.rank
share-listed state task datagram member low has =
    let carried = λ (dir : Dir).
    same-by (list_any (is_area_in (layout_of (line state)) (task, datagram) dir member.rank) (enumerate_from 0 member.slave.areas))
    (list_any (area_is_of member.rank dir) (datagram_keys (line state) task datagram))
    (carried-listed state task datagram member dir low) (listed-carried state task datagram member dir low has) in
    ap₂ (λ (writes reads : Bool). (if writes then 2 else 0) + (if reads then 1 else 0)) (carried Out) (carried In)

-- so a slave that is found by its station address adds what its areas' places say
pub found-share : (groups : List Declared) (layout : List (List Placed)) (task datagram station : ℕ) (member : Member) → IsLayoutOf groups layout → task < TASKS
    → find (is_at station) (line_from 1 groups) ≡ Some member
    → share_of (line_from 1 groups) task datagram station ≡ Some (share_in layout (task, datagram) member.rank member.slave.areas)
found-share groups layout task datagram station member known low found =
    let members = line_from 1 groups in
    let state : State = record { groups = groups; epoch = 0 } in
    let has = (find-holds (Contains members) (is_at station) members member found (All-contains_itself members)).0 in
    ap (option_map (λ (m : Member). counter_share (datagram_keys members task datagram) m.rank)) found
    ∙ sym (ap Some (ap (λ (l : List (List Placed)). share_in l (task, datagram) member.rank member.slave.areas) known.of_line ∙ share-listed state task datagram member low has))

-- the law

sum-same : (f g : Member → ℕ) (members : List Member) → All (λ member. f member ≡ g member) members → sum_by f members ≡ sum_by g members
sum-same f g [] same = refl
sum-same f g (member ∷ members) same =
    sum_by-cons f member members
    ∙ ap₂ (λ (a b : ℕ). a + b) (All-head (λ m. f m ≡ g m) member members same) (sum-same f g members (All-tail (λ m. f m ≡ g m) member members same))
    ∙ sym (sum_by-cons g member members)

sum-ranks : (f : ℕ → ℕ) (members : List Member) → sum_by (λ (member : Member). f member.rank) members ≡ sum_by f (map (λ (member : Member). member.rank) members)
sum-ranks f [] = refl
sum-ranks f (member ∷ members) =
    sum_by-cons (λ (m : Member). f m.rank) member members
    ∙ ap (λ (n : ℕ). f member.rank + n) (sum-ranks f members)
    ∙ sym (sum_by-cons f member.rank (map (λ (m : Member). m.rank) members))

-- a slave of a project's line is found by its station address
self-found : (state : State) (member : Member) → AllPairs (λ (a b : Member). a.slave.station ≡ b.slave.station → ⊥) (line state) → Contains (line state) member
    → find (is_at member.slave.station) (line state) ≡ Some member
self-found state member apart has =
    let station = member.slave.station in
    find-only (is_at station) (line state) member
    (AllPairs-weaker (λ (a b : Member). a.slave.station ≡ b.slave.station → ⊥) (λ (a b : Member). is_at station a ≡ true → is_at station b ≡ true → ⊥)
    (λ a b differ is is'. differ (eqb-true a.slave.station station is ∙ sym (eqb-true b.slave.station station is'))) (line state) apart)
    has (eq-eqb station station refl)

pub shares-add-up : SharesAddUp
shares-add-up state task number datagram none is =
    let members = line state in
    let keys = datagram_keys members task number in
    let row = row-is members task number datagram is in
    sum-same (λ (m : Member). unwrap_or (share_at members task number m.slave.station) 0) (λ (m : Member). counter_share keys m.rank) members
    (λ j d low.
    let member = slice_index_or members j d in
    ap (λ (o : Option Datagram). unwrap_or (option_and_then (λ found. share_of members task number member.slave.station) o) 0) is
    ∙ ap (λ (o : Option Member). unwrap_or (option_map (λ (m : Member). counter_share keys m.rank) o) 0) (self-found state member (line-stations state.groups none) (Contains-get_or members j d low)))
    ∙ sum-ranks (counter_share keys) members
    ∙ sym (ap (λ (one : Datagram). one.expected) row.is)
