-- The differences between the lines before and after an accepted edit, place by place.
use Rattle.std.proofs.Common.{◌≡◌, ℕ, zero, suc, ◌+◌, ◌*◌, ◌/◌, ◌%◌, ◌<◌, ◌≤◌, Bool, true, false, cond, Contains, List, [], ◌∷◌, ◌++◌, length, map, ◌⊎◌, inl, inr, refl, sym, ap, subst, ◌∙◌, arith, length-append, rules}
use Rattle.std.specs.Prelude.{◌≢◌, All, None, Some, Ok, not, option_map, slice_get, slice_index_or}
use Rattle.std.specs.List.{enumerate_from, flat_map, list_any}
use Rattle.std.proofs.lemmas.Bool.{cases_order}
use Rattle.std.proofs.lemmas.List.{length-map}
use Rattle.std.proofs.lemmas.List.Elements.{All-contains, All-map, All-weaker}
use Rattle.std.proofs.lemmas.List.Folds.{Any-from_list_any}
use Rattle.std.proofs.lemmas.Option.{same_Some, slice_get-get_or, slice_get-map, slice_get_within}
use Rattle.hc_records.specs.declared.records.Area.{Area}
use Rattle.hc_records.specs.declared.records.Declared.{Declared}
use Rattle.hc_records.specs.declared.records.Slave.{Slave}
use Rattle.hc_records.specs.declared.edit.Edit.{Edit}
use Rattle.hc_records.specs.declared.edit.Edit.TheVariants.{Connect, Disconnect, Remap, Move, Declare}
use Rattle.hc_records.specs.Edits.{declares, edited}
use Rattle.hc_records.specs.Line.{Member, State, groups_of, line}
use Rattle.hc_records.specs.Project.{lowest_fault}
use Rattle.hc_records.proofs.lemmas.Finds.{mapped-some}
use Rattle.hc_records.proofs.lemmas.Lines.{RankWithin, declared_slaves, line-slaves, line-within}
use Rattle.hc_records.proofs.lemmas.Lists.{All-flat_map, All-passing}
use Rattle.hc_registers.specs.declared.registers.TheConstants.{FMMU_BLOCKS, FMMU_BLOCK_BYTES, SYNC_MANAGER_BLOCKS, SYNC_MANAGER_BLOCK_BYTES}
use Rattle.hc_registers.specs.Blocks.{LineBlock, RegisterBlock, area_blocks, line_blocks, member_blocks, numbered, same_block, slave_blocks}
use Rattle.hc_registers.specs.Ranked.{RankedBlock, member_ranked, moved_ranked, ranked, ranked_blocks}
use Rattle.hc_registers.specs.RankDifferences.{Differ, IsGone, IsAtItsPlace, StoodAt, block_place, first_gone}
use Rattle.hc_registers.specs.RankLaws.{HasPlaces}
use Rattle.hc_registers.specs.RankPlaces.{place, places}
use Rattle.hc_registers.proofs.lemmas.RanksGapless.{Few, few-areas, length-member}
use Rattle.hc_registers.proofs.lemmas.RanksStanding.{IsPlacedOf, length-places, members-are_placed, standing-of}
use Rattle.hc_groups.specs.declared.changes.PresenceChange.{PresenceChange}
use Rattle.hc_groups.specs.declared.prepared.Prepared.{Prepared}
use Rattle.hc_groups.specs.declared.prepared.Prepared.TheVariants.{Presence, Areas}
use Rattle.hc_groups.specs.Changes.{change_by, changed_groups}
use Rattle.hc_groups.specs.Rows.{ChangesRow, Ranked, by_rank, row}
use Rattle.hc_groups.proofs.lemmas.Accepted.{accepted-groups, accepted-project}
use Rattle.hc_groups.proofs.lemmas.CarriedOut.{carried-after}
use Rattle.hc_groups.proofs.lemmas.Concerned.{change-of-row}
use Rattle.hc_changes.proofs.lemmas.Bare.{bare, bare_slave, edit-stays}
use Rattle.hc_changes.proofs.lemmas.Lists.{contains-filtered, contains-flat_map, flat_map-piece}
use Rattle.hc_changes.proofs.lemmas.OneProject.{AreOfOneProject, edit-one-project}
use Rattle.hc_plan.specs.Gone.{gone_of, none_gone}
use Rattle.hc_plan.proofs.ByRank.{InRow, all-slaves, areas-presence, at-rank, beside-same, member_at, own_blocks, presence-in-row}
use Rattle.hc_plan.proofs.Registers.{one-block}
use Rattle.hc_plan.proofs.lemmas.Configured.{at-contained, contained-own, get-own, made}

-- the declared slaves before and after, by rank

abbrev SameSlaves : List Declared → List Declared → Type 0
SameSlaves olds updates = map bare_slave (declared_slaves updates) ≡ map bare_slave (declared_slaves olds)

-- an element is at each index within
pub there : {X : Type 0} (xs : List X) (i : ℕ) → i < length xs → (x : X) × (slice_get xs i ≡ Some x)
there [] i low = absurd (omega (arith, low))
there (x ∷ xs) zero low = (x, refl)
there (x ∷ xs) (suc i) low = there xs i (omega (arith, low))

rank-length : (groups : List Declared) → length (by_rank groups) ≡ length (declared_slaves groups)
rank-length groups = sym (length-map (by_rank groups) (λ (one : Ranked). one.slave)) ∙ ap (λ (slaves : List Slave). length slaves) (all-slaves groups)

as-many : (olds updates : List Declared) → SameSlaves olds updates → length (declared_slaves updates) ≡ length (declared_slaves olds)
as-many olds updates same = search (rules, length-map)

bare-at : (groups : List Declared) (i : ℕ) (one : Ranked) → slice_get (by_rank groups) i ≡ Some one → slice_get (map bare_slave (declared_slaves groups)) i ≡ Some (bare_slave one.slave)
bare-at groups i one at = search (rules, all-slaves, slice_get-map)

-- a slave has as many blocks before and after
pub bare-count : (a b : Slave) → bare_slave a ≡ bare_slave b → length a.areas ≡ length b.areas
bare-count a b same = search (rules, length-map)

-- what holds of the states before and after an accepted edit, and of what it changes
record Leads (old new : State) (change : Prepared) : Type 0 where
  row : ChangesRow change old.groups
  after : new.groups ≡ changed_groups change old.groups
  same : SameSlaves old.groups new.groups
  before : lowest_fault (groups_of old.groups) ≡ None
  after_it : lowest_fault (groups_of new.groups) ≡ None
  one : AreOfOneProject (line old) (line new)

-- it declares no group

changes-no : (groups : List Declared) (edit : Edit) (change : Prepared) → change_by groups edit ≡ Some change → declares edit ≡ false
changes-no groups (Connect alias) change is = refl
changes-no groups (Disconnect alias) change is = refl
changes-no groups (Remap station area pdos) change is = refl
changes-no groups (Move station area task) change is = refl
changes-no groups (Declare group) change is = cc

leads : (old new : State) (edit : Edit) (change : Prepared) → lowest_fault (groups_of old.groups) ≡ None → edited old edit ≡ Ok new → change_by old.groups edit ≡ Some change → Leads old new change
leads old new edit change project accepted changes =
    let groups = accepted-groups old new edit accepted in
    let same = edit-stays old.groups edit (changes-no old.groups edit change changes) in
    search (rules, change-of-row, carried-after, accepted-project, edit-one-project)

-- which slaves leave

side : (first end i : ℕ) → ((first ≤ i) × (i < end)) ⊎ ((i < first) ⊎ (end ≤ i))
side first end i = elim (cases_order i first) [
  | inl equal ↦ upper (omega (arith, equal))
  | inr (inl below) ↦ inr (inl below)
  | inr (inr above) ↦ upper (omega (arith, above))
]
  where
    upper : first ≤ i → ((first ≤ i) × (i < end)) ⊎ ((i < first) ⊎ (end ≤ i))
    upper from = elim (cases_order i end) [
      | inl equal ↦ inr (inr (omega (arith, equal)))
      | inr (inl below) ↦ inl (from, below)
      | inr (inr above) ↦ inr (inr (omega (arith, above)))
    ]

-- the slaves of a group that goes leave
row-goes : (change : PresenceChange) (n : ℕ) → change.present ≡ false → 1 ≤ change.first → InRow (Presence change) (n / 16) → IsGone (gone_of (Presence change)) n
row-goes change n is some inside = search rules

gone-absent : (change : Prepared) (old new : State) (n : ℕ) → Leads old new change → IsGone (gone_of change) n → slice_get (places new) n ≡ Some None
gone-absent (Areas change) old new n made gone = let a = gone.0 in let b = gone.1 in absurd (omega (arith, a, b))
gone-absent (Presence change) old new n made gone = by change.present refl
  where
    i : ℕ
    i = n / 16

    by : (present : Bool) → change.present ≡ present → slice_get (places new) n ≡ Some None
    by true is =
        let none = subst (λ (present : Bool). IsGone (cond present none_gone (record { rank = change.first; slaves = change.slaves })) n) is gone in
        let a = none.0 in let b = none.1 in absurd (omega arith)
    by false is =
        let some = subst (λ (present : Bool). IsGone (cond present none_gone (record { rank = change.first; slaves = change.slaves })) n) is gone in
        let rows = made.row in
        let own = row (Presence change) (changed_groups (Presence change) old.groups) in
        let all = ap (λ (l : List Ranked). length l) rows.after in
        let parts = length-append rows.front (own ++ rows.after_it) in
        let rest = length-append own rows.after_it in
        let here = there (by_rank (changed_groups (Presence change) old.groups)) i (omega (arith, all, parts, rest)) in
        let inside : InRow (Presence change) i = (omega arith, omega arith) in
        let absent = presence-in-row change old.groups i here.0 rows inside here.1 ∙ is in
        ap (slice_get (places new)) (omega arith)
        ∙ at-rank (line new) new.groups i (n % 16) here.0 (ap (λ (g : List Declared). slice_get (by_rank g) i) made.after ∙ here.1) (omega arith)
        ∙ ap (λ (present : Bool). Some (slice_get (cond present (member_blocks (line new) (member_at (1 + i) here.0)) []) (n % 16))) absent

-- what stays

-- a slave that is present before is present after, unless it leaves
stays-present : (change : Prepared) (old new : State) (n : ℕ) (was is : Ranked) → Leads old new change → slice_get (by_rank old.groups) (n / 16) ≡ Some was → slice_get (by_rank new.groups) (n / 16) ≡ Some is
    → was.present ≡ true → (is.present ≡ true) ⊎ IsGone (gone_of change) n
stays-present change old new n was is made before after present = search (rules, areas-presence, side, same_Some, beside-same, presence-in-row, row-goes)

-- a place with a block before has one after, unless its slave leaves
stays-full : (change : Prepared) (old new : State) (n : ℕ) (block : LineBlock) → Leads old new change → slice_get (places old) n ≡ Some (Some block) → slice_get (places new) n ≡ Some None → IsGone (gone_of change) n
stays-full change old new n block made stood none =
    elim (stays-present change old new n was.0 is.0 made was.1 is.1 present) [
      | inl still ↦ absurd (some-block (member_blocks (line new) (member_at (1 + i) is.0)) (n % 16) (omega (arith, low, before, after_it, alike)) (now still))
      | inr gone ↦ gone
    ]
  where
    i : ℕ
    i = n / 16

    within : n < length (places old)
    within = slice_get_within (places old) n (Some block) stood

    was : (one : Ranked) × (slice_get (by_rank old.groups) i ≡ Some one)
    was = there (by_rank old.groups) i (let size = length-places old in let all = rank-length old.groups in omega (arith, within, size, all))

    is : (one : Ranked) × (slice_get (by_rank new.groups) i ≡ Some one)
    is = there (by_rank new.groups) i (let size = length-places old in let all = rank-length new.groups in let many = as-many old.groups new.groups made.same in omega (arith, within, size, all, many))

    at : slice_get (own_blocks (line old) (1 + i) was.0) (n % 16) ≡ Some block
    at = same_Some (slice_get (own_blocks (line old) (1 + i) was.0) (n % 16)) (Some block) (sym (at-rank (line old) old.groups i (n % 16) was.0 was.1 (omega arith)) ∙ ap (slice_get (places old)) (omega arith) ∙ stood)

    some-present : (p : Bool) (xs : List LineBlock) (k : ℕ) (x : LineBlock) → slice_get (cond p xs []) k ≡ Some x → p ≡ true
    some-present true xs k x at = refl
    some-present false xs k x at = cc

    present : was.0.present ≡ true
    present = some-present was.0.present (member_blocks (line old) (member_at (1 + i) was.0)) (n % 16) block at

    low : n % 16 < length (member_blocks (line old) (member_at (1 + i) was.0))
    low = slice_get_within (member_blocks (line old) (member_at (1 + i) was.0)) (n % 16) block
        (ap (λ (p : Bool). slice_get (cond p (member_blocks (line old) (member_at (1 + i) was.0)) []) (n % 16)) (sym present) ∙ at)

    before : length (member_blocks (line old) (member_at (1 + i) was.0)) ≡ 2 * length was.0.slave.areas
    before = length-member (line old) (member_at (1 + i) was.0)

    after_it : length (member_blocks (line new) (member_at (1 + i) is.0)) ≡ 2 * length is.0.slave.areas
    after_it = length-member (line new) (member_at (1 + i) is.0)

    alike : length was.0.slave.areas ≡ length is.0.slave.areas
    alike = bare-count was.0.slave is.0.slave
        (same_Some (bare_slave was.0.slave) (bare_slave is.0.slave)
        (sym (bare-at old.groups i was.0 was.1) ∙ ap (λ (slaves : List (ℕ × List Area)). slice_get slaves i) (sym made.same) ∙ bare-at new.groups i is.0 is.1))

    now : is.0.present ≡ true → Some (slice_get (member_blocks (line new) (member_at (1 + i) is.0)) (n % 16)) ≡ Some None
    now still =
        ap (λ (p : Bool). Some (slice_get (cond p (member_blocks (line new) (member_at (1 + i) is.0)) []) (n % 16))) (sym still)
        ∙ sym (at-rank (line new) new.groups i (n % 16) is.0 is.1 (omega arith)) ∙ ap (slice_get (places new)) (omega arith) ∙ none

    some-block : (xs : List LineBlock) (k : ℕ) → k < length xs → Some (slice_get xs k) ≡ Some None → ⊥
    some-block xs k low none = let one = there xs k low in let no : Some one.0 ≡ None = sym one.1 ∙ same_Some (slice_get xs k) None none in cc

-- what moves

-- a block's number is its place among its slave's
pub number-is : (station first k : ℕ) (blocks : List RegisterBlock) (block : LineBlock) → slice_get (numbered station first blocks) k ≡ Some block → block.number ≡ first + k
number-is station first k [] block at = cc
number-is station first zero (b ∷ blocks) block at = let is : record { station = station; number = first; block = b } ≡ block = cc in ap (λ (l : LineBlock). l.number) (sym is) ∙ omega arith
number-is station first (suc k) (b ∷ blocks) block at = let next = number-is station (first + 1) k blocks block at in omega (arith, next)

all-at : {X : Type 0} (P : X → Type 0) (xs : List X) → ((k : ℕ) (x : X) → slice_get xs k ≡ Some x → P x) → All P xs
all-at P xs each k d within = each k (slice_index_or xs k d) (slice_get-get_or xs k d within)

-- each block of a line is at its place
member-are_placed : (state : State) (member : Member) → Contains (line state) member → Few member.slave → All (IsAtItsPlace (places state)) (member_ranked (line state) member)
member-are_placed state member on few =
    All-map (IsAtItsPlace (places state)) (ranked member.rank) (member_blocks (line state) member)
    (all-at (λ block. IsAtItsPlace (places state) (ranked member.rank block)) (member_blocks (line state) member)
    (λ k block at.
    let number = number-is member.slave.station 0 k (slave_blocks (line state) member) block at in
    let within = slice_get_within (member_blocks (line state) member) k block at in
    let size = length-member (line state) member in
    ap (λ (n : ℕ). slice_get (places state) (place member.rank n)) (omega (arith, number))
    ∙ All-contains (HasPlaces state) (line state) member (members-are_placed state) on k (omega (arith, within, size, few)) ∙ ap Some at))

line-are_placed : (state : State) → lowest_fault (groups_of state.groups) ≡ None → All (IsAtItsPlace (places state)) (ranked_blocks (line state))
line-are_placed state none =
    All-flat_map (IsAtItsPlace (places state)) (member_ranked (line state)) (line state)
    (λ k d within.
    let member = slice_index_or (line state) k d in
    member-are_placed state member (at-contained (line state) k member (slice_get-get_or (line state) k d within)) (line-slaves Few 1 state.groups (few-areas state.groups none) k d within))

member-ranks : (whole : List Member) (member : Member) → 1 ≤ member.rank → All (λ block. 1 ≤ block.rank) (member_ranked whole member)
member-ranks whole member some = All-map (λ block. 1 ≤ block.rank) (ranked member.rank) (member_blocks whole member) (λ k d within. some)

line-ranks : (state : State) → All (λ block. 1 ≤ block.rank) (ranked_blocks (line state))
line-ranks state =
    All-flat_map (λ block. 1 ≤ block.rank) (member_ranked (line state)) (line state)
    (All-weaker (RankWithin 1 (1 + length (declared_slaves state.groups))) (λ member. All (λ block. 1 ≤ block.rank) (member_ranked (line state) member))
    (λ member within. member-ranks (line state) member within.0) (line state) (line-within 1 state.groups))

-- a slave keeps the registers of its blocks

abbrev registers_from : ℕ → List Area → List ℕ
registers_from index [] = []
registers_from index (area ∷ areas) =
    (SYNC_MANAGER_BLOCKS + SYNC_MANAGER_BLOCK_BYTES * area.sm) ∷ (FMMU_BLOCKS + FMMU_BLOCK_BYTES * index) ∷ registers_from (index + 1) areas

abbrev registers : List RegisterBlock → List ℕ
registers blocks = map (λ block. block.register) blocks

area-registers : (whole : List Member) (rank first : ℕ) (areas : List Area) → registers (flat_map (area_blocks whole rank) (enumerate_from first areas)) ≡ registers_from first (map bare areas)
area-registers whole rank first [] = refl
area-registers whole rank first (area ∷ areas) = search (rules, area-registers whole rank (first + 1) areas)

slave-registers : (whole : List Member) (member : Member) → registers (slave_blocks whole member) ≡ registers_from 0 (bare_slave member.slave).1
slave-registers whole member = area-registers whole member.rank 0 member.slave.areas

same-registers : (whole others : List Member) (a b : Member) → bare_slave a.slave ≡ bare_slave b.slave → registers (slave_blocks whole a) ≡ registers (slave_blocks others b)
same-registers whole others a b alike = slave-registers whole a ∙ ap (λ (s : ℕ × List Area). registers_from 0 s.1) alike ∙ sym (slave-registers others b)

-- a block that is none of the moved ones was in the old line, with its bytes at its register
unmoved : (old new : List Member) (rank : ℕ) (block : LineBlock) → Contains (ranked_blocks new) (ranked rank block) → All (λ other. block_place other ≢ place rank block.number) (moved_ranked old new)
    → list_any (same_block block) (line_blocks old) ≡ true
unmoved old new rank block among others = by (list_any (same_block block) (line_blocks old)) refl
  where
    by : (had : Bool) → list_any (same_block block) (line_blocks old) ≡ had → had ≡ true
    by true is = refl
    by false is =
        absurd (All-contains (λ other. block_place other ≢ place rank block.number) (moved_ranked old new) (ranked rank block) others
        (contains-filtered (λ (one : RankedBlock). not (list_any (same_block one.found) (line_blocks old))) (ranked_blocks new) (ranked rank block) among (ap not is)) refl)

record SameBlock (a b : LineBlock) : Type 0 where
  station : a.station ≡ b.station
  register : a.block.register ≡ b.block.register
  bytes : a.block.bytes ≡ b.block.bytes

same-parts : (a b : LineBlock) → same_block a b ≡ true → SameBlock a b
same-parts a b same = search rules

whole-block : (a b : RegisterBlock) → a.register ≡ b.register → a.bytes ≡ b.bytes → a ≡ b
whole-block a b register bytes =
    ap (λ (n : ℕ). record { register = n; bytes = a.bytes }) register ∙ ap (λ (list : List ℕ). record { register = b.register; bytes = list }) bytes

-- so one with its bytes were at its place
stood-there : (change : Prepared) (old new : State) (n : ℕ) (block : LineBlock) → Leads old new change → IsPlacedOf (line new) (line new) 1 n block → All (λ other. block_place other ≢ n) (moved_ranked (line old) (line new)) → StoodAt (places old) n block
stood-there change old new n block lead here others =
    let a = here.member in
    let blocks = slave_blocks (line new) a in
    let number : block.number ≡ 0 + here.number = number-is a.slave.station 0 here.number blocks block here.is_placed in
    let own = at-contained (member_blocks (line new) a) here.number block here.is_placed in
    let mine = contained-own a.slave.station blocks block own in
    let at : n ≡ place a.rank block.number = omega (arith, number) in
    let among = contains-flat_map (member_ranked (line new)) (line new) a (ranked a.rank block) here.on
    (at-contained (member_ranked (line new) a) here.number (ranked a.rank block) (slice_get-map (ranked a.rank) (member_blocks (line new) a) here.number ∙ ap (option_map (ranked a.rank)) here.is_placed)) in
    let had = unmoved (line old) (line new) a.rank block among (subst (λ (k : ℕ). All (λ other. block_place other ≢ k) (moved_ranked (line old) (line new))) at others) in
    let some = Any-from_list_any (same_block block) (line_blocks (line old)) had in
    let before : LineBlock = some.1 in
    let stood : Contains (line_blocks (line old)) before = (some.0, some.2, some.3) in
    let same = same-parts block before some.4 in
    let piece = flat_map-piece (member_blocks (line old)) (line old) before stood in
    let b = piece.element in
    let theirs = contained-own b.slave.station (slave_blocks (line old) b) before piece.own in
    let rank = lead.one.ranks b a piece.among here.on (sym theirs.0 ∙ sym same.station ∙ mine.0) in
    let alike = lead.one.alike b a piece.among here.on rank in
    let register : slice_get (registers (slave_blocks (line old) b)) block.number ≡ Some block.block.register =
    ap (λ (list : List ℕ). slice_get list block.number) (same-registers (line old) (line new) b a alike)
    ∙ slice_get-map (λ (r : RegisterBlock). r.register) blocks block.number ∙ ap (option_map (λ (r : RegisterBlock). r.register)) mine.1 in
    let was = mapped-some (λ (r : RegisterBlock). r.register) (slice_get (slave_blocks (line old) b) block.number) block.block.register
    (sym (slice_get-map (λ (r : RegisterBlock). r.register) (slave_blocks (line old) b) block.number) ∙ register) in
    let other : LineBlock = record { station = b.slave.station; number = block.number; block = was.0 } in
    let other_at : slice_get (member_blocks (line old) b) block.number ≡ Some other = search (rules, get-own) in
    let standing = contains-flat_map (member_blocks (line old)) (line old) b other piece.among (at-contained (member_blocks (line old) b) block.number other other_at) in
    let one = one-block old.groups other before lead.before standing stood (sym theirs.0) (was.2 ∙ same.register) in
    let whole : before.block ≡ block.block = whole-block before.block block.block (sym same.register) (sym same.bytes) in
    search (rules, All-contains, members-are_placed)

-- the two lines differ by the slaves that leave, those that come, and the moved blocks

gone-inside : (change : Prepared) (old new : State) → Leads old new change → (1 ≤ (gone_of change).rank) × (first_gone (gone_of change) + 16 * (gone_of change).slaves ≤ length (places new))
gone-inside change old new made = search (rules, length-places, rank-length, length-append)

pub edits-differ : (old new : State) (edit : Edit) (change : Prepared) → lowest_fault (groups_of old.groups) ≡ None → edited old edit ≡ Ok new → change_by old.groups edit ≡ Some change
    → Differ (places old) (places new) (gone_of change) (moved_ranked (line old) (line new))
edits-differ old new edit change project accepted changes =
    let made = leads old new edit change project accepted changes in
    let inside = gone-inside change old new made in
    let before = length-places old in
    let after = length-places new in
    let many = as-many old.groups new.groups made.same in
    let test : RankedBlock → Bool = λ block. not (list_any (same_block block.found) (line_blocks (line old))) in
    search (rules, gone-absent, stays-full, All-passing, All-weaker, line-ranks, line-are_placed, stood-there, standing-of)
