-- The areas of the declared slaves by place, and the line's blocks that are theirs.
use Rattle.std.proofs.Common.{◌≡◌, ℕ, zero, suc, ◌+◌, ◌-◌, ◌*◌, ◌/◌, ◌%◌, ◌<◌, ◌==◌, Bool, true, false, cond, List, [], ◌∷◌, length, map, refl, sym, ap, subst, ◌∙◌, arith}
use Rattle.std.specs.Prelude.{◌≢◌, None, Some, Option, is_some, nat_lt, option_and_then, option_map, slice_get, slice_index_or}
use Rattle.std.specs.List.{range_with_len}
use Rattle.std.proofs.lemmas.Bool.{eqb-false, eqb-true, ltb-true, lt-ltb}
use Rattle.std.proofs.lemmas.List.{length-map}
use Rattle.std.proofs.lemmas.List.FromFn.{get_or-range_with_len, length-range_with_len}
use Rattle.std.proofs.lemmas.List.Elements.{All-contains}
use Rattle.std.proofs.lemmas.Option.{same_Some, slice_get-get_or, slice_get-map, slice_get_within}
use Rattle.hc_records.specs.declared.records.Slave.{Slave}
use Rattle.hc_records.specs.Lists.{changed_at}
use Rattle.hc_records.specs.Edits.{slave_at}
use Rattle.hc_records.specs.Line.{Member, State, groups_of, is_at, line}
use Rattle.hc_records.specs.Project.{lowest_fault}
use Rattle.hc_records.proofs.lemmas.Limits.{project-inside}
use Rattle.hc_records.proofs.lemmas.Lines.{declared_slaves}
use Rattle.hc_registers.specs.Blocks.{LineBlock, member_blocks}
use Rattle.hc_registers.specs.RankLaws.{HasPlaces}
use Rattle.hc_registers.specs.RankPlaces.{places, stations}
use Rattle.hc_registers.proofs.lemmas.RanksGapless.{length-member}
use Rattle.hc_registers.proofs.lemmas.RanksStanding.{members-are_placed, standing-of}
use Rattle.hc_changes.proofs.lemmas.Lists.{found-among}
use Rattle.hc_changes.proofs.lemmas.OneProject.{line-declared, one-index}
use Rattle.hc_plan.proofs.lemmas.Differing.{there}
use Rattle.hc_plan.proofs.lemmas.PlaceNames.{name-at}
use Rattle.hc_owed.specs.Readiness.{area_slave, slot}
use Rattle.hc_plan.proofs.lemmas.Replaced.{get-changed, get-other, is-map, length-changed}

-- lists over the first numbers

get-number : (count i : ℕ) → i < count → slice_get (range_with_len 0 count) i ≡ Some i
get-number count i low =
    let size = length-range_with_len 0 count in
    let is = get_or-range_with_len 0 count i 0 low in
    slice_get-get_or (range_with_len 0 count) i 0 (omega (arith, low, size)) ∙ ap (λ (n : ℕ). Some n) (omega (arith, is))

pub get-range : {Y : Type 0} (f : ℕ → Y) (count i : ℕ) → i < count → slice_get (map f (range_with_len 0 count)) i ≡ Some (f i)
get-range {Y} f count i low = slice_get-map f (range_with_len 0 count) i ∙ ap (option_map f) (get-number count i low)

pub length-range : {Y : Type 0} (f : ℕ → Y) (count : ℕ) → length (map f (range_with_len 0 count)) ≡ count
length-range f count = length-map (range_with_len 0 count) f ∙ length-range_with_len 0 count

-- a list that has at each number what a function gives
pub is-range : {Y : Type 0} (ys : List Y) (f : ℕ → Y) (count : ℕ) → length ys ≡ count → ((i : ℕ) → i < count → slice_get ys i ≡ Some (f i)) → ys ≡ map f (range_with_len 0 count)
is-range {Y} ys f count size each =
    is-map ys f (range_with_len 0 count) (size ∙ sym (length-range_with_len 0 count))
    (λ n z at.
    let within = slice_get_within (range_with_len 0 count) n z at in
    let all = length-range_with_len 0 count in
    let low : n < count = omega (arith, within, all) in
    let same : n ≡ z = same_Some n z (sym (get-number count n low) ∙ at) in
    each n low ∙ ap (λ (i : ℕ). Some (f i)) same)

-- one element is changed
pub changed-range : {Y : Type 0} (f g : ℕ → Y) (count n : ℕ) (y : Y) → n < count → g n ≡ y → ((i : ℕ) → i < count → n ≢ i → f i ≡ g i) → changed_at n (λ _. y) (map f (range_with_len 0 count)) ≡ map g (range_with_len 0 count)
changed-range {Y} f g count n y low here others =
    is-range (changed_at n (λ _. y) all) g count (length-changed n (λ _. y) all ∙ length-range f count) (λ i within. by i within (n == i) refl)
  where
    all : List Y
    all = map f (range_with_len 0 count)

    by : (i : ℕ) → i < count → (same : Bool) → (n == i) ≡ same → slice_get (changed_at n (λ _. y) (map f (range_with_len 0 count))) i ≡ Some (g i)
    by i within true is =
        let same = eqb-true n i is in
        let size = length-range f count in
        ap (slice_get (changed_at n (λ _. y) (map f (range_with_len 0 count)))) (sym same) ∙ get-changed n y (map f (range_with_len 0 count)) (omega (arith, low, size))
        ∙ ap (λ (x : Y). Some x) (sym here) ∙ ap (λ (k : ℕ). Some (g k)) same
    by i within false is =
        let apart = eqb-false n i is in
        get-other n i y (map f (range_with_len 0 count)) apart ∙ get-range f count i within ∙ ap (λ (x : Y). Some x) (others i within apart)

pub changed-by : {X : Type 0} (f : X → X) (xs : List X) (n : ℕ) (x : X) → slice_get xs n ≡ Some x → changed_at n (λ _. f x) xs ≡ changed_at n f xs
changed-by f [] n x at = refl
changed-by {X} f (y ∷ xs) zero x at = ap (λ (z : X). f z ∷ xs) (sym (same_Some y x at))
changed-by {X} f (y ∷ xs) (suc n) x at = ap (λ (rest : List X). y ∷ rest) (changed-by f xs n x at)

-- the block at a place

slot-by : (all : List (Option LineBlock)) (n : ℕ) (block : LineBlock) → slice_index_or all n None ≡ Some block → slice_get all n ≡ Some (Some block)
slot-by [] n block is = cc
slot-by (x ∷ all) zero block is = ap (λ (o : Option LineBlock). Some o) is
slot-by (x ∷ all) (suc n) block is = slot-by all n block is

pub slot-at : (state : State) (n : ℕ) (block : LineBlock) → slot state n ≡ Some block → slice_get (places state) n ≡ Some (Some block)
slot-at state n block is = slot-by (places state) n block is

slot-of : (all : List (Option LineBlock)) (n : ℕ) (z : Option LineBlock) → slice_get all n ≡ Some z → slice_index_or all n None ≡ z
slot-of [] n z at = cc
slot-of (x ∷ all) zero z at = same_Some x z at
slot-of (x ∷ all) (suc n) z at = slot-of all n z at

pub slot-is : (state : State) (n : ℕ) (z : Option LineBlock) → slice_get (places state) n ≡ Some z → slot state n ≡ z
slot-is state n z at = slot-of (places state) n z at

-- the slave that has an area

pub record HasAreaAt (state : State) (n : ℕ) (slave : Slave) : Type 0 where
  pub declared : slice_get (declared_slaves state.groups) (n / 8) ≡ Some slave
  pub low : n % 8 < length slave.areas

kept-some : {X : Type 0} (test : Bool) (x y : X) → cond test (Some x) None ≡ Some y → (test ≡ true) × (x ≡ y)
kept-some true x y is = (refl, same_Some x y is)
kept-some false x y is = cc

pub area-of : (state : State) (n : ℕ) (slave : Slave) → area_slave state n ≡ Some slave → HasAreaAt state n slave
area-of state n slave is = by (slice_get (declared_slaves state.groups) (n / 8)) refl is
  where
    by : (found : Option Slave) → slice_get (declared_slaves state.groups) (n / 8) ≡ found
        → option_and_then (λ (s : Slave). cond (nat_lt (n % 8) (length s.areas)) (Some s) None) found ≡ Some slave → HasAreaAt state n slave
    by None at is = cc
    by (Some s) at is =
        let parts = kept-some (nat_lt (n % 8) (length s.areas)) s slave is in
        record {
          declared = at ∙ ap (λ (x : Slave). Some x) parts.1;
          low = subst (λ (x : Slave). n % 8 < length x.areas) parts.1 (ltb-true (n % 8) (length s.areas) parts.0);
        }

pub area-is : (state : State) (n : ℕ) (slave : Slave) → slice_get (declared_slaves state.groups) (n / 8) ≡ Some slave → n % 8 < length slave.areas → area_slave state n ≡ Some slave
area-is state n slave declared low =
    ap (option_and_then (λ (s : Slave). cond (nat_lt (n % 8) (length s.areas)) (Some s) None)) declared ∙ ap (λ (b : Bool). cond b (Some slave) None) (lt-ltb (n % 8) (length slave.areas) low)

-- a block of the line is of an area of a declared slave
pub record IsOfArea (state : State) (p : ℕ) (block : LineBlock) : Type 0 where
  pub slave : Slave
  pub area : area_slave state (p / 2) ≡ Some slave
  pub station : slave.station ≡ block.station
  pub number : block.number ≡ p % 16

pub of-area : (state : State) (p : ℕ) (block : LineBlock) → slice_get (places state) p ≡ Some (Some block) → IsOfArea state p block
of-area state p block at =
    let here = standing-of state p block at in
    let name = name-at state p block at in
    let declared = line-declared 1 state.groups here.member here.on in
    let low = slice_get_within (member_blocks (line state) here.member) here.number block here.is_placed in
    let size = length-member (line state) here.member in
    let place = here.is in
    let small = here.low in
    let rank = declared.rank in
    let index : declared.index ≡ p / 2 / 8 = omega (arith, place, small, rank) in
    let number : here.number ≡ p % 16 = omega (arith, place, small, rank) in
    let slave = here.member.slave in
    let own : slice_get (declared_slaves state.groups) (p / 2 / 8) ≡ Some slave = ap (slice_get (declared_slaves state.groups)) (sym index) ∙ declared.is_placed in
    let eighth : p / 2 / 8 ≡ p / 16 = omega arith in
    let found : slice_get (stations state) (p / 16) ≡ Some slave.station =
    slice_get-map (λ (s : Slave). s.station) (declared_slaves state.groups) (p / 16) ∙ ap (option_map (λ (s : Slave). s.station)) (ap (slice_get (declared_slaves state.groups)) (sym eighth) ∙ own) in
    record {
      slave = slave;
      area = area-is state (p / 2) slave own (omega (arith, low, size, number));
      station = same_Some slave.station block.station (sym found ∙ name.station);
      number = name.number;
    }

-- two areas with the same station address and the same number are one
pub one-area : (state : State) (i n : ℕ) (a b : Slave) → lowest_fault (groups_of state.groups) ≡ None → area_slave state i ≡ Some a → area_slave state n ≡ Some b → a.station ≡ b.station → i % 8 ≡ n % 8 → i ≡ n
one-area state i n a b project first second station number =
    let one = area-of state i a first in
    let two = area-of state n b second in
    let same = one-index (λ (slave : Slave). slave.station) (declared_slaves state.groups) (i / 8) (n / 8) a b (project-inside (groups_of state.groups) project).stations one.declared two.declared station in
    omega (arith, same, number)

-- if the slave of an area is in the line, the line has both blocks of the area
pub in-line : (state : State) (n : ℕ) (slave : Slave) → lowest_fault (groups_of state.groups) ≡ None → area_slave state n ≡ Some slave → is_some (slave_at state slave.station) ≡ true
    → (is_some (slot state (2 * n)) ≡ true) × (is_some (slot state (2 * n + 1)) ≡ true)
in-line state n slave project area inside = by (slave_at state slave.station) refl inside
  where
    here : HasAreaAt state n slave
    here = area-of state n slave area

    by : (found : Option Member) → slave_at state slave.station ≡ found → is_some found ≡ true → (is_some (slot state (2 * n)) ≡ true) × (is_some (slot state (2 * n + 1)) ≡ true)
    by None is some = cc
    by (Some member) is some =
        let found = found-among (is_at slave.station) (line state) member is in
        let declared = line-declared 1 state.groups member found.among in
        let station : member.slave.station ≡ slave.station = eqb-true member.slave.station slave.station found.passes in
        let index = one-index (λ (s : Slave). s.station) (declared_slaves state.groups) declared.index (n / 8) member.slave slave (project-inside (groups_of state.groups) project).stations declared.is_placed here.declared station in
        let one : Some member.slave ≡ Some slave = sym declared.is_placed ∙ ap (slice_get (declared_slaves state.groups)) index ∙ here.declared in
        let size = length-member (line state) member in
        let areas : length member.slave.areas ≡ length slave.areas = ap (λ (s : Slave). length s.areas) (same_Some member.slave slave one) in
        let low = here.low in
        let rank = declared.rank in
        let blocks = member_blocks (line state) member in
        let first = there blocks (2 * (n % 8)) (omega (arith, low, size, areas)) in
        let second = there blocks (2 * (n % 8) + 1) (omega (arith, low, size, areas)) in
        let at = All-contains (HasPlaces state) (line state) member (members-are_placed state) found.among in
        let p : 16 * (member.rank - 1) + 2 * (n % 8) ≡ 2 * n = omega (arith, rank, index) in
        let q : 16 * (member.rank - 1) + (2 * (n % 8) + 1) ≡ 2 * n + 1 = omega (arith, rank, index) in (
          ap (λ (o : Option LineBlock). is_some o) (slot-is state (2 * n) (Some first.0) (ap (slice_get (places state)) (sym p) ∙ at (2 * (n % 8)) (omega arith) ∙ ap (λ (o : Option LineBlock). Some o) first.1)),
          ap (λ (o : Option LineBlock). is_some o) (slot-is state (2 * n + 1) (Some second.0) (ap (slice_get (places state)) (sym q) ∙ at (2 * (n % 8) + 1) (omega arith) ∙ ap (λ (o : Option LineBlock). Some o) second.1)),
        )

-- a slave that has not so many areas
pub no-area : (state : State) (n : ℕ) (slave : Slave) → slice_get (declared_slaves state.groups) (n / 8) ≡ Some slave → nat_lt (n % 8) (length slave.areas) ≡ false → area_slave state n ≡ None
no-area state n slave declared high =
    ap (option_and_then (λ (s : Slave). cond (nat_lt (n % 8) (length s.areas)) (Some s) None)) declared ∙ ap (λ (b : Bool). cond b (Some slave) None) high
