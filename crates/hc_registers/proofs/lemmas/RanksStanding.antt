-- The block at a place: a slave's block by its number, and the slave of a place.
use Rattle.std.proofs.Common.{◌≡◌, ℕ, zero, suc, ◌+◌, ◌-◌, ◌*◌, ◌<◌, ◌≤◌, Bool, true, false, cond, Contains, List, [], ◌∷◌, ◌++◌, length, ◌⊎◌, inl, inr, refl, sym, ap, ◌∙◌, arith, length-append, rules}
use Rattle.std.specs.Prelude.{All, Some, Option, slice_get}
use Rattle.std.specs.List.{flat_map}
use Rattle.std.proofs.lemmas.List.{length-map}
use Rattle.std.proofs.lemmas.List.FromFn.{length-range_with_len}
use Rattle.std.proofs.lemmas.List.Elements.{All-append, All-cons, All-nil, All-weaker, Contains-append_left, Contains-append_right}
use Rattle.std.proofs.lemmas.Option.{same_Some, slice_get-map, slice_get_within}
use Rattle.hc_records.specs.declared.records.Declared.{Declared}
use Rattle.hc_records.specs.declared.records.Slave.{Slave}
use Rattle.hc_records.specs.Line.{Member, State, line, line_from, members_from, present_slaves}
use Rattle.hc_records.proofs.lemmas.Lines.{declared_slaves}
use Rattle.hc_records.proofs.lemmas.Lists.{get-front, get-back}
use Rattle.hc_registers.specs.Blocks.{LineBlock, member_blocks}
use Rattle.hc_registers.specs.RankLaws.{MembersHavePlaces}
use Rattle.hc_registers.specs.RankPlaces.{numbers, places, places_from, slave_places}

-- each slave has sixteen places

pub length-slave : (line : List Member) (present : Bool) (member : Member) → length (slave_places line present member) ≡ 16
unfolding numbers
length-slave line present member = length-map numbers (slice_get (cond present (member_blocks line member) [])) ∙ length-range_with_len 0 16

length-slaves : (line : List Member) (present : Bool) (rank : ℕ) (slaves : List Slave) → length (flat_map (slave_places line present) (members_from rank slaves)) ≡ 16 * length slaves
length-slaves line present rank [] = refl
length-slaves line present rank (slave ∷ slaves) =
    let member : Member = record { rank = rank; slave = slave } in
    let own = length-slave line present member in
    let rest = length-slaves line present (rank + 1) slaves in
    let both = length-append (slave_places line present member) (flat_map (slave_places line present) (members_from (rank + 1) slaves)) in
    omega (arith, own, rest, both)

length-groups : (line : List Member) (rank : ℕ) (groups : List Declared) → length (places_from line rank groups) ≡ 16 * length (declared_slaves groups)
length-groups line rank [] = refl
length-groups line rank (d ∷ groups) =
    let slaves = d.group.slaves in
    search (rules, length-slaves, length-append, length-groups line (rank + length slaves) groups)

-- sixteen for each declared slave
pub length-places : (state : State) → length (places state) ≡ 16 * length (declared_slaves state.groups)
length-places state = length-groups (line state) 1 state.groups

-- what is at a slave's place with a number

own-number : (number : ℕ) → number < 16 → slice_get numbers number ≡ Some number
unfolding numbers
own-number number low = search rules

pub at-number : (line : List Member) (present : Bool) (member : Member) (number : ℕ) → number < 16
    → slice_get (slave_places line present member) number ≡ Some (slice_get (cond present (member_blocks line member) []) number)
at-number line present member number low = search (rules, slice_get-map, own-number)

-- each slave of a line has its places, which are counted from those of a first rank
record IsPlacedFrom (line : List Member) (rank : ℕ) (all : List (Option LineBlock)) (member : Member) : Type 0 where
  from : rank ≤ member.rank
  at : (number : ℕ) → number < 16 → slice_get all (16 * (member.rank - rank) + number) ≡ Some (slice_get (member_blocks line member) number)

own-is_placed : (line : List Member) (member : Member) (after_it : List (Option LineBlock)) → IsPlacedFrom line member.rank (slave_places line true member ++ after_it) member
own-is_placed line member after_it =
    let own = slave_places line true member in
    let size = length-slave line true member in
    record {
      from = omega arith;
      at = λ number low. ap (slice_get (own ++ after_it)) (omega arith) ∙ get-front own after_it number (omega (arith, low, size)) ∙ at-number line true member number low;
    }

is_placed-after_it : (line : List Member) (rank count : ℕ) (xs ys : List (Option LineBlock)) (member : Member) → length xs ≡ 16 * count → IsPlacedFrom line (rank + count) ys member → IsPlacedFrom line rank (xs ++ ys) member
is_placed-after_it line rank count xs ys member size is_placed = search (rules, get-back)

is_placed-front : (line : List Member) (rank : ℕ) (xs ys : List (Option LineBlock)) (member : Member) → IsPlacedFrom line rank xs member → IsPlacedFrom line rank (xs ++ ys) member
is_placed-front line rank xs ys member is_placed = search (rules, get-front, slice_get_within)

slaves-are_placed : (line : List Member) (rank : ℕ) (slaves : List Slave) → All (IsPlacedFrom line rank (flat_map (slave_places line true) (members_from rank slaves))) (members_from rank slaves)
slaves-are_placed line rank [] = All-nil (IsPlacedFrom line rank [])
slaves-are_placed line rank (slave ∷ slaves) =
    let member : Member = record { rank = rank; slave = slave } in
    let own = slave_places line true member in
    let rest = flat_map (slave_places line true) (members_from (rank + 1) slaves) in
    let size : length own ≡ 16 * 1 = length-slave line true member in
    All-cons (IsPlacedFrom line rank (own ++ rest)) member (members_from (rank + 1) slaves) (own-is_placed line member rest)
    (All-weaker (IsPlacedFrom line (rank + 1) rest) (IsPlacedFrom line rank (own ++ rest)) (λ m is_placed. is_placed-after_it line rank 1 own rest m size is_placed) (members_from (rank + 1) slaves) (slaves-are_placed line (rank + 1) slaves))

group-is_placed : (line : List Member) (present : Bool) (rank : ℕ) (slaves : List Slave) (after_it : List (Option LineBlock))
    → All (IsPlacedFrom line rank (flat_map (slave_places line present) (members_from rank slaves) ++ after_it)) (members_from rank (cond present slaves []))
group-is_placed line false rank slaves after_it = All-nil (IsPlacedFrom line rank (flat_map (slave_places line false) (members_from rank slaves) ++ after_it))
group-is_placed line true rank slaves after_it = search (rules, is_placed-front, slaves-are_placed)

groups-are_placed : (line : List Member) (rank : ℕ) (groups : List Declared) → All (IsPlacedFrom line rank (places_from line rank groups)) (line_from rank groups)
groups-are_placed line rank [] = All-nil (IsPlacedFrom line rank [])
groups-are_placed line rank (d ∷ groups) =
    let slaves = d.group.slaves in
    let next = rank + length slaves in
    search (rules, All-append, group-is_placed, All-weaker, is_placed-after_it, length-slaves, groups-are_placed line next groups)

pub members-are_placed : MembersHavePlaces
members-are_placed state k d within = (groups-are_placed (line state) 1 state.groups k d within).at

-- a block at a place is one of the line's slave with that rank

pub record IsPlacedOf (line members : List Member) (rank n : ℕ) (block : LineBlock) : Type 0 where
  pub member : Member
  pub number : ℕ
  pub on : Contains members member
  pub low : number < 16
  pub from : rank ≤ member.rank
  pub is : n ≡ 16 * (member.rank - rank) + number
  pub is_placed : slice_get (member_blocks line member) number ≡ Some block

split-get : {X : Type 0} (xs ys : List X) (n : ℕ) (x : X) → slice_get (xs ++ ys) n ≡ Some x → (slice_get xs n ≡ Some x) ⊎ ((length xs ≤ n) × (slice_get ys (n - length xs) ≡ Some x))
split-get [] ys n x is = inr (omega arith, ap (slice_get ys) (omega arith) ∙ is)
split-get (y ∷ xs) ys zero x is = inl is
split-get (y ∷ xs) ys (suc n) x is = search (rules, split-get xs ys n x is)

slave-place : (line : List Member) (present : Bool) (member : Member) (n : ℕ) (block : LineBlock) → slice_get (slave_places line present member) n ≡ Some (Some block)
    → (n < 16) × (slice_get (cond present (member_blocks line member) []) n ≡ Some block)
slave-place line present member n block is =
    let own = cond present (member_blocks line member) [] in
    let within = slice_get_within (slave_places line present member) n (Some block) is in
    let size = length-slave line present member in
    let low : n < 16 = omega (arith, within, size) in
    (low, same_Some (slice_get own n) (Some block) (sym (at-number line present member n low) ∙ is))

none-absent : (line : List Member) (rank : ℕ) (slaves : List Slave) (n : ℕ) (block : LineBlock) → slice_get (flat_map (slave_places line false) (members_from rank slaves)) n ≡ Some (Some block) → ⊥
none-absent line rank [] n block is = cc
none-absent line rank (slave ∷ slaves) n block is =
    let member : Member = record { rank = rank; slave = slave } in
    elim (split-get (slave_places line false member) (flat_map (slave_places line false) (members_from (rank + 1) slaves)) n (Some block) is) [
      | inl own ↦ let no = (slave-place line false member n block own).1 in cc
      | inr more ↦ none-absent line (rank + 1) slaves (n - length (slave_places line false member)) block more.1
    ]

slaves-place : (line : List Member) (rank : ℕ) (slaves : List Slave) (n : ℕ) (block : LineBlock) → slice_get (flat_map (slave_places line true) (members_from rank slaves)) n ≡ Some (Some block)
    → IsPlacedOf line (members_from rank slaves) rank n block
slaves-place line rank [] n block is = cc
slaves-place line rank (slave ∷ slaves) n block is =
    let member : Member = record { rank = rank; slave = slave } in
    let first = slave_places line true member in
    elim (split-get first (flat_map (slave_places line true) (members_from (rank + 1) slaves)) n (Some block) is) [
      | inl own ↦
          let here = slave-place line true member n block own in
          record { member = member; number = n; on = (0, omega arith, refl); low = here.0; from = omega arith; is = omega arith; is_placed = here.1 }
      | inr more ↦
          let rest = slaves-place line (rank + 1) slaves (n - length first) block more.1 in
          let size = length-slave line true member in
          let from = rest.from in
          record {
            member = rest.member;
            number = rest.number;
            on = Contains-append_right (member ∷ []) (members_from (rank + 1) slaves) rest.member rest.on;
            low = rest.low;
            from = omega (arith, from);
            is = omega arith;
            is_placed = rest.is_placed;
          }
    ]

group-place : (line : List Member) (present : Bool) (rank : ℕ) (slaves : List Slave) (n : ℕ) (block : LineBlock) → slice_get (flat_map (slave_places line present) (members_from rank slaves)) n ≡ Some (Some block)
    → IsPlacedOf line (members_from rank (cond present slaves [])) rank n block
group-place line present rank slaves n block is = search (rules, slaves-place, none-absent)

groups-place : (line : List Member) (rank : ℕ) (groups : List Declared) (n : ℕ) (block : LineBlock) → slice_get (places_from line rank groups) n ≡ Some (Some block) → IsPlacedOf line (line_from rank groups) rank n block
groups-place line rank [] n block is = cc
groups-place line rank (d ∷ groups) n block is =
    let slaves = d.group.slaves in
    let first = flat_map (slave_places line d.present) (members_from rank slaves) in
    let next = rank + length slaves in
    elim (split-get first (places_from line next groups) n (Some block) is) [
      | inl own ↦
          let here = group-place line d.present rank slaves n block own in
          record { member = here.member; number = here.number; on = Contains-append_left (members_from rank (present_slaves d)) (line_from next groups) here.member here.on; low = here.low; from = here.from; is = here.is; is_placed = here.is_placed }
      | inr more ↦
          let rest = groups-place line next groups (n - length first) block more.1 in
          let size = length-slaves line d.present rank slaves in
          let from = rest.from in
          record {
            member = rest.member;
            number = rest.number;
            on = Contains-append_right (members_from rank (present_slaves d)) (line_from next groups) rest.member rest.on;
            low = rest.low;
            from = omega (arith, from);
            is = omega arith;
            is_placed = rest.is_placed;
          }
    ]

pub standing-of : (state : State) (n : ℕ) (block : LineBlock) → slice_get (places state) n ≡ Some (Some block) → IsPlacedOf (line state) (line state) 1 n block
standing-of state n block is = groups-place (line state) 1 state.groups n block is
