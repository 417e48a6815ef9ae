-- The areas of a slave that didn't change are in both lines.
use Rattle.std.proofs.Common.{◌≡◌, ℕ, ◌<◌, ◌==◌, zero, suc, Bool, true, false, List, [], ◌∷◌, Contains, Some, refl, ap, subst, ◌∙◌, arith, rules}
use Rattle.std.specs.Prelude.{AllPairs, find, map, option_map}
use Rattle.std.specs.List.{enumerate_from}
use Rattle.std.proofs.lemmas.Bool.{eq-eqb, eqb-true}
use Rattle.std.proofs.lemmas.Grind.{common_steps}
use Rattle.hc_records.specs.declared.records.Area.{Area}
use Rattle.hc_records.specs.Line.{Member}
use Rattle.hc_records.proofs.lemmas.Finds.{mapped-some}
use Rattle.hc_records.proofs.lemmas.Lines.{RanksBelow}
use Rattle.hc_records.proofs.lemmas.Lists.{AllPairs-weaker}
use Rattle.hc_changes.specs.MaybeMovedAreas.{DifferAt, LineArea, areas_of, line_areas, slave_of}
use Rattle.hc_changes.proofs.lemmas.Lists.{contains-after_it, contains-first, contains-flat_map, find-only, flat_map-piece, found-among}

-- what a mapped list contains

pub map-piece : {X Y : Type 0} (f : X → Y) (xs : List X) (y : Y) → Contains (map f xs) y → (x : X) × Contains xs x × (f x ≡ y)
map-piece f [] y (k, within, is) = absurd (omega arith)
map-piece f (x ∷ xs) y (zero, within, is) = (x, contains-first x xs, is)
map-piece f (x ∷ xs) y (suc k, within, is) = search (rules, contains-after_it, map-piece f xs y (k, omega arith, is))

pub contains-mapped : {X Y : Type 0} (f : X → Y) (xs : List X) (x : X) → Contains xs x → Contains (map f xs) (f x)
contains-mapped f xs x h3 = grind (arith, common_steps)

-- a slave of a line is found by its rank

pub never-both : (rank a b : ℕ) → a < b → a ≡ rank → b ≡ rank → ⊥
never-both rank a b below is is' = omega arith

pub member-found : (line : List Member) (member : Member) → AllPairs RanksBelow line → Contains line member → find (λ m. m.rank == member.rank) line ≡ Some member
member-found line member ranks at =
    find-only (λ m. m.rank == member.rank) line member
    (AllPairs-weaker RanksBelow (λ a b. (a.rank == member.rank) ≡ true → (b.rank == member.rank) ≡ true → ⊥)
    (λ a b below is is'. never-both member.rank a.rank b.rank below (eqb-true a.rank member.rank is) (eqb-true b.rank member.rank is')) line ranks)
    at (eq-eqb member.rank member.rank refl)

member-same : (a b : Member) → a.rank ≡ b.rank → a.slave ≡ b.slave → a ≡ b
member-same a b rank slave = search rules

-- an area of a line is one of its slave's, which is in the line
pub record IsAreaOf (line : List Member) (found : LineArea) : Type 0 where
  pub member : Contains line found.member
  pub own : Contains (enumerate_from 0 found.member.slave.areas) (found.index, found.area)

-- two areas, each of its own line, are at one index of slaves with one rank
pub record AreAlike (a b : LineArea) : Type 0 where
  pub rank : a.member.rank ≡ b.member.rank
  pub index : a.index ≡ b.index

pub line-area : (line : List Member) (found : LineArea) → Contains (line_areas line) found → IsAreaOf line found
line-area line found at =
    let piece = flat_map-piece areas_of line found at in
    let member = piece.element in
    let make : ℕ × Area → LineArea = λ e. record { member = member; index = e.0; area = e.1 } in
    let own = map-piece make (enumerate_from 0 member.slave.areas) found piece.own in
    subst (λ (f : LineArea). IsAreaOf line f) own.2 (record { member = piece.among; own = own.1 })

pub area-is_placed : (line : List Member) (found : LineArea) → IsAreaOf line found → Contains (line_areas line) found
area-is_placed line found of =
    let make : ℕ × Area → LineArea = λ e. record { member = found.member; index = e.0; area = e.1 } in
    contains-flat_map areas_of line found.member found of.member
    (contains-mapped make (enumerate_from 0 found.member.slave.areas) (found.index, found.area) of.own)

-- so an area of a slave that didn't change was in the old line
pub others-are_placed : (changed : ℕ → Bool) (old new : List Member) → AllPairs RanksBelow new → DifferAt changed old new
    → (found : LineArea) → Contains (line_areas new) found → changed found.member.rank ≡ false → Contains (line_areas old) found
others-are_placed changed old new ranks differ found at unchanged =
    let of = line-area new found at in
    let member = found.member in
    let here : slave_of new member.rank ≡ Some member.slave = ap (option_map (λ (m : Member). m.slave)) (member-found new member ranks of.member) in
    let there : slave_of old member.rank ≡ Some member.slave = differ member.rank unchanged ∙ here in
    let before = mapped-some (λ (m : Member). m.slave) (find (λ (m : Member). m.rank == member.rank) old) member.slave there in
    let stood = found-among (λ (m : Member). m.rank == member.rank) old before.0 before.1 in
    let same : before.0 ≡ member = member-same before.0 member (eqb-true before.0.rank member.rank stood.passes) before.2 in
    area-is_placed old found (record { member = subst (λ (m : Member). Contains old m) same stood.among; own = of.own })
