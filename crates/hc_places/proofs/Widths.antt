-- The entries that a project's areas offer have 1 to 64 bits.
use Rattle.std.proofs.Common.{◌≡◌, ℕ, Bool, true, false, cond, List, [], ◌∷◌}
use Rattle.std.specs.Prelude.{All, None, Option, Some, find, map, ◌==◌}
use Rattle.std.specs.Option.{option_map_or}
use Rattle.std.specs.List.{enumerate_from, flat_map}
use Rattle.std.proofs.lemmas.List.Elements.{All-append, All-head, All-nil, All-tail, All-weaker}
use Rattle.hc_records.specs.declared.records.Declared.{Declared}
use Rattle.hc_records.specs.declared.records.Dir.{Dir}
use Rattle.hc_records.specs.declared.records.Dir.TheVariants.{In, Out}
use Rattle.hc_records.specs.declared.records.Pdo.{Pdo}
use Rattle.hc_records.specs.declared.records.Slave.{Slave}
use Rattle.hc_records.specs.Area.{entries_at}
use Rattle.hc_records.specs.Line.{Member, line_from}
use Rattle.hc_records.specs.Project.{lowest_fault}
use Rattle.hc_records.specs.TaskList.{Listed, belongs, slave_areas, task_areas}
use Rattle.hc_records.proofs.lemmas.Lists.{All-enumerate_from, All-flat_map}
use Rattle.hc_records.proofs.lemmas.Slaves.{line-inside}
use Rattle.hc_records.proofs.lemmas.Tasks.{listed, slave-areas-all}
use Rattle.hc_places.proofs.Project.{HasOffers}
use Rattle.hc_records.specs.Limits.{IsAreaInside, IsEntryInside, IsPdoInside, IsSlaveInside}
use Rattle.hc_places.specs.Ranges.{OffersBits}

pdo-offers : (pdo : Pdo) → IsPdoInside pdo → All IsEntryInside pdo.entries
pdo-offers pdo inside = inside.entries

slave-offers : (slave : Slave) → IsSlaveInside slave → HasOffers slave
slave-offers slave inside =
    All-weaker IsAreaInside OffersBits (λ area unchanged. All-weaker IsPdoInside (λ pdo. All IsEntryInside pdo.entries) pdo-offers area.offered unchanged.pdos) slave.areas inside.areas

-- those of every slave of the line of a project's groups do
pub line-offers : (groups : List Declared) → lowest_fault (map (λ declared. declared.group) groups) ≡ None → All (λ member. HasOffers member.slave) (line_from 1 groups)
line-offers groups none =
    All-weaker (λ member. IsSlaveInside member.slave) (λ member. HasOffers member.slave) (λ member inside. slave-offers member.slave inside) (line_from 1 groups) (line-inside groups none)

-- and those of a task's areas

offers-listed : (task : ℕ) (dir : Dir) (member : Member) → HasOffers member.slave → All (λ (l : Listed). OffersBits l.area) (slave_areas task dir member)
offers-listed task dir member offers =
    slave-areas-all (λ (l : Listed). OffersBits l.area) task dir member
    (All-weaker (λ e. OffersBits e.1) (λ e. belongs task dir e.1 ≡ true → OffersBits (listed dir member.rank e).area) (λ e offers belonging. offers)
    (enumerate_from 0 member.slave.areas) (All-enumerate_from OffersBits 0 member.slave.areas offers))

direction-offers : (task : ℕ) (dir : Dir) (line : List Member) → All (λ member. HasOffers member.slave) line → All (λ (l : Listed). OffersBits l.area) (flat_map (slave_areas task dir) line)
direction-offers task dir line all =
    All-flat_map (λ (l : Listed). OffersBits l.area) (slave_areas task dir) line
    (All-weaker (λ member. HasOffers member.slave) (λ member. All (λ (l : Listed). OffersBits l.area) (slave_areas task dir member)) (offers-listed task dir) line all)

pub areas-offer : (task : ℕ) (line : List Member) → All (λ member. HasOffers member.slave) line → All (λ (l : Listed). OffersBits l.area) (task_areas task line)
areas-offer task line all =
    All-append (λ (l : Listed). OffersBits l.area) (flat_map (slave_areas task Out) line) (flat_map (slave_areas task In) line)
    (direction-offers task Out line all) (direction-offers task In line all)

-- the entries of an offered PDO, or none

found-bits : (passes : Bool) (pdo : Pdo) (found : Option Pdo) → All IsEntryInside pdo.entries → All IsEntryInside (option_map_or (λ (p : Pdo). p.entries) found [])
    → All IsEntryInside (option_map_or (λ (p : Pdo). p.entries) (cond passes (Some pdo) found) [])
found-bits true pdo found here rest = here
found-bits false pdo found here rest = rest

pub entries-bits : (offered : List Pdo) (index : ℕ) → All (λ pdo. All IsEntryInside pdo.entries) offered → All IsEntryInside (entries_at offered index)
entries-bits [] index all = All-nil IsEntryInside
entries-bits (pdo ∷ pdos) index all =
    found-bits (pdo.index == index) pdo (find (λ (p : Pdo). p.index == index) pdos) (All-head (λ (p : Pdo). All IsEntryInside p.entries) pdo pdos all)
    (entries-bits pdos index (All-tail (λ (p : Pdo). All IsEntryInside p.entries) pdo pdos all))
