-- The bytes of its slave's memory that an area of a project may take.
use Rattle.std.proofs.Common.{◌≡◌, ℕ, ◌+◌, ◌*◌, ◌/◌, ◌≤◌, Bool, true, false, List, [], ◌∷◌, None, get_or, refl, sym, ap, ◌∙◌, arith, if◌then◌else◌}
use Rattle.std.specs.Prelude.{All, min, ◌||◌, ◌==◌}
use Rattle.std.specs.List.{flat_map, list_any}
use Rattle.std.proofs.lemmas.Bool.{eqb-false, eqb-true, ne_eqb, or_parts}
use Rattle.std.proofs.lemmas.List.Sums.{sum_by-append, sum_by-cons}
use Rattle.hc_records.specs.declared.limits.TheConstants.{MOST_AREA_BITS}
use Rattle.hc_records.specs.declared.records.Pdo.{Pdo}
use Rattle.hc_records.specs.declared.records.Area.{Area}
use Rattle.hc_records.specs.declared.records.Group.{Group}
use Rattle.hc_records.specs.Area.{Entry, entry_bits, entries_at, has_unknown, width}
use Rattle.hc_records.specs.Lists.{has_repeat, some_pair}
use Rattle.hc_records.specs.Project.{has_unknown_pdo, lowest_fault, offered_bits, same_index, slaves_of}
use Rattle.hc_records.specs.Limits.{IsAreaInside, Reaches}
use Rattle.hc_records.specs.ProjectLaws.{HoldsItsWidth, IsProcessByte, KeepsAreasApart}
use Rattle.hc_records.proofs.lemmas.Limits.{all-slaves, project-inside}
use Rattle.hc_records.proofs.lemmas.Lists.{All-from_none}
use Rattle.hc_records.proofs.lemmas.Projects.{project-assigned}

-- the bits of the PDOs with some indexes, each counted as often as it is named
abbrev bits_at : List Pdo → List ℕ → ℕ
bits_at offered assigned = entry_bits (flat_map (entries_at offered) assigned)

bits_at-cons : (offered : List Pdo) (index : ℕ) (assigned : List ℕ) → bits_at offered (index ∷ assigned) ≡ entry_bits (entries_at offered index) + bits_at offered assigned
bits_at-cons offered index assigned = sum_by-append (λ (entry : Entry). entry.1) (entries_at offered index) (flat_map (entries_at offered) assigned)

-- the entries of the first PDO where it has the index
entries-by : (same : Bool) (pdo : Pdo) (offered : List Pdo) (index : ℕ) → (pdo.index == index) ≡ same →
    entries_at (pdo ∷ offered) index ≡ (if same then pdo.entries else entries_at offered index)
entries-by true pdo offered index test = rw test refl
entries-by false pdo offered index test = rw test refl

-- a PDO whose index isn't named adds nothing
bits_at-absent : (pdo : Pdo) (offered : List Pdo) (index : ℕ) (assigned : List ℕ) → pdo.index ≡ index → list_any (λ other. other == index) assigned ≡ false →
    bits_at (pdo ∷ offered) assigned ≡ bits_at offered assigned
bits_at-absent pdo offered index [] same absent = refl
bits_at-absent pdo offered index (other ∷ assigned) same absent =
    let parts = or_parts (other == index) (list_any (λ y. y == index) assigned) absent in
    let apart = eqb-false other index parts.0 in
    let entries = entries-by false pdo offered other (ne_eqb pdo.index other (λ equal. apart (sym equal ∙ same))) in
    bits_at-cons (pdo ∷ offered) other assigned
    ∙ ap (λ (here : List Entry). entry_bits here + bits_at (pdo ∷ offered) assigned) entries
    ∙ ap (λ (rest : ℕ). entry_bits (entries_at offered other) + rest) (bits_at-absent pdo offered index assigned same parts.1)
    ∙ sym (bits_at-cons offered other assigned)

-- a first PDO adds at most its own bits, where no index is named twice
bits_at-by : (same : Bool) (pdo : Pdo) (offered : List Pdo) (index : ℕ) (assigned : List ℕ) → (pdo.index == index) ≡ same →
    list_any (λ other. other == index) assigned ≡ false → bits_at (pdo ∷ offered) assigned ≤ entry_bits pdo.entries + bits_at offered assigned →
    bits_at (pdo ∷ offered) (index ∷ assigned) ≤ entry_bits pdo.entries + bits_at offered (index ∷ assigned)
bits_at-by true pdo offered index assigned test absent rest =
    let whole = bits_at-cons (pdo ∷ offered) index assigned in
    let without = bits_at-cons offered index assigned in
    let entries : entry_bits (entries_at (pdo ∷ offered) index) ≡ entry_bits pdo.entries = ap entry_bits (entries-by true pdo offered index test) in
    let others = bits_at-absent pdo offered index assigned (eqb-true pdo.index index test) absent in
    omega (arith, whole, without, entries, others)
bits_at-by false pdo offered index assigned test absent rest =
    let whole = bits_at-cons (pdo ∷ offered) index assigned in
    let without = bits_at-cons offered index assigned in
    let entries : entry_bits (entries_at (pdo ∷ offered) index) ≡ entry_bits (entries_at offered index) = ap entry_bits (entries-by false pdo offered index test) in
    omega (arith, whole, without, entries, rest)

bits_at-first : (pdo : Pdo) (offered : List Pdo) (assigned : List ℕ) → has_repeat assigned ≡ false → bits_at (pdo ∷ offered) assigned ≤ entry_bits pdo.entries + bits_at offered assigned
bits_at-first pdo offered [] distinct = omega arith
bits_at-first pdo offered (index ∷ assigned) distinct =
    let parts = or_parts (list_any (λ other. other == index) assigned) (has_repeat assigned) distinct in
    bits_at-by (pdo.index == index) pdo offered index assigned refl parts.0 (bits_at-first pdo offered assigned parts.1)

bits_at-none : (assigned : List ℕ) → bits_at [] assigned ≡ 0
bits_at-none [] = refl
bits_at-none (index ∷ assigned) = bits_at-none assigned

-- so PDOs that are assigned once have no more bits than all that are offered
bits_at-most : (offered : List Pdo) (assigned : List ℕ) → has_repeat assigned ≡ false → bits_at offered assigned ≤ offered_bits offered
bits_at-most [] assigned distinct = let none = bits_at-none assigned in omega (arith, none)
bits_at-most (pdo ∷ offered) assigned distinct =
    let first = bits_at-first pdo offered assigned distinct in
    let rest = bits_at-most offered assigned distinct in
    let sum : offered_bits (pdo ∷ offered) ≡ entry_bits pdo.entries + offered_bits offered = sum_by-cons (λ (p : Pdo). entry_bits p.entries) pdo offered in
    omega (arith, first, rest, sum)

rounded : (bits most offered : ℕ) → bits ≤ most → bits ≤ offered → bits ≤ 8 * ((min most offered + 7) / 8)
rounded bits most offered low less = omega arith

area-holds : (area : Area) → IsAreaInside area → has_unknown_pdo area ≡ false → HoldsItsWidth area
area-holds area stays assigned =
    let distinct = (or_parts (has_unknown area.assigned area) (has_repeat area.assigned) (or_parts (has_unknown area.assigned area || has_repeat area.assigned) (some_pair same_index area.offered) assigned).0).1 in
    rounded (width area) MOST_AREA_BITS (offered_bits area.offered) stays.narrow (bits_at-most area.offered area.assigned distinct)

pub reaches-hold : (groups : List Group) → lowest_fault groups ≡ None → All (λ slave. All HoldsItsWidth slave.areas) (slaves_of groups)
reaches-hold groups none k d within =
    let slave = get_or (slaves_of groups) k d in
    let stays = ((project-inside groups none).slaves k d within).areas in
    let assigned = All-from_none has_unknown_pdo slave.areas (all-slaves (λ s. list_any has_unknown_pdo s.areas) groups (project-assigned groups none) k d within) in
    λ i e inside. area-holds (get_or slave.areas i e) (stays i e inside) (assigned i e inside)

byte-inside : (area : Area) (byte : ℕ) → IsAreaInside area → Reaches area byte → IsProcessByte byte
byte-inside area byte stays takes =
    let start = stays.start in
    let end = stays.end in
    let from = takes.from in
    let below = takes.below in
    record { from = omega arith; to = omega arith }

pub reaches-apart : (groups : List Group) → lowest_fault groups ≡ None → All KeepsAreasApart (slaves_of groups)
reaches-apart groups none k d within =
    let slave = get_or (slaves_of groups) k d in
    let unchanged = (project-inside groups none).slaves k d within in
    record {
      inside = λ i e inside byte. byte-inside (get_or slave.areas i e) byte (unchanged.areas i e inside);
      apart = unchanged.apart;
    }
