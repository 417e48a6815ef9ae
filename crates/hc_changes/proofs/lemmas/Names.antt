-- The variables that an area's assigned PDOs carry are its rows', and the area offers each of them.
use Rattle.std.proofs.Common.{◌≡◌, ℕ, zero, suc, ◌+◌, ◌<◌, ◌≤◌, ◌==◌, List, [], ◌∷◌, ◌++◌, Contains, Option, Some, None, refl, sym, ap, subst, ◌∙◌, arith, rules}
use Rattle.std.specs.Prelude.{find, map}
use Rattle.std.specs.List.{cons_option}
use Rattle.std.specs.Option.{option_map_or}
use Rattle.std.proofs.lemmas.Simd.{map-map}
use Rattle.std.proofs.lemmas.List.Elements.{All-contains}
use Rattle.std.proofs.lemmas.List.Sums.{sum_by-cons}
use Rattle.hc_records.specs.declared.records.Area.{Area}
use Rattle.hc_records.specs.declared.records.Pdo.{Pdo}
use Rattle.hc_records.specs.Area.{Entry, assigned_entries, entry_bits, entries_at, width}
use Rattle.hc_records.specs.Image.{variables_from}
use Rattle.hc_records.specs.Limits.{IsEntryInside}
use Rattle.hc_records.specs.Packing.{Placed}
use Rattle.hc_records.specs.Project.{entry_names, pdo_names}
use Rattle.hc_records.proofs.lemmas.Entries.{HasEntryWidths}
use Rattle.hc_places.specs.Found.{area_rows}
use Rattle.hc_places.specs.Table.{VariableRow}
use Rattle.hc_changes.specs.Rows.{area_variables_of}
use Rattle.hc_changes.proofs.lemmas.Lists.{contains-after_it, contains-first, contains-flat_map, flat_map-piece, found-among}
use Rattle.hc_changes.proofs.lemmas.Others.{contains-mapped, map-piece}

-- the rows of an area are its variables'

name-front : (name : Option ℕ) (bit bits : ℕ) (rest : List (ℕ × (ℕ × ℕ))) (names : List ℕ) → map (λ found. found.0) rest ≡ names
    → map (λ found. found.0) (option_map_or (λ v. (v, (bit, bits)) ∷ []) name [] ++ rest) ≡ cons_option name names
name-front name bit bits rest names is = search rules

from-names : (bit : ℕ) (entries : List Entry) → map (λ found. found.0) (variables_from bit entries) ≡ entry_names entries
from-names bit [] = refl
from-names bit (entry ∷ entries) = search (rules, name-front, from-names (bit + entry.1) entries)

row-names : (task : ℕ) (area : Area) (placed : Placed) → map (λ row. row.0) (area_rows task area placed) ≡ area_variables_of area
row-names task area placed = search (rules, map-map, from-names)

pub row-named : (task : ℕ) (area : Area) (placed : Placed) (row : VariableRow) → Contains (area_rows task area placed) row → Contains (area_variables_of area) row.0
row-named task area placed row at =
    subst (λ (names : List ℕ). Contains names row.0) (row-names task area placed) (contains-mapped (λ (r : VariableRow). r.0) (area_rows task area placed) row at)

pub named-row : (task : ℕ) (area : Area) (placed : Placed) (variable : ℕ) → Contains (area_variables_of area) variable
    → (row : VariableRow) × Contains (area_rows task area placed) row × (row.0 ≡ variable)
named-row task area placed variable at =
    map-piece (λ (r : VariableRow). r.0) (area_rows task area placed) variable
    (subst (λ (names : List ℕ). Contains names variable) (sym (row-names task area placed)) at)

-- what a filtered map contains

here-mapped : {Y : Type 0} (made : Option Y) (y : Y) (rest : List Y) → made ≡ Some y → Contains (cons_option made rest) y
here-mapped made y rest is = search rules

later-mapped : {Y : Type 0} (made : Option Y) (y : Y) (rest : List Y) → Contains rest y → Contains (cons_option made rest) y
later-mapped None y rest at = at
later-mapped (Some z) y rest at = contains-after_it y z rest at

contains-named : (entries : List Entry) (entry : Entry) (variable : ℕ) → Contains entries entry → entry.0 ≡ Some variable → Contains (entry_names entries) variable
contains-named [] entry variable (k, within, is) name = absurd (omega arith)
contains-named (e ∷ entries) entry variable (zero, within, is) name = search (rules, here-mapped)
contains-named (e ∷ entries) entry variable (suc k, within, is) name =
    search (rules, later-mapped, contains-named entries entry variable (k, omega arith, is) name)

-- the entry that has a variable
record HasName (entries : List Entry) (variable : ℕ) : Type 0 where
  pub entry : Entry
  pub among : Contains entries entry
  pub name : entry.0 ≡ Some variable

named-by : (made : Option ℕ) (e : Entry) (entries : List Entry) (variable : ℕ) → e.0 ≡ made → Contains (cons_option made (entry_names entries)) variable
    → (Contains (entry_names entries) variable → HasName entries variable) → HasName (e ∷ entries) variable
named-by None e entries variable is at later = search (rules, contains-after_it)
named-by (Some v) e entries variable is (zero, within, same) later =
    record { entry = e; among = contains-first e entries; name = is ∙ ap (λ (n : ℕ). Some n) same }
named-by (Some v) e entries variable is (suc k, within, same) later = search (rules, contains-after_it)

named-entry : (entries : List Entry) (variable : ℕ) → Contains (entry_names entries) variable → HasName entries variable
named-entry [] variable (k, within, is) = absurd (omega arith)
named-entry (e ∷ entries) variable at = named-by e.0 e entries variable refl at (named-entry entries variable)

-- an area offers the variables that it carries

offered-by : (offered : List Pdo) (index : ℕ) (entry : Entry) (found : Option Pdo) → find (λ (pdo : Pdo). pdo.index == index) offered ≡ found
    → Contains (option_map_or (λ (pdo : Pdo). pdo.entries) found []) entry → (pdo : Pdo) × Contains offered pdo × Contains pdo.entries entry
offered-by offered index entry found is at = search (rules, found-among)

pub carried-offered : (area : Area) (variable : ℕ) → Contains (area_variables_of area) variable → Contains (pdo_names area.offered) variable
carried-offered area variable at =
    let named = named-entry (assigned_entries area) variable at in
    let piece = flat_map-piece (entries_at area.offered) area.assigned named.entry named.among in
    let pdo = offered-by area.offered piece.element named.entry (find (λ (p : Pdo). p.index == piece.element) area.offered) refl piece.own in
    contains-flat_map (λ (p : Pdo). entry_names p.entries) area.offered pdo.0 variable pdo.1 (contains-named pdo.0.entries named.entry variable pdo.2 named.name)

-- and an area that carries one has a width

bits-most : (entries : List Entry) (entry : Entry) → Contains entries entry → entry.1 ≤ entry_bits entries
bits-most [] entry (k, within, is) = absurd (omega arith)
bits-most (e ∷ entries) entry (zero, within, is) =
    let sum = sum_by-cons (λ (x : Entry). x.1) e entries in
    let same : e.1 ≡ entry.1 = ap (λ (x : Entry). x.1) is in
    omega arith
bits-most (e ∷ entries) entry (suc k, within, is) = search (rules, sum_by-cons, bits-most entries entry (k, omega arith, is))

pub carried-wide : (area : Area) (variable : ℕ) → HasEntryWidths area → Contains (area_variables_of area) variable → 0 < width area
carried-wide area variable widths at =
    let named = named-entry (assigned_entries area) variable at in
    let inside : IsEntryInside named.entry = All-contains IsEntryInside (assigned_entries area) named.entry widths named.among in
    let most = bits-most (assigned_entries area) named.entry named.among in
    omega arith
