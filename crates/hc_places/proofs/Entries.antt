-- The variables of entries that follow one another.
use Rattle.std.proofs.Common.{◌≡◌, ℕ, ◌+◌, ◌<◌, List, [], ◌∷◌, ◌++◌, length, drop, get_or, refl, sym, ap, ◌∙◌, arith, append_assoc, drop-cons, add-one}
use Rattle.std.specs.Prelude.{map}
use Rattle.std.specs.List.{flat_map}
use Rattle.std.proofs.lemmas.List.{drop_more, map-append}
use Rattle.std.proofs.lemmas.List.Sums.{sum_by-append, sum_by-cons}
use Rattle.hc_records.specs.declared.records.Pdo.{Pdo}
use Rattle.hc_records.specs.Area.{Entry, entry_bits, entries_at}
use Rattle.hc_records.specs.Image.{variables_from}
use Rattle.hc_places.specs.Table.{VariableRow}

pub bits-append : (first second : List Entry) → entry_bits (first ++ second) ≡ entry_bits first + entry_bits second
bits-append first second = sum_by-append (λ (entry : Entry). entry.1) first second

pub bits-cons : (entry : Entry) (entries : List Entry) → entry_bits (entry ∷ entries) ≡ entry.1 + entry_bits entries
bits-cons entry entries = sum_by-cons (λ (e : Entry). e.1) entry entries

-- the bits of the entries from an index on
pub bits-drop : (entries : List Entry) (i : ℕ) (entry : Entry) → i < length entries → entry ≡ get_or entries i entry → entry_bits (drop i entries) ≡ entry.1 + entry_bits (drop (i + 1) entries)
bits-drop entries i entry within is =
    ap entry_bits (drop_more entries i entry within ∙ ap (λ (e : Entry). e ∷ drop (i + 1) entries) (sym is)) ∙ bits-cons entry (drop (i + 1) entries)

-- entries after others begin at the end of those
variables-append : (bit : ℕ) (first second : List Entry) → variables_from bit (first ++ second) ≡ variables_from bit first ++ variables_from (bit + entry_bits first) second
variables-append bit [] second = ap (λ start. variables_from start second) (omega arith)
variables-append bit (entry ∷ first) second =
    grind (arith, bits-cons, append_assoc, variables-append (bit + entry.1) first second)

-- a PDO whose entries are added, and the entries after them
pub record AddsEntries (row : ℕ × (ℕ × ℕ) → VariableRow) (rows added : List VariableRow) (bit next : ℕ) (entries rest whole : List Entry) : Type 0 where
  pub whole_is : whole ≡ entries ++ rest
  pub adds : added ≡ rows ++ map row (variables_from bit entries)
  pub after_it : next ≡ bit + entry_bits entries

pub added-rows : (row : ℕ × (ℕ × ℕ) → VariableRow) (rows added all : List VariableRow) (bit next : ℕ) (entries rest whole : List Entry) → AddsEntries row rows added bit next entries rest whole
    → rows ++ map row (variables_from bit whole) ≡ all → added ++ map row (variables_from next rest) ≡ all
added-rows row rows added all bit next entries rest whole adds so_far =
    grind (arith, variables-append, append_assoc, map-append)

pub added-bits : (row : ℕ × (ℕ × ℕ) → VariableRow) (rows added : List VariableRow) (bit next all : ℕ) (entries rest whole : List Entry) → AddsEntries row rows added bit next entries rest whole
    → bit + entry_bits whole ≡ all → next + entry_bits rest ≡ all
added-bits row rows added bit next all entries rest whole adds so_far = grind (arith, bits-append)

-- the entries of the assigned PDOs from an index on
pub entries-drop : (offered : List Pdo) (assigned : List ℕ) (i : ℕ) → i < length assigned
    → flat_map (entries_at offered) (drop i assigned) ≡ entries_at offered (get_or assigned i 0) ++ flat_map (entries_at offered) (drop (i + 1) assigned)
entries-drop offered assigned i within = rw (add-one, drop-cons assigned i 0) refl
