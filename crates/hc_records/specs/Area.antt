-- The width of an area: the bits of its assigned PDOs; and which PDOs it offers.
use Rattle.std.specs.Prelude.{ℕ, ◌==◌, not, Bool, List, [], Option, find, sum_by}
use Rattle.std.specs.Option.{option_map_or}
use Rattle.std.specs.List.{flat_map, list_any}
use Rattle.hc_records.specs.declared.records.Pdo.{Pdo}
use Rattle.hc_records.specs.declared.records.Area.{Area}

-- a variable, or none for a gap, and its bits
abbrev pub Entry : Type 0
Entry = Option ℕ × ℕ

-- the entries of the offered PDO with an index; none if it is not offered
abbrev pub entries_at : List Pdo → ℕ → List Entry
entries_at offered index = option_map_or (λ pdo. pdo.entries) (find (λ pdo. pdo.index == index) offered) []

-- the entries of the assigned PDOs, in assigned order
abbrev pub assigned_entries : Area → List Entry
assigned_entries area = flat_map (entries_at area.offered) area.assigned

-- the sum of the bits of entries, gaps included; 0 if there is none
abbrev pub entry_bits : List Entry → ℕ
entry_bits entries = sum_by (λ entry. entry.1) entries

-- the width of an area, in bits
abbrev pub width : Area → ℕ
width area = entry_bits (assigned_entries area)

-- an area offers a PDO with this index
abbrev pub offers : Area → ℕ → Bool
offers area index = list_any (λ pdo. pdo.index == index) area.offered

-- one of the indexes is not offered
abbrev pub has_unknown : List ℕ → Area → Bool
has_unknown pdos area = list_any (λ index. not (offers area index)) pdos
