-- A datagram in the table of a line is one of the line.
use Rattle.std.proofs.Common.{◌≡◌, ℕ, zero, suc, ◌<◌, ◌∙◌, List, length, sym, arith}
use Rattle.std.specs.Prelude.{Some, map, slice_get}
use Rattle.std.specs.List.{range_with_len}
use Rattle.std.proofs.lemmas.List.FromFn.{get_or-map-range_with_len, length-map-range_with_len}
use Rattle.std.proofs.lemmas.Option.{get_or_from_slice_get, slice_get_within}
use Rattle.hc_records.specs.declared.limits.TheConstants.{TASKS}
use Rattle.hc_records.specs.Image.{datagram_count, task_places}
use Rattle.hc_records.specs.Line.{Member}
use Rattle.hc_places.specs.declared.table.Datagram.{Datagram}
use Rattle.hc_places.specs.Table.{datagram_in, datagram_of, table_of}

-- a row is the datagram with a number of one of the eight tasks
pub record IsRowOf (members : List Member) (task number : ℕ) (row : Datagram) : Type 0 where
  pub low : task < TASKS
  pub counted : number < datagram_count (task_places task members)
  pub is : row ≡ datagram_of members task number

row-of : (members : List Member) (task number : ℕ) (row : Datagram) → task < TASKS
    → slice_get (map (datagram_of members task) (range_with_len 0 (datagram_count (task_places task members)))) number ≡ Some row → IsRowOf members task number row
row-of members task number row low is =
    let count = datagram_count (task_places task members) in
    let rows = map (datagram_of members task) (range_with_len 0 count) in
    let all : length rows ≡ count = length-map-range_with_len (datagram_of members task) 0 count in
    let below : number < length rows = slice_get_within rows number row is in
    record {
      low = low;
      counted = omega arith;
      is = sym (get_or_from_slice_get rows number row row is) ∙ get_or-map-range_with_len (datagram_of members task) 0 count number number row (omega arith) (omega arith);
    }

pub row-is : (members : List Member) (task number : ℕ) (row : Datagram) → datagram_in (table_of members) task number ≡ Some row → IsRowOf members task number row
row-is members zero number row is = row-of members 0 number row (omega arith) is
row-is members (suc zero) number row is = row-of members 1 number row (omega arith) is
row-is members (suc (suc zero)) number row is = row-of members 2 number row (omega arith) is
row-is members (suc (suc (suc zero))) number row is = row-of members 3 number row (omega arith) is
row-is members (suc (suc (suc (suc zero)))) number row is = row-of members 4 number row (omega arith) is
row-is members (suc (suc (suc (suc (suc zero))))) number row is = row-of members 5 number row (omega arith) is
row-is members (suc (suc (suc (suc (suc (suc zero)))))) number row is = row-of members 6 number row (omega arith) is
row-is members (suc (suc (suc (suc (suc (suc (suc zero))))))) number row is = row-of members 7 number row (omega arith) is
row-is members (suc (suc (suc (suc (suc (suc (suc (suc task)))))))) number row is = cc
