-- The row of a datagram in the table of its line.
use Rattle.std.proofs.Common.{◌≡◌, ℕ, zero, suc, ◌<◌, Bool, cond, ap, ◌∙◌, arith, List, map, Some, None}
use Rattle.std.specs.Prelude.{slice_get}
use Rattle.std.specs.List.{range_with_len}
use Rattle.std.proofs.lemmas.List.FromFn.{get_or-map-range_with_len, length-map-range_with_len}
use Rattle.std.proofs.lemmas.Option.{slice_get-get_or, same_Some}
use Rattle.hc_records.specs.declared.limits.TheConstants.{TASKS}
use Rattle.hc_records.specs.Line.{Member}
use Rattle.hc_records.specs.Image.{datagram_count, task_places}
use Rattle.hc_places.specs.declared.table.Datagram.{Datagram}
use Rattle.hc_places.specs.Table.{datagram_in, datagram_of, table_of}
use Rattle.hc_events.specs.Accepted.{IsInLine}
use Rattle.hc_events.specs.Answering.{has_head}
use Rattle.hc_events.specs.Arrivals.{Part}
use Rattle.hc_events.specs.Heads.{data_head}
use Rattle.hc_events.specs.Sendings.{Named}
use Rattle.hc_sendings.specs.Walk.{head_of}

blank : Datagram
blank = record { address = 0; length = 0; expected = 0; offset = 0 }

row-of : (line : List Member) (task d : ℕ) → d < datagram_count (task_places task line)
    → slice_get (map (datagram_of line task) (range_with_len 0 (datagram_count (task_places task line)))) d ≡ Some (datagram_of line task d)
row-of line task d is_placed =
    let count = length-map-range_with_len (datagram_of line task) 0 (datagram_count (task_places task line)) in
    slice_get-get_or (map (datagram_of line task) (range_with_len 0 (datagram_count (task_places task line)))) d blank (omega (arith, count, is_placed))
    ∙ ap (λ (row : Datagram). Some row) (get_or-map-range_with_len (datagram_of line task) 0 (datagram_count (task_places task line)) d d blank is_placed (omega arith))

row-at : (line : List Member) (task d : ℕ) → task < TASKS → d < datagram_count (task_places task line) → datagram_in (table_of line) task d ≡ Some (datagram_of line task d)
row-at line zero d low is_placed = row-of line 0 d is_placed
row-at line (suc zero) d low is_placed = row-of line 1 d is_placed
row-at line (suc (suc zero)) d low is_placed = row-of line 2 d is_placed
row-at line (suc (suc (suc zero))) d low is_placed = row-of line 3 d is_placed
row-at line (suc (suc (suc (suc zero)))) d low is_placed = row-of line 4 d is_placed
row-at line (suc (suc (suc (suc (suc zero))))) d low is_placed = row-of line 5 d is_placed
row-at line (suc (suc (suc (suc (suc (suc zero)))))) d low is_placed = row-of line 6 d is_placed
row-at line (suc (suc (suc (suc (suc (suc (suc zero))))))) d low is_placed = row-of line 7 d is_placed
row-at line (suc (suc (suc (suc (suc (suc (suc (suc task)))))))) d low is_placed = absurd (omega arith)

pub row-is : (line : List Member) (named : Named) → named.0 < TASKS → IsInLine line named → datagram_in (table_of line) named.0 named.1 ≡ Some (datagram_of line named.0 named.1)
row-is line named low is_placed = row-at line named.0 named.1 low is_placed

-- it came back with its head, or it didn't

pub row-back : (line : List Member) (named : Named) (part : Part) (row : Datagram) (back : Bool) → Some row ≡ Some (datagram_of line named.0 named.1)
    → back ≡ has_head (head_of named row) part
    → cond back (Some row) None ≡ cond (has_head (data_head line named) part) (Some (datagram_of line named.0 named.1)) None
row-back line named part row back is e =
    let same = same_Some row (datagram_of line named.0 named.1) is in
    ap (λ (b : Bool). cond b (Some row) None) e
    ∙ ap (λ (one : Datagram). cond (has_head (head_of named one) part) (Some one) None) same

-- a datagram with a row in the table is one of the line
