-- Room for the datagrams that get longer, changed task by changed task.
use Rattle.std.proofs.Common.{◌≡◌, inl, inr, ℕ, ◌+◌, ◌*◌, ◌<◌, ◌≤◌, get_or, List, [], ◌∷◌, ◌++◌, length, replicate, take, sym, ap, ◌∙◌, subst, arith, Option, Some, zero, suc}
use borrow.Author.Count.{below_more}
use Rattle.std.specs.Prelude.{slice_get}
use Rattle.std.specs.Option.{option_map_or}
use Rattle.std.proofs.lemmas.Bool.{cases_lt}
use Rattle.std.proofs.lemmas.List.{get_or_append_left, get_or_push, length_push}
use Rattle.std.proofs.lemmas.List.Sums.{sum_by-cons, sum_by_more}
use Rattle.std.proofs.lemmas.Option.{same_Some, slice_get-get_or, slice_get_past, slice_get_within}
use Rattle.hc_places.specs.declared.table.Datagram.{Datagram}
use Rattle.hc_places.specs.Swap.{ChangedTask, ChangesAscend}
use Rattle.hc_places.specs.Table.{Table, TaskTable}
use Rattle.hc_images.specs.Packed.{Bytes, HasSizes, length_in}
use Rattle.hc_images.specs.Pieces.{AddsRoom, HasRoomToGrow, HasTaskRoom, ResizesEach, byte_count, room_start, table_data_length}
use Rattle.hc_images.proofs.Numbered.{ascend-differ}

-- zeros for one more datagram
pub next-added : (n : ℕ) (size : ℕ → ℕ → ℕ) (task : ℕ) (table : TaskTable) (old mid new : Bytes) (row : List ℕ) → AddsRoom n size task table old mid → new ≡ mid ++ row ∷ []
    → (size task n < table_data_length table n → row ≡ replicate (table_data_length table n) 0) → AddsRoom (n + 1) size task table old new
next-added n size task table old mid new row adds is zeros = subst (AddsRoom (n + 1) size task table old) (sym is) (record {
  all = let push = length_push mid row in let all = adds.all in omega (arith, push, all);
  zeros =
      below_more (λ (d : ℕ). size task d < table_data_length table d → get_or (mid ++ row ∷ []) (length old + d) [] ≡ replicate (table_data_length table d) 0) n
      (λ d low longer. get_or_append_left mid (row ∷ []) [] (length old + d) (let all = adds.all in omega (arith, all, low)) ∙ adds.zeros d low longer)
      (λ longer. get_or_push mid row [] (length old + n) adds.all ∙ zeros longer);
  rest = λ m low. get_or_append_left mid (row ∷ []) [] m (let all = adds.all in omega (arith, all, low)) ∙ adds.rest m low;
})

-- where the zeros for each changed task begin

pub next-start : (n : ℕ) (changed : List ChangedTask) (last : ChangedTask) → slice_get changed n ≡ Some last → room_start changed (n + 1) ≡ room_start changed n + length last.1.datagrams
next-start n changed last is =
    let low = slice_get_within changed n last is in
    let same : get_or changed n last ≡ last = same_Some (get_or changed n last) last (sym (slice_get-get_or changed n last low) ∙ is) in
    let more = sum_by_more (λ (own : ChangedTask). length own.1.datagrams) changed n last low in
    more ∙ ap (λ (own : ChangedTask). room_start changed n + length own.1.datagrams) same

pub start-grows : (i n : ℕ) (changed : List ChangedTask) → i ≤ n → room_start changed i ≤ room_start changed n
start-grows zero n changed le = omega arith
start-grows (suc i) zero changed le = absurd (omega arith)
start-grows (suc i) (suc n) [] le = omega arith
start-grows (suc i) (suc n) (own ∷ rest) le =
    let count = λ (o : ChangedTask). length o.1.datagrams in
    let grows = start-grows i n rest (omega arith) in
    let short = sum_by-cons count own (take i rest) in
    let long = sum_by-cons count own (take n rest) in
    omega (arith, grows, short, long)

-- a datagram that gets longer is in the table
in-table : (table : TaskTable) (d size : ℕ) → size < table_data_length table d → d < length table.datagrams
in-table table d size longer = elim (cases_lt d (length table.datagrams)) [
  | inl inside ↦ inside
  | inr beyond ↦
      let none : table_data_length table d ≡ 0 = ap (λ (found : Option Datagram). option_map_or (λ datagram. datagram.length) found 0) (slice_get_past table.datagrams d beyond) in
      absurd (omega (arith, longer, none))
]

-- one more changed task
pub next-room : (n : ℕ) (size : ℕ → ℕ → ℕ) (changed : List ChangedTask) (last : ChangedTask) (mid new : Bytes) → slice_get changed n ≡ Some last
    → HasRoomToGrow n size changed mid → AddsRoom (length last.1.datagrams) size last.0 last.1 mid new → HasRoomToGrow (n + 1) size changed new
next-room n size changed last mid new is has adds = record {
  all = let all = has.all in let more = adds.all in let next = next-start n changed last is in omega (arith, all, more, next);
  zeros = λ i d own below there low few longer.
      let inside = in-table own.1 d (size own.0 d) longer in
      elim (cases_lt i n) [
        | inl before ↦
            let all = has.all in
            let end = next-start i changed own there in
            let grows = start-grows (i + 1) n changed (omega (arith, before)) in
            adds.rest (room_start changed i + d) (omega (arith, all, end, grows, inside)) ∙ has.zeros i d own before there low few longer
        | inr not_less ↦
            let index : n ≡ i = omega (arith, below, not_less) in
            let same : last ≡ own = same_Some last own (sym is ∙ ap (slice_get changed) index ∙ there) in
            let at : length mid + d ≡ room_start changed i + d = ap (λ m. m + d) (has.all ∙ ap (room_start changed) index) in
            subst (λ m. get_or new m [] ≡ replicate (table_data_length own.1 d) 0) at
            (subst
            (λ (o : ChangedTask). d < length o.1.datagrams → size o.0 d < table_data_length o.1 d → get_or new (length mid + d) [] ≡ replicate (table_data_length o.1 d) 0)
            same (adds.zeros d) inside longer)
      ];
}

-- room for the datagrams that get longer than in a table is room for those that get longer than their bytes
pub room-for : (table : Table) (changed shown : List ChangedTask) (rows room : Bytes) → shown ≡ changed → HasSizes table rows → HasRoomToGrow (length changed) (length_in table) changed room
    → HasRoomToGrow (length shown) (byte_count rows) shown room
room-for table changed shown rows room same sizes has = subst (λ (l : List ChangedTask). HasRoomToGrow (length l) (byte_count rows) l room) (sym same) (record {
  all = has.all;
  zeros = λ i d own below there low few longer.
      has.zeros i d own below there low few (subst (λ n. n < table_data_length own.1 d) (sizes own.0 d low few) longer);
})

-- what is left of it after the first n tasks
pub own-room : (n : ℕ) (changed : List ChangedTask) (own : ChangedTask) (old mid room left : Bytes) → slice_get changed n ≡ Some own → n < length changed → ChangesAscend changed
    → HasRoomToGrow (length changed) (byte_count old) changed room → ResizesEach n changed old mid → ((m : ℕ) → room_start changed n ≤ m → get_or left m [] ≡ get_or room m [])
    → HasTaskRoom (byte_count mid) own.0 own.1 (room_start changed n) left
own-room n changed own old mid room left is inside ascend has each rest = λ d low few longer.
    rest (room_start changed n + d) (omega arith)
    ∙ has.zeros n d own inside is low few
    (subst (λ (b : List ℕ). length b < table_data_length own.1 d)
    (each.rest own.0 d few (λ j other before at. ascend-differ changed j n other own ascend before at is)) longer)
