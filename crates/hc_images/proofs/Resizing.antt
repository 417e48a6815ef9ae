-- Bytes of another length, and the lengths of the table that a change leads to.
use Rattle.std.proofs.Common.{◌≡◌, inl, inr, ℕ, ◌+◌, ◌-◌, ◌*◌, ◌/◌, ◌%◌, ◌<◌, ◌≤◌, get_or, List, [], ◌++◌, length, replicate, sym, ap, ◌∙◌, subst, arith, Option, Some, None, rules}
use Rattle.std.specs.Prelude.{option_and_then, option_map, slice_get, unwrap_or}
use Rattle.std.specs.Int.{bit_at}
use Rattle.std.specs.Option.{option_map_or}
use Rattle.std.proofs.lemmas.Bool.{cases_lt}
use Rattle.std.proofs.lemmas.List.{append-nil, get_or_append_left, get_or_past, get_or-take, length-append, length-replicate, length-take}
use Rattle.std.proofs.lemmas.Nat.Bits.{bit_at-zero}
use Rattle.std.proofs.lemmas.Option.{slice_get-get_or, slice_get_within, same_Some}
use Rattle.std.proofs.Math.Seq.{get_or-append_right, take-length}
use Rattle.hc_bits.specs.Bits.{AreBytes, bit_of}
use Rattle.hc_bits.proofs.lemmas.Places.{bit_of-append_left, bit_of-append_right, bit_of-take, bit_of-zeros}
use Rattle.hc_records.specs.declared.limits.TheConstants.{MOST_DATAGRAMS, TASKS}
use Rattle.hc_places.specs.Swap.{Change, ChangedTask, ChangesAscend, swapped, said_of}
use Rattle.hc_places.specs.Table.{IsTable, Table, TaskTable}
use Rattle.hc_places.proofs.lemmas.Swaps.{swaps-replace}
use Rattle.hc_images.specs.Packed.{Bytes, HasSizes, length_in, slot_bytes}
use Rattle.hc_images.specs.Pieces.{Resizes, ResizesEach, table_data_length, resized}
use Rattle.hc_images.proofs.Masks.{same-at, zero-small}
use Rattle.hc_images.proofs.Numbered.{ascend-differ, HasNone, HasNumber, by-number, found-at, none-found}

-- the bits of bytes that are cut, or have zeros after

bit-history : (xs : List ℕ) (k : ℕ) → 8 * length xs ≤ k → bit_of xs k ≡ 0
unfolding bit_of
bit-history xs k history = ap (λ b. bit_at b (k % 8)) (get_or_past xs (k / 8) 0 (omega arith)) ∙ bit_at-zero (k % 8)

zeros_after : (xs : List ℕ) (n k : ℕ) → 8 * length xs ≤ k → bit_of (xs ++ replicate n 0) k ≡ 0
zeros_after xs n k history =
    let whole : 8 * length xs + (k - 8 * length xs) ≡ k = omega arith in
    search (rules, bit_of-append_right, bit_of-zeros)

pub resized-size : (size : ℕ) (xs : List ℕ) → length (resized size xs) ≡ size
resized-size size xs = search (rules, length-append, length-take, length-replicate)

pub resized-bit : (size : ℕ) (xs : List ℕ) (k : ℕ) → k < 8 * size → bit_of (resized size xs) k ≡ bit_of xs k
resized-bit size xs k low = search (rules, cases_lt, bit_of-append_left, bit_of-take, length-take, zeros_after, bit-history)

pub resized-history : (size : ℕ) (xs : List ℕ) (k : ℕ) → 8 * size ≤ k → bit_of (resized size xs) k ≡ 0
resized-history size xs k history = bit-history (resized size xs) k (let all = resized-size size xs in omega arith)

pub resized-bytes : (size : ℕ) (xs : List ℕ) → AreBytes xs → AreBytes (resized size xs)
resized-bytes size xs bytes i low = search (rules, length-take, cases_lt, get_or_append_left, get_or-take, get_or-append_right, same-at, zero-small)

none_missing : (n : ℕ) → replicate {A = ℕ} (n - n) 0 ≡ []
none_missing n = let e : n - n ≡ 0 = omega arith in ap (λ m. replicate m 0) e

resized-same : (xs : List ℕ) → resized (length xs) xs ≡ xs
resized-same xs = ap (λ front. front ++ replicate (length xs - length xs) 0) (take-length xs) ∙ ap (λ rest. xs ++ rest) (none_missing (length xs)) ∙ append-nil xs

-- one more task gets its lengths

pub next-resized : (n : ℕ) (changed : List ChangedTask) (last : ChangedTask) (old mid new : Bytes) → slice_get changed n ≡ Some last → ChangesAscend changed
    → ResizesEach n changed old mid → Resizes last.0 last.1 mid new → ResizesEach (n + 1) changed old new
next-resized n changed last old mid new is ascend each resizes = record {
  own = λ i d own below there few. elim (cases_lt i n) [
    | inl less ↦
        resizes.rest own.0 d few (ascend-differ changed i n own last ascend less there is) ∙ each.own i d own less there few
    | inr more ↦
        let index : n ≡ i = omega arith in
        let same : last ≡ own = same_Some last own (sym is ∙ ap (slice_get changed) index ∙ there) in
        subst (λ (o : ChangedTask). slot_bytes new o.0 d ≡ resized (table_data_length o.1 d) (slot_bytes old o.0 d)) same
        (resizes.own d few
        ∙ ap (resized (table_data_length last.1 d))
        (each.rest last.0 d few (λ j other inside at. ascend-differ changed j n other last ascend inside at is)))
  ];
  rest = λ task d few none.
      resizes.rest task d few (λ same. none n last (omega arith) is (sym same))
      ∙ each.rest task d few (λ i own below. none i own (omega arith));
  all = resizes.all ∙ each.all;
}

-- the lengths of a table, by the tables of its tasks

by_task : (found : Option TaskTable) (table : Table) (task d : ℕ) → slice_get table.tasks task ≡ found
    → length_in table task d ≡ option_map_or (λ datagram. datagram.length) (option_and_then (λ (t : TaskTable). slice_get t.datagrams d) found) 0
by_task found table task d there = search rules

replaced_by : (said : Option TaskTable) (old new : Option TaskTable) (own : TaskTable) → old ≡ Some own → new ≡ option_map (λ (o : TaskTable). unwrap_or said o) old → new ≡ Some (unwrap_or said own)
replaced_by said old new own there is = is ∙ ap (option_map (λ (o : TaskTable). unwrap_or said o)) there

blank : TaskTable
blank = record { datagrams = []; outputs = 0; inputs = 0 }

new_task : (change : Change) (table : Table) (task : ℕ) (said : Option TaskTable) → IsTable table → ChangesAscend change.tasks → task < TASKS → said_of change.tasks task ≡ said
    → (own : TaskTable) × (slice_get table.tasks task ≡ Some own) × (slice_get (swapped change table).tasks task ≡ Some (unwrap_or said own))
new_task change table task said is ascend low answer_given =
    let own = get_or table.tasks task blank in
    let there = slice_get-get_or table.tasks task blank (omega arith) in (
      own,
      there,
      replaced_by said (slice_get table.tasks task) (slice_get (swapped change table).tasks task) own there
          (swaps-replace change table ascend task ∙ ap (λ s. option_map (λ (o : TaskTable). unwrap_or s o) (slice_get table.tasks task)) answer_given),
    )

abbrev pub GetsLength : Change → Table → Bytes → Bytes → ℕ → ℕ → Type 0
GetsLength change table old new task d = slot_bytes new task d ≡ resized (length_in (swapped change table) task d) (slot_bytes old task d)

said_length : (change : Change) (table : Table) (old new : Bytes) (task d : ℕ) → IsTable table → ChangesAscend change.tasks → task < TASKS → d < MOST_DATAGRAMS
    → ResizesEach (length change.tasks) change.tasks old new → HasNumber change.tasks task → GetsLength change table old new task d
said_length change table old new task d is ascend low few each has =
    let row = has.row in
    let answer_given : said_of change.tasks row.0 ≡ Some row.1 = ap (option_map (λ (c : ChangedTask). c.1)) (found-at change.tasks has.index row ascend has.there) in
    let there = new_task change table row.0 (Some row.1) is ascend (subst (λ (t : ℕ). t < TASKS) (sym has.is) low) answer_given in
    let size = by_task (Some row.1) (swapped change table) row.0 d there.2 in
    search (rules, slice_get_within)

unchanged_length : (change : Change) (table : Table) (old new : Bytes) (task d : ℕ) → IsTable table → ChangesAscend change.tasks → task < TASKS → d < MOST_DATAGRAMS → HasSizes table old
    → ResizesEach (length change.tasks) change.tasks old new → HasNone change.tasks task → GetsLength change table old new task d
unchanged_length change table old new task d is ascend low few sizes each none =
    let answer_given : said_of change.tasks task ≡ None = ap (option_map (λ (c : ChangedTask). c.1)) (none-found change.tasks task none) in
    let there = new_task change table task None is ascend low answer_given in
    let size : length (slot_bytes old task d) ≡ length_in (swapped change table) task d = search (rules, by_task) in
    search (rules, resized-same)

-- once the changed tasks have the lengths of their new tables, each datagram has its length of the new
-- table
pub lengths-changed : (change : Change) (table : Table) (old new : Bytes) → IsTable table → ChangesAscend change.tasks → HasSizes table old
    → ResizesEach (length change.tasks) change.tasks old new → (task d : ℕ) → task < TASKS → d < MOST_DATAGRAMS → GetsLength change table old new task d
lengths-changed change table old new is ascend sizes each task d low few = search (rules, by-number, said_length, unchanged_length)
