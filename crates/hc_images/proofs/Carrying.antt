-- What the bytes carry once their values are taken up, their lengths are changed, and the values are put down.
use Rattle.std.proofs.Common.{◌≡◌, ◌≢◌, ◌⊎◌, inl, inr, ℕ, ◌+◌, ◌-◌, ◌*◌, ◌<◌, ◌≤◌, Bool, true, false, cond, List, ◌++◌, length, take, refl, sym, ap, ◌∙◌, subst, arith, Option, Some, None, rules}
use Rattle.std.specs.Prelude.{is_some, option_and_then, slice_get, slice_index_or}
use Rattle.std.specs.Int.{bit_at}
use Rattle.std.proofs.lemmas.Bool.{cases_lt}
use Rattle.std.proofs.lemmas.Nat.Bits.{bit_at-zero, bit_at_ones}
use Rattle.std.proofs.lemmas.Option.{slice_get_within}
use Rattle.std.proofs.Math.Seq.{take-append_seam}
use Rattle.hc_bits.specs.Bits.{AreBytes, bit_of}
use Rattle.hc_records.specs.declared.limits.TheConstants.{MOST_DATAGRAMS, TASKS}
use Rattle.hc_records.specs.Image.{VariablePlace}
use Rattle.hc_places.specs.Swap.{Change, ChangedRow, ChangesAscend, swapped}
use Rattle.hc_places.specs.Table.{IsTable, RowsAscend, Table, place_in}
use Rattle.hc_images.specs.Packed.{Bytes, Carries, HasSizes, IsLaidOut, IsOutput, LiesInTaskPlace, length_in, slot_bytes}
use Rattle.hc_images.specs.Pieces.{AreBlank, ReadsEach, ResizesEach, ArePlaced, WritesEach, carried_bit, of_changed, of_list, of_rows, output_of, word_of}
use Rattle.hc_images.specs.Values.{KeepEntries}
use Rattle.hc_images.proofs.Numbered.{HasNone, by-number}
use Rattle.hc_images.proofs.Outcomes.{blank-bit, blank-carries, blank-sizes}
use Rattle.hc_images.proofs.Resizing.{lengths-changed, resized-bit, resized-bytes, resized-history, resized-size}
use Rattle.hc_images.proofs.Placing.{found-output, has-row, new-are, of-new, old-are, row-at, rows-are, same-place}
use Rattle.hc_images.proofs.Writing.{not-two}
use Rattle.hc_images.proofs.lemmas.Bits.{HasBit, HasNoBit, bit-lies, carries-alike}

-- the bits of a word of ones and of one of zeros

word-bit : (ones : Bool) (k : ℕ) → k < 64 → bit_at (word_of ones) k ≡ cond ones 1 0
word-bit true k low = bit_at_ones 64 k low
word-bit false k low = bit_at-zero k

-- ones at the places of a table's outputs, in bytes that were zeros
pub marked-carries : (table : Table) (old new : Bytes) → IsLaidOut table → RowsAscend table.variables → AreBlank table old
    → WritesEach (length table.variables) (of_rows table.variables) (λ i. bit_at 18446744073709551615) old new → Carries table (λ variable k. 1) new
marked-carries table old new laid ascends blank each = record {
  sizes = λ task d low few. each.sizes (MOST_DATAGRAMS * task + d) ∙ blank-sizes table old blank task d low few;
  all_bytes = λ task d low few. each.bytes task d few ((blank-carries table old blank).all_bytes task d low few);
  values = λ variable k place output below.
      let row = has-row table variable place ascends output in
      let most = (each.ranges row.index place row.low row.there).most in
      each.own row.index k place row.low row.there below ∙ word-bit true k (omega arith);
  others = λ task d k low few misses.
      each.rest task d k few
      (λ i place inside there.
      let own = row-at table.variables i inside in
      misses own.row.0 place (rows-are table ascends i own.row place own.there there))
      ∙ blank-bit table old k (MOST_DATAGRAMS * task + d) blank;
}

-- the course of an edit: from `first` the values are taken up, the lengths change after `taken`, and after `cut` the values are put down
pub record Course : Type 0 where
  pub old : Table
  pub change : Change
  pub ones : Bool
  pub places : List (Option VariablePlace)
  pub values : List ℕ
  pub first : Bytes
  pub taken : Bytes
  pub cut : Bytes
  pub last : Bytes

abbrev pub next : Course → Table
next e = swapped e.change e.old

pub record AreMoved (e : Course) : Type 0 where
  pub table : IsTable e.old
  pub laid : IsLaidOut e.old
  pub laid_out : IsLaidOut (next e)
  pub entries : KeepEntries e.old (next e)
  pub rows : ChangesAscend e.change.rows
  pub tasks : ChangesAscend e.change.tasks
  pub are_placed : ArePlaced e.old e.change.rows e.places
  pub sizes : HasSizes e.old e.first
  pub takes : WritesEach (length e.places) (of_list e.places) (λ i. bit_at 0) e.first e.taken
  pub reads : ReadsEach (length e.places) (of_list e.places) e.first (word_of e.ones) e.values
  pub cuts : ResizesEach (length e.change.tasks) e.change.tasks e.taken e.cut
  pub puts : WritesEach (length e.change.rows) (of_changed e.change.rows) (λ i. bit_at (slice_index_or e.values i 0)) e.cut e.last

taken_sizes : (e : Course) → AreMoved e → HasSizes e.old e.taken
taken_sizes e moved = λ task d low few. moved.takes.sizes (MOST_DATAGRAMS * task + d) ∙ moved.sizes task d low few

pub cut-sizes : (old : Table) (change : Change) (taken cut : Bytes) → IsTable old → ChangesAscend change.tasks → HasSizes old taken → ResizesEach (length change.tasks) change.tasks taken cut → HasSizes (swapped change old) cut
cut-sizes old change taken cut is ascend sizes cuts task d low few =
    ap (λ own. length own) (lengths-changed change old taken cut is ascend sizes cuts task d low few)
    ∙ resized-size (length_in (swapped change old) task d) (slot_bytes taken task d)

-- a bit that no changed output takes is what it was after the taking up, as far as the new length goes
cut_bit : (e : Course) (task d k : ℕ) → AreMoved e → task < TASKS → d < MOST_DATAGRAMS → k < 8 * length_in (next e) task d → bit_of (slot_bytes e.cut task d) k ≡ bit_of (slot_bytes e.taken task d) k
cut_bit e task d k moved low few below =
    ap (λ own. bit_of own k) (lengths-changed e.change e.old e.taken e.cut moved.table moved.tasks (taken_sizes e moved) moved.cuts task d low few)
    ∙ resized-bit (length_in (next e) task d) (slot_bytes e.taken task d) k below

cut_past : (e : Course) (task d k : ℕ) → AreMoved e → task < TASKS → d < MOST_DATAGRAMS → 8 * length_in (next e) task d ≤ k → bit_of (slot_bytes e.cut task d) k ≡ 0
cut_past e task d k moved low few history =
    ap (λ own. bit_of own k) (lengths-changed e.change e.old e.taken e.cut moved.table moved.tasks (taken_sizes e moved) moved.cuts task d low few)
    ∙ resized-history (length_in (next e) task d) (slot_bytes e.taken task d) k history

-- the value of a variable that had no place, and of one that had one

unchanged_some : (old : Table) (value : ℕ → ℕ → ℕ) (ones : Bool) (variable k : ℕ) (before : VariablePlace) → place_in old variable ≡ Some before → value variable k ≡ carried_bit old value ones variable k
unchanged_some old value ones variable k before there = sym (ap (λ found. cond (is_some found) (value variable k) (cond ones 1 0)) there)

unchanged_none : (old : Table) (value : ℕ → ℕ → ℕ) (ones : Bool) (variable k : ℕ) → place_in old variable ≡ None → cond ones 1 0 ≡ carried_bit old value ones variable k
unchanged_none old value ones variable k none = sym (ap (λ found. cond (is_some found) (value variable k) (cond ones 1 0)) none)

-- the value of a changed variable is put down

put_by : (e : Course) (value : ℕ → ℕ → ℕ) (i k : ℕ) (row : ChangedRow) (place : VariablePlace) (found : Option VariablePlace) → AreMoved e → Carries e.old value e.first → slice_get e.change.rows i ≡ Some row → IsOutput (next e) row.0 place → k < place.bits → k < 64
    → place_in e.old row.0 ≡ found → bit_at (slice_index_or e.values i 0) k ≡ carried_bit e.old value e.ones row.0 k
put_by e value i k row place None moved carries there is below word none =
    let inside = slice_get_within e.change.rows i row there in
    let low : i < length e.places = omega arith in
    let lacks : of_list e.places i ≡ None = moved.are_placed.each i row there ∙ ap (λ f. option_and_then output_of f) none in
    ap (λ n. bit_at n k) (moved.reads.given i low lacks) ∙ word-bit e.ones k word ∙ unchanged_none e.old value e.ones row.0 k none
put_by e value i k row place (Some before) moved carries there is below word some =
    let count = moved.are_placed.count in
    let inside = slice_get_within e.change.rows i row there in
    let low : i < length e.places = omega arith in
    let entry = moved.entries row.0 before place some is.there in
    let same = entry.bits in
    let was : IsOutput e.old row.0 before = record { there = some; output = sym entry.dir ∙ is.output } in
    let stood : of_list e.places i ≡ Some before = moved.are_placed.each i row there ∙ found-output e.old row.0 before was in
    moved.reads.read i k before low stood (omega arith) ∙ carries.values row.0 k before was (omega arith) ∙ unchanged_some e.old value e.ones row.0 k before some

put_value : (e : Course) (value : ℕ → ℕ → ℕ) (i k : ℕ) (row : ChangedRow) (place : VariablePlace) → AreMoved e → Carries e.old value e.first → slice_get e.change.rows i ≡ Some row → IsOutput (next e) row.0 place → k < place.bits
    → bit_of (slot_bytes e.last place.task place.datagram) (place.bit + k) ≡ carried_bit e.old value e.ones row.0 k
put_value e value i k row place moved carries there is below =
    let low = slice_get_within e.change.rows i row there in
    let new : of_changed e.change.rows i ≡ Some place = of-new e.change e.old i row moved.table.ascends moved.rows there ∙ found-output (next e) row.0 place is in
    let most = (moved.puts.ranges i place low new).most in
    moved.puts.own i k place low new below
    ∙ put_by e value i k row place (place_in e.old row.0) moved carries there is below (omega arith) refl

-- the value of any other stays where it is

apart_from : (table : Table) (variable other : ℕ) (place another : VariablePlace) (k : ℕ) → IsLaidOut table → other ≢ variable → place_in table variable ≡ Some place → place_in table other ≡ Some another → k < place.bits
    → ¬ (LiesInTaskPlace another place.task place.datagram (place.bit + k))
apart_from table variable other place another k laid differ there there' below lies = search (rules, not-two)

stayed : (e : Course) (value : ℕ → ℕ → ℕ) (variable k : ℕ) (place : VariablePlace) → AreMoved e → Carries e.old value e.first → HasNone e.change.rows variable → IsOutput (next e) variable place → k < place.bits
    → bit_of (slot_bytes e.last place.task place.datagram) (place.bit + k) ≡ carried_bit e.old value e.ones variable k
stayed e value variable k place moved carries none is below =
    let there : place_in e.old variable ≡ Some place = sym (same-place e.change e.old variable moved.table.ascends none) ∙ is.there in
    let lies = moved.laid_out.inside variable place is.there in
    let count = moved.are_placed.count in
    moved.puts.rest place.task place.datagram (place.bit + k) lies.datagram
    (λ i other low at. let own = row-at e.change.rows i low in
    apart_from (next e) variable own.row.0 place other k moved.laid_out (none i own.row own.there) is.there
    (new-are e.change e.old moved.table.ascends moved.rows i own.row other own.there at).there below)
    ∙ cut_bit e place.task place.datagram (place.bit + k) moved lies.task lies.datagram (omega arith)
    ∙ moved.takes.rest place.task place.datagram (place.bit + k) lies.datagram
    (λ i other low at. let own = row-at e.change.rows i (omega arith) in
    apart_from e.old variable own.row.0 place other k moved.laid (none i own.row own.there) there
    (old-are e.change e.old e.places moved.are_placed i own.row other own.there at).there below)
    ∙ carries.values variable k place (record { there = there; output = is.output }) below
    ∙ unchanged_some e.old value e.ones variable k place there

-- a bit that lies in no output's new place

taken_zero : (e : Course) (i task d k : ℕ) (row : ChangedRow) (place : VariablePlace) → AreMoved e → slice_get e.change.rows i ≡ Some row → IsOutput e.old row.0 place → LiesInTaskPlace place task d k → bit_of (slot_bytes e.taken task d) k ≡ 0
taken_zero e i task d k row place moved there is lies =
    let from = lies.from in
    let below = lies.below in
    let count = moved.are_placed.count in
    let inside = slice_get_within e.change.rows i row there in
    let low : i < length e.places = omega arith in
    let whole : place.bit + (k - place.bit) ≡ k = omega arith in
    let stood : of_list e.places i ≡ Some place = moved.are_placed.each i row there ∙ found-output e.old row.0 place is in
    search (rules, bit_at-zero)

free_bit : (e : Course) (value : ℕ → ℕ → ℕ) (task d k : ℕ) → AreMoved e → Carries e.old value e.first → task < TASKS → d < MOST_DATAGRAMS → HasNoBit (next e) task d k
    → HasBit e.old task d k ⊎ HasNoBit e.old task d k → bit_of (slot_bytes e.taken task d) k ≡ 0
free_bit e value task d k moved carries low few misses (inl has) = elim (by-number e.change.rows has.variable) [
  | inl changed ↦
      taken_zero e changed.index task d k changed.row has.place moved changed.there
      (subst (λ n. IsOutput e.old n has.place) (sym changed.is) has.is) has.lies
  | inr none ↦
      absurd (misses has.variable has.place
      (record { there = same-place e.change e.old has.variable moved.table.ascends none ∙ has.is.there; output = has.is.output }) has.lies)
]
free_bit e value task d k moved carries low few misses (inr none) =
    moved.takes.rest task d k few
    (λ i other inside at lies. let own = row-at e.change.rows i (omega arith) in
    none own.row.0 other (old-are e.change e.old e.places moved.are_placed i own.row other own.there at) lies)
    ∙ carries.others task d k low few none

moved_sizes : (e : Course) → AreMoved e → HasSizes (next e) e.last
moved_sizes e moved task d low few =
    moved.puts.sizes (MOST_DATAGRAMS * task + d)
    ∙ cut-sizes e.old e.change e.taken e.cut moved.table moved.tasks (taken_sizes e moved) moved.cuts task d low few

pub moved-carries : (e : Course) (value : ℕ → ℕ → ℕ) → AreMoved e → Carries e.old value e.first → Carries (next e) (carried_bit e.old value e.ones) e.last
moved-carries e value moved carries = record {
  sizes = moved_sizes e moved;
  all_bytes = λ task d low few.
      moved.puts.bytes task d few
      (subst AreBytes (sym (lengths-changed e.change e.old e.taken e.cut moved.table moved.tasks (taken_sizes e moved) moved.cuts task d low few))
      (resized-bytes (length_in (next e) task d) (slot_bytes e.taken task d) (moved.takes.bytes task d few (carries.all_bytes task d low few))));
  values = λ variable k place is below. elim (by-number e.change.rows variable) [
    | inl has ↦
        subst (λ n. bit_of (slot_bytes e.last place.task place.datagram) (place.bit + k) ≡ carried_bit e.old value e.ones n k) has.is
        (put_value e value has.index k has.row place moved carries has.there
        (subst (λ n. IsOutput (next e) n place) (sym has.is) is) below)
    | inr none ↦ stayed e value variable k place moved carries none is below
  ];
  others = λ task d k low few misses.
      moved.puts.rest task d k few
      (λ i place inside at. let own = row-at e.change.rows i inside in
      misses own.row.0 place (new-are e.change e.old moved.table.ascends moved.rows i own.row place own.there at))
      ∙ elim (cases_lt k (8 * length_in (next e) task d)) [
        | inl below ↦
            cut_bit e task d k moved low few below
            ∙ free_bit e value task d k moved carries low few misses (bit-lies e.old task d k moved.table.ascends)
        | inr history ↦ cut_past e task d k moved low few history
      ];
}

-- ones stay ones, and those of variables that appear are ones
both_one : (found : Bool) → cond {A = ℕ} found 1 1 ≡ 1
both_one found = search rules

pub carried-ones : (old new : Table) (bytes : Bytes) → Carries new (carried_bit old (λ variable k. 1) true) bytes → Carries new (λ variable k. 1) bytes
carried-ones old new bytes carries = search (rules, carries-alike, both_one)

-- what a list is once all of it was lent
pub all-lent : (size : ℕ) (new rest : Bytes) → length new ≡ size → take size (new ++ rest) ≡ new
all-lent size new rest all = ap (λ n. take n (new ++ rest)) (sym all) ∙ take-append_seam new rest
