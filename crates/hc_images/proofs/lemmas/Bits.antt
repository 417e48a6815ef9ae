-- Each bit of a datagram lies in one output variable's place or in none, so values that agree at outputs' bits are held alike.
use Rattle.std.proofs.Common.{◌≡◌, ◌⊎◌, inl, inr, ℕ, ◌+◌, ◌-◌, ◌<◌, ◌≤◌, ◌==◌, ◌&&◌, nat_le, nat_lt, Bool, true, false, refl, sym, ◌∙◌, arith, Option, Some, None, rules}
use Rattle.std.specs.Prelude.{find}
use Rattle.std.proofs.lemmas.Bool.{and_from, and_parts, eq-eqb, eqb-true}
use Rattle.std.proofs.lemmas.Bool.Decides.{nat_tests}
use Rattle.hc_bits.specs.Bits.{bit_of}
use Rattle.hc_records.specs.declared.limits.TheConstants.{MOST_DATAGRAMS, TASKS}
use Rattle.hc_records.specs.declared.records.Dir.TheVariants.{Out}
use Rattle.hc_records.specs.Image.{VariablePlace}
use Rattle.hc_records.specs.Keys.{same_dir}
use Rattle.hc_records.proofs.lemmas.Finds.{found-none, mapped-some}
use Rattle.hc_records.proofs.lemmas.VariablePlaces.{same_dir-same}
use Rattle.hc_places.specs.Table.{VariableRow, RowsAscend, Table, place_in, is_placed_in_datagram}
use Rattle.hc_places.proofs.lemmas.Found.{find-holds}
use Rattle.hc_images.specs.Packed.{Bytes, Carries, HoldsOutputValues, IsOutput, LiesInTaskPlace, Packed, sent_bytes, slot_bytes}
use Rattle.hc_images.proofs.Placing.{rows-placed}

-- a bit lies in the place of an output's row

abbrev bit_lies : ℕ → ℕ → ℕ → VariableRow → Bool
bit_lies task d k row =
    same_dir row.1.dir Out && (is_placed_in_datagram task d row.1 && (nat_le row.1.bit k && nat_lt k (row.1.bit + row.1.bits)))

is_within : (bit bits k : ℕ) → (nat_le bit k && nat_lt k (bit + bits)) ≡ true → (bit ≤ k) × (k < bit + bits)
is_within bit bits k e = grind (arith, nat_tests)

within_is : (bit bits k : ℕ) → bit ≤ k → k < bit + bits → (nat_le bit k && nat_lt k (bit + bits)) ≡ true
within_is bit bits k from below = grind (arith, nat_tests)

lies_there : (task d k : ℕ) (row : VariableRow) → bit_lies task d k row ≡ true → (row.1.dir ≡ Out) × LiesInTaskPlace row.1 task d k
lies_there task d k row e = search (rules, and_parts, is_within, same_dir-same, eqb-true)

there_lies : (task d k : ℕ) (row : VariableRow) → row.1.dir ≡ Out → LiesInTaskPlace row.1 task d k → bit_lies task d k row ≡ true
there_lies task d k row out lies = search (rules, and_from, eq-eqb, within_is)

-- an output variable of the table in whose place the bit lies
pub record HasBit (table : Table) (task d k : ℕ) : Type 0 where
  pub variable : ℕ
  pub place : VariablePlace
  pub is : IsOutput table variable place
  pub lies : LiesInTaskPlace place task d k

abbrev pub HasNoBit : Table → ℕ → ℕ → ℕ → Type 0
HasNoBit table task d k = (variable : ℕ) (place : VariablePlace) → IsOutput table variable place → ¬ (LiesInTaskPlace place task d k)

found_bit : (table : Table) (task d k : ℕ) → RowsAscend table.variables → (found : Option VariableRow) → find (bit_lies task d k) table.variables ≡ found → HasBit table task d k ⊎ HasNoBit table task d k
found_bit table task d k ascend (Some row) e =
    let holds = find-holds (λ (r : VariableRow). place_in table r.0 ≡ Some r.1) (bit_lies task d k) table.variables row e (rows-placed table ascend) in
    let lies = lies_there task d k row holds.1 in
    inl (record { variable = row.0; place = row.1; is = record { there = holds.0; output = lies.0 }; lies = lies.1 })
found_bit table task d k ascend None e =
    inr (λ variable place is lies.
    let row = mapped-some (λ (r : VariableRow). r.1) (find (λ r. r.0 == variable) table.variables) place is.there in
    let misses = (find-holds (λ (r : VariableRow). bit_lies task d k r ≡ false) (λ r. r.0 == variable) table.variables row.0 row.1 (found-none (bit_lies task d k) table.variables e)).0 in
    let own : bit_lies task d k row.0 ≡ true = search (rules, there_lies) in
    let never : true ≡ false = sym own ∙ misses in
    cc)

-- each bit lies in one output variable's place or in none (in no two: `IsLaidOut` says so of its places)
pub bit-lies : (table : Table) (task d k : ℕ) → RowsAscend table.variables → HasBit table task d k ⊎ HasNoBit table task d k
bit-lies table task d k ascend = found_bit table task d k ascend (find (bit_lies task d k) table.variables) refl

-- two values are equal at the bits of the table's outputs
abbrev pub AreAlike : Table → (ℕ → ℕ → ℕ) → (ℕ → ℕ → ℕ) → Type 0
AreAlike table value other =
    (variable k : ℕ) (place : VariablePlace) → IsOutput table variable place → k < place.bits → value variable k ≡ other variable k

pub carries-alike : (table : Table) (value other : ℕ → ℕ → ℕ) (bytes : Bytes) → AreAlike table value other → Carries table value bytes → Carries table other bytes
carries-alike table value other bytes alike carries = record {
  sizes = carries.sizes;
  all_bytes = carries.all_bytes;
  values = λ variable k place is low. carries.values variable k place is low ∙ alike variable k place is low;
  others = carries.others;
}

pub holds-alike : (table : Table) (value other : ℕ → ℕ → ℕ) (packed : Packed) → AreAlike table value other → HoldsOutputValues table value packed → HoldsOutputValues table other packed
holds-alike table value other packed alike holds = record { sent = carries-alike table value other packed.sent alike holds.sent; masks = holds.masks }

-- the bit of a datagram that carries the values
pub carried-bit : (table : Table) (value : ℕ → ℕ → ℕ) (bytes : Bytes) (task d k : ℕ) → Carries table value bytes → (has : HasBit table task d k)
    → bit_of (slot_bytes bytes task d) k ≡ value has.variable (k - has.place.bit)
carried-bit table value bytes task d k carries has =
    let place = has.place in
    let from = has.lies.from in
    let below = has.lies.below in
    let inside : k - place.bit < place.bits = omega arith in
    let whole : place.bit + (k - place.bit) ≡ k = omega arith in
    let held = carries.values has.variable (k - place.bit) place has.is inside in
    search rules

within_limits : (task d : ℕ) → task < TASKS → d < MOST_DATAGRAMS → (nat_lt task TASKS && nat_lt d MOST_DATAGRAMS) ≡ true
within_limits task d low few = grind (arith, nat_tests)

-- what is sent of a task and a number that a line can have
pub sent-there : (packed : Packed) (task d : ℕ) → task < TASKS → d < MOST_DATAGRAMS → sent_bytes packed task d ≡ slot_bytes packed.sent task d
sent-there packed task d low few = search (rules, within_limits)
