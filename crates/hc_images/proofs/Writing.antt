-- Bits are put at places, one place after another.
use Rattle.std.proofs.Common.{◌≡◌, ◌≢◌, ◌⊎◌, ℕ, ◌+◌, ◌*◌, ◌/◌, ◌%◌, ◌<◌, ◌≤◌, get_or, set, List, [], length, subst, arith, Option, Some, None, rules}
use Rattle.std.specs.Prelude.{IfSome, MatchOption}
use Rattle.std.specs.Int.{bit_at}
use Rattle.std.proofs.lemmas.Bool.{cases_eq, cases_lt}
use Rattle.std.proofs.lemmas.List.{get_or-set_other, get_or-set_same}
use Rattle.hc_bits.specs.Bits.{AreBytes, ReplacesRun, bit_of}
use Rattle.hc_records.specs.declared.limits.TheConstants.{MOST_DATAGRAMS}
use Rattle.hc_records.specs.Image.{VariablePlace}
use Rattle.hc_records.specs.ImageLaws.{SharesNoBit}
use Rattle.hc_records.proofs.lemmas.Choices.{less_differs}
use Rattle.hc_places.specs.Ranges.{IsPlace}
use Rattle.hc_images.specs.Packed.{Bytes, LiesInTaskPlace, slot_bytes}
use Rattle.hc_images.proofs.Numbered.{none-some}
use Rattle.hc_images.specs.Pieces.{PlacesAreApart, Fit, Numbered, ReadsEach, WritesPlace, WritesAt, WritesEach}

-- one place is written

beside : (old new : List ℕ) (b : VariablePlace) (run : ℕ → ℕ) (task d k : ℕ) → b.task ≡ task → b.datagram ≡ d → ReplacesRun old new b.bit b.bits run
    → (LiesInTaskPlace b task d k → ⊥) → bit_of new k ≡ bit_of old k
beside old new b run task d k t e replaced misses = search (rules, cases_lt)

unchanged_bit : (old new : Bytes) (b : VariablePlace) (run : ℕ → ℕ) (task d k : ℕ) → d < MOST_DATAGRAMS → WritesPlace old new b run → (LiesInTaskPlace b task d k → ⊥)
    → bit_of (slot_bytes new task d) k ≡ bit_of (slot_bytes old task d) k
unchanged_bit old new b run task d k few writes misses = search (rules, cases_eq, beside)

unchanged_size : (old new : Bytes) (b : VariablePlace) (run : ℕ → ℕ) (task d : ℕ) → d < MOST_DATAGRAMS → WritesPlace old new b run
    → length (slot_bytes new task d) ≡ length (slot_bytes old task d)
unchanged_size old new b run task d few writes = search (rules, cases_eq)

unchanged_sizes : (old new : Bytes) (b : VariablePlace) (run : ℕ → ℕ) (n : ℕ) → WritesPlace old new b run → length (get_or new n []) ≡ length (get_or old n [])
unchanged_sizes old new b run n writes =
    let whole : MOST_DATAGRAMS * (n / MOST_DATAGRAMS) + n % MOST_DATAGRAMS ≡ n = omega arith in
    let few : n % MOST_DATAGRAMS < MOST_DATAGRAMS = omega arith in
    subst (λ m. length (get_or new m []) ≡ length (get_or old m [])) whole (unchanged_size old new b run (n / MOST_DATAGRAMS) (n % MOST_DATAGRAMS) few writes)

unchanged_bytes : (old new : Bytes) (b : VariablePlace) (run : ℕ → ℕ) (task d : ℕ) → d < MOST_DATAGRAMS → WritesPlace old new b run
    → AreBytes (slot_bytes old task d) → AreBytes (slot_bytes new task d)
unchanged_bytes old new b run task d few writes before = search (rules, cases_eq)

-- no bit lies in two places that share none

from_two : (a b : VariablePlace) (task d k : ℕ) → LiesInTaskPlace a task d k → LiesInTaskPlace b task d k → (a.bit + a.bits ≤ b.bit) ⊎ (b.bit + b.bits ≤ a.bit) → ⊥
from_two a b task d k in_a in_b apart = search rules

pub not-two : (a b : VariablePlace) (k : ℕ) → SharesNoBit a b → k < a.bits → LiesInTaskPlace b a.task a.datagram (a.bit + k) → ⊥
not-two a b k apart low lies = search (rules, from_two)

not-two_by : (b a : VariablePlace) (k : ℕ) → SharesNoBit b a → k < a.bits → LiesInTaskPlace b a.task a.datagram (a.bit + k) → ⊥
not-two_by b a k apart low lies = search (rules, from_two)

-- some places are written, and then one more

earlier : (places : Numbered) (n i : ℕ) (place : VariablePlace) → places n ≡ None → i < n + 1 → places i ≡ Some place → i < n
earlier places n i place none low there = search (rules, cases_lt, none-some)

abbrev IsHeld : (ℕ → ℕ → ℕ) → Bytes → ℕ → VariablePlace → Type 0
IsHeld run bytes i place = (k : ℕ) → k < place.bits → bit_of (slot_bytes bytes place.task place.datagram) (place.bit + k) ≡ run i k

held_still : (n most i : ℕ) (places : Numbered) (run : ℕ → ℕ → ℕ) (old mid new : Bytes) (place last : VariablePlace) → places i ≡ Some place → places n ≡ Some last → i < n → n < most
    → PlacesAreApart most places → WritesEach n places run old mid → WritesPlace mid new last (run n) → IsHeld run new i place
held_still n most i places run old mid new place last there is less low apart each writes = search (rules, unchanged_bit, not-two)

pub next-written : (n most : ℕ) (places : Numbered) (run : ℕ → ℕ → ℕ) (old mid new : Bytes) (found : Option VariablePlace) → places n ≡ found → n < most
    → PlacesAreApart most places → WritesEach n places run old mid → WritesAt found (run n) mid new → WritesEach (n + 1) places run old new
next-written n most places run old mid new found is low apart each same = search (rules, earlier, held_still, unchanged_bit, unchanged_sizes, unchanged_bytes)

-- where the next place lies nothing was written yet

pub next-fits : (n most : ℕ) (places : Numbered) (run : ℕ → ℕ → ℕ) (old mid : Bytes) (found : Option VariablePlace) → places n ≡ found → n < most → Fit most places old
    → WritesEach n places run old mid → IfSome found (λ place. place.bit + place.bits ≤ 8 * length (slot_bytes mid place.task place.datagram))
next-fits n most places run old mid found is low fit each = search rules

next_unwritten : (n most k : ℕ) (places : Numbered) (run : ℕ → ℕ → ℕ) (old mid : Bytes) (place : VariablePlace) → n < most → IsPlace place → PlacesAreApart most places
    → WritesEach n places run old mid → places n ≡ Some place → k < place.bits
    → bit_of (slot_bytes mid place.task place.datagram) (place.bit + k) ≡ bit_of (slot_bytes old place.task place.datagram) (place.bit + k)
next_unwritten n most k places run old mid place low range apart each there below = search (rules, not-two_by)

-- so what is read there is what was there at first

abbrev pub IsValue : Option VariablePlace → ℕ → Bytes → ℕ → Type 0
IsValue found lacking bytes value =
    MatchOption found (value ≡ lacking)
    (λ place. (k : ℕ) → k < place.bits → bit_at value k ≡ bit_of (slot_bytes bytes place.task place.datagram) (place.bit + k))

abbrev IsRead : Bytes → List ℕ → ℕ → VariablePlace → Type 0
IsRead bytes values i place =
    (k : ℕ) → k < place.bits → bit_at (get_or values i 0) k ≡ bit_of (slot_bytes bytes place.task place.datagram) (place.bit + k)

earlier_read : (n lacking value i : ℕ) (places : Numbered) (old : Bytes) (values : List ℕ) (place : VariablePlace) → i < n → places i ≡ Some place
    → ReadsEach n places old lacking values → IsRead old (set values n value) i place
earlier_read n lacking value i places old values place less there reads k below = search (rules, get_or-set_other, less_differs)

pub next-read : (n most lacking value : ℕ) (places : Numbered) (run : ℕ → ℕ → ℕ) (old mid new : Bytes) (values : List ℕ) (found : Option VariablePlace) → places n ≡ found → n < most → length values ≡ most
    → PlacesAreApart most places → WritesEach n places run old mid → WritesAt found (run n) mid new → IsValue found lacking mid value
    → ReadsEach n places old lacking values → ReadsEach (n + 1) places old lacking (set values n value)
next-read n most lacking value places run old mid new values None is low count apart each writes own reads =
    search (rules, earlier_read, earlier, cases_lt, get_or-set_other, less_differs, get_or-set_same)
next-read n most lacking value places run old mid new values (Some last) is low count apart each (range, writes) own reads =
    search (rules, get_or-set_same, next_unwritten, earlier_read, cases_lt, get_or-set_other, less_differs, none-some)
