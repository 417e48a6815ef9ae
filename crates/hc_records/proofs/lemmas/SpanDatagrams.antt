-- The datagrams of a task are its spans.
use Rattle.std.proofs.Common.{◌≡◌, ℕ, ◌+◌, ◌<◌, ◌≤◌, zero, suc, Bool, true, false, List, [], ◌∷◌, Some, refl, sym, ap, subst, ◌∙◌, arith, if◌then◌else◌}
use Rattle.std.specs.Prelude.{All, cond, filter, slice_get, ◌==◌}
use Rattle.std.proofs.lemmas.Bool.{and_from, and_left, and_right, eq-eqb, ne_eqb}
use Rattle.std.proofs.lemmas.List.Elements.{All-nil, All-cons, All-head, All-tail, All-weaker}
use Rattle.std.proofs.lemmas.Option.{same_Some}
use Rattle.std.proofs.lemmas.Grind.{common_steps}
use Rattle.hc_records.specs.declared.keys.Key.{Key}
use Rattle.hc_records.specs.declared.keys.TheConstants.Key.{START, END}
use Rattle.hc_records.specs.Keys.{is_before, is_within}
use Rattle.hc_records.specs.TaskList.{Keyed}
use Rattle.hc_records.specs.Packing.{Front, Placed, empty_front, fits, placed_at, front_with, packed}
use Rattle.hc_records.specs.Image.{inside}
use Rattle.hc_records.specs.Boundaries.{Interval, boundaries, spans}
use Rattle.hc_records.specs.Laws.{cuts_from}
use Rattle.hc_records.specs.SpanLaws.{IsTaskList, lies_in}
use Rattle.hc_records.proofs.lemmas.Cuts.{later_keys-cuts}
use Rattle.hc_records.proofs.lemmas.KeyOrder.{before-apart, within-apart, within-from_before, within-refl}
use Rattle.hc_records.proofs.lemmas.Packed.{place}
use Rattle.hc_records.proofs.lemmas.SpanCuts.{task-list-from}
use Rattle.hc_records.proofs.lemmas.Spans.{IsListFrom, drops-after_it, filter-drops, key_lies_in, list-after_it, list-tail, place-key}
use Rattle.hc_records.proofs.Touched.{spans_from}

-- the keys where spans begin and end

cut-keys : (P : Key → Type 0) (front : Front) (list : List Keyed) → All (λ area. P area.0) list → All P (cuts_from front list)
cut-keys P front [] all = All-nil P
cut-keys P front (area ∷ areas) all =
    let front' = front_with (placed_at front area) in
    let rest = cut-keys P front' areas (All-tail (λ a. P a.0) area areas all) in
    one (fits front area) (cuts_from front' areas) rest (All-head (λ a. P a.0) area areas all)
  where
    one : (fitting : Bool) (cuts : List Key) → All P cuts → P area.0 → All P (if fitting then cuts else area.0 ∷ cuts)
    one true cuts rest here = rest
    one false cuts rest here = All-cons P area.0 cuts here rest

-- the span with a number
abbrev IsNumbered : Key → List Key → ℕ → Interval → Type 0
IsNumbered begun cuts number span = slice_get (spans_from begun cuts) number ≡ Some span

ends-all : (P : Key → Type 0) (begun : Key) (cuts : List Key) (number : ℕ) (span : Interval) → All P cuts → P END → IsNumbered begun cuts number span → P span.1
ends-all P begun [] zero span all end is = subst (λ (s : Interval). P s.1) (same_Some (begun, END) span is) end
ends-all P begun [] (suc number) span all end is = cc
ends-all P begun (cut ∷ cuts) zero span all end is = subst (λ (s : Interval). P s.1) (same_Some (begun, cut) span is) (All-head P cut cuts all)
ends-all P begun (cut ∷ cuts) (suc number) span all end is = ends-all P cut cuts number span (All-tail P cut cuts all) end is

begins-first : (begun : Key) (cuts : List Key) (span : Interval) → IsNumbered begun cuts zero span → begun ≡ span.0
begins-first begun [] span is = ap (λ (s : Interval). s.0) (same_Some (begun, END) span is)
begins-first begun (cut ∷ cuts) span is = ap (λ (s : Interval). s.0) (same_Some (begun, cut) span is)

begins-later : (P : Key → Type 0) (begun : Key) (cuts : List Key) (number : ℕ) (span : Interval) → All P cuts → IsNumbered begun cuts (suc number) span → P span.0
begins-later P begun [] number span all is = cc
begins-later P begun (cut ∷ cuts) zero span all is = subst P (begins-first cut cuts span is) (All-head P cut cuts all)
begins-later P begun (cut ∷ cuts) (suc number) span all is = begins-later P cut cuts number span (All-tail P cut cuts all) is

-- two filters that agree on the first element and on the rest
both-cons : {X : Type 0} (a b : Bool) (x : X) (xs ys : List X) → a ≡ b → xs ≡ ys → cond a (x ∷ xs) xs ≡ cond b (x ∷ ys) ys
both-cons a b x xs ys same rest = grind (arith, common_steps)

-- an area is in the datagram being filled exactly where it lies in the span that is begun
first-lies : (number datagram : ℕ) (placed : Placed) (first : Key) (span : Interval) → placed.datagram ≡ datagram → placed.key ≡ first →
    (number ≡ 0 → is_within span.0 first ≡ true) → is_before first span.1 ≡ true → (0 < number → is_within span.0 first ≡ false) →
    (placed.datagram == datagram + number) ≡ lies_in span placed
first-lies zero datagram placed first span at key low high later =
    eq-eqb placed.datagram (datagram + 0) (omega arith)
    ∙ sym (ap (key_lies_in span) key ∙ and_from (is_within span.0 first) (is_before first span.1) (low refl) high)
first-lies (suc number) datagram placed first span at key low high later =
    ne_eqb placed.datagram (datagram + suc number) (λ same. omega arith)
    ∙ sym (ap (key_lies_in span) key ∙ and_left (is_within span.0 first) (is_before first span.1) (later (omega arith)))

-- so do the areas up to the next cut, where the rest does
abbrev IsSame : ℕ → Interval → List Placed → Type 0
IsSame number span areas = inside number areas ≡ filter (lies_in span) areas

with-first : (number datagram : ℕ) (placed : Placed) (first begun : Key) (cuts : List Key) (rest : List Placed) (span : Interval) → placed.datagram ≡ datagram → placed.key ≡ first →
    is_within begun first ≡ true → All (λ key. is_before first key ≡ true) cuts → is_before first END ≡ true → IsNumbered begun cuts number span →
    IsSame (datagram + number) span rest → IsSame (datagram + number) span (placed ∷ rest)
with-first number datagram placed first begun cuts rest span at key low higher end is same =
    both-cons (placed.datagram == datagram + number) (lies_in span placed) placed (inside (datagram + number) rest) (filter (lies_in span) rest)
    (first-lies number datagram placed first span at key
    (λ zero'. subst (λ (k : Key). is_within k first ≡ true) (begins-first begun cuts span (subst (λ (n : ℕ). IsNumbered begun cuts n span) zero' is)) low)
    (ends-all (λ other. is_before first other ≡ true) begun cuts number span higher end is)
    (λ some. after_it-it number is some))
    same
  where
    after_it-it : (n : ℕ) → IsNumbered begun cuts n span → 0 < n → is_within span.0 first ≡ false
    after_it-it zero is' some = absurd (omega arith)
    after_it-it (suc n) is' some = before-apart first span.0 (begins-later (λ other. is_before first other ≡ true) begun cuts n span higher is')

-- no area is in a datagram before the one being filled
place-up : (fitting : Bool) (front : Front) (area : Keyed) → front.datagram ≤ (place fitting front area).datagram
place-up true front area = omega arith
place-up false front area = omega arith

packed-up : (front : Front) (list : List Keyed) → All (λ placed. front.datagram ≤ placed.datagram) (packed front list)
packed-up front [] = All-nil (λ placed. front.datagram ≤ placed.datagram)
packed-up front (area ∷ areas) =
    let first = placed_at front area in
    let up : front.datagram ≤ first.datagram = place-up (fits front area) front area in
    All-cons (λ placed. front.datagram ≤ placed.datagram) first (packed (front_with first) areas) up
    (All-weaker (λ placed. first.datagram ≤ placed.datagram) (λ placed. front.datagram ≤ placed.datagram) (λ placed more. omega arith) (packed (front_with first) areas) (packed-up (front_with first) areas))

place-datagrams : (fitting : Bool) (front : Front) (area : Keyed) → (place fitting front area).datagram ≡ (if fitting then front.datagram else front.datagram + 1)
place-datagrams true front area = refl
place-datagrams false front area = refl

-- the areas after the first, from its key on
list-next : (begun : Key) (area : Keyed) (areas : List Keyed) → IsListFrom begun (area ∷ areas) → IsListFrom area.0 areas
list-next begun area areas is =
    let tail = list-tail begun area areas is in record {
      packable = tail.packable;
      ascends = tail.ascends;
      from = All-weaker (λ a. is_before area.0 a.0 ≡ true) (λ a. is_within area.0 a.0 ≡ true) (λ a before. within-from_before area.0 a.0 before) areas (list-after_it begun area areas is);
      below = tail.below;
    }

-- the span that ends at the first area holds none
none-before : (front : Front) (area : Keyed) (areas : List Keyed) (begun : Key) (span : Interval) → (placed_at front area).datagram ≡ front.datagram + 1 → IsListFrom begun (area ∷ areas) →
    area.0 ≡ span.1 → IsSame (front.datagram + 0) span (packed front (area ∷ areas))
none-before front area areas begun span at is end =
    let first = placed_at front area in
    filter-drops (λ placed. placed.datagram == front.datagram + 0) (packed front (area ∷ areas))
    (All-weaker (λ placed. first.datagram ≤ placed.datagram) (λ placed. (placed.datagram == front.datagram + 0) ≡ false)
    (λ placed up. ne_eqb placed.datagram (front.datagram + 0) (λ same. omega arith)) (packed front (area ∷ areas))
    (All-cons (λ placed. first.datagram ≤ placed.datagram) first (packed (front_with first) areas) (omega arith) (packed-up (front_with first) areas)))
    ∙ sym (drops-after_it span front (area ∷ areas)
    (All-weaker (λ a. is_within area.0 a.0 ≡ true) (λ a. key_lies_in span a.0 ≡ false)
    (λ a from. and_right (is_within span.0 a.0) (is_before a.0 span.1) (within-apart span.1 a.0 (subst (λ (k : Key). is_within k a.0 ≡ true) end from))) (area ∷ areas)
    (All-cons (λ a. is_within area.0 a.0 ≡ true) area areas (within-refl area.0) (list-next begun area areas is).from)))

numbered-by : (fitting : Bool) (front : Front) (area : Keyed) (areas : List Keyed) (begun : Key) (number : ℕ) (span : Interval) → (placed_at front area).datagram ≡ (if fitting then front.datagram else front.datagram + 1) →
    IsListFrom begun (area ∷ areas) → IsNumbered begun (if fitting then cuts_from (front_with (placed_at front area)) areas else area.0 ∷ cuts_from (front_with (placed_at front area)) areas) number span →
    ((from : Key) (n : ℕ) → IsListFrom from areas → IsNumbered from (cuts_from (front_with (placed_at front area)) areas) n span → IsSame ((placed_at front area).datagram + n) span (packed (front_with (placed_at front area)) areas)) →
    IsSame (front.datagram + number) span (packed front (area ∷ areas))
numbered-by true front area areas begun number span at is numbered later =
    let front' = front_with (placed_at front area) in
    let higher = list-after_it begun area areas is in
    with-first number front.datagram (placed_at front area) area.0 begun (cuts_from front' areas) (packed front' areas) span at (place-key (fits front area) front area)
    (All-head (λ a. is_within begun a.0 ≡ true) area areas is.from) (cut-keys (λ key. is_before area.0 key ≡ true) front' areas higher) (All-head (λ a. is_before a.0 END ≡ true) area areas is.below) numbered
    (subst (λ (d : ℕ). IsSame (d + number) span (packed front' areas)) at (later begun number (list-tail begun area areas is) numbered))
numbered-by false front area areas begun zero span at is numbered later =
    none-before front area areas begun span at is (ap (λ (s : Interval). s.1) (same_Some (begun, area.0) span numbered))
numbered-by false front area areas begun (suc number) span at is numbered later =
    let front' = front_with (placed_at front area) in
    let next : front.datagram + 1 + number ≡ front.datagram + suc number = omega arith in
    subst (λ (d : ℕ). IsSame d span (packed front (area ∷ areas))) next
    (with-first number (front.datagram + 1) (placed_at front area) area.0 area.0 (cuts_from front' areas) (packed front' areas) span at (place-key (fits front area) front area)
    (within-refl area.0) (cut-keys (λ key. is_before area.0 key ≡ true) front' areas (list-after_it begun area areas is)) (All-head (λ a. is_before a.0 END ≡ true) area areas is.below) numbered
    (subst (λ (d : ℕ). IsSame (d + number) span (packed front' areas)) at (later area.0 number (list-next begun area areas is) numbered)))

numbered-areas : (front : Front) (list : List Keyed) (begun : Key) (number : ℕ) (span : Interval) → IsListFrom begun list → IsNumbered begun (cuts_from front list) number span →
    IsSame (front.datagram + number) span (packed front list)
numbered-areas front [] begun number span is numbered = refl
numbered-areas front (area ∷ areas) begun number span is numbered =
    numbered-by (fits front area) front area areas begun number span (place-datagrams (fits front area) front area) is numbered
    (λ from n is' numbered'. numbered-areas (front_with (placed_at front area)) areas from n span is' numbered')

pub span-datagram : (list : List Keyed) (datagram : ℕ) (span : Interval) → IsTaskList list → slice_get (spans (boundaries list)) datagram ≡ Some span →
    inside datagram (packed empty_front list) ≡ filter (lies_in span) (packed empty_front list)
span-datagram list datagram span is numbered =
    let sum : 0 + datagram ≡ datagram = omega arith in
    subst (λ (n : ℕ). IsSame n span (packed empty_front list)) sum
    (numbered-areas empty_front list START datagram span (task-list-from list is)
    (subst (λ (keys : List Key). IsNumbered START keys datagram span) (later_keys-cuts list is.packable) numbered))
