-- The areas of a span, one after another in its datagram.
use Rattle.std.specs.Prelude.{All, filter}
use Rattle.std.proofs.Common.{◌≡◌, ℕ, Bool, true, false, List, [], ◌∷◌, ◌++◌, refl, sym, ap, subst, ◌∙◌, arith, if◌then◌else◌}
use Rattle.std.proofs.lemmas.Bool.{cond-false, cond-true}
use Rattle.std.proofs.lemmas.List.Elements.{All-cons, All-filter, All-head, All-weaker}
use Rattle.hc_records.specs.declared.records.Dir.{Dir}
use Rattle.hc_records.specs.declared.records.Dir.TheVariants.{Out}
use Rattle.hc_records.specs.declared.keys.Key.{Key}
use Rattle.hc_records.specs.declared.keys.TheConstants.Key.{END}
use Rattle.hc_records.specs.Keys.{is_before, is_within}
use Rattle.hc_records.specs.TaskList.{Keyed}
use Rattle.hc_records.specs.Packing.{Front, Placed, fits, placed_at, front_with}
use Rattle.hc_records.specs.Laws.{IsPackable}
use Rattle.hc_records.specs.SpanLaws.{IsTaskList, areas_from, places_in_span, next_cut}
use Rattle.hc_records.proofs.lemmas.KeyOrder.{before-apart, within-apart, within-from_before, within-refl}
use Rattle.hc_records.proofs.lemmas.Packed.{place}
use Rattle.hc_records.proofs.lemmas.SpanCuts.{areas-from}
use Rattle.hc_records.proofs.lemmas.Spans.{IsListFrom, cut-all, filter-drops, filter-stays, list-after_it, list-tail}
use Rattle.hc_bitsum.specs.Filling.{areas_between}
use Rattle.hc_cuts.specs.Starts.{next_boundary}
use Rattle.hc_cuts.specs.Walk.{blank_datagram, span_places}
use Rattle.hc_cuts.proofs.Searched.{boundary-cut}
use Rattle.hc_cuts.proofs.lemmas.Datagrams.{front_of}

-- the key of the first area of a list, or END
abbrev pub head_key : List Keyed → Key
head_key [] = END
head_key (area ∷ areas) = area.0

-- an area begins where the ones before it end, or after that

-- the areas from the key of the first one on are all

pub own-areas : (first : Key) (list : List Keyed) → IsListFrom first list → areas_from (head_key list) list ≡ list
own-areas first [] is = refl
own-areas first (area ∷ areas) is =
    filter-stays (λ a. is_within area.0 a.0) (area ∷ areas)
    (All-cons (λ a. is_within area.0 a.0 ≡ true) area areas (within-refl area.0)
    (All-weaker (λ a. is_before area.0 a.0 ≡ true) (λ a. is_within area.0 a.0 ≡ true) (λ a high. within-from_before area.0 a.0 high) areas (list-after_it first area areas is)))

pub none-from_end : (list : List Keyed) → All (λ area. is_before area.0 END ≡ true) list → areas_from END list ≡ []
none-from_end list below =
    filter-drops (λ area. is_within END area.0) list
    (All-weaker (λ area. is_before area.0 END ≡ true) (λ area. is_within END area.0 ≡ false) (λ area before. before-apart area.0 END before) list below)

-- the next cut doesn't depend on the number of the datagram

number-by : (fitting : Bool) (n m bit : ℕ) (last : Dir) (area : Keyed) (areas : List Keyed)
    → ((k l to : ℕ) (dir : Dir) → next_cut (front_of k to dir) areas ≡ next_cut (front_of l to dir) areas)
    → (if fitting then next_cut (front_with (place fitting (front_of n bit last) area)) areas else area.0)
    ≡ (if fitting then next_cut (front_with (place fitting (front_of m bit last) area)) areas else area.0)
number-by fitting n m bit last area areas same = grind arith

pub cut-number : (n m bit : ℕ) (last : Dir) (list : List Keyed) → next_cut (front_of n bit last) list ≡ next_cut (front_of m bit last) list
cut-number n m bit last [] = refl
cut-number n m bit last (area ∷ areas) =
    number-by (fits (front_of n bit last) area) n m bit last area areas (λ k l to dir. cut-number k l to dir areas)

-- the areas up to the next cut have room together, and are what is carried up to it

abbrev pub before_cut : Key → List Keyed → List Keyed
before_cut cut list = filter (λ area. is_before area.0 cut) list

record IsCarried (front : Front) (cut : Key) (list : List Keyed) : Type 0 where
  pub room : next_cut front (before_cut cut list) ≡ END
  pub carry : places_in_span front (before_cut cut list) ≡ places_in_span front list

both-by : (fitting : Bool) (next own : Key) (placed : Placed) (xs ys : List Placed) → fitting ≡ true → next ≡ END → xs ≡ ys
    → ((if fitting then next else own) ≡ END) × ((if fitting then placed ∷ xs else []) ≡ (if fitting then placed ∷ ys else []))
both-by fitting next own placed xs ys test room carry = grind arith

carried-by : (fitting : Bool) (first cut : Key) (front : Front) (area : Keyed) (areas : List Keyed) → fits front area ≡ fitting → IsListFrom first (area ∷ areas)
    → (if fitting then next_cut (front_with (placed_at front area)) areas else area.0) ≡ cut
    → (next_cut (front_with (placed_at front area)) areas ≡ cut → IsCarried (front_with (placed_at front area)) cut areas) → IsCarried front cut (area ∷ areas)
carried-by true first cut front area areas test is next rest =
    let front' = front_with (placed_at front area) in
    let low : is_before area.0 cut ≡ true =
    subst (λ (key : Key). is_before area.0 key ≡ true) next
    (cut-all (λ key. is_before area.0 key ≡ true) front' areas (list-after_it first area areas is) (All-head (λ a. is_before a.0 END ≡ true) area areas is.below)) in
    let unchanged : before_cut cut (area ∷ areas) ≡ area ∷ before_cut cut areas = cond-true (is_before area.0 cut) (area ∷ before_cut cut areas) (before_cut cut areas) low in
    let front_with' = rest next in
    let own = both-by (fits front area) (next_cut front' (before_cut cut areas)) area.0 (placed_at front area) (places_in_span front' (before_cut cut areas)) (places_in_span front' areas) test
    front_with'.room front_with'.carry in
    record { room = ap (next_cut front) unchanged ∙ own.0; carry = ap (places_in_span front) unchanged ∙ own.1 }
carried-by false first cut front area areas test is next rest =
    let none : before_cut cut (area ∷ areas) ≡ [] =
    filter-drops (λ a. is_before a.0 cut) (area ∷ areas)
    (subst (λ (key : Key). All (λ a. is_before a.0 key ≡ false) (area ∷ areas)) next
    (All-cons (λ a. is_before a.0 area.0 ≡ false) area areas (within-apart area.0 area.0 (within-refl area.0))
    (All-weaker (λ a. is_before area.0 a.0 ≡ true) (λ a. is_before a.0 area.0 ≡ false) (λ a later. within-apart area.0 a.0 (within-from_before area.0 a.0 later)) areas
    (list-after_it first area areas is)))) in
    record {
      room = ap (next_cut front) none;
      carry = ap (places_in_span front) none ∙ sym (cond-false (fits front area) (placed_at front area ∷ places_in_span (front_with (placed_at front area)) areas) [] test);
    }

carried-cut : (first cut : Key) (front : Front) (list : List Keyed) → IsListFrom first list → next_cut front list ≡ cut → IsCarried front cut list
carried-cut first cut front [] is next = record { room = refl; carry = refl }
carried-cut first cut front (area ∷ areas) is next =
    carried-by (fits front area) first cut front area areas refl is next
    (λ later. carried-cut first cut (front_with (placed_at front area)) areas (list-tail first area areas is) later)

-- so of the areas of a span
pub record IsSpan (datagram : ℕ) (from : Key) (list areas : List Keyed) : Type 0 where
  pub packable : All IsPackable areas
  pub below : All (λ area. is_before area.0 END ≡ true) areas
  pub room : next_cut (blank_datagram datagram) areas ≡ END
  pub carry : places_in_span (blank_datagram datagram) areas ≡ span_places datagram from list

pub span-carried : (datagram : ℕ) (from until : Key) (list areas : List Keyed) → IsTaskList list → until ≡ next_boundary from list → areas ≡ areas_between from until list
    → IsSpan datagram from list areas
span-carried datagram from until list areas is ends are =
    let left = areas_from from list in
    let own = areas-from from list is in
    let cut : next_cut (blank_datagram datagram) left ≡ until = cut-number datagram 0 0 Out left ∙ sym (boundary-cut from list is) ∙ sym ends in
    let carry = carried-cut from until (blank_datagram datagram) left own cut in
    record {
      packable = subst (λ (l : List Keyed). All IsPackable l) (sym are) (All-filter (λ area. is_before area.0 until) IsPackable left own.packable);
      below = subst (λ (l : List Keyed). All (λ area. is_before area.0 END ≡ true) l) (sym are) (All-filter (λ area. is_before area.0 until) (λ area. is_before area.0 END ≡ true) left own.below);
      room = ap (next_cut (blank_datagram datagram)) are ∙ carry.room;
      carry = ap (places_in_span (blank_datagram datagram)) are ∙ carry.carry;
    }

-- where all areas have room, the first of them fits, and the others have room after it

pub cuts-on : (fitting : Bool) (next own : Key) → fitting ≡ true → (if fitting then next else own) ≡ next
cuts-on fitting next own test = grind arith

pub append-none : {X : Type 0} (xs : List X) → xs ++ [] ≡ xs
append-none [] = refl
append-none (x ∷ xs) = ap (λ (rest : List _). x ∷ rest) (append-none xs)

-- an area is its key and its width
pub keyed-is : (area : Keyed) (key : Key) (bits : ℕ) → area.0 ≡ key → bits ≡ area.1 → (key, bits) ≡ area
keyed-is (own, width) key bits here same = cc
