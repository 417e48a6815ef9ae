-- The areas of slaves that leave and of moved blocks are counted one after another.
use Rattle.std.proofs.Common.{◌≡◌, ℕ, suc, zero, ◌+◌, ◌-◌, ◌/◌, ◌<◌, ◌≤◌, ◌==◌, Bool, true, false, List, [], ◌∷◌, length, drop, refl, sym, ap, subst, ◌∙◌, arith}
use Rattle.std.specs.Prelude.{◌≢◌, All, AllPairs, Some, slice_get}
use Rattle.std.proofs.lemmas.Bool.{eqb-false, eqb-true}
use Rattle.std.proofs.lemmas.List.Elements.{All-head, All-weaker}
use Rattle.std.proofs.lemmas.Option.{slice_get_within}
use Rattle.hc_records.specs.Lists.{changed_at}
use Rattle.hc_records.proofs.lemmas.Lists.{AllPairs-tail}
use Rattle.hc_registers.specs.Ranked.{RankedBlock}
use Rattle.hc_registers.specs.RankDifferences.{block_place}
use Rattle.hc_owed.specs.declared.area.JudgedArea.{JudgedArea}
use Rattle.hc_owed.specs.declared.area.Turn.TheVariants.{Left}
use Rattle.hc_owed.specs.declared.tally.Tally.{Tally}
use Rattle.hc_owed.specs.Areas.{area_after}
use Rattle.hc_owed.specs.EditWaits.{area_coming, areas_coming}
use Rattle.hc_owed.specs.ReadinessSteps.{changed_from}
use Rattle.hc_owed.specs.RegisterState.{RegisterState}
use Rattle.hc_owed.specs.Tally.{CanPut, Puts, Tallies}
use Rattle.hc_owed.proofs.AreaChanges.{get-outside}
use Rattle.hc_owed.proofs.AreaPlaces.{changed-by}
use Rattle.hc_owed.proofs.Counting.{area-put, can-put}
use Rattle.hc_plan.proofs.lemmas.Replaced.{get-changed, get-other, length-changed}

-- an area that did not leave yet
pub left-at : (areas : List JudgedArea) (from n : ℕ) (area : JudgedArea) → from ≤ n → slice_get areas n ≡ Some area → slice_get (changed_from (area_after Left) from (n - from) areas) n ≡ Some area
left-at areas from n area low at = get-outside (area_after Left) from (n - from) areas n (λ inside. let high = inside.1 in omega (arith, high, low)) ∙ at

-- moved blocks, in the order of their places
pub ascends : (moved : List RankedBlock) (i : ℕ) → AllPairs (λ a b. block_place a < block_place b) moved → AllPairs (λ a b. block_place a < block_place b) (drop i moved)
ascends moved zero pairs = pairs
ascends [] (suc i) pairs = pairs
ascends (m ∷ moved) (suc i) pairs = ascends moved i (AllPairs-tail (λ a b. block_place a < block_place b) m moved pairs)

-- the counts are those of the areas whose blocks moved so far: `last` is the one before `done`, and from there on no block moved
pub record AreTallied (counted : List JudgedArea) (owed : RegisterState) (moved rest : List RankedBlock) (done : ℕ) (last : JudgedArea) (tally : Tally) : Type 0 where
  pub present : List JudgedArea
  pub tallied : Tallies present tally
  pub size : length present ≡ length counted
  pub leads : areas_coming owed rest present ≡ areas_coming owed moved counted
  pub here : (n : ℕ) → n + 1 ≡ done → slice_get present n ≡ Some last
  pub later : (n : ℕ) → done ≤ n → slice_get present n ≡ slice_get counted n
  pub next : All (λ m. done ≤ block_place m / 2 + 1) rest

pub none-tallied : (counted : List JudgedArea) (owed : RegisterState) (moved : List RankedBlock) (last : JudgedArea) (tally : Tally) → Tallies counted tally → AreTallied counted owed moved moved 0 last tally
none-tallied counted owed moved last tally counts = record {
  present = counted;
  tallied = counts;
  size = refl;
  leads = refl;
  here = λ n is. absurd (omega (arith, is));
  later = λ n low. refl;
  next = λ k d within. omega arith;
}

module _ (areas counted : List JudgedArea) (owed : RegisterState) (moved rest : List RankedBlock) (m : RankedBlock) (done : ℕ) (last was : JudgedArea) (tally : Tally) (is : AreTallied counted owed moved (m ∷ rest) done last tally)
    (same : slice_get counted (block_place m / 2) ≡ slice_get areas (block_place m / 2)) (one : block_place m / 2 + 1 ≡ done → was ≡ last) (other : block_place m / 2 + 1 ≢ done → slice_get areas (block_place m / 2) ≡ Some was) where
  pub was-at : slice_get is.present (block_place m / 2) ≡ Some was
  was-at = by (block_place m / 2 + 1 == done) refl
    where
      from : done ≤ block_place m / 2 + 1
      from = All-head (λ o. done ≤ block_place o / 2 + 1) m rest is.next

      by : (t : Bool) → (block_place m / 2 + 1 == done) ≡ t → slice_get is.present (block_place m / 2) ≡ Some was
      by true t = let e = eqb-true (block_place m / 2 + 1) done t in is.here (block_place m / 2) e ∙ ap (λ (a : JudgedArea). Some a) (sym (one e))
      by false t = let apart = eqb-false (block_place m / 2 + 1) done t in let low = from in is.later (block_place m / 2) (omega (arith, low, apart)) ∙ same ∙ other apart

  pub can-put-moved : length counted < 524288 → CanPut tally was
  can-put-moved few = let size = is.size in can-put is.present tally (block_place m / 2) was (omega (arith, few, size)) was-at is.tallied

  pub more-tallied : (now : JudgedArea) (next : Tally) → now ≡ area_coming owed m was → Puts tally next was now → All (λ o. block_place m < block_place o) rest
      → AreTallied counted owed moved rest (block_place m / 2 + 1) now next
  more-tallied now next comes puts below = record {
    present = changed_at (block_place m / 2) (λ _. now) is.present;
    tallied = area-put is.present tally next (block_place m / 2) was now was-at is.tallied puts;
    size = length-changed (block_place m / 2) (λ _. now) is.present ∙ is.size;
    leads = ap (λ (a : JudgedArea). areas_coming owed rest (changed_at (block_place m / 2) (λ _. a) is.present)) comes
        ∙ ap (areas_coming owed rest) (changed-by (area_coming owed m) is.present (block_place m / 2) was was-at) ∙ is.leads;
    here = λ n e.
        let same' : block_place m / 2 ≡ n = omega (arith, e) in
        ap (slice_get (changed_at (block_place m / 2) (λ _. now) is.present)) (sym same') ∙ get-changed (block_place m / 2) now is.present (slice_get_within is.present (block_place m / 2) was was-at);
    later = λ n low.
        let low' = from in
        get-other (block_place m / 2) n now is.present (λ e. omega (arith, e, low)) ∙ is.later n (omega (arith, low, low'));
    next = All-weaker (λ o. block_place m < block_place o) (λ o. block_place m / 2 + 1 ≤ block_place o / 2 + 1) (λ o less. omega (arith, less)) rest below;
  }
    where
      from : done ≤ block_place m / 2 + 1
      from = All-head (λ o. done ≤ block_place o / 2 + 1) m rest is.next

-- once all moved blocks are counted

none-left : {X : Type 0} (xs : List X) (i : ℕ) → length xs ≤ i → drop i xs ≡ []
none-left [] zero low = refl
none-left [] (suc i) low = refl
none-left (x ∷ xs) zero low = absurd (omega (arith, low))
none-left (x ∷ xs) (suc i) low = none-left xs i (omega (arith, low))

pub all-tallied : (counted : List JudgedArea) (owed : RegisterState) (moved : List RankedBlock) (i done : ℕ) (last : JudgedArea) (tally : Tally) → length moved ≤ i → AreTallied counted owed moved (drop i moved) done last tally
    → Tallies (areas_coming owed moved counted) tally
all-tallied counted owed moved i done last tally end is =
    subst (λ (l : List JudgedArea). Tallies l tally) (ap (λ (rest : List RankedBlock). areas_coming owed rest is.present) (sym (none-left moved i end)) ∙ is.leads) is.tallied
