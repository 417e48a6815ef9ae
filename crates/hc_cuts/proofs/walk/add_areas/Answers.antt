use Rattle.std.proofs.Common.{◌≡◌, ℕ, ◌+◌, Bool, true, false, List, [], ◌∷◌, ◌++◌, get_or, drop, refl, sym, ap, subst, ◌∙◌, append-nil, append_assoc, add-one, drop-cons, arith, rules, if◌then◌else◌}
use Rattle.std.proofs.lemmas.Bool.{cond-true}
use Rattle.std.proofs.lemmas.List.{drop_all}
use Rattle.std.proofs.lemmas.List.Elements.{All-get_or}
use Rattle.hc_records.specs.declared.records.Dir.TheVariants.{Out}
use Rattle.hc_records.specs.declared.keys.Key.{Key}
use Rattle.hc_records.specs.declared.keys.TheConstants.Key.{END}
use Rattle.hc_records.specs.Keys.{is_before}
use Rattle.hc_records.specs.Laws.{IsPackable}
use Rattle.hc_records.specs.Packing.{Front, Placed, front_with, fits, placed_at}
use Rattle.hc_records.specs.SpanLaws.{places_in_span, next_cut}
use Rattle.hc_records.specs.TaskList.{Keyed}
use Rattle.hc_records.proofs.lemmas.Packed.{place}
use Rattle.hc_cuts.specs.Walk.{blank_datagram}
use Rattle.hc_cuts.proofs.Walked.{cuts-on}
use Rattle.hc_cuts.proofs.walk.add_areas.Goals as goal

-- what stands for an element of an empty list
abbrev none : Keyed
none = (record { dir = Out; rank = 0; area = 0 }, 0)

-- where all areas have room, the first of them fits
first-fits : (fitting : Bool) (own next : Key) → is_before own END ≡ true → (if fitting then next else own) ≡ END → fitting ≡ true
first-fits true own next low all = refl
first-fits false own next low all = search (rules, subst (λ (key : Key). is_before key END ≡ true) all low)

-- the places so far with the next area's, and the areas after it
record IsFurther (datagram : ℕ) (areas : List Keyed) (placed : Placed) (new all : List Placed) : Type 0 where
  places : new ++ places_in_span (front_with placed) areas ≡ all
  room : next_cut (front_with placed) areas ≡ END
  number : placed.datagram ≡ datagram

further : (front : Front) (area : Keyed) (areas : List Keyed) (done all : List Placed) → is_before area.0 END ≡ true
    → done ++ places_in_span front (area ∷ areas) ≡ all → next_cut front (area ∷ areas) ≡ END
    → IsFurther front.datagram areas (placed_at front area) (done ++ placed_at front area ∷ []) all
further front area areas done all low is room =
    let placed = placed_at front area in
    let fit = first-fits (fits front area) area.0 (next_cut (front_with placed) areas) low room in
    record {
      places = append_assoc done (placed ∷ []) (places_in_span (front_with placed) areas)
          ∙ ap (λ (rest : List Placed). done ++ rest) (sym (cond-true (fits front area) (placed ∷ places_in_span (front_with placed) areas) [] fit))
          ∙ is;
      room = sym (cuts-on (fits front area) (next_cut (front_with placed) areas) area.0 fit) ∙ room;
      number = ap (λ (fitting : Bool). (place fitting front area).datagram) fit;
    }

pub loop-area-preserved : goal.loop-area-preserved
loop-area-preserved c =
    let areas = c.args.areas.now in
    let l = c.loop-area in
    let area = get_or areas l.area-index none in
    let rest : drop l.area-index areas ≡ area ∷ drop (l.area-index + 1) areas = rw add-one (drop-cons areas l.area-index none c.loop-area-test.true) in
    let all = c.args.places.now.items ++ places_in_span (blank_datagram c.args.datagram) areas in
    let left = drop (l.area-index + 1) areas in
    let place = c.place-place.result in
    let next : IsFurther l.front.datagram left place (l.places.items ++ place ∷ []) all =
    subst (λ (p : Placed). IsFurther l.front.datagram left p (l.places.items ++ p ∷ []) all) (sym c.place-place.ensures)
    (further l.front area left l.places.items all
    (All-get_or (λ a. is_before a.0 END ≡ true) areas l.area-index none c.loop-area-test.true c.requires.below)
    (subst (λ (some : List Keyed). l.places.items ++ places_in_span l.front some ≡ all) rest l.invariant.places)
    (subst (λ (some : List Keyed). next_cut l.front some ≡ END) rest l.invariant.room)) in
    record {
      places = ap (λ (f : Front). c.push.new.self.items ++ places_in_span f left) c.after_it-front.ensures
          ∙ ap (λ (new : List Placed). new ++ places_in_span (front_with place) left) c.in_ok-push.ensures.items
          ∙ next.places;
      room = ap (λ (f : Front). next_cut f left) c.after_it-front.ensures ∙ next.room;
      number = ap (λ (f : Front). f.datagram) c.after_it-front.ensures ∙ next.number ∙ l.invariant.number;
    }

pub place-place-requires-clause-narrow : goal.place-place-requires-clause-narrow
place-place-requires-clause-narrow c = (All-get_or IsPackable c.args.areas.now c.loop-area.area-index none c.loop-area-test.true c.requires.packable).narrow

pub place-place-requires-clause-few : goal.place-place-requires-clause-few
place-place-requires-clause-few c = omega (arith, c.loop-area.invariant.number, c.requires.few)

pub returns : goal.returns
returns c =
    let l = c.loop-area in
    sym (append-nil l.places.items)
    ∙ ap (λ (left : List Keyed). l.places.items ++ places_in_span l.front left) (sym (drop_all l.area-index c.args.areas.now c.loop-area-test.false))
    ∙ l.invariant.places
