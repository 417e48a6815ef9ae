-- The variables of a task, if its areas are found under their keys.
use Rattle.std.proofs.Common.{◌≡◌, ℕ, ◌+◌, ◌<◌, ◌≤◌, List, [], ◌∷◌, ◌++◌, length, get_or, refl, sym, ap, ◌∙◌, arith}
use Rattle.std.specs.Prelude.{All, Option, Some, None, map}
use Rattle.std.specs.Option.{option_map_or}
use Rattle.std.specs.List.{flat_map, zip}
use Rattle.std.proofs.lemmas.List.Elements.{All-cons, All-head, All-nil, All-tail}
use Rattle.hc_records.specs.declared.records.Area.{Area}
use Rattle.hc_records.specs.declared.records.Declared.{Declared}
use Rattle.hc_records.specs.Area.{width}
use Rattle.hc_records.specs.declared.limits.TheConstants.{MOST_AREA_BITS, MOST_DATAGRAMS}
use Rattle.hc_records.specs.Edits.{over_limit_task}
use Rattle.hc_records.specs.Line.{groups_of, line_from}
use Rattle.hc_records.specs.Project.{lowest_fault}
use Rattle.hc_records.specs.TaskList.{Keyed, Listed, keyed, task_areas, task_list}
use Rattle.hc_records.specs.Packing.{Placed, empty_front, packed}
use Rattle.hc_records.specs.Image.{area_variables, datagram_count, task_places, task_variables}
use Rattle.hc_records.proofs.lemmas.Greatest.{greatest-all}
use Rattle.hc_records.proofs.lemmas.Addresses.{uncrowded-few}
use Rattle.hc_records.proofs.lemmas.Packed.{area_of, packed-areas}
use Rattle.hc_places.specs.Found.{IsFoundSuiting, found_variables}
use Rattle.hc_places.specs.DatagramUses.{table_at}
use Rattle.hc_places.specs.inner.Parts.{AreSendable}
use Rattle.hc_places.specs.Ranges.{OffersBits}
use Rattle.hc_places.specs.Table.{VariableRow, task_table}
use Rattle.hc_places.proofs.Configurable.{project-configurable}
use Rattle.hc_places.proofs.Tables.{places-sendable, table-same}
use Rattle.hc_places.proofs.Widths.{areas-offer}
use Rattle.hc_cuts.specs.Areas.{area_in, areas_by_rank, list_by}
use Rattle.hc_cuts.proofs.lemmas.Named.{keys-name, NamesIn}
use Rattle.hc_cuts.proofs.lemmas.AnswerGiven.{task-listed}

head-same : {X : Type 0} (x y : X) (xs ys : List X) → x ∷ xs ≡ y ∷ ys → x ≡ y
head-same x y xs ys same = cc

tail-same : {X : Type 0} (x y : X) (xs ys : List X) → x ∷ xs ≡ y ∷ ys → xs ≡ ys
tail-same x y xs ys same = cc

-- a place of an area whose key names it
own-found : (slaves : List (List Area)) (listed : Listed) (placed : Placed) → area_of placed ≡ keyed listed → NamesIn slaves listed → area_in slaves placed.key ≡ Some listed.area
own-found slaves listed placed same names = ap (λ (k : Keyed). area_in slaves k.0) same ∙ names

own-variables : (task : ℕ) (slaves : List (List Area)) (listed : Listed) (placed : Placed) → area_of placed ≡ keyed listed → NamesIn slaves listed
    → found_variables task slaves placed ≡ area_variables task (listed, placed)
own-variables task slaves listed placed same names =
    ap (λ (found : Option Area). option_map_or (λ area. area_variables task (record { key = placed.key; area = area }, placed)) found []) (own-found slaves listed placed same names)

-- the variables that are found are the areas'
pub found-all : (task : ℕ) (slaves : List (List Area)) (areas : List Listed) (places : List Placed) → map area_of places ≡ map keyed areas → All (NamesIn slaves) areas
    → flat_map (found_variables task slaves) places ≡ flat_map (area_variables task) (zip areas places)
found-all task slaves [] [] same names = refl
found-all task slaves [] (placed ∷ places) same names = cc
found-all task slaves (listed ∷ areas) [] same names = cc
found-all task slaves (listed ∷ areas) (placed ∷ places) same names =
    let first = head-same (area_of placed) (keyed listed) (map area_of places) (map keyed areas) same in
    let rest = tail-same (area_of placed) (keyed listed) (map area_of places) (map keyed areas) same in
    ap (λ (rows : List VariableRow). rows ++ flat_map (found_variables task slaves) places) (own-variables task slaves listed placed first (All-head (NamesIn slaves) listed areas names))
    ∙ ap (λ (rows : List VariableRow). area_variables task (listed, placed) ++ rows) (found-all task slaves areas places rest (All-tail (NamesIn slaves) listed areas names))

-- and they suit their places

own-suits : (slaves : List (List Area)) (listed : Listed) (placed : Placed) → area_of placed ≡ keyed listed → NamesIn slaves listed → OffersBits listed.area → IsFoundSuiting slaves placed
own-suits slaves listed placed same names offers area found = grind arith

pub suit-all : (slaves : List (List Area)) (areas : List Listed) (places : List Placed) → map area_of places ≡ map keyed areas → All (NamesIn slaves) areas
    → All (λ (l : Listed). OffersBits l.area) areas → All (IsFoundSuiting slaves) places
suit-all slaves [] [] same names offers = All-nil (IsFoundSuiting slaves)
suit-all slaves [] (placed ∷ places) same names offers = cc
suit-all slaves (listed ∷ areas) [] same names offers = cc
suit-all slaves (listed ∷ areas) (placed ∷ places) same names offers =
    let first = head-same (area_of placed) (keyed listed) (map area_of places) (map keyed areas) same in
    let rest = tail-same (area_of placed) (keyed listed) (map area_of places) (map keyed areas) same in
    All-cons (IsFoundSuiting slaves) placed places
    (own-suits slaves listed placed first (All-head (NamesIn slaves) listed areas names) (All-head (λ (l : Listed). OffersBits l.area) listed areas offers))
    (suit-all slaves areas places rest (All-tail (NamesIn slaves) listed areas names) (All-tail (λ (l : Listed). OffersBits l.area) listed areas offers))

-- an area lies in one of the datagrams, at its place
pub record MeetsPlace (listed : Listed) (placed : Placed) : Type 0 where
  pub few : placed.datagram < MOST_DATAGRAMS
  pub inside : placed.bit + width listed.area ≤ MOST_AREA_BITS
  pub offers : OffersBits listed.area

-- an area that is found under the key of a place lies in one of the datagrams
pub found-meets : (slaves : List (List Area)) (places : List Placed) (i : ℕ) (placed : Placed) (area : Area) → AreSendable places → All (IsFoundSuiting slaves) places
    → i < length places → placed ≡ get_or places i placed → area_in slaves placed.key ≡ Some area → MeetsPlace (record { key = placed.key; area = area }) placed
found-meets slaves places i placed area sendable suit within is_placed found =
    let number : (get_or places i placed).datagram + 1 ≤ datagram_count places = greatest-all (λ p. p.datagram + 1) 0 places i placed within in
    let lies = sendable.inside i placed within in
    let few = sendable.few in
    let suits = suit i placed within area (ap (λ (p : Placed). area_in slaves p.key) (sym is_placed) ∙ found) in
    let wide = suits.bits in
    let number' : placed.datagram ≡ (get_or places i placed).datagram = ap (λ (p : Placed). p.datagram) is_placed in
    let bit' : placed.bit ≡ (get_or places i placed).bit = ap (λ (p : Placed). p.bit) is_placed in
    record { few = omega arith; inside = omega (arith, lies, wide); offers = suits.offers }

-- what is known of a task that is placed from its tree
pub record IsTask (groups : List Declared) (task : ℕ) (places : List Placed) : Type 0 where
  pub is_placed : places ≡ task_places task (line_from 1 groups)
  pub sendable : AreSendable places
  pub suit : All (IsFoundSuiting (areas_by_rank groups)) places
  pub rows : flat_map (found_variables task (areas_by_rank groups)) places ≡ task_variables (line_from 1 groups) task
  pub table : table_at task places ≡ task_table (line_from 1 groups) task

pub unchanged-task : (groups : List Declared) (task : ℕ) (places : List Placed) → task < 8 → lowest_fault (groups_of groups) ≡ None → over_limit_task (line_from 1 groups) ≡ None
    → places ≡ packed empty_front (list_by task (areas_by_rank groups)) → IsTask groups task places
unchanged-task groups task places low none fits is =
    let line = line_from 1 groups in
    let slaves = areas_by_rank groups in
    let configurable = project-configurable groups none in
    let is_placed : places ≡ task_places task line = is ∙ ap (packed empty_front) (sym (task-listed task groups)) in
    let few = uncrowded-few line task fits low in
    let keys = packed-areas empty_front (task_list task line) in
    let names = keys-name groups task in
    record {
      is_placed = is_placed;
      sendable = rw is_placed (places-sendable task line configurable few);
      suit = rw is_placed (suit-all slaves (task_areas task line) (task_places task line) keys names (areas-offer task line configurable.offers));
      rows = rw is_placed (found-all task slaves (task_areas task line) (task_places task line) keys names);
      table = rw is_placed (table-same task line configurable);
    }
