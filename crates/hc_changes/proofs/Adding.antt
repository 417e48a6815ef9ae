-- The elements that are added while a list is gone along.
use Rattle.std.proofs.Common.{◌≡◌, ℕ, ◌+◌, ◌<◌, ◌≤◌, Bool, cond, List, [], ◌∷◌, ◌++◌, None, append-nil, arith, drop, length, get_or, sym, ap, ◌∙◌, append_assoc, if◌then◌else◌, rules}
use Rattle.std.specs.Prelude.{filter, map}
use Rattle.std.specs.List.{flat_map, zip}
use Rattle.std.proofs.lemmas.List.{drop_all, drop_more, map-append}
use Rattle.std.proofs.lemmas.List.Elements.{filter_map-append}
use Rattle.hc_records.specs.declared.records.Area.{Area}
use Rattle.hc_records.specs.Area.{Entry}
use Rattle.hc_records.specs.Project.{entry_names}
use Rattle.hc_cuts.specs.LineChange.{LineChange}
use Rattle.hc_places.specs.Swap.{ChangedRow}
use Rattle.hc_changes.specs.Rows.{gone_rows, gone_variables}

-- each element that passes a test adds one element

unchanged-first : {X Y : Type 0} (passes : Bool) (make : X → Y) (x : X) (rest : List X) (had has : List Y) → has ≡ had ++ (if passes then make x ∷ [] else [])
    → has ++ map make rest ≡ had ++ map make (cond passes (x ∷ rest) rest)
unchanged-first passes make x rest had has adds = search (rules, append_assoc)

pub unchanged-added : {X Y : Type 0} (make : X → Y) (test : X → Bool) (xs : List X) (i : ℕ) (x : X) (passes : Bool) (had has all : List Y) → i < length xs → x ≡ get_or xs i x
    → test x ≡ passes → has ≡ had ++ (if passes then make x ∷ [] else [])
    → had ++ map make (filter test (drop i xs)) ≡ all → has ++ map make (filter test (drop (i + 1) xs)) ≡ all
unchanged-added make test xs i x passes had has all within is passed adds so_far = search (rules, unchanged-first, drop_more)

-- the variables of an area's PDOs

pub names-added : {X : Type 0} (f : X → List Entry) (xs : List X) (i : ℕ) (d : X) (entries : List Entry) (had has all : List ℕ) → i < length xs → entries ≡ f (get_or xs i d)
    → has ≡ had ++ entry_names entries → had ++ entry_names (flat_map f (drop i xs)) ≡ all → has ++ entry_names (flat_map f (drop (i + 1) xs)) ≡ all
names-added f xs i d entries had has all within own adds so_far = search (rules, append_assoc, filter_map-append, drop_more)

-- where those that go with one slave more are added

abbrev left_rows : LineChange → ℕ → List ChangedRow
left_rows change i = gone_rows (record change { areas_before = drop i change.areas_before; areas_after = drop i change.areas_after })

abbrev slave_rows : LineChange → ℕ → List ChangedRow
slave_rows change i = map (λ variable. (variable, None)) (gone_variables (get_or change.areas_before i [], get_or change.areas_after i []))

left-next : (change : LineChange) (i : ℕ) → i < length change.areas_before → length change.areas_after ≡ length change.areas_before → left_rows change i ≡ slave_rows change i ++ left_rows change (i + 1)
left-next change i within same =
    let after : i < length change.areas_after = omega (arith, within, same) in
    rw (drop_more change.areas_before i [] within, drop_more change.areas_after i [] after)
    (map-append (λ (variable : ℕ). (variable, None)) (gone_variables (get_or change.areas_before i [], get_or change.areas_after i []))
    (flat_map gone_variables (zip (drop (i + 1) change.areas_before) (drop (i + 1) change.areas_after))))

pub gone-added : (change : LineChange) (i : ℕ) (had has all : List ChangedRow) → i < length change.areas_before → length change.areas_after ≡ length change.areas_before
    → has ≡ had ++ slave_rows change i → had ++ left_rows change i ≡ all → has ++ left_rows change (i + 1) ≡ all
gone-added change i had has all within same adds so_far =
    ap (λ (list : List ChangedRow). list ++ left_rows change (i + 1)) adds
    ∙ append_assoc had (slave_rows change i) (left_rows change (i + 1))
    ∙ ap (λ (list : List ChangedRow). had ++ list) (sym (left-next change i within same))
    ∙ so_far

pub gone-end : (change : LineChange) (i : ℕ) (had all : List ChangedRow) → length change.areas_before ≤ i → had ++ left_rows change i ≡ all → had ≡ all
gone-end change i had all history so_far = sym (append-nil had) ∙ ap (λ (before : List (List Area)). had ++ gone_rows (record change { areas_before = before; areas_after = drop i change.areas_after })) (sym (drop_all i change.areas_before history)) ∙ so_far
