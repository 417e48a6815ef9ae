-- The tasks whose register blocks an accepted edit changes are those of the areas that leave and of the blocks that move.
use Rattle.std.proofs.Common.{◌≡◌, ℕ, zero, suc, ◌+◌, ◌-◌, ◌*◌, ◌/◌, ◌%◌, ◌<◌, ◌≤◌, ◌==◌, ◌&&◌, ◌||◌, Bool, true, false, cond, Contains, List, [], ◌∷◌, ◌++◌, length, refl, sym, ap, ap₂, subst, ◌⊎◌, inl, inr, ◌∙◌, arith}
use Rattle.std.specs.Prelude.{◌≢◌, All, None, Ok, Some, Option, filter, is_some, not, slice_get, slice_index_or}
use Rattle.std.specs.List.{flat_map, list_any, range_with_len}
use Rattle.std.specs.Option.{option_map_or, option_to_list}
use Rattle.std.specs.Str.{bytes_eq}
use Rattle.std.proofs.lemmas.Bool.{and_from, and_parts, cases_lt, eqb-false, eqb-true, eq-eqb, false_from_ne_true, not-true, or_left, or_parts, or_right}
use Rattle.std.proofs.lemmas.List.{length-map}
use Rattle.std.proofs.lemmas.List.Elements.{All-cons, All-contains, filter-append}
use Rattle.std.proofs.lemmas.Slice.Eq.{bytes_eq-Decides}
use Rattle.std.proofs.lemmas.Option.{same_Some, slice_get-get_or, slice_get_within}
use Rattle.hc_records.specs.declared.records.Slave.{Slave}
use Rattle.hc_records.specs.declared.records.Declared.{Declared}
use Rattle.hc_records.specs.declared.edit.Edit.{Edit}
use Rattle.hc_records.specs.Line.{State, groups_of, line, line_from}
use Rattle.hc_records.specs.Edits.{edited, over_limit_task}
use Rattle.hc_records.specs.Project.{lowest_fault}
use Rattle.hc_records.proofs.lemmas.Choices.{contains-first, contains-later}
use Rattle.hc_records.proofs.lemmas.Lines.{declared_slaves}
use Rattle.hc_registers.specs.Blocks.{LineBlock, RegisterBlock, line_blocks, member_blocks, same_block, slave_blocks}
use Rattle.hc_registers.specs.declared.ranked.Gone.{Gone}
use Rattle.hc_registers.specs.Ranked.{RankedBlock, ranked_blocks}
use Rattle.hc_registers.specs.RankDifferences.{IsAtItsPlace, block_place}
use Rattle.hc_registers.specs.RankPlaces.{places, stations}
use Rattle.hc_registers.proofs.lemmas.RanksGapless.{places-hold}
use Rattle.hc_registers.proofs.lemmas.RanksStanding.{length-places, standing-of}
use Rattle.hc_groups.proofs.lemmas.Accepted.{accepted-groups, accepted-project}
use Rattle.hc_changes.proofs.lemmas.OneProject.{AreOfOneProject, edit-one-project}
use Rattle.hc_plan.proofs.lemmas.Elements.{contains-unchanged, contains-unkept, some-passes, which-passes}
use Rattle.hc_plan.proofs.lemmas.Configured.{at-contained, contained-own}
use Rattle.hc_plan.proofs.lemmas.PlaceNames.{name-at, same-name}
use Rattle.hc_events.specs.Ready.{is_fmmu, names_task, serves_task}
use Rattle.hc_events.specs.Steady.{same_line_block, same_lists, task_blocks}
use Rattle.hc_events.proofs.lemmas.Unchanged.{block-alike, lists-alike}
use Rattle.hc_owed.specs.declared.area.JudgedArea.{JudgedArea}
use Rattle.hc_owed.specs.ChangedTasks.{BlocksAreEdited, changes_blocks, leaves_task, moves_task, own_at}
use Rattle.hc_owed.specs.Readiness.{Holdings, area_slave, judged_at, readiness_of, slot}
use Rattle.hc_owed.specs.RegisterState.{Knowledge}
use Rattle.hc_owed.specs.TaskSets.{has_task, no_task}
use Rattle.hc_owed.proofs.AreaPlaces.{get-range, length-range, of-area, slot-at, slot-is}
use Rattle.hc_owed.proofs.AreaTasks.{serves-is}
use Rattle.hc_owed.proofs.JudgedAreas.{judged-none, judged-some}
use Rattle.hc_owed.proofs.ReadyTurns.{both-blocks}
use Rattle.hc_owed.proofs.TaskLists.{has-where}
use Rattle.hc_owed.proofs.lemmas.SameTask.{blocks-same, lists-same}
use Rattle.hc_owed.proofs.lemmas.TaskSums.{none-set}

-- the task that an area's FMMU names

abbrev pub names_at : ℕ → State → ℕ → Bool
names_at t state i = option_map_or (λ (block : LineBlock). names_task t block.block.bytes) (slot state (2 * i + 1)) false

over-none : {X : Type 0} (xs : List X) (n : ℕ) → length xs ≤ n → slice_get xs n ≡ None
over-none [] n over = refl
over-none (x ∷ xs) zero over = absurd (omega (arith, over))
over-none (x ∷ xs) (suc n) over = over-none xs n (omega (arith, over))

over-slot : (xs : List (Option LineBlock)) (n : ℕ) → length xs ≤ n → slice_index_or xs n None ≡ None
over-slot [] n over = refl
over-slot (x ∷ xs) zero over = absurd (omega (arith, over))
over-slot (x ∷ xs) (suc n) over = over-slot xs n (omega (arith, over))

-- the area of a block that the line has
block-area : (state : State) (p : ℕ) (block : LineBlock) → slot state p ≡ Some block → (slave : Slave) × (area_slave state (p / 2) ≡ Some slave)
block-area state p block is = let own = of-area state p block (slot-at state p block is) in (own.slave, own.area)

unnamed-slot : (t : ℕ) (state : State) (i : ℕ) → area_slave state i ≡ None → names_at t state i ≡ false
unnamed-slot t state i none = by (slot state (2 * i + 1)) refl
  where
    by : (found : Option LineBlock) → slot state (2 * i + 1) ≡ found → names_at t state i ≡ false
    by None is = ap (λ (o : Option LineBlock). option_map_or (λ (block : LineBlock). names_task t block.block.bytes) o false) is
    by (Some block) is =
        let own = block-area state (2 * i + 1) block is in
        let half : (2 * i + 1) / 2 ≡ i = omega arith in
        let never : Some own.0 ≡ None = sym own.1 ∙ ap (area_slave state) half ∙ none in
        cc

pub own-names : (known : Knowledge) (held : Holdings) (unplugged : ℕ → Bool) (state : State) (areas : List JudgedArea) (t i : ℕ) → t < 8 → areas ≡ readiness_of known held unplugged state → has_task t (own_at areas i) ≡ names_at t state i
own-names known held unplugged state areas t i low is = by (cases_lt i (8 * length (stations state)))
  where
    all : List JudgedArea
    all = readiness_of known held unplugged state

    size : length all ≡ 8 * length (stations state)
    size = length-range (judged_at known held unplugged state) (8 * length (stations state))

    own : (found : Option JudgedArea) → slice_get areas i ≡ found → has_task t (own_at areas i) ≡ has_task t (option_map_or (λ (area : JudgedArea). area.own) found no_task)
    own found at = ap (λ (o : Option JudgedArea). has_task t (option_map_or (λ (area : JudgedArea). area.own) o no_task)) at

    by-area : (found : Option Slave) → area_slave state i ≡ found → has_task t (judged_at known held unplugged state i).own ≡ names_at t state i
    by-area None none = ap (λ (area : JudgedArea). has_task t area.own) (judged-none known held unplugged state i none) ∙ none-set t low ∙ sym (unnamed-slot t state i none)
    by-area (Some slave) area =
        ap (λ (one : JudgedArea). has_task t one.own) (judged-some known held unplugged state i slave area)
        ∙ has-where (λ task. option_map_or (λ (block : LineBlock). names_task task block.block.bytes) (slot state (2 * i + 1)) false) t low

    by : (i < 8 * length (stations state)) ⊎ (8 * length (stations state) ≤ i) → has_task t (own_at areas i) ≡ names_at t state i
    by (inl inside) =
        own (Some (judged_at known held unplugged state i)) (ap (λ (l : List JudgedArea). slice_get l i) is ∙ get-range (judged_at known held unplugged state) (8 * length (stations state)) i inside)
        ∙ by-area (area_slave state i) refl
    by (inr over) =
        let named = length-map (declared_slaves state.groups) (λ (slave : Slave). slave.station) in
        let count = length-places state in
        own None (ap (λ (l : List JudgedArea). slice_get l i) is ∙ over-none all i (omega (arith, over, size)))
        ∙ none-set t low
        ∙ sym (ap (λ (o : Option LineBlock). option_map_or (λ (block : LineBlock). names_task t block.block.bytes) o false) (over-slot (places state) (2 * i + 1) (omega (arith, over, named, count))))

-- an area whose one block the line has, has both there
fmmu-there : (state : State) (p : ℕ) (block : LineBlock) → lowest_fault (groups_of state.groups) ≡ None → slot state p ≡ Some block → is_some (slot state (2 * (p / 2) + 1)) ≡ true
fmmu-there state p block project is =
    let own = block-area state p block is in
    let here : is_some (slot state p) ≡ true = ap (λ (o : Option LineBlock). is_some o) is in
    by (p % 2 == 1) refl own here
  where
    by : (odd : Bool) → (p % 2 == 1) ≡ odd → (slave : Slave) × (area_slave state (p / 2) ≡ Some slave) → is_some (slot state p) ≡ true → is_some (slot state (2 * (p / 2) + 1)) ≡ true
    by true odd own here =
        let one = eqb-true (p % 2) 1 odd in
        let same : 2 * (p / 2) + 1 ≡ p = omega (arith, one) in
        ap (λ (n : ℕ). is_some (slot state n)) same ∙ here
    by false even own here =
        let none = eqb-false (p % 2) 1 even in
        let same : 2 * (p / 2) ≡ p = omega (arith, none) in
        sym (both-blocks state (p / 2) own.0 project own.1) ∙ ap (λ (n : ℕ). is_some (slot state n)) same ∙ here

block-there : (state : State) (p : ℕ) → lowest_fault (groups_of state.groups) ≡ None → is_some (slot state (2 * (p / 2) + 1)) ≡ true → is_some (slot state p) ≡ true
block-there state p project here = by (p % 2 == 1) refl (slot state (2 * (p / 2) + 1)) refl here
  where
    by : (odd : Bool) → (p % 2 == 1) ≡ odd → (found : Option LineBlock) → slot state (2 * (p / 2) + 1) ≡ found → is_some (slot state (2 * (p / 2) + 1)) ≡ true → is_some (slot state p) ≡ true
    by true odd found is some =
        let one = eqb-true (p % 2) 1 odd in
        let same : 2 * (p / 2) + 1 ≡ p = omega (arith, one) in
        ap (λ (n : ℕ). is_some (slot state n)) (sym same) ∙ some
    by false even None is some = let never : false ≡ true = sym (ap (λ (o : Option LineBlock). is_some o) is) ∙ some in cc
    by false even (Some block) is some =
        let none = eqb-false (p % 2) 1 even in
        let same : 2 * (p / 2) ≡ p = omega (arith, none) in
        let own = block-area state (2 * (p / 2) + 1) block is in
        let half : (2 * (p / 2) + 1) / 2 ≡ p / 2 = omega arith in
        ap (λ (n : ℕ). is_some (slot state n)) (sym same) ∙ both-blocks state (p / 2) own.0 project (ap (area_slave state) (sym half) ∙ own.1) ∙ some

-- a block serves a task if its area's FMMU names it
serves-named : (t : ℕ) (state : State) (p : ℕ) (block : LineBlock) → lowest_fault (groups_of state.groups) ≡ None → over_limit_task (line state) ≡ None → slot state p ≡ Some block → serves_task state t block ≡ names_at t state (p / 2)
serves-named t state p block project uncrowded is = by (slot state (2 * (p / 2) + 1)) refl (fmmu-there state p block project is)
  where
    by : (found : Option LineBlock) → slot state (2 * (p / 2) + 1) ≡ found → is_some (slot state (2 * (p / 2) + 1)) ≡ true → serves_task state t block ≡ names_at t state (p / 2)
    by None at some = let never : false ≡ true = sym (ap (λ (o : Option LineBlock). is_some o) at) ∙ some in cc
    by (Some fmmu) at some =
        serves-is state t project uncrowded (p / 2) p fmmu block at is refl
        ∙ sym (ap (λ (o : Option LineBlock). option_map_or (λ (one : LineBlock). names_task t one.block.bytes) o false) at)

-- two lists of places in which two tests pass the same blocks

same-passing : (f g : LineBlock → Bool) (xs ys : List (Option LineBlock)) → length xs ≤ length ys
    → ((n : ℕ) → filter f (option_to_list (slice_index_or xs n None)) ≡ filter g (option_to_list (slice_index_or ys n None)))
    → filter f (flat_map option_to_list xs) ≡ filter g (flat_map option_to_list ys)
same-passing f g [] [] fits each = refl
same-passing f g [] (y ∷ ys) fits each =
    ap₂ (λ (a b : List LineBlock). a ++ b) (each 0) (same-passing f g [] ys (omega (arith, fits)) (λ n. each (suc n)))
    ∙ sym (filter-append g (option_to_list y) (flat_map option_to_list ys))
same-passing f g (x ∷ xs) [] fits each = absurd (omega (arith, fits))
same-passing f g (x ∷ xs) (y ∷ ys) fits each =
    filter-append f (option_to_list x) (flat_map option_to_list xs)
    ∙ ap₂ (λ (a b : List LineBlock). a ++ b) (each 0) (same-passing f g xs ys (omega (arith, fits)) (λ n. each (suc n)))
    ∙ sym (filter-append g (option_to_list y) (flat_map option_to_list ys))

kept-one : (test : LineBlock → Bool) (found : Option LineBlock) (block : LineBlock) → found ≡ Some block → filter test (option_to_list found) ≡ cond (test block) (block ∷ []) []
kept-one test found block is = ap (λ (o : Option LineBlock). filter test (option_to_list o)) is

kept-none : (test : LineBlock → Bool) (found : Option LineBlock) → found ≡ None → filter test (option_to_list found) ≡ []
kept-none test found is = ap (λ (o : Option LineBlock). filter test (option_to_list o)) is

-- a block of the line is at some place
at-some-place : (xs : List (Option LineBlock)) (block : LineBlock) → Contains (flat_map option_to_list xs) block → (n : ℕ) × (slice_get xs n ≡ Some (Some block))
at-some-place [] block (k, within, is) = absurd (omega (arith, within))
at-some-place (None ∷ xs) block has = let later = at-some-place xs block has in (suc later.0, later.1)
at-some-place (Some x ∷ xs) block (zero, within, is) = (0, ap (λ (b : LineBlock). Some (Some b)) is)
at-some-place (Some x ∷ xs) block (suc k, within, is) = let later = at-some-place xs block (k, omega (arith, within), is) in (suc later.0, later.1)

placed-block : (xs : List (Option LineBlock)) (n : ℕ) (block : LineBlock) → slice_get xs n ≡ Some (Some block) → Contains (flat_map option_to_list xs) block
placed-block [] n block at = cc
placed-block (None ∷ xs) zero block at = cc
placed-block (None ∷ xs) (suc n) block at = placed-block xs n block at
placed-block (Some x ∷ xs) zero block at = (zero, omega arith, same_Some x block (same_Some (Some x) (Some block) at))
placed-block (Some x ∷ xs) (suc n) block at = let later = placed-block xs n block at in (suc later.0, omega (arith, later.1), later.2)

-- a number in a row
in-row : (from count n : ℕ) → Contains (range_with_len from count) n → (from ≤ n) × (n < from + count)
in-row from zero n (k, within, is) = absurd (omega (arith, within))
in-row from (suc count) n (zero, within, is) = (omega (arith, is), omega (arith, is))
in-row from (suc count) n (suc k, within, is) = let later = in-row (from + 1) count n (k, omega (arith, within), is) in (omega (arith, later.0), omega (arith, later.1))

row-step : (from count n : ℕ) → from ≤ n → (from < n → Contains (range_with_len (from + 1) count) n) → Contains (range_with_len from (suc count)) n
row-step from count n low later = by (from == n) refl
  where
    by : (here : Bool) → (from == n) ≡ here → Contains (range_with_len from (suc count)) n
    by true is = (zero, omega arith, eqb-true from n is)
    by false is =
        let apart = eqb-false from n is in
        let rest = later (omega (arith, low, apart)) in
        (suc rest.0, omega (arith, rest.1), rest.2)

pub row-has : (from count n : ℕ) → from ≤ n → n < from + count → Contains (range_with_len from count) n
row-has from zero n low high = absurd (omega (arith, low, high))
row-has from (suc count) n low high = row-step from count n low (λ less. row-has (from + 1) count n (omega (arith, less)) (omega (arith, high)))

-- tests

pub none-pass : {X : Type 0} (test : X → Bool) (xs : List X) (x : X) → Contains xs x → list_any test xs ≡ false → test x ≡ false
none-pass test xs x has none = false_from_ne_true (test x) (λ passes. let never : true ≡ false = sym (some-passes test xs x has passes) ∙ none in cc)

true-either : (a b : Bool) → (a || b) ≡ true → (a ≡ true) ⊎ (b ≡ true)
true-either true b e = inl refl
true-either false b e = inr e

same-alike : (block : LineBlock) → same_block block block ≡ true
same-alike block =
    and_from (block.station == block.station) ((block.block.register == block.block.register) && bytes_eq block.block.bytes block.block.bytes) (eq-eqb block.station block.station refl)
    (and_from (block.block.register == block.block.register) (bytes_eq block.block.bytes block.block.bytes) (eq-eqb block.block.register block.block.register refl) ((bytes_eq-Decides block.block.bytes block.block.bytes).1 refl))

-- an area whose FMMU names a task has it in the line
named-there : (t : ℕ) (state : State) (i : ℕ) → names_at t state i ≡ true → is_some (slot state (2 * i + 1)) ≡ true
named-there t state i named = by (slot state (2 * i + 1)) refl
  where
    by : (found : Option LineBlock) → slot state (2 * i + 1) ≡ found → is_some (slot state (2 * i + 1)) ≡ true
    by None at = let never : false ≡ true = sym (ap (λ (o : Option LineBlock). option_map_or (λ (block : LineBlock). names_task t block.block.bytes) o false) at) ∙ named in cc
    by (Some block) at = ap (λ (o : Option LineBlock). is_some o) at

-- two blocks with one name, one register and the same bytes
one-block : (a b : LineBlock) → a.station ≡ b.station → a.number ≡ b.number → a.block ≡ b.block → a ≡ b
one-block a b station number block =
    ap (λ (s : ℕ). record { station = s; number = a.number; block = a.block }) station
    ∙ ap (λ (n : ℕ). record { station = b.station; number = n; block = a.block }) number
    ∙ ap (λ (one : RegisterBlock). record { station = b.station; number = b.number; block = one }) block

one-project : (old new : State) (edit : Edit) → lowest_fault (groups_of old.groups) ≡ None → edited old edit ≡ Ok new → AreOfOneProject (line old) (line new)
one-project old new edit project accepted =
    subst (λ (g : List Declared). AreOfOneProject (line old) (line_from 1 g)) (sym (accepted-groups old new edit accepted)) (edit-one-project old.groups edit project)

-- a row of numbers, the first and the others

pub row-any : (test : ℕ → Bool) (n end : ℕ) → n < end → list_any test (range_with_len n (end - n)) ≡ (test n || list_any test (range_with_len (n + 1) (end - (n + 1))))
row-any test n end low = let more : end - n ≡ suc (end - (n + 1)) = omega (arith, low) in ap (λ (k : ℕ). list_any test (range_with_len n k)) more

pub row-over : (test : ℕ → Bool) (n end : ℕ) → end ≤ n → list_any test (range_with_len n (end - n)) ≡ false
row-over test n end over = let none : end - n ≡ zero = omega (arith, over) in ap (λ (k : ℕ). list_any test (range_with_len n k)) none

-- an accepted edit, and a task

module _ (areas : List JudgedArea) (gone : Gone) (moved : List RankedBlock) (is : BlocksAreEdited areas gone moved) (t : ℕ) (low : t < 8) where
  abbrev project : lowest_fault (groups_of is.old.groups) ≡ None
  project = is.right.project

  project' : lowest_fault (groups_of is.new.groups) ≡ None
  project' = accepted-project is.old is.new is.edit is.right.project is.accepted

  own-is : (i : ℕ) → has_task t (own_at areas i) ≡ names_at t is.old i
  own-is i = own-names is.known is.held is.unplugged is.old areas t i low is.right.right

  serves-old : (p : ℕ) (block : LineBlock) → slot is.old p ≡ Some block → serves_task is.old t block ≡ names_at t is.old (p / 2)
  serves-old p block at = serves-named t is.old p block project is.right.uncrowded at

  serves-new : (p : ℕ) (block : LineBlock) → slot is.new p ≡ Some block → serves_task is.new t block ≡ names_at t is.new (p / 2)
  serves-new p block at = serves-named t is.new p block project' is.uncrowded at

  blocks-old : task_blocks is.old t ≡ filter (serves_task is.old t) (flat_map option_to_list (places is.old))
  blocks-old = ap (filter (serves_task is.old t)) (sym (places-hold is.old project))

  blocks-new : task_blocks is.new t ≡ filter (serves_task is.new t) (flat_map option_to_list (places is.new))
  blocks-new = ap (filter (serves_task is.new t)) (sym (places-hold is.new project'))

  -- a block that moves, or one that stood

  moved-at : (n : ℕ) → ((m : RankedBlock) × Contains moved m × (block_place m ≡ n)) ⊎ All (λ m. block_place m ≢ n) moved
  moved-at n = by moved
    where
      by : (rest : List RankedBlock) → ((m : RankedBlock) × Contains rest m × (block_place m ≡ n)) ⊎ All (λ m. block_place m ≢ n) rest
      by [] = inr (λ k d within. absurd (omega (arith, within)))
      by (m ∷ rest) = one (block_place m == n) refl (by rest)
        where
          one : (here : Bool) → (block_place m == n) ≡ here → ((o : RankedBlock) × Contains rest o × (block_place o ≡ n)) ⊎ All (λ o. block_place o ≢ n) rest
              → ((o : RankedBlock) × Contains (m ∷ rest) o × (block_place o ≡ n)) ⊎ All (λ o. block_place o ≢ n) (m ∷ rest)
          one true here later = inl (m, contains-first m rest, eqb-true (block_place m) n here)
          one false here (inl found) = inl (found.0, contains-later m found.0 rest found.1, found.2)
          one false here (inr none) = inr (All-cons (λ (o : RankedBlock). block_place o ≢ n) m rest (eqb-false (block_place m) n here) none)

  is-placed : (m : RankedBlock) → Contains moved m → slice_get (places is.new) (block_place m) ≡ Some (Some m.found)
  is-placed m has = All-contains (IsAtItsPlace (places is.new)) moved m is.differ.names.are_placed has

  -- it was no block of the old line
  was-not : (m : RankedBlock) → Contains moved m → list_any (same_block m.found) (line_blocks (line is.old)) ≡ false
  was-not m has =
      let one = contains-unkept (λ (block : RankedBlock). not (list_any (same_block block.found) (line_blocks (line is.old)))) (ranked_blocks (line is.new)) m (subst (λ (l : List RankedBlock). Contains l m) is.blocks has) in
      not-true (list_any (same_block m.found) (line_blocks (line is.old))) one.1

  -- the case that the edit does not change the task

  module _ (left : leaves_task areas gone t ≡ false) (stays : list_any (moves_task areas t) moved ≡ false) where
    -- the area of a block that moves wasn't in the task
    was-out : (m : RankedBlock) → Contains moved m → names_at t is.old (block_place m / 2) ≡ false
    was-out m has = sym (own-is (block_place m / 2)) ∙ (or_parts (has_task t (own_at areas (block_place m / 2))) (is_fmmu (block_place m) && names_task t m.found.block.bytes) (none-pass (moves_task areas t) moved m has stays)).0

    -- and an FMMU's block that moves names another task or none
    names-not : (m : RankedBlock) → Contains moved m → (block_place m % 2 == 1) ≡ true → names_task t m.found.block.bytes ≡ false
    names-not m has odd =
        sym (ap (λ (b : Bool). b && names_task t m.found.block.bytes) odd)
        ∙ (or_parts (has_task t (own_at areas (block_place m / 2))) (is_fmmu (block_place m) && names_task t m.found.block.bytes) (none-pass (moves_task areas t) moved m has stays)).1

    -- an area in the line is in the task after the edit if it was before
    same-names : (i : ℕ) → is_some (slot is.new (2 * i + 1)) ≡ true → names_at t is.new i ≡ names_at t is.old i
    same-names i some = by (slot is.new (2 * i + 1)) refl some (moved-at (2 * i + 1))
      where
        named : (state : State) (found : Option LineBlock) → slot state (2 * i + 1) ≡ found → names_at t state i ≡ option_map_or (λ (block : LineBlock). names_task t block.block.bytes) found false
        named state found at = ap (λ (o : Option LineBlock). option_map_or (λ (block : LineBlock). names_task t block.block.bytes) o false) at

        by : (found : Option LineBlock) → slot is.new (2 * i + 1) ≡ found → is_some (slot is.new (2 * i + 1)) ≡ true → ((m : RankedBlock) × Contains moved m × (block_place m ≡ 2 * i + 1)) ⊎ All (λ m. block_place m ≢ 2 * i + 1) moved
            → names_at t is.new i ≡ names_at t is.old i
        by None at some which = let never : false ≡ true = sym (ap (λ (o : Option LineBlock). is_some o) at) ∙ some in cc
        by (Some block) at some (inl one) =
            let m = one.0 in
            let place = one.2 in
            let half : block_place m / 2 ≡ i = omega (arith, place) in
            let odd : block_place m % 2 ≡ 1 = omega (arith, place) in
            let same : Some m.found ≡ Some block = sym (slot-is is.new (2 * i + 1) (Some m.found) (ap (slice_get (places is.new)) (sym place) ∙ is-placed m one.1)) ∙ at in
            named is.new (Some block) at ∙ ap (λ (b : LineBlock). names_task t b.block.bytes) (sym (same_Some m.found block same))
            ∙ names-not m one.1 (eq-eqb (block_place m % 2) 1 odd) ∙ sym (was-out m one.1) ∙ ap (names_at t is.old) half
        by (Some block) at some (inr none) =
            let stood = is.differ.names.others (2 * i + 1) block (slot-at is.new (2 * i + 1) block at) none in
            named is.new (Some block) at ∙ ap (λ (b : RegisterBlock). names_task t b.bytes) (sym stood.same)
            ∙ sym (named is.old (Some stood.before) (slot-is is.old (2 * i + 1) (Some stood.before) stood.stood))

    -- the task has the same block at each place, or none
    same-at : (n : ℕ) → filter (serves_task is.old t) (option_to_list (slot is.old n)) ≡ filter (serves_task is.new t) (option_to_list (slot is.new n))
    same-at n = by (slot is.old n) (slot is.new n) refl refl (moved-at n)
      where
        out-of : (test : LineBlock → Bool) (found : Option LineBlock) (block : LineBlock) → found ≡ Some block → test block ≡ false → filter test (option_to_list found) ≡ []
        out-of test found block at none = kept-one test found block at ∙ ap (λ (b : Bool). cond b (block ∷ []) []) none

        by : (before after : Option LineBlock) → slot is.old n ≡ before → slot is.new n ≡ after → ((m : RankedBlock) × Contains moved m × (block_place m ≡ n)) ⊎ All (λ m. block_place m ≢ n) moved
            → filter (serves_task is.old t) (option_to_list (slot is.old n)) ≡ filter (serves_task is.new t) (option_to_list (slot is.new n))
        by None None at at' which = kept-none (serves_task is.old t) (slot is.old n) at ∙ sym (kept-none (serves_task is.new t) (slot is.new n) at')
        by (Some b) None at at' which =
            let stood = slot-at is.old n b at in
            let within = slice_get_within (places is.old) n (Some b) stood in
            let size = is.differ.size in
            let empty : slice_get (places is.new) n ≡ Some None = slice_get-get_or (places is.new) n None (omega (arith, within, size)) ∙ ap (λ (o : Option LineBlock). Some o) at' in
            let went = is.differ.stays n b stood empty in
            let from = went.0 in
            let to = went.1 in
            let first = is.differ.rank in
            let row = row-has (8 * (gone.rank - 1)) (8 * gone.slaves) (n / 2) (omega (arith, from, first)) (omega (arith, to, first)) in
            let none = none-pass (λ i. has_task t (own_at areas i)) (range_with_len (8 * (gone.rank - 1)) (8 * gone.slaves)) (n / 2) row left in
            out-of (serves_task is.old t) (slot is.old n) b at (serves-old n b at ∙ sym (own-is (n / 2)) ∙ none)
            ∙ sym (kept-none (serves_task is.new t) (slot is.new n) at')
        by None (Some c) at at' (inl one) =
            let m = one.0 in
            let half : block_place m / 2 ≡ n / 2 = ap (λ (p : ℕ). p / 2) one.2 in
            kept-none (serves_task is.old t) (slot is.old n) at
            ∙ sym (out-of (serves_task is.new t) (slot is.new n) c at'
            (serves-new n c at' ∙ same-names (n / 2) (fmmu-there is.new n c project' at') ∙ ap (names_at t is.old) (sym half) ∙ was-out m one.1))
        by None (Some c) at at' (inr none) =
            let stood = is.differ.names.others n c (slot-at is.new n c at') none in
            let never : None ≡ Some stood.before = sym at ∙ slot-is is.old n (Some stood.before) stood.stood in
            cc
        by (Some b) (Some c) at at' (inl one) =
            let m = one.0 in
            let half : block_place m / 2 ≡ n / 2 = ap (λ (p : ℕ). p / 2) one.2 in
            let out = ap (names_at t is.old) (sym half) ∙ was-out m one.1 in
            out-of (serves_task is.old t) (slot is.old n) b at (serves-old n b at ∙ out)
            ∙ sym (out-of (serves_task is.new t) (slot is.new n) c at' (serves-new n c at' ∙ same-names (n / 2) (fmmu-there is.new n c project' at') ∙ out))
        by (Some b) (Some c) at at' (inr none) =
            let stood = is.differ.names.others n c (slot-at is.new n c at') none in
            let before : b ≡ stood.before = same_Some b stood.before (sym at ∙ slot-is is.old n (Some stood.before) stood.stood) in
            let name = same-name is.old is.new is.edit n stood.before c is.accepted stood.stood (slot-at is.new n c at') in
            let same : b ≡ c = before ∙ one-block stood.before c name.0 name.1 stood.same in
            kept-one (serves_task is.old t) (slot is.old n) b at
            ∙ ap₂ (λ (served : Bool) (one : LineBlock). cond served (one ∷ []) []) (serves-old n b at ∙ sym (same-names (n / 2) (fmmu-there is.new n c project' at')) ∙ sym (serves-new n c at')) same
            ∙ sym (kept-one (serves_task is.new t) (slot is.new n) c at')

    pub task-stays : task_blocks is.old t ≡ task_blocks is.new t
    task-stays = blocks-old ∙ same-passing (serves_task is.old t) (serves_task is.new t) (places is.old) (places is.new) is.differ.size same-at ∙ sym blocks-new

  -- the case that the edit changes the task

  -- a block of the task in both lines is at one place
  one-place : (p q : ℕ) (block : LineBlock) → slice_get (places is.old) p ≡ Some (Some block) → slice_get (places is.new) q ≡ Some (Some block) → q ≡ p
  one-place p q block before after =
      let first = standing-of is.old p block before in
      let second = standing-of is.new q block after in
      let own = contained-own first.member.slave.station (slave_blocks (line is.old) first.member) block (at-contained (member_blocks (line is.old) first.member) first.number block first.is_placed) in
      let other = contained-own second.member.slave.station (slave_blocks (line is.new) second.member) block (at-contained (member_blocks (line is.new) second.member) second.number block second.is_placed) in
      let rank = (one-project is.old is.new is.edit project is.accepted).ranks first.member second.member first.on second.on (sym own.0 ∙ other.0) in
      let number = (name-at is.old p block before).number in
      let number' = (name-at is.new q block after).number in
      let at = first.is in
      let at' = second.is in
      let low = first.low in
      let low' = second.low in
      omega (arith, rank, number, number', at, at', low, low')

  -- a block of the task in the old line, and in the new one
  in-old : (p : ℕ) (block : LineBlock) → slice_get (places is.old) p ≡ Some (Some block) → names_at t is.old (p / 2) ≡ true → Contains (task_blocks is.old t) block
  in-old p block at named =
      subst (λ (l : List LineBlock). Contains l block) (sym blocks-old)
      (contains-unchanged (serves_task is.old t) (flat_map option_to_list (places is.old)) block (placed-block (places is.old) p block at) (serves-old p block (slot-is is.old p (Some block) at) ∙ named))

  of-new : (block : LineBlock) → Contains (task_blocks is.new t) block → (q : ℕ) × (slice_get (places is.new) q ≡ Some (Some block))
  of-new block has = at-some-place (places is.new) block (subst (λ (l : List LineBlock). Contains l block) (sym (places-hold is.new project')) (contains-unkept (serves_task is.new t) (line_blocks (line is.new)) block has).0)

  -- such a block is at its place in the new line too, if the lists are the same
  at-its-place : (p : ℕ) (block : LineBlock) → task_blocks is.old t ≡ task_blocks is.new t → slice_get (places is.old) p ≡ Some (Some block) → names_at t is.old (p / 2) ≡ true → slice_get (places is.new) p ≡ Some (Some block)
  at-its-place p block same at named =
      let found = of-new block (subst (λ (l : List LineBlock). Contains l block) same (in-old p block at named)) in
      ap (slice_get (places is.new)) (sym (one-place p found.0 block at found.1)) ∙ found.1

  never-left : task_blocks is.old t ≡ task_blocks is.new t → leaves_task areas gone t ≡ true → ⊥
  never-left same left =
      let which = which-passes (λ i. has_task t (own_at areas i)) (range_with_len (8 * (gone.rank - 1)) (8 * gone.slaves)) left in
      by which.0 (in-row (8 * (gone.rank - 1)) (8 * gone.slaves) which.0 which.1) (slot is.old (2 * which.0 + 1)) refl (sym (own-is which.0) ∙ which.2)
    where
      by : (i : ℕ) → (8 * (gone.rank - 1) ≤ i) × (i < 8 * (gone.rank - 1) + 8 * gone.slaves) → (found : Option LineBlock) → slot is.old (2 * i + 1) ≡ found → names_at t is.old i ≡ true → ⊥
      by i row None at named = let never : false ≡ true = sym (ap (λ (o : Option LineBlock). option_map_or (λ (block : LineBlock). names_task t block.block.bytes) o false) at) ∙ named in cc
      by i row (Some block) at named =
          let half : (2 * i + 1) / 2 ≡ i = omega arith in
          let here = at-its-place (2 * i + 1) block same (slot-at is.old (2 * i + 1) block at) (ap (names_at t is.old) half ∙ named) in
          let from = row.0 in
          let to = row.1 in
          let went = is.differ.went (2 * i + 1) (omega (arith, from), omega (arith, to)) in
          let never : Some (Some block) ≡ Some None = sym here ∙ went in
          cc

  -- a block that moves was no block of the old line
  never-was : (m : RankedBlock) → Contains moved m → Contains (line_blocks (line is.old)) m.found → ⊥
  never-was m has was =
      let never : true ≡ false = sym (some-passes (same_block m.found) (line_blocks (line is.old)) m.found was (same-alike m.found)) ∙ was-not m has in
      cc

  never-moved : task_blocks is.old t ≡ task_blocks is.new t → list_any (moves_task areas t) moved ≡ true → ⊥
  never-moved same moves =
      let which = which-passes (moves_task areas t) moved moves in
      elim (true-either (has_task t (own_at areas (block_place which.0 / 2))) (is_fmmu (block_place which.0) && names_task t which.0.found.block.bytes) which.2) [
        | inl own ↦ was which.0 which.1 (slot is.old (block_place which.0)) refl (sym (own-is (block_place which.0 / 2)) ∙ own)
        | inr names ↦ becomes which.0 which.1 (and_parts (is_fmmu (block_place which.0)) (names_task t which.0.found.block.bytes) names)
      ]
    where
      was : (m : RankedBlock) → Contains moved m → (found : Option LineBlock) → slot is.old (block_place m) ≡ found → names_at t is.old (block_place m / 2) ≡ true → ⊥
      was m has None at named =
          let some = block-there is.old (block_place m) project (named-there t is.old (block_place m / 2) named) in
          let never : false ≡ true = sym (ap (λ (o : Option LineBlock). is_some o) at) ∙ some in
          cc
      was m has (Some block) at named =
          let here = at-its-place (block_place m) block same (slot-at is.old (block_place m) block at) named in
          let one : block ≡ m.found = same_Some block m.found (same_Some (Some block) (Some m.found) (sym here ∙ is-placed m has)) in
          let old = contains-unkept (serves_task is.old t) (line_blocks (line is.old)) block (in-old (block_place m) block (slot-at is.old (block_place m) block at) named) in
          never-was m has (subst (λ (b : LineBlock). Contains (line_blocks (line is.old)) b) one old.0)

      becomes : (m : RankedBlock) → Contains moved m → (is_fmmu (block_place m) ≡ true) × (names_task t m.found.block.bytes ≡ true) → ⊥
      becomes m has both =
          let odd = eqb-true (block_place m % 2) 1 both.0 in
          let place : 2 * (block_place m / 2) + 1 ≡ block_place m = omega (arith, odd) in
          let at : slot is.new (block_place m) ≡ Some m.found = slot-is is.new (block_place m) (Some m.found) (is-placed m has) in
          let named : names_at t is.new (block_place m / 2) ≡ true =
          ap (λ (o : Option LineBlock). option_map_or (λ (block : LineBlock). names_task t block.block.bytes) o false) (ap (slot is.new) place ∙ at) ∙ both.1 in
          let on : Contains (line_blocks (line is.new)) m.found = subst (λ (l : List LineBlock). Contains l m.found) (places-hold is.new project') (placed-block (places is.new) (block_place m) m.found (is-placed m has)) in
          let new = contains-unchanged (serves_task is.new t) (line_blocks (line is.new)) m.found on (serves-new (block_place m) m.found at ∙ named) in
          never-was m has (contains-unkept (serves_task is.old t) (line_blocks (line is.old)) m.found (subst (λ (l : List LineBlock). Contains l m.found) (sym same) new)).0

  pub changed-blocks : (leaves_task areas gone t || list_any (moves_task areas t) moved) ≡ changes_blocks is.old is.new t
  changed-blocks = by (leaves_task areas gone t) refl (list_any (moves_task areas t) moved) refl
    where
      apart : (task_blocks is.old t ≡ task_blocks is.new t → ⊥) → true ≡ changes_blocks is.old is.new t
      apart differ =
          sym (ap not (false_from_ne_true (same_lists same_line_block (task_blocks is.old t) (task_blocks is.new t)) (λ same. differ (lists-same same_line_block blocks-same (task_blocks is.old t) (task_blocks is.new t) same))))

      by : (left : Bool) → leaves_task areas gone t ≡ left → (moves : Bool) → list_any (moves_task areas t) moved ≡ moves → (leaves_task areas gone t || list_any (moves_task areas t) moved) ≡ changes_blocks is.old is.new t
      by true left moves at = or_left (leaves_task areas gone t) (list_any (moves_task areas t) moved) left ∙ apart (λ same. never-left same left)
      by false left true at = or_right (leaves_task areas gone t) (list_any (moves_task areas t) moved) at ∙ apart (λ same. never-moved same at)
      by false left false at =
          ap₂ (λ (a b : Bool). a || b) left at
          ∙ sym (ap not (ap (same_lists same_line_block (task_blocks is.old t)) (sym (task-stays left at)) ∙ lists-alike same_line_block block-alike (task_blocks is.old t)))
