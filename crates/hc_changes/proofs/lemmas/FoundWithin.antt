-- All candidates are between the ranks of the slaves that change and of those between the boundaries of datagrams after their
-- kept parts.
use Rattle.std.proofs.Common.{◌≡◌, ℕ, ◌+◌, ◌<◌, ◌≤◌, Bool, true, false, List, [], ◌∷◌, Contains, length, refl, sym, ap, subst, ◌∙◌, ⊎_elim, arith, rules}
use Rattle.std.specs.Prelude.{All, slice_index_or}
use Rattle.std.proofs.Math.Nat.{eq-or-lt_of_le}
use Rattle.std.proofs.lemmas.Bool.{cases_lt, or_parts, false_from_ne_true}
use Rattle.std.proofs.lemmas.List.Elements.{All-cons, All-contains, All-nil}
use Rattle.std.proofs.lemmas.Grind.{common_steps}
use Rattle.hc_places.proofs.lemmas.DatagramUses.{dir-out}
use Rattle.hc_records.specs.declared.keys.Key.{Key}
use Rattle.hc_records.specs.declared.keys.TheConstants.Key.{START, END}
use Rattle.hc_records.specs.declared.limits.TheConstants.{TASKS}
use Rattle.hc_records.specs.declared.records.Dir.TheVariants.{Out, In}
use Rattle.hc_records.specs.declared.records.Area.{Area}
use Rattle.hc_records.specs.Boundaries.{later_keys}
use Rattle.hc_records.specs.Image.{task_places}
use Rattle.hc_records.specs.Keys.{is_before, is_within, same_dir}
use Rattle.hc_records.specs.Line.{line_from}
use Rattle.hc_records.specs.Packing.{Placed, empty_front, packed}
use Rattle.hc_records.specs.TaskList.{Keyed, task_list}
use Rattle.hc_records.proofs.lemmas.KeyOrder.{before-apart, before-else, within-else, within-trans}
use Rattle.hc_records.proofs.lemmas.Lists.{All-unmap}
use Rattle.hc_records.proofs.lemmas.Packed.{area_of, packed-areas}
use Rattle.hc_records.proofs.lemmas.TaskLists.{project-list}
use Rattle.hc_cuts.specs.Inputs.{has_inputs}
use Rattle.hc_cuts.specs.Keeping.{is_unchanged_up_to}
use Rattle.hc_cuts.specs.Starts.{TaskCuts}
use Rattle.hc_cuts.specs.Areas.{areas_of_rank, areas_by_rank, list_by}
use Rattle.hc_cuts.specs.LineKeeping.{Before, IsKnownBefore}
use Rattle.hc_cuts.specs.TaskCuts.{starts_by}
use Rattle.hc_cuts.specs.Recut.{is_touched_by}
use Rattle.hc_cuts.proofs.lemmas.AnswerGiven.{task-listed}
use Rattle.hc_changes.specs.MaybeMovedAreas.{is_recut}
use Rattle.hc_changes.specs.inner.Found.{HoldChanged, HoldRanks, HoldRecut, IsMaybeMovedTest, LieWithin, area_by, areas_found, rank_found, ranked_station}
use Rattle.hc_cuts.specs.LineChange.{changes}
use Rattle.hc_changes.specs.EditedLine.{EditedLine, IsEditedLine}
use Rattle.hc_changes.proofs.lemmas.Finding.{unrecut-none, untouched-unchanged}
use Rattle.hc_changes.proofs.lemmas.FoundRanks.{above-none, task-below}
use Rattle.hc_changes.proofs.lemmas.Recut.{recut-unkept}
use Rattle.hc_changes.proofs.lemmas.Placing.{placed-below, placed-between}
use Rattle.hc_changes.proofs.lemmas.Lists.{contains-after_it, contains-first}
use Rattle.hc_changes.proofs.lemmas.Tables.{state_of}

-- if the task has no inputs, each of its areas is an output

no-input : (list : List Keyed) → has_inputs list ≡ false → All (λ (area : Keyed). same_dir area.0.dir In ≡ false) list
no-input [] none = All-nil (λ (area : Keyed). same_dir area.0.dir In ≡ false)
no-input (area ∷ areas) none =
    let parts = or_parts (same_dir area.0.dir In) (has_inputs areas) none in
    All-cons (λ (other : Keyed). same_dir other.0.dir In ≡ false) area areas parts.0 (no-input areas parts.1)

placed-out : (list : List Keyed) (placed : Placed) → has_inputs list ≡ false → Contains (packed empty_front list) placed → placed.key.dir ≡ Out
placed-out list placed none among =
    let places = packed empty_front list in
    let outputs = All-unmap (λ (area : Keyed). same_dir area.0.dir In ≡ false) area_of places
    (subst (λ (areas : List Keyed). All (λ (area : Keyed). same_dir area.0.dir In ≡ false) areas) (sym (packed-areas empty_front list)) (no-input list none)) in
    dir-out placed.key.dir (All-contains (λ (p : Placed). same_dir p.key.dir In ≡ false) places placed outputs among)

-- a datagram of a task is kept up to a key; and ranks hold those of the areas up to which the first datagrams of a task are not kept

abbrev pub unchanged_in : EditedLine → ℕ → ℕ → Key → Bool
unchanged_in it task datagram key = is_unchanged_up_to (task_list task (line_from 1 it.old)) (task_list task (line_from 1 it.new)) datagram key

abbrev pub HoldFirst : EditedLine → ℕ → ℕ → ℕ → ℕ → Type 0
HoldFirst it task count low high =
    (placed : Placed) → Contains (task_places task (line_from 1 it.new)) placed → placed.datagram < count → placed.key.rank < 65536 → unchanged_in it task placed.datagram placed.key ≡ false
    → (low ≤ placed.key.rank) × (placed.key.rank ≤ high)

-- a boundary that is there is read alike, whatever stands for others
pub same-read : {X : Type 0} (xs : List X) (i : ℕ) (none other : X) → i < length xs → slice_index_or xs i none ≡ slice_index_or xs i other
same-read xs i none other within = grind (arith, common_steps)

-- what is known of an area of the datagram with a number that isn't kept up to it
pub record IsUnkeptIn (it : EditedLine) (task number : ℕ) (starts : List Key) (inputs : Bool) (key : Key) : Type 0 where
  pub from : is_within (slice_index_or starts number END) key ≡ true
  pub next : is_before key (slice_index_or starts (number + 1) END) ≡ true
  pub below : is_before key END ≡ true
  pub output : inputs ≡ false → key.dir ≡ Out
  pub unkept : unchanged_in it task number key ≡ false

-- so the next datagram's areas are held by ranks among which those of the ones before are, and those of its own
pub held-next : (it : EditedLine) (task count low high wide_low wide_high : ℕ) (starts : List Key) (inputs : Bool) → IsEditedLine it → starts ≡ starts_by task (areas_by_rank it.new)
    → inputs ≡ has_inputs (list_by task (areas_by_rank it.new))
    → HoldRanks wide_low wide_high low high
    → ((key : Key) → key.rank < 65536 → IsUnkeptIn it task count starts inputs key → (wide_low ≤ key.rank) × (key.rank ≤ wide_high))
    → HoldFirst it task count low high → HoldFirst it task (count + 1) wide_low wide_high
held-next it task count low high wide_low wide_high starts inputs is are_placed answer_given wider own hold placed among below narrow unkept =
    let list = task_list task (line_from 1 it.new) in
    let keys : START ∷ later_keys list ≡ starts = ap (λ (l : List Keyed). START ∷ later_keys l) (task-listed task it.new) ∙ sym are_placed in
    let lies = placed-between list placed (project-list (state_of it.new) task is.is_project) among in
    ⊎_elim
    (λ same. own placed.key narrow
    (record {
      from = subst (λ (n : ℕ). is_within (slice_index_or starts n END) placed.key ≡ true) same (subst (λ (all : List Key). is_within (slice_index_or all placed.datagram END) placed.key ≡ true) keys lies.1);
      next = search rules;
      below = placed-below list placed (project-list (state_of it.new) task is.is_project) among;
      output = λ none. placed-out list placed (ap has_inputs (task-listed task it.new) ∙ sym answer_given ∙ none) among;
      unkept = subst (λ (n : ℕ). unchanged_in it task n placed.key ≡ false) same unkept;
    }))
    (λ under. let before = hold placed among under narrow unkept in (omega (arith, before, wider), omega (arith, before, wider)))
    (eq-or-lt_of_le {n = placed.datagram} {m = count} (omega arith))

-- an area that is not before the key until which its datagram is kept, nor before the datagram's first key, is not before the
-- higher of the two
pub from-higher : (it : EditedLine) (task number : ℕ) (starts : List Key) (inputs : Bool) (until from key : Key) → IsUnkeptIn it task number starts inputs key
    → ((k : Key) → is_before k END ≡ true → is_before k until ≡ unchanged_in it task number k)
    → ((k : Key) → is_within (slice_index_or starts number END) k ≡ true → is_within until k ≡ true → is_within from k ≡ true)
    → is_within from key ≡ true
from-higher it task number starts inputs until from key is shows above = search (rules, within-else)

within-before : (a b c : Key) → is_within a b ≡ true → is_before b c ≡ true → is_before a c ≡ true
within-before a b c low high = before-else a c (by (is_within c a) refl)
  where
    by : (within : Bool) → is_within c a ≡ within → is_within c a ≡ false
    by true within = let none : true ≡ false = sym (within-trans c a b within low) ∙ before-apart b c high in cc
    by false within = within

-- where that isn't before the next boundary, there is no such area
pub none-unkept : (it : EditedLine) (task number : ℕ) (starts : List Key) (inputs : Bool) (from key : Key) → IsUnkeptIn it task number starts inputs key
    → is_within from key ≡ true → is_before from (slice_index_or starts (number + 1) END) ≡ false → ⊥
none-unkept it task number starts inputs from key is low none = search (rules, within-before)

pub recut-held : (it : EditedLine) (task count low high : ℕ) (starts : List Key) → IsEditedLine it → starts ≡ starts_by task (areas_by_rank it.new) → length starts ≤ count
    → HoldFirst it task count low high → HoldRecut it task low high
recut-held it task count low high starts is are_placed all hold found of narrow recut =
    let list = task_list task (line_from 1 it.new) in
    let own = recut-unkept (line_from 1 it.old) (line_from 1 it.new) found recut in
    let placed = own.placed in
    let among : Contains (task_places task (line_from 1 it.new)) placed = subst (λ (t : ℕ). Contains (task_places t (line_from 1 it.new)) placed) of own.is_placed in
    let unkept : unchanged_in it task placed.datagram placed.key ≡ false = subst (λ (t : ℕ). unchanged_in it t placed.datagram placed.key ≡ false) of own.unkept in
    let keys : START ∷ later_keys list ≡ starts = ap (λ (l : List Keyed). START ∷ later_keys l) (task-listed task it.new) ∙ sym are_placed in
    let lies = placed-between list placed (project-list (state_of it.new) task is.is_project) among in
    let many = ap length keys in
    let below : placed.datagram < count = let low = lies.0 in omega (arith, low, many, all) in
    let rank : placed.key.rank ≡ found.member.rank = ap (λ (key : Key). key.rank) own.key in
    subst (λ (r : ℕ). (low ≤ r) × (r ≤ high)) rank (hold placed among below (omega (arith, rank, narrow)) unkept)

pub untouched-held : (it : EditedLine) (before : Before) (cuts : List TaskCuts) → IsMaybeMovedTest it before cuts → (task low high : ℕ) (some : Bool) → some ≡ false
    → ((old new : List (List Area)) → IsKnownBefore old new before → some ≡ is_touched_by task old new) → HoldRecut it task low high
untouched-held it before cuts test task low high some none shows found of narrow recut =
    let unmoved : is_recut (line_from 1 it.old) (line_from 1 it.new) found ≡ false =
    untouched-unchanged it before cuts test found some none (λ old new is_placed. shows old new is_placed ∙ ap (λ (t : ℕ). is_touched_by t old new) (sym of)) in
    cc

-- wider ranks hold them too

pub recut-wider : (it : EditedLine) (task low high wide_low wide_high : ℕ) → HoldRanks wide_low wide_high low high → HoldRecut it task low high → HoldRecut it task wide_low wide_high
recut-wider it task low high wide_low wide_high wider hold found of narrow recut = search rules

pub changed-wider : (it : EditedLine) (low high wide_low wide_high : ℕ) → HoldRanks wide_low wide_high low high → HoldChanged it low high → HoldChanged it wide_low wide_high
changed-wider it low high wide_low wide_high wider hold rank changed = search rules

-- so all candidates are between the ranks that hold those of all tasks

none-found : (it : EditedLine) (station rank index : ℕ) (areas : List Area) → changes it.change rank ≡ false
    → ((i : ℕ) (area : Area) → Contains areas area → is_recut (line_from 1 it.old) (line_from 1 it.new) (area_by station rank i area) ≡ false) → areas_found it station rank index areas ≡ []
unfolding areas_found
none-found it station rank index [] unchanged unmoved = refl
none-found it station rank index (area ∷ areas) unchanged unmoved =
    search (rules, unrecut-none, contains-first, contains-after_it, none-found it station rank (index + 1) areas unchanged (λ i other at. unmoved i other (contains-after_it other area areas at)))

rank-none : (it : EditedLine) (rank low high : ℕ) → IsEditedLine it → HoldChanged it low high → ((task : ℕ) → task < TASKS → HoldRecut it task low high) → (low ≤ rank → rank ≤ high → ⊥) → rank < 65536
    → rank_found it rank ≡ []
unfolding rank_found
rank-none it rank low high is changed recut out narrow =
    let areas = areas_of_rank (areas_by_rank it.new) rank in
    let station = ranked_station it.old rank in
    none-found it station rank 0 areas (false_from_ne_true (changes it.change rank) (λ among. let own = changed rank among in out own.0 own.1))
    (λ i area (k, within, at).
    let task : area.task < TASKS = task-below it.new rank k areas area is.is_project refl within (sym at) in
    false_from_ne_true (is_recut (line_from 1 it.old) (line_from 1 it.new) (area_by station rank i area))
    (λ among. let own = recut area.task task (area_by station rank i area) refl narrow among in out own.0 own.1))

pub all-within : (it : EditedLine) (low high : ℕ) → IsEditedLine it → HoldChanged it low high → ((task : ℕ) → task < TASKS → HoldRecut it task low high) → LieWithin it low high
all-within it low high is changed recut rank out =
    ⊎_elim (λ above. above-none it rank above) (λ under. rank-none it rank low high is changed recut out (omega (arith, under)))
    (cases_lt (length (areas_by_rank it.new)) rank)
