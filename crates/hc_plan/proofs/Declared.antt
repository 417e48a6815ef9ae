-- A group that is declared leaves the line as it was, so nothing is said of it.
use Rattle.std.proofs.Common.{◌≡◌, ◌∙◌, ◌||◌, ℕ, ◌+◌, ◌≤◌, arith, length-append, Bool, true, false, Contains, List, [], ◌∷◌, None, Some, Option, length, map, refl, sym, ap, subst}
use Rattle.std.specs.Prelude.{filter, if◌then◌else◌, is_some, not, position}
use Rattle.std.specs.List.{list_any, position_from}
use Rattle.std.specs.Option.{option_map_or}
use Rattle.std.proofs.lemmas.Bool.{ltb-false, not_from_true}
use Rattle.std.proofs.lemmas.Iterator.Adapters.{position_from-zero}
use Rattle.std.proofs.lemmas.List.Elements.{All-contains_itself, All-weaker}
use Rattle.hc_records.specs.declared.edit.Edit.{Edit}
use Rattle.hc_records.specs.Boundaries.{recut}
use Rattle.hc_records.specs.Line.{Member, State, groups_of, line}
use Rattle.hc_records.specs.declared.faults.EditFault.TheVariants.{EpochsSpent}
use Rattle.hc_records.specs.declared.limits.TheConstants.{MOST_SLAVES}
use Rattle.hc_records.specs.declared.records.Declared.{Declared}
use Rattle.hc_records.specs.declared.records.Group.{Group}
use Rattle.hc_records.specs.Edits.{declaring_faults}
use Rattle.hc_records.specs.Lists.{lowest}
use Rattle.hc_records.specs.Project.{area_names, entry_names, lowest_fault, pdo_names, slave_names, slaves_of}
use Rattle.hc_records.proofs.lemmas.Lists.{none-holds}
use Rattle.std.proofs.lemmas.List.{length-map}
use Rattle.hc_cuts.specs.Starts.{TaskCuts}
use Rattle.hc_cuts.specs.Areas.{areas_by_rank, present_areas}
use Rattle.hc_cuts.specs.TaskCuts.{line_cuts}
use Rattle.hc_records.specs.Area.{Entry}
use Rattle.hc_records.specs.declared.records.Area.{Area}
use Rattle.hc_records.specs.declared.records.Pdo.{Pdo}
use Rattle.hc_records.specs.declared.records.Slave.{Slave}
use Rattle.hc_records.proofs.lemmas.Declaring.{any-flat, same-recut, any-same}
use Rattle.hc_registers.specs.Blocks.{LineBlock, line_blocks, moved_blocks, same_block}
use Rattle.hc_records.specs.Image.{VariablePlace}
use Rattle.hc_records.proofs.lemmas.Spans.{filter-drops}
use Rattle.hc_registers.specs.Ranked.{RankedBlock, moved_ranked}
use Rattle.hc_registers.proofs.lemmas.RanksMoved.{ranked-are-moved}
use Rattle.hc_places.specs.Swap.{LeadsAsSaid, SaysWhatDiffers, changed_variables, same_found}
use Rattle.hc_places.specs.Table.{Table, place_in, table_of}
use Rattle.hc_places.proofs.lemmas.Same.{found-same}
use Rattle.hc_changes.proofs.lemmas.Moved.{had}
use Rattle.hc_plan.specs.declared.report.Report.{Report}
use Rattle.hc_plan.specs.inner.Declaring.{AreAlike, AreTrees, ShowsNothing}
use Rattle.hc_plan.specs.Reports.{found_name}
use Rattle.hc_plan.proofs.Saying.{is-table}

-- no block of a line moves to the same line
none-moved : (line : List Member) → moved_blocks line line ≡ []
none-moved line =
    let blocks = line_blocks line in
    filter-drops (λ block. not (list_any (same_block block) blocks)) blocks
    (All-weaker (Contains blocks) (λ block. not (list_any (same_block block) blocks) ≡ false) (λ block at. not_from_true (list_any (same_block block) blocks) (had blocks block at)) blocks
    (All-contains_itself blocks))

-- no block moves between lines that are configured alike
alike-moved : (old new : List Member) → AreAlike old new → moved_blocks old new ≡ []
alike-moved old new same =
    ap (filter (λ (block : LineBlock). not (list_any (same_block block) (line_blocks old)))) same.blocks ∙ none-moved old

-- the same line is configured alike
pub line-alike : (old new : List Member) → new ≡ old → AreAlike old new
line-alike old new same = record { table = ap table_of same; recut = ap (recut old) same ∙ same-recut old; blocks = ap line_blocks same }

-- nothing differs between a table and itself
says-nothing : (table : Table) → SaysWhatDiffers table table (record { tasks = []; rows = [] })
says-nothing table = record {
  tasks = λ task. refl;
  places = λ variable. nothing (place_in table variable);
}
  where
    nothing : (place : Option VariablePlace) → None ≡ (if same_found place place then None else Some place)
    nothing place = rw (found-same place place refl) refl

-- what a report of a line that is configured alike says
pub shows-nothing : (old : State) (edit : Edit) (report : Report) → lowest_fault (groups_of old.groups) ≡ None → report.epoch ≡ old.epoch + 1 → report.recut ≡ 0 → report.moved ≡ 0 → report.blocks ≡ []
    → report.swap.edit ≡ edit → LeadsAsSaid (record { tasks = []; rows = [] }) report.swap → ShowsNothing old edit report
shows-nothing old edit report project epoch recut_none moved_none blocks_none named said new same later =
    let table = table_of (line old) in
    let leads = said table table (is-table old.groups project) (is-table old.groups project) (says-nothing table) in
    record {
      epoch = epoch ∙ sym later;
      recut = recut_none ∙ sym same.recut;
      moved = moved_none ∙ sym (ap length (alike-moved (line old) (line new) same));
      blocks = blocks_none ∙ sym (ap (map found_name) (alike-moved (line old) (line new) same));
      named = named;
      leads = leads.leads ∙ sym same.table;
      says = subst (λ (t : Table). SaysWhatDiffers table t report.swap.change) (sym same.table) leads.says;
      places = leads.count ∙ ap (λ (t : Table). length (changed_variables table t)) (sym same.table);
    }

unmapped : {X Y : Type 0} (f : X → Y) (xs : List X) → map f xs ≡ [] → xs ≡ []
unmapped f [] none = refl
unmapped f (x ∷ xs) none = cc

pub none-ranked : (old new : List Member) → AreAlike old new → moved_ranked old new ≡ []
none-ranked old new same = unmapped (λ (block : RankedBlock). block.found) (moved_ranked old new) (ranked-are-moved old new ∙ alike-moved old new same)

-- the variables that slaves offer, one by one

found-names : (test : ℕ → Bool) (entries : List Entry) → list_any test (entry_names entries) ≡ list_any (λ entry. option_map_or test entry.0 false) entries
found-names test [] = refl
found-names test ((None, bits) ∷ entries) = found-names test entries
found-names test ((Some name, bits) ∷ entries) = ap (λ (b : Bool). test name || b) (found-names test entries)

abbrev pub pdos_take : (ℕ → Bool) → List Pdo → Bool
pdos_take test pdos = list_any (λ pdo. list_any (λ entry. option_map_or test entry.0 false) pdo.entries) pdos

pdos-taken : (test : ℕ → Bool) (pdos : List Pdo) → list_any test (pdo_names pdos) ≡ pdos_take test pdos
pdos-taken test pdos =
    any-flat test (λ (pdo : Pdo). entry_names pdo.entries) pdos
    ∙ any-same (λ (pdo : Pdo). list_any test (entry_names pdo.entries)) (λ pdo. list_any (λ entry. option_map_or test entry.0 false) pdo.entries) (λ pdo. found-names test pdo.entries) pdos

areas-taken : (test : ℕ → Bool) (areas : List Area) → list_any test (area_names areas) ≡ list_any (λ area. pdos_take test area.offered) areas
areas-taken test areas =
    any-flat test (λ (area : Area). pdo_names area.offered) areas
    ∙ any-same (λ (area : Area). list_any test (pdo_names area.offered)) (λ area. pdos_take test area.offered) (λ area. pdos-taken test area.offered) areas

pub slaves-taken : (test : ℕ → Bool) (slaves : List Slave) → list_any (λ slave. list_any (λ area. pdos_take test area.offered) slave.areas) slaves ≡ list_any test (slave_names slaves)
slaves-taken test slaves =
    sym (any-flat test (λ (slave : Slave). area_names slave.areas) slaves
    ∙ any-same (λ (slave : Slave). list_any test (area_names slave.areas)) (λ slave. list_any (λ area. pdos_take test area.offered) slave.areas) (λ slave. areas-taken test slave.areas) slaves)

-- a group is found if one passes the test

found-by : (passes : Bool) (first : ℕ) (rest : Option ℕ) (others : Bool) → is_some rest ≡ others → is_some (if passes then Some first else rest) ≡ (passes || others)
found-by true first rest others same = refl
found-by false first rest others same = same

found-from : {X : Type 0} (test : X → Bool) (first : ℕ) (xs : List X) → is_some (position_from test first xs) ≡ list_any test xs
found-from test first [] = refl
found-from test first (x ∷ xs) = found-by (test x) first (position_from test (first + 1) xs) (list_any test xs) (found-from test (first + 1) xs)

pub found-any : {X : Type 0} (test : X → Bool) (xs : List X) → is_some (position test xs) ≡ list_any test xs
found-any test xs = ap is_some (position_from-zero test xs) ∙ found-from test 0 xs

-- the number of declared slaves

ranks-length : (groups : List Declared) → length (areas_by_rank groups) ≡ length (slaves_of (groups_of groups))
ranks-length [] = refl
ranks-length (declared ∷ groups) =
    length-append (present_areas declared) (areas_by_rank groups)
    ∙ ap (λ (n : ℕ). n + length (areas_by_rank groups)) (length-map declared.group.slaves (λ slave. if declared.present then slave.areas else []))
    ∙ ap (λ (n : ℕ). length declared.group.slaves + n) (ranks-length groups)
    ∙ sym (length-append declared.group.slaves (slaves_of (groups_of groups)))

pub many-ranks : (groups indexed : List Declared) → indexed ≡ groups → length (slaves_of (groups_of indexed)) ≡ length (areas_by_rank groups)
many-ranks groups indexed same = ap (λ (g : List Declared). length (slaves_of (groups_of g))) same ∙ sym (ranks-length groups)

-- with those of a group that may be declared they are few enough
pub free-few : (groups : List Declared) (group : Group) → lowest (declaring_faults groups group) ≡ None → length (areas_by_rank groups) + length group.slaves ≤ MOST_SLAVES
free-few groups group none =
    let few = none-holds (declaring_faults groups group) none 5 (false, EpochsSpent) (omega arith) in
    let most = ltb-false MOST_SLAVES (length (slaves_of (groups_of groups)) + length group.slaves) few in
    let count = ranks-length groups in
    omega (arith, most, count)

pub own-trees : (tasks : List TaskCuts) (groups : List Declared) (slaves : ℕ) (wider : Option (List TaskCuts)) → tasks ≡ line_cuts (areas_by_rank groups) → AreTrees tasks slaves wider → AreTrees (line_cuts (areas_by_rank groups)) slaves wider
own-trees tasks groups slaves wider is trees = subst (λ (t : List TaskCuts). AreTrees t slaves wider) is trees
