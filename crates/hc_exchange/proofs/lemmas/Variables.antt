-- The variables of a line by the pairs of its areas.
use Rattle.std.proofs.Common.{◌≡◌, ℕ, ◌+◌, ◌-◌, ◌*◌, ◌∙◌, inl, inr, Option, Some, None, List, [], ◌∷◌, ◌++◌, refl, sym, ap, ap₂, subst, arith}
use Rattle.std.specs.Prelude.{All, Contains, find, map, nat_lt, slice_get, slice_index_or, ◌==◌, ◌&&◌}
use Rattle.std.specs.List.{enumerate_from, flat_map}
use Rattle.std.specs.Option.{option_map_or}
use Rattle.std.proofs.lemmas.Bool.{and_parts, eqb-true}
use Rattle.std.proofs.lemmas.List.{map-append}
use Rattle.std.proofs.lemmas.List.Elements.{All-contains, All-contains_itself, All-map, Contains-get_or}
use Rattle.hc_records.specs.declared.keys.Key.{Key}
use Rattle.hc_records.specs.declared.records.Dir.{Dir}
use Rattle.hc_records.specs.Area.{Entry, assigned_entries, entry_bits, width}
use Rattle.hc_records.specs.Image.{VariablePlace, area_variables, logical_address, task_places, task_variables, tasks, variables_from}
use Rattle.hc_records.specs.Keys.{same_dir}
use Rattle.hc_records.specs.Line.{Member, State, line}
use Rattle.hc_records.specs.Packing.{Placed}
use Rattle.hc_records.specs.TaskList.{Listed, task_areas}
use Rattle.hc_records.proofs.lemmas.Entries.{task-areas-all}
use Rattle.hc_records.proofs.lemmas.Finds.{all-tasks, found-all, mapped-some}
use Rattle.hc_records.proofs.lemmas.Lists.{All-flat_map}
use Rattle.hc_records.proofs.lemmas.Variables.{IsEntryVariable, IsPlaced, entry-variables, pairs-placed, place_of, task_pairs, zip-left, zip-right}
use Rattle.hc_records.proofs.lemmas.VariablePlaces.{same_dir-same}
use Rattle.hc_registers.specs.Blocks.{mapping_at}
use Rattle.hc_exchange.specs.PairLaws.{IsConfigurable}
use Rattle.hc_exchange.specs.Pairs.{member_area_key}
use Rattle.hc_plan.proofs.lemmas.AreaKeys.{one-key}
use Rattle.hc_plan.proofs.lemmas.Elements.{contains-unmapped, numbered-at}
use Rattle.hc_exchange.proofs.lemmas.Listed.{areas-mapped}
use Rattle.hc_exchange.proofs.lemmas.Places.{found-passes}
use Rattle.hc_exchange.specs.Variables.{IsCarried, VariablesAreCarried}

-- entries that begin later begin their variables as much later

abbrev pub Found : Type 0
Found = ℕ × (ℕ × ℕ)

later : ℕ → Found → Found
later by found = (found.0, (by + found.1.0, found.1.1))

named-later : (by : ℕ) (variable : Option ℕ) (bit bits : ℕ)
    → option_map_or (λ v. (v, (by + bit, bits)) ∷ []) variable [] ≡ map (later by) (option_map_or (λ v. (v, (bit, bits)) ∷ []) variable [])
unfolding later
named-later by None bit bits = refl
named-later by (Some v) bit bits = refl

variables-later : (by bit : ℕ) (entries : List Entry) → variables_from (by + bit) entries ≡ map (later by) (variables_from bit entries)
variables-later by bit [] = refl
variables-later by bit (entry ∷ entries) =
    let first = option_map_or (λ v. (v, (bit, entry.1)) ∷ []) entry.0 [] in
    let same : by + bit + entry.1 ≡ by + (bit + entry.1) = omega arith in
    ap₂ (λ (a b : List Found). a ++ b) (named-later by entry.0 bit entry.1) (ap (λ (n : ℕ). variables_from n entries) same ∙ variables-later by (bit + entry.1) entries)
    ∙ sym (map-append (later by) first (variables_from (bit + entry.1) entries))

-- an area of a task by the slave whose it is
record IsListed (line : List Member) (task : ℕ) (listed : Listed) : Type 0 where
  member : Member
  index : ℕ
  in_line : Contains line member
  found : slice_get member.slave.areas index ≡ Some listed.area
  task_is : listed.area.task ≡ task
  key : listed.key ≡ member_area_key member index listed.area

all-listed : (line : List Member) (task : ℕ) → All (IsListed line task) (task_areas task line)
all-listed line task =
    task-areas-all (IsListed line task) task line
    (λ dir j d low i e within belonging.
    let member = slice_index_or line j d in
    let element = slice_index_or (enumerate_from 0 member.slave.areas) i e in
    let numbered = numbered-at 0 member.slave.areas i e within in
    let none : element.0 ≡ element.0 - 0 = omega arith in
    let area = element.1 in
    let first = and_parts ((area.task == task) && same_dir area.dir dir) (nat_lt 0 (width area)) belonging in
    let tests = and_parts (area.task == task) (same_dir area.dir dir) first.0 in
    record {
      member = member;
      index = element.0;
      in_line = Contains-get_or line j d low;
      found = ap (slice_get member.slave.areas) none ∙ numbered.1;
      task_is = eqb-true area.task task tests.0;
      key = ap (λ (way : Dir). key-with way member.rank element.0) (sym (same_dir-same area.dir dir tests.1));
    })
  where
    key-with : Dir → ℕ → ℕ → Key
    key-with way rank number = record { dir = way; rank = rank; area = number }

-- a variable of an area that is in a task
carried-at : (state : State) (task : ℕ) (pair : Listed × Placed) (v : ℕ) (bit bits : ℕ) → IsConfigurable state → IsListed (line state) task pair.0 → IsPlaced pair
    → Contains (task_places task (line state)) pair.1 → Contains (variables_from pair.1.bit (assigned_entries pair.0.area)) (v, (bit, bits))
    → IsCarried (line state) v (place_of task pair (v, (bit, bits)))
unfolding later
carried-at state task pair v bit bits can source placed in_task found =
    let members = line state in
    let area = pair.0.area in
    let entries = assigned_entries area in
    let start : variables_from pair.1.bit entries ≡ map (later pair.1.bit) (variables_from 0 entries) =
    ap (λ (n : ℕ). variables_from n entries) (sym (plain pair.1.bit)) ∙ variables-later pair.1.bit 0 entries in
    let own = contains-unmapped (later pair.1.bit) (variables_from 0 entries) (v, (bit, bits)) (subst (λ (list : List Found). Contains list (v, (bit, bits))) start found) in
    let entry = own.0 in
    let number : entry.0 ≡ v = ap (λ (f : Found). f.0) own.2 in
    let first : pair.1.bit + entry.1.0 ≡ bit = ap (λ (f : Found). f.1.0) own.2 in
    let size : entry.1.1 ≡ bits = ap (λ (f : Found). f.1.1) own.2 in
    let inside = All-contains (IsEntryVariable (λ n. n ≡ n) 0 (0 + entry_bits entries)) (variables_from 0 entries) entry (entry-variables (λ n. n ≡ n) 0 entries (λ k d within. refl)) own.1 in
    let to = inside.to in
    elim (areas-mapped state source.member source.index area can source.in_line source.found) [
      | inr none ↦ record {
        member = source.member;
        index = source.index;
        area = area;
        offset = entry.1.0;
        in_line = source.in_line;
        in_record = source.found;
        entry = subst (λ (f : Found). Contains (variables_from 0 entries) f) (triple v bits entry number size) own.1;
        pairs = λ k low. let empty = none.0 in absurd (omega arith);
      }
      | inl mapped ↦
          let in_place = mapped.1 in
          let q = in_place.placed in
          let there : Contains (task_places task members) q = subst (λ (t : ℕ). Contains (task_places t members) q) source.task_is in_place.in_task in
          let equal : q ≡ pair.1 = one-key state task q pair.1 there in_task (in_place.key ∙ sym source.key ∙ sym placed.key) in
          let address : 8 * logical_address area.task q.datagram + q.bit ≡ 8 * logical_address task pair.1.datagram + pair.1.bit =
          ap₂ (λ (t : ℕ) (p : Placed). 8 * logical_address t p.datagram + p.bit) source.task_is equal in
          record {
            member = source.member;
            index = source.index;
            area = area;
            offset = entry.1.0;
            in_line = source.in_line;
            in_record = source.found;
            entry = subst (λ (f : Found). Contains (variables_from 0 entries) f) (triple v bits entry number size) own.1;
            pairs = λ k low. record {
              areas = record {
                member = source.member;
                index = source.index;
                area = area;
                mapping = mapping_at area.task q;
                station_is = refl;
                is_mapped = record { in_line = source.in_line; in_record = source.found; mapped = in_place.mapped };
                pair = record {
                  k = entry.1.0 + k;
                  below = omega arith;
                  logical = logical-bit (8 * logical_address task pair.1.datagram) pair.1.bit bit entry.1.0 k (8 * logical_address area.task q.datagram + q.bit) first address;
                  memory = sym (joined (8 * area.phys) entry.1.0 k);
                };
              };
              direction = refl;
            };
          }
    ]
  where
    plain : (n : ℕ) → n + 0 ≡ n
    plain n = omega arith

    joined : (a b k : ℕ) → a + (b + k) ≡ a + b + k
    joined a b k = omega arith

    triple : (v bits : ℕ) (entry : Found) → entry.0 ≡ v → entry.1.1 ≡ bits → entry ≡ (v, (entry.1.0, bits))
    triple v bits entry is is' = ap₂ (λ (a b : ℕ). (a, (entry.1.0, b))) is is'

    logical-bit : (address start bit offset k own : ℕ) → start + offset ≡ bit → own ≡ address + start → address + bit + k ≡ own + (offset + k)
    logical-bit address start bit offset k own is is' = omega arith

all-carried : (state : State) → IsConfigurable state → All (λ (f : ℕ × VariablePlace). IsCarried (line state) f.0 f.1) (flat_map (task_variables (line state)) tasks)
all-carried state can =
    let members = line state in
    let carried = λ (f : ℕ × VariablePlace). IsCarried members f.0 f.1 in
    All-flat_map carried (task_variables members) tasks
    (all-tasks (λ task. All carried (task_variables members task))
    (λ task low.
    let areas = task_areas task members in
    let places = task_places task members in
    All-flat_map carried (area_variables task) (task_pairs members task)
    (λ k d within.
    let pair = slice_index_or (task_pairs members task) k d in
    let source = zip-left (IsListed members task) areas places (all-listed members task) k d within in
    let there = zip-right (Contains places) areas places (All-contains_itself places) k d within in
    let entries = assigned_entries pair.0.area in
    All-map carried (λ (found : Found). (found.0, place_of task pair found)) (variables_from pair.1.bit entries)
    (λ i e inside.
    let found = slice_index_or (variables_from pair.1.bit entries) i e in
    carried-at state task pair found.0 found.1.0 found.1.1 can source (pairs-placed members task k d within) there (Contains-get_or (variables_from pair.1.bit entries) i e inside)))))

pub variables-carried : VariablesAreCarried
variables-carried state variable place can is =
    let members = line state in
    let all = flat_map (task_variables members) tasks in
    let found = mapped-some (λ (f : ℕ × VariablePlace). f.1) (find (λ f. f.0 == variable) all) place is in
    let number : found.0.0 ≡ variable = eqb-true found.0.0 variable (found-passes (λ (f : ℕ × VariablePlace). f.0 == variable) all found.0 found.1) in
    let own = found-all (λ (f : ℕ × VariablePlace). IsCarried members f.0 f.1) (λ f. f.0 == variable) all found.0 (all-carried state can) found.1 in
    subst (λ (n : ℕ). IsCarried members n place) number (subst (IsCarried members found.0.0) found.2 own)
