-- A copy shows what is read, and a value is the last good answer's.
use Rattle.std.proofs.Common.{◌≡◌, ℕ, ◌==◌, not, Bool, true, false, List, [], ◌∷◌, map, refl, sym, ap, ◌∙◌, subst, Option, Some, None, Ok, Err}
use Rattle.std.specs.Prelude.{is_none, unwrap_or}
use Rattle.std.specs.Option.{option_map_or}
use Rattle.std.proofs.lemmas.Bool.{eqb-true, not-false}
use Rattle.hc_records.specs.declared.records.Dir.{Dir}
use Rattle.hc_records.specs.declared.records.Dir.TheVariants.{In, Out}
use Rattle.hc_records.specs.Image.{VariablePlace, variable_place}
use Rattle.hc_records.specs.Keys.{same_dir}
use Rattle.hc_records.specs.Lists.{lowest}
use Rattle.hc_records.proofs.lemmas.Choices.{itself}
use Rattle.hc_places.specs.Table.{Table, part_in, place_in}
use Rattle.hc_events.specs.declared.change.Change.{Change}
use Rattle.hc_events.specs.Accepted.{AreAccepted}
use Rattle.hc_events.specs.Changes.{updates_of, update_in}
use Rattle.hc_events.specs.Entries.{History}
use Rattle.hc_events.specs.Images.{slot_of}
use Rattle.hc_events.specs.UpdatesLaws.{IsLastAnswer, LeadsToHistory}
use Rattle.hc_events.specs.Points.{line_of, opened_with}
use Rattle.hc_events.proofs.lemmas.Changes.{changes-decide, changes-say_all}
use Rattle.hc_events.proofs.lemmas.Views.{views-are_reads}
use Rattle.hc_publish.specs.declared.view_faults.ViewFault.TheVariants.{IsOutput, OtherTask, NotAnswered}
use Rattle.hc_publish.specs.Laws.{IsLastValue, ShowsHistory}
use Rattle.hc_publish.specs.ChangesSince.{IsLegal, ChangesSince, data_shown, table_shown}
use Rattle.hc_publish.specs.Values.{data_at, number_at, value_by, value_shown, value_with}
use Rattle.hc_publish.proofs.Legal.{place-shown, table-places}

same_value : (slots other : ℕ → ℕ → Option (List ℕ)) → ((task d : ℕ) → slots task d ≡ other task d) → (task : ℕ) (place : Option VariablePlace) → value_by slots task place ≡ value_by other task place
same_value slots other same task None = refl
same_value slots other same task (Some place) = ap (value_with task (Some place)) (same place.task place.datagram)

pub shows-history : (history : History) (changes : List Change) → AreAccepted history → IsLegal (record { groups = opened_with history; changes = changes }) → map update_in changes ≡ updates_of history
    → ShowsHistory history (record { groups = opened_with history; changes = changes })
shows-history history changes accepted legal updates =
    let changes_since : ChangesSince = record { groups = opened_with history; changes = changes } in
    let says : LeadsToHistory (opened_with history) history changes = changes-say_all history changes accepted legal updates in
    let there : (variable : ℕ) → place_in (table_shown changes_since) variable ≡ variable_place variable (line_of history) =
    λ variable. ap (λ (table : Table). place_in table variable) says.table ∙ table-places (line_of history) variable in
    record {
      epoch = says.epoch;
      places = there;
      tasks = λ task. record {
        part = ap (λ (table : Table). part_in table task) says.table;
        data_are = says.slots task;
        values = λ variable.
            same_value (data_shown changes_since) (slot_of history) says.slots task (place_in (table_shown changes_since) variable)
            ∙ ap (value_by (slot_of history) task) (there variable);
        reads = λ low. views-are_reads history changes task accepted legal updates low;
      };
    }

-- a number that is reported

record IsNumber (task : ℕ) (place : Option VariablePlace) (bytes : Option (List ℕ)) (number : ℕ) : Type 0 where
  found : VariablePlace
  there : place ≡ Some found
  input : found.dir ≡ In
  own : found.task ≡ task
  own_data : List ℕ
  has : bytes ≡ Some own_data
  value : number ≡ number_at own_data found

is_input : (dir : Dir) → same_dir dir Out ≡ false → dir ≡ In
is_input Out is = cc
is_input In is = refl

number_in : (out other : Bool) (task : ℕ) (place : VariablePlace) (bytes : Option (List ℕ)) (number : ℕ) → same_dir place.dir Out ≡ out → not (place.task == task) ≡ other
    → option_map_or (λ fault. Err fault) (lowest ((out, IsOutput) ∷ (other, OtherTask) ∷ (is_none bytes, NotAnswered) ∷ [])) (Ok (number_at (unwrap_or bytes []) place)) ≡ Ok number
    → IsNumber task (Some place) bytes number
number_in true other task place bytes number out_is other_is e = cc
number_in false true task place bytes number out_is other_is e = cc
number_in false false task place None number out_is other_is e = cc
number_in false false task place (Some bytes) number out_is other_is e = record {
  found = place;
  there = refl;
  input = is_input place.dir out_is;
  own = eqb-true place.task task (not-false (place.task == task) other_is);
  own_data = bytes;
  has = refl;
  value = cc;
}

number-changes_since : (task : ℕ) (place : Option VariablePlace) (bytes : Option (List ℕ)) (number : ℕ) → value_with task place bytes ≡ Ok number → IsNumber task place bytes number
number-changes_since task None bytes number e = cc
number-changes_since task (Some place) bytes number e = number_in (same_dir place.dir Out) (not (place.task == task)) task place bytes number refl refl e

answered_number : (place : VariablePlace) (bytes : List ℕ) → place.dir ≡ In → value_with place.task (Some place) (Some bytes) ≡ Ok (number_at bytes place)
answered_number place bytes input = rw (input, itself place.task) refl

pub value-changes_since : (changes_since : ChangesSince) (task variable number : ℕ) → IsLegal changes_since → value_shown changes_since task variable ≡ Ok number → IsLastValue changes_since task variable number
value-changes_since changes_since task variable number legal is =
    let slots = data_shown changes_since in
    let place = place_in (table_shown changes_since) variable in
    let one = number-changes_since task place (data_at slots place) number is in
    let found = one.found in
    let has : slots found.task found.datagram ≡ Some one.own_data = sym (ap (data_at slots) one.there) ∙ one.has in
    record {
      place = found;
      there = sym (place-shown changes_since variable legal) ∙ one.there;
      input = one.input;
      own = one.own;
      bytes = one.own_data;
      last = subst (λ (t : ℕ). IsLastAnswer t found.datagram one.own_data (map update_in changes_since.changes)) one.own
          (((changes-decide changes_since.groups changes_since.changes legal).slots found.task found.datagram one.own_data).0 has);
      value = one.value;
    }

pub last-value_answered : (changes_since : ChangesSince) (task variable number : ℕ) → IsLegal changes_since → IsLastValue changes_since task variable number → value_shown changes_since task variable ≡ Ok number
last-value_answered changes_since task variable number legal one =
    let slots = data_shown changes_since in
    let found = one.place in
    let last : IsLastAnswer found.task found.datagram one.bytes (map update_in changes_since.changes) =
    subst (λ (t : ℕ). IsLastAnswer t found.datagram one.bytes (map update_in changes_since.changes)) (sym one.own) one.last in
    let has : slots found.task found.datagram ≡ Some one.bytes = ((changes-decide changes_since.groups changes_since.changes legal).slots found.task found.datagram one.bytes).1 last in
    ap (value_by slots task) (place-shown changes_since variable legal ∙ one.there)
    ∙ ap (value_with task (Some found)) has
    ∙ ap (λ (t : ℕ). value_with t (Some found) (Some one.bytes)) (sym one.own)
    ∙ answered_number found one.bytes one.input
    ∙ ap Ok (sym one.value)
