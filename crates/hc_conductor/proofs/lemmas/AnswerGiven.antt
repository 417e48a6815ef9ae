-- What is shown, by its parts; and what the record says of it.
use Rattle.std.proofs.Common.{◌≡◌, ℕ, List, refl, sym, ap, ap₂, ◌∙◌, Option, Some, None, Ok, Err}
use Rattle.std.specs.Prelude.{IfErr, Result, option_and_then}
use Rattle.hc_records.specs.declared.records.Group.{Group}
use Rattle.hc_records.specs.Image.{VariablePlace}
use Rattle.hc_records.specs.Variables.{variable_of}
use Rattle.hc_places.specs.Table.{Table, place_in, table_of}
use Rattle.hc_events.specs.declared.change.Change.{Change}
use Rattle.hc_events.specs.Entries.{History}
use Rattle.hc_events.specs.Images.{slot_of}
use Rattle.hc_events.specs.Points.{line_of}
use Rattle.hc_publish.specs.Laws.{ShowsHistory}
use Rattle.hc_publish.specs.ChangesSince.{ChangesSince, data_shown, table_shown}
use Rattle.hc_publish.specs.Values.{value_by, value_with}
use Rattle.hc_images.proofs.lemmas.LaidOut.{place-of_line}
use Rattle.hc_conductor.specs.declared.one_thread.viewing.Viewed.{Viewed}
use Rattle.hc_conductor.specs.Viewing.{IsViewAfter, IsViewOf, viewed_place}

pub answer_given-same : (a b : ChangesSince) → a.groups ≡ b.groups → a.changes ≡ b.changes → a ≡ b
answer_given-same a b groups changes = ap₂ (λ (gs : List Group) (cs : List Change). record { groups = gs; changes = cs }) groups changes

pub err-weaker : {A E : Type 0} (r : Result A E) (P Q : E → Type 0) → ((e : E) → P e → Q e) → IfErr r P → IfErr r Q
err-weaker (Ok x) P Q weaker is = tt
err-weaker (Err e) P Q weaker is = weaker e is

value_alike : (f g : ℕ → ℕ → Option (List ℕ)) (task : ℕ) (place : Option VariablePlace) → ((t d : ℕ) → f t d ≡ g t d) → value_by f task place ≡ value_by g task place
value_alike f g task None same = refl
value_alike f g task (Some p) same = ap (λ (bytes : Option (List ℕ)). value_with task (Some p) bytes) (same p.task p.datagram)

place_alike : (a b : Table) (variable : Option ℕ) → ((v : ℕ) → place_in a v ≡ place_in b v) → option_and_then (place_in a) variable ≡ option_and_then (place_in b) variable
place_alike a b None same = refl
place_alike a b (Some v) same = same v

pub view-after_it : (history : History) (answer_given : ChangesSince) (task number : ℕ) (viewed : Viewed) → ShowsHistory history answer_given → IsViewOf answer_given task number viewed → IsViewAfter history task number viewed
view-after_it history answer_given task number viewed shows is = record {
  epoch = is.epoch ∙ shows.epoch;
  value =
      let places = place_alike (table_shown answer_given) (table_of (line_of history)) (variable_of number) (λ v. shows.places v ∙ sym (place-of_line (line_of history) v)) in
      is.value
      ∙ (value_alike (data_shown answer_given) (slot_of history) task (viewed_place (table_shown answer_given) number) (λ t d. (shows.tasks t).data_are d)
      ∙ ap (λ (place : Option VariablePlace). value_by (slot_of history) task place) places);
}
