-- A preview, by the datagrams that the table lists.
use Rattle.std.proofs.Common.{◌≡◌, ◌∙◌, ◌<◌, ℕ, Bool, true, false, cond, List, refl, sym, ap, length, get_or}
use Rattle.std.specs.Prelude.{None, Some, nat_lt, ◌&&◌}
use Rattle.std.proofs.lemmas.Bool.{and_parts, ltb-true}
use Rattle.hc_records.specs.Line.{State, groups_of, line}
use Rattle.hc_records.specs.Project.{lowest_fault}
use Rattle.hc_places.specs.declared.table.Datagram.{Datagram}
use Rattle.hc_places.specs.Table.{datagrams_in, table_of}
use Rattle.hc_events.specs.Sendings.{Named, frame_of_one, line_data_length}
use Rattle.hc_events.specs.Steps.{serials_left}
use Rattle.hc_sendings.specs.Previews.{preview_in}
use Rattle.hc_sendings.proofs.lemmas.Listed.{listed-count, listed-length}

if-sendable : (sendable : Bool) (serial : ℕ) (datagram : Named) (own listed : ℕ) → (sendable ≡ true → own ≡ listed)
    → cond sendable (Some (frame_of_one serial datagram own)) None ≡ cond sendable (Some (frame_of_one serial datagram listed)) None
if-sendable true serial datagram own listed same = ap (λ (n : ℕ). Some (frame_of_one serial datagram n)) (same refl)
if-sendable false serial datagram own listed same = refl

pub preview-listed : (state : State) (serial task d : ℕ) (datagrams : List Datagram) (other : Datagram) (sendable : Bool) → lowest_fault (groups_of state.groups) ≡ None
    → datagrams ≡ datagrams_in (table_of (line state)) task → sendable ≡ (nat_lt d (length datagrams) && serials_left serial 1)
    → preview_in (line state) serial task d ≡ cond sendable (Some (frame_of_one serial (task, d) (get_or datagrams d other).length)) None
preview-listed state serial task d datagrams other sendable none is answer_given =
    let own = line_data_length (line state) (task, d) in
    ap (λ (n : ℕ). cond (nat_lt d n && serials_left serial 1) (Some (frame_of_one serial (task, d) own)) None) (sym (listed-count state task datagrams none is))
    ∙ ap (λ (b : Bool). cond b (Some (frame_of_one serial (task, d) own)) None) (sym answer_given)
    ∙ if-sendable sendable serial (task, d) own (get_or datagrams d other).length
    (λ yes.
    let inside : d < length datagrams = ltb-true d (length datagrams) (and_parts (nat_lt d (length datagrams)) (serials_left serial 1) (sym answer_given ∙ yes)).0 in
    sym (listed-length state task d datagrams other none is inside))
