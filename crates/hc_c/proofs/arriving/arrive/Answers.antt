use Rattle.std.proofs.Common.{◌∙◌, ◌<◌, List, ap, length, subst, sym}
use Rattle.std.specs.Prelude.{All}
use Rattle.hc_frames.specs.Arrived.{ArrivedDatagram, Reading, placed_from}
use Rattle.hc_places.specs.Table.{Table, table_of}
use Rattle.hc_records.specs.Line.{line}
use Rattle.hc_events.specs.declared.answer.Outcome as core
use Rattle.hc_events.specs.Faults.{core_fault_number}
use Rattle.hc_core.specs.State.{CoreState}
use Rattle.hc_c.specs.declared.embedded.Embedded.{Embedded}
use Rattle.hc_c.specs.Counts.{all_judged}
use Rattle.hc_c.specs.Lists.{put_first}
use Rattle.hc_c.specs.Returned.{IsInFrame, answered_as, arrival_out, counted_as}
use Rattle.hc_c.proofs.Arrives.{IsDone, done-arrives, fault-other, outcomes-few, refused-arrives, same_ok}
use Rattle.hc_c.proofs.InFrame.{in-frame}
use Rattle.hc_c.proofs.arriving.arrive.Goals as goal

pub returns-in-Err-clause-answer : goal.returns-in-Err-clause-answer
returns-in-Err-clause-answer c =
    refused-arrives c.args.own.now c.args.bytes.now c.in-Err.fault c.number.result c.args.outcomes.now c.args.arrival.now c.in-Err.ensures (c.number.ensures ∙ ap core_fault_number c.from.ensures)

pub returns-clause-answer : goal.returns-clause-answer
returns-clause-answer c =
    let own : Embedded = c.args.own.now in
    let bytes = c.args.bytes.now in
    let which = c.in-Ok-arrive_discarding.arrived in
    let list = c.arrive_discarding.new.outcomes.items in
    let state = c.plan.result.now in
    let table = table_of (line state) in
    let before = c.args.outcomes.now in
    let frame = c.in-Ok.ensures.1 in
    let parts = c.parts.ensures ∙ ap (λ (one : Reading). placed_from 16 one.parts) frame in
    let done : IsDone own.core.history c.arrive_discarding.new.self.history bytes which list state = record {
      none = c.in-Ok.ensures.0;
      answer = c.in-Ok-arrive_discarding.ensures.answer;
      entries = ap (λ (one : CoreState). one.history) c.in-Ok-arrive_discarding.ensures.entries;
      reachable = c.plan.ensures.reachable;
      state_is = c.plan.ensures.state;
      project = c.places-places.ensures.project;
      uncrowded = c.places-places.ensures.uncrowded;
    } in
    let counts = c.put_arrived.new.counts in
    done-arrives own (record own { core = c.arrive_discarding.new.self; counts = counts }) bytes which list state before c.put_arrived.new.out c.args.arrival.now c.arrival_out.result counts done
    (c.put_arrived.ensures.put
    ∙ ap (λ (one : Table). put_first (answered_as which one c.as_slice-found.result.now c.parts.result) before) c.places-places.ensures.table
    ∙ ap (λ (one : List core.Outcome). put_first (answered_as which table one c.parts.result) before) c.as_slice-found.ensures.value
    ∙ ap (λ (one : List ArrivedDatagram). put_first (answered_as which table list one) before) parts)
    (c.arrival_out.ensures
    ∙ ap (λ n. arrival_out which n c.serial.result) (ap length c.as_slice-found.ensures.value)
    ∙ ap (arrival_out which (length list)) (c.serial.ensures.value ∙ ap (λ (one : Reading). one.serial) frame))
    (c.put_arrived.ensures.counted
    ∙ ap (λ (one : Table). all_judged own.counts (counted_as which one c.as_slice-found.result.now c.parts.result)) c.places-places.ensures.table
    ∙ ap (λ (one : List core.Outcome). all_judged own.counts (counted_as which table one c.parts.result)) c.as_slice-found.ensures.value
    ∙ ap (λ (one : List ArrivedDatagram). all_judged own.counts (counted_as which table list one)) parts)
    (ap (λ (one : CoreState). let it : Embedded = record own { core = one; counts = counts } in it) c.in-Ok-arrive_discarding.ensures.entries)

pub put_arrived-requires : goal.put_arrived-requires
put_arrived-requires c =
    let is = c.parts.ensures ∙ ap (λ (frame : Reading). placed_from 16 frame.parts) c.in-Ok.ensures.1 in
    subst (All IsInFrame) (sym is) (in-frame c.args.bytes.now c.in-Ok.ensures.0)

pub arrival_out-requires : goal.arrival_out-requires
arrival_out-requires c =
    let list = c.arrive_discarding.new.outcomes.items in
    subst (λ (one : List core.Outcome). length one < 65536) (sym c.as_slice-found.ensures.value)
    (outcomes-few c.args.own.now.core.history c.args.bytes.now c.in-Ok-arrive_discarding.arrived list c.in-Ok.ensures.0 c.in-Ok-arrive_discarding.ensures.answer (in-frame c.args.bytes.now c.in-Ok.ensures.0) (λ tasks blocks. c.in-Ok-arrive_discarding.ensures.none (λ e. tasks (same_ok e)) (λ e. blocks (same_ok e))))

pub returns-in-Err-clause-busy : goal.returns-in-Err-clause-busy
returns-in-Err-clause-busy c = fault-other c.in-Err.fault c.number.result (c.number.ensures ∙ ap core_fault_number c.from.ensures)
