use Rattle.std.proofs.Common.{◌≡◌, ◌∙◌, ap, arith, length, refl, subst, sym}
use Rattle.std.specs.Prelude.{Ok, Err}
use Rattle.std.proofs.lemmas.Result.{err_from_is_err_and}
use Rattle.hc_records.specs.Edits.{edited}
use Rattle.hc_records.specs.Line.{State, line}
use Rattle.hc_registers.specs.RankPlaces.{stations}
use Rattle.hc_places.specs.Table.{table_of}
use Rattle.hc_plan.specs.declared.report.Report.{Report}
use Rattle.hc_owed.specs.RegisterState.{RegisterState}
use Rattle.hc_events.specs.Points.{state_of}
use Rattle.hc_core.specs.Records.{history_read}
use Rattle.hc_core.specs.Agreement.{core_parts, state_in}
use Rattle.hc_core.specs.Prepared.{CanBeCarriedOut}
use Rattle.hc_core.specs.declared.prepared.PlannedEdit.{PlannedEdit}
use Rattle.hc_core.specs.State.{CoreState}
use Rattle.hc_core.proofs.Edits.{accepted-own, after-is, areas-declared, count-waiting, with-memory}
use Rattle.hc_core.proofs.Followed.{few-declared}
use Rattle.hc_core.proofs.keeping.Core.plan_edit.Goals as goal

pub edit_memory-requires-clause-few : goal.edit_memory-requires-clause-few
edit_memory-requires-clause-few c =
    let inside = c.self.inside in
    few-declared (state_of (history_read inside.history)) c.in_ok-prepared.prepared.new c.args.edit.now (length inside.owed.stations) c.self.invariant.project
    (subst (λ (state : State). edited state c.args.edit.now ≡ Ok c.in_ok-prepared.prepared.new) c.self.invariant.state c.in_ok-prepared.ensures.accepted)
    (ap (λ (register_state : RegisterState). length register_state.stations) c.self.invariant.known)

pub edit_memory-requires-clause-areas : goal.edit_memory-requires-clause-areas
edit_memory-requires-clause-areas c = areas-declared (core_parts c.self.inside) (history_read c.self.inside.history) (history_read c.self.inside.taken.value) c.self.invariant

pub returns-in_err-moves-clause-own : goal.returns-in_err-moves-clause-own
returns-in_err-moves-clause-own c =
    accepted-own (state_of c.args.self.now.history) c.args.edit.now c.in_ok-prepared.prepared.new _
    (subst (λ (core : CoreState). edited (state_of core.history) c.args.edit.now ≡ Ok c.in_ok-prepared.prepared.new) c.self.view_is
    (subst (λ (state : State). edited state c.args.edit.now ≡ Ok c.in_ok-prepared.prepared.new) c.self.invariant.state c.in_ok-prepared.ensures.accepted))

pub returns-clause-planned : goal.returns-clause-planned
returns-clause-planned c =
    let inside = c.self.inside in
    let history = history_read inside.history in
    let taken = history_read inside.taken.value in
    let room = c.in_ok-moves.ensures.room in
    let waiting = count-waiting taken history inside.changes.items c.self.invariant.shows in
    let made = c.in_ok-prepared.ensures.made ∙ c.self.invariant.state in
    let table = c.places.ensures.table ∙ ap (λ (state : State). table_of (line state)) (c.in_ok-prepared.ensures.unchanged ∙ c.self.invariant.state) in
    let known = ap (λ (register_state : RegisterState). length register_state.stations) c.self.invariant.known ∙ ap (λ (state : State). length (stations state)) (sym made) in
    let planned : PlannedEdit = record { edit = c.in_ok-prepared.prepared; moves = c.in_ok-moves.moves; slaves = c.in_ok-moves.slaves; room = c.in_ok-moves.room } in
    subst (λ (core : CoreState). CanBeCarriedOut core planned) c.self.view_is
    (with-memory (state_in inside) c.in_ok-prepared.prepared c.args.edit.now c.places.result.now c.report.result.now.swap c.in_ok-moves.moves (length inside.owed.stations) c.in_ok-moves.slaves c.in_ok-moves.room
    made c.in_ok-prepared.ensures.prepared c.in_ok-prepared.ensures.edit table (ap (λ (report : Report). report.swap) c.report.ensures.report) c.in_ok-moves.ensures.moves known
    c.in_ok-moves.ensures.slaves c.in_ok-moves.ensures.empty (omega (arith, room, waiting)))

pub returns-clause-accepted : goal.returns-clause-accepted
returns-clause-accepted c =
    let old = state_of c.args.self.now.history in
    let edit = c.args.edit.now in
    let new = c.in_ok-prepared.prepared.new in
    let accepted : edited old edit ≡ Ok new =
    subst (λ (core : CoreState). edited (state_of core.history) edit ≡ Ok new) c.self.view_is
    (subst (λ (state : State). edited state edit ≡ Ok new) c.self.invariant.state c.in_ok-prepared.ensures.accepted) in
    accepted ∙ ap Ok (sym (after-is old edit new accepted))

pub returns-clause-own : goal.returns-clause-own
returns-clause-own c =
    accepted-own (state_of c.args.self.now.history) c.args.edit.now c.in_ok-prepared.prepared.new _
    (subst (λ (core : CoreState). edited (state_of core.history) c.args.edit.now ≡ Ok c.in_ok-prepared.prepared.new) c.self.view_is
    (subst (λ (state : State). edited state c.args.edit.now ≡ Ok c.in_ok-prepared.prepared.new) c.self.invariant.state c.in_ok-prepared.ensures.accepted))

pub returns-in_err-prepared-clause-refused : goal.returns-in_err-prepared-clause-refused
returns-in_err-prepared-clause-refused c =
    let edit = c.args.edit.now in
    let fault = c.in_err-prepared.field-0.0 in
    let p = err_from_is_err_and c.from_residual.result c.from_residual.ensures.1 in
    rw (p.1, p.2) (λ other.
    subst (λ (core : CoreState). edited (state_of core.history) edit ≡ Err fault) c.self.view_is
    (subst (λ (state : State). edited state edit ≡ Err fault) c.self.invariant.state (c.in_err-prepared.ensures.refused other)))

pub returns-in_err-moves-clause-refused : goal.returns-in_err-moves-clause-refused
returns-in_err-moves-clause-refused c =
    let p = err_from_is_err_and c.from_residual-in_err-moves.result c.from_residual-in_err-moves.ensures.1 in
    rw (p.1, p.2) (λ other. absurd (other refl))
