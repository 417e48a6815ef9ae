use Rattle.std.proofs.Common.{◌≡◌, ◌∙◌, ap, sym, subst, refl, List, ℕ, Some, Err}
use Rattle.hc_records.specs.declared.edit.Edit.{Edit}
use Rattle.hc_records.specs.declared.edit.Edit.TheVariants.{Remap}
use Rattle.hc_records.specs.declared.records.Declared.{Declared}
use Rattle.hc_records.specs.Edits.{edited}
use Rattle.hc_records.specs.Line.{State}
use Rattle.hc_groups.specs.Edits.{own_fault}
use Rattle.hc_groups.proofs.lemmas.Refusals.{own-refuses}
use Rattle.hc_events.specs.Points.{state_of}
use Rattle.hc_c.specs.Edits.{Serves, edit_number}
use Rattle.hc_c.specs.Embedded.{embedded_history}
use Rattle.hc_c.proofs.Refusals.{not_done, own-found, same_fault}
use Rattle.hc_c.proofs.editing.serve_remap.Goals as goal

pub returns-in-Some : goal.returns-in-Some
returns-in-Some c =
    let state : State = state_of (embedded_history c.args.own.now) in let fault = c.in-Some.fault in let number = c.refuse.ensures.number in
    let edit : Edit = Remap c.args.station c.args.area c.args.pdos.now in
    let groups : c.plan.result.now.groups ≡ state.groups = ap (λ (it : State). it.groups) c.plan.ensures.state in
    let found : own_fault state.groups edit ≡ Some fault = sym (c.in-Some.ensures ∙ ap (λ (it : List Declared). own_fault it edit) groups) in
    let refused : edited state edit ≡ Err fault = own-refuses state edit fault found in
    record {
      answer = λ other. number ∙ sym (ap edit_number refused);
      own = own-found (own_fault state.groups edit) fault c.refuse.result number found;
      cost = λ is. absurd (not_done fault (sym number ∙ is));
      carried = λ is asks. absurd (not_done fault (sym number ∙ is));
      asked = λ asks. refl;
      refused = λ other. refl;
      unwritten = λ other crowds. c.refuse.ensures.unwritten crowds;
      crowds = λ task other is. c.refuse.ensures.crowds task (same_fault (sym refused ∙ is));
    }

pub returns-in-Ok : goal.returns-in-Ok
returns-in-Ok c =
    subst (λ (pdos : List ℕ). Serves c.args.own.now c.serve.new.own (Remap c.args.station c.args.area pdos) c.args.asks c.serve.result c.args.cost.now c.serve.new.cost)
    (c.of.ensures ∙ c.in-Ok.ensures.items) c.serve.ensures
