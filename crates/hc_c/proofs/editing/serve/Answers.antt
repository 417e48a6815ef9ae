use Rattle.std.proofs.Common.{◌∙◌, ap, sym, refl}
use Rattle.hc_groups.specs.Edits.{own_fault}
use Rattle.hc_events.specs.Points.{state_of}
use Rattle.hc_c.specs.declared.editing.Cost.{Cost}
use Rattle.hc_c.specs.Edits.{edit_number}
use Rattle.hc_c.specs.Embedded.{embedded_history}
use Rattle.hc_c.proofs.Refusals.{not_accepted, not_done, not_memory, own-accepted, own-refused, same_fault}
use Rattle.hc_c.proofs.editing.serve.Goals as goal

pub returns-in-Ok : goal.returns-in-Ok
returns-in-Ok c =
    let served = c.in-Ok.ensures in record {
      answer = λ _. sym (ap edit_number served.accepted);
      own = own-accepted (own_fault (state_of (embedded_history c.args.own.now)).groups c.args.edit.now) tt 0 served.own;
      cost = λ _. served.cost;
      carried = λ _ asks. served.carried asks;
      asked = λ asks. served.asked asks;
      refused = λ other. absurd (other refl);
      unwritten = λ other _. absurd (other refl);
      crowds = λ task other is. absurd (not_accepted (sym served.accepted ∙ is));
    }

pub returns-in-Err : goal.returns-in-Err
returns-in-Err c =
    let fault = c.in-Err.fault in let served = c.in-Err.ensures in let number = c.refuse.ensures.number in
    record {
      answer = λ other. number ∙ sym (ap edit_number (served.refused (not_memory fault (λ is. other (number ∙ is)))));
      own = own-refused _ (own_fault (state_of (embedded_history c.args.own.now)).groups c.args.edit.now) fault c.refuse.result number served.own;
      cost = λ is. absurd (not_done fault (sym number ∙ is));
      carried = λ is asks. absurd (not_done fault (sym number ∙ is));
      asked = λ asks. served.asked asks;
      refused = λ other. served.unchanged;
      unwritten = λ other crowds. c.refuse.ensures.unwritten crowds ∙ served.cost_stays;
      crowds = λ task other is.
          c.refuse.ensures.crowds task (same_fault (sym (served.refused (not_memory fault (λ it. other (number ∙ it)))) ∙ is))
          ∙ ap (λ (cost : Cost). record cost { crowded = task }) served.cost_stays;
    }
