use Rattle.std.proofs.Common.{Bool, Result, Ok, Err, refl, subst, sym, arith}
use Rattle.hc_records.specs.declared.faults.ProjectFault.{ProjectFault}
use Rattle.hc_records.specs.declared.records.Group.{Group}
use Rattle.hc_project.specs.Text.{group_in}
use Rattle.hc_c.specs.declared.editing.Cost.{Cost}
use Rattle.hc_c.specs.declared.embedded.Embedded.{Embedded}
use Rattle.hc_c.specs.declared.numbers.TheConstants.{MEMORY}
use Rattle.hc_c.specs.Groups.{Declares}
use Rattle.hc_c.proofs.declaring.serve_text.Goals as goal

-- where memory was refused nothing is said
cost_stays : (found : Result Group ProjectFault) (own : Embedded) (asks : Bool) (cost : Cost) → Declares found own own asks MEMORY cost cost
cost_stays (Ok group) own asks cost = record {
  answer = λ other. absurd (other refl);
  own = tt;
  cost = λ is. absurd (omega arith);
  carried = λ is it. absurd (omega arith);
  asked = λ is. refl;
  refused = λ other. refl;
  unwritten = λ other crowds. refl;
  crowds = λ task other is. absurd (other refl);
}
cost_stays (Err fault) own asks cost = record { answer = λ other. absurd (other refl); unchanged = refl; cost_stays = refl }

pub returns-in-Ok : goal.returns-in-Ok
returns-in-Ok c =
    subst (λ (found : Result Group ProjectFault). Declares found c.args.own.now c.serve.new.own c.args.asks c.serve.result c.args.cost.now c.serve.new.cost) (sym c.in-Ok.ensures.group) c.serve.ensures

pub returns-in-Err-Memory : goal.returns-in-Err-Memory
returns-in-Err-Memory c = cost_stays (group_in c.args.text.now) c.args.own.now c.args.asks c.args.cost.now
