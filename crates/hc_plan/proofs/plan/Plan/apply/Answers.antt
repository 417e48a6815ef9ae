use Rattle.std.proofs.Common.{◌≡◌}
use Rattle.std.specs.Prelude.{Err, IfSome, None, Ok, Option, Result, Some}
use Rattle.hc_records.specs.declared.faults.EditFault.{EditFault}
use Rattle.hc_groups.specs.Edits.{own_fault}
use Rattle.hc_plan.proofs.plan.Plan.apply.Goals as goal

abbrev ok-of : {X : Type 0} → X → Result X EditFault
ok-of x = Ok x

-- an edit that isn't refused has no fault of its own
unowned : {X Y : Type 0} (own : Option EditFault) (x : X) (y : Y) → IfSome own (λ fault. ok-of x ≡ Err fault) → IfSome own (λ fault. ok-of y ≡ Err fault)
unowned None x y is = is
unowned (Some fault) x y is = cc

pub returns-clause-own : goal.returns-clause-own
returns-clause-own c = unowned (own_fault c.args.self.now.groups c.args.edit.now) c.in_ok-prepared.prepared c.carry_out.result c.in_ok-prepared.ensures.own
