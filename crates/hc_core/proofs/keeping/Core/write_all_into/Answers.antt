use Rattle.std.proofs.Common.{◌≡◌, Bool, List, Some, None, length, subst}
use Rattle.std.specs.Prelude.{IfErr, OnOk}
use Rattle.hc_records.specs.Lists.{lowest}
use Rattle.hc_events.specs.declared.faults.CoreFault.{CoreFault}
use Rattle.hc_core.proofs.Writes.{all-entries, all-faults, all-written}
use Rattle.hc_core.proofs.keeping.Core.write_all_into.Goals as goal

pub returns-clause-written : goal.returns-clause-written
returns-clause-written c = all-written c.args.self.now.history c.args.out.now c.write_first.new.out c.write_first.result c.write_first.ensures.written c.write_first.ensures.accepted

pub returns-clause-accepted : goal.returns-clause-accepted
returns-clause-accepted c =
    subst (λ (faults : List (Bool × CoreFault)). OnOk c.write_first.result (lowest faults ≡ None)) (all-faults c.args.self.now.history (length c.args.out.now)) c.write_first.ensures.accepted

pub returns-clause-entries : goal.returns-clause-entries
returns-clause-entries c = all-entries c.args.self.now c.write_first.new.self (length c.args.out.now) c.write_first.result c.write_first.ensures.entries c.write_first.ensures.accepted

pub returns-clause-refused : goal.returns-clause-refused
returns-clause-refused c =
    subst (λ (faults : List (Bool × CoreFault)). IfErr c.write_first.result (λ (fault : CoreFault). lowest faults ≡ Some fault)) (all-faults c.args.self.now.history (length c.args.out.now)) c.write_first.ensures.refused
