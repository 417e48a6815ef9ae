use Rattle.std.proofs.Common.{rules}
use Rattle.std.proofs.lemmas.Result.{err_from_is_err_and}
use Rattle.hc_core.proofs.ReadyFaults.{into-refused, room-refused}
use Rattle.hc_core.proofs.keeping.Core.propose_ready_within.Goals as goal

pub returns-in_err-propose_ready_into-clause-refused : goal.returns-in_err-propose_ready_into-clause-refused
returns-in_err-propose_ready_into-clause-refused c =
    let p = err_from_is_err_and c.from_residual.result c.from_residual.ensures.1 in
    rw (p.1, p.2) (λ other. into-refused c.args.self.now.history c.args.tasks.now c.args.room c.in_err-propose_ready_into.field-0.0 (c.in_err-propose_ready_into.ensures.refused other))

pub returns-then-room-needed-clause-refused : goal.returns-then-room-needed-clause-refused
returns-then-room-needed-clause-refused c = search (rules, room-refused)
