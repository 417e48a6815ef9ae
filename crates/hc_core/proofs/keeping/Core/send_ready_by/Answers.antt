use Rattle.std.proofs.Common.{subst, sym, refl}
use Rattle.std.specs.Prelude.{All}
use Rattle.std.proofs.lemmas.Result.{err_from_is_err_and}
use Rattle.hc_core.specs.Filled.{CanBeFilled}
use Rattle.hc_core.proofs.keeping.Core.send_ready_by.Goals as goal

pub texts-requires : goal.texts-requires
texts-requires c =
    let history = c.args.self.now.history in
    subst (All (CanBeFilled history)) (sym c.as_slice.ensures.value) c.in_ok-propose_ready_into.ensures.filled

pub returns-in_err-propose_ready_into-clause-refused : goal.returns-in_err-propose_ready_into-clause-refused
returns-in_err-propose_ready_into-clause-refused c =
    let p = err_from_is_err_and c.from_residual.result c.from_residual.ensures.1 in
    rw (p.1, p.2) c.in_err-propose_ready_into.ensures.refused

pub returns-in_err-texts-clause-refused : goal.returns-in_err-texts-clause-refused
returns-in_err-texts-clause-refused c =
    let p = err_from_is_err_and c.from_residual-in_err-texts.result c.from_residual-in_err-texts.ensures.1 in
    rw (p.1, p.2) (λ other. absurd (other refl))
