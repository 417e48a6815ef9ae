use Rattle.std.proofs.Common.{refl}
use Rattle.hc_program.specs.Runs.{Outcome}
use Rattle.hc_program.proofs.Turns.{ended_so, ends_broken, ends_whole}
use Rattle.hc_program.proofs.engine.end_with.Goals as goal

pub returns-in-Ok-clause-ends : goal.returns-in-Ok-clause-ends
returns-in-Ok-clause-ends g c =
    let all : Outcome = record { text = c.args.lines.now; status = c.args.end } in
    ended_so _ _ _ _ all c.ended.ensures (ends_whole _ _ c.args.end c.args.starved all c.requires c.in-Ok.ensures.ok refl)

pub returns-in-Err-clause-ends : goal.returns-in-Err-clause-ends
returns-in-Err-clause-ends g c =
    let all : Outcome = record { text = c.args.lines.now; status = c.args.end } in
    ended_so _ _ _ _ all c.ended-in-Err.ensures (ends_broken _ _ c.args.starved all c.in-Err.ensures.err)
