use Rattle.hc_program.proofs.Turns.{after_broken, after_whole}
use Rattle.hc_program.proofs.engine.write_reply.Goals as goal

pub returns-in-Ok-clause-takes : goal.returns-in-Ok-clause-takes
returns-in-Ok-clause-takes g c = λ next. after_whole _ _ c.args.text.now c.args.goes_on c.end_after.result next c.end_after.ensures c.in-Ok.ensures.ok

pub returns-in-Err-clause-takes : goal.returns-in-Err-clause-takes
returns-in-Err-clause-takes g c = λ next. after_broken _ _ c.args.text.now c.args.goes_on next c.in-Err.ensures.err
