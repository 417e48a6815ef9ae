use Rattle.hc_program.specs.Starved.{EndsAsOne, StarvedOutcome}
use Rattle.hc_program.specs.Text.{EndsAs, program_outcome}
use Rattle.hc_program.proofs.Outcomes.{of_known}
use Rattle.hc_program.proofs.Starved.{starved_unread, unstarved_unread}
use Rattle.hc_program.proofs.engine.run_hotline.Goals as goal

pub returns-in-Ok-clause-unstarved : goal.returns-in-Ok-clause-unstarved
returns-in-Ok-clause-unstarved g c unstarved =
    of_known (g.R.Read.remaining c.args.input.now) (λ bytes. EndsAs (g.W.Write.contents c.args.output.now) (g.W.Write.contents c.run_input.new.output) c.run_input.result (program_outcome bytes))
    _ _ c.in-Ok.ensures.bytes c.deref.ensures.value (c.run_input.ensures.unstarved unstarved)

pub returns-in-Ok-clause-starved : goal.returns-in-Ok-clause-starved
returns-in-Ok-clause-starved g c starved =
    of_known (g.R.Read.remaining c.args.input.now) (λ bytes. EndsAsOne (g.W.Write.contents c.args.output.now) (g.W.Write.contents c.run_input.new.output) c.run_input.result (StarvedOutcome bytes))
    _ _ c.in-Ok.ensures.bytes c.deref.ensures.value (c.run_input.ensures.starved starved)

pub returns-in-Err-clause-starved : goal.returns-in-Err-clause-starved
returns-in-Err-clause-starved g c starved = starved_unread _ _ c.in-Err.fault _

pub returns-in-Err-clause-unstarved : goal.returns-in-Err-clause-unstarved
returns-in-Err-clause-unstarved g c unstarved = unstarved_unread _ _ c.in-Err.fault _ c.in-Err.ensures.too_long
