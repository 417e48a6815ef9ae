use Rattle.hc_program.proofs.Checks.{check_unread, starved_unread}
use Rattle.hc_program.proofs.checking.run_projectcheck.Goals as goal

pub returns-in-Err-clause-unstarved : goal.returns-in-Err-clause-unstarved
returns-in-Err-clause-unstarved g c unstarved = check_unread (g.R.Read.remaining c.args.input.now) (g.W.Write.contents c.args.output.now) c.in-Err.fault _

pub returns-in-Err-clause-starved : goal.returns-in-Err-clause-starved
returns-in-Err-clause-starved g c starved = starved_unread (g.W.Write.contents c.args.output.now) c.in-Err.fault _
