use Rattle.hc_cuts.proofs.Cursors.{front-is_placed}
use Rattle.hc_cuts.proofs.cursor.Cursor.at_front.Goals as goal

pub returns-clause-in_task : goal.returns-clause-in_task
returns-clause-in_task c = λ starts list within is. front-is_placed starts list c.args.key c.args.datagram within is
