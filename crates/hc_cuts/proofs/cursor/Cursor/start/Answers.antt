use Rattle.hc_cuts.proofs.Cursors.{first-start, some-start}
use Rattle.hc_cuts.proofs.cursor.Cursor.start.Goals as goal

pub returns : goal.returns
returns c = λ starts list all. c.at_front.ensures.in_task starts list (some-start starts list all) (first-start starts list all)
