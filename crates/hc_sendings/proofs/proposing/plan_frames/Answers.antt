use Rattle.std.proofs.Common.{sym, subst, List}
use Rattle.std.specs.Prelude.{All}
use Rattle.hc_records.specs.Line.{line}
use Rattle.hc_events.specs.Accepted.{IsInLine}
use Rattle.hc_events.specs.Sendings.{Frame}
use Rattle.hc_sendings.proofs.lemmas.Whole.{frames-are_placed}
use Rattle.hc_sendings.proofs.proposing.plan_frames.Goals as goal

pub returns-clause-in_line : goal.returns-clause-in_line
returns-clause-in_line c =
    subst (λ (frames : List Frame). All (λ (frame : Frame). All (IsInLine (line c.args.plan.now)) frame.datagrams) frames) (sym c.in_ok-put_frames.ensures.frames)
    (frames-are_placed (line c.args.plan.now) c.args.serial c.args.tasks.now)
