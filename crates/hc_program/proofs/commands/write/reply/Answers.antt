use Rattle.std.proofs.Common.{◌∙◌, ap, sym}
use Rattle.hc_core.proofs.lemmas.BlockSizes.{write-has-room}
use Rattle.hc_program.specs.Standings.{session_with_history}
use Rattle.hc_program.proofs.Grown.{any_ok, answered_ok}
use Rattle.hc_program.proofs.Written.{unwritten_left, unwritten_answered}
use Rattle.hc_program.proofs.commands.write.reply.Goals as goal

pub returns-in-Err-clause-text : goal.returns-in-Err-clause-text
returns-in-Err-clause-text c =
    let history = c.args.session.now.history in
    answered_ok c.push_refusal.result _ _ _ _ _ c.in_ok-reserve.ensures.bytes (unwritten_answered history c.in-Err.fault (sym (write-has-room history) ∙ c.in-Err.ensures.refused)) c.push_refusal.ensures

pub returns-in-Err-clause-next : goal.returns-in-Err-clause-next
returns-in-Err-clause-next c =
    let s = c.args.session.now in
    any_ok c.push_refusal.result _ (c.in-Err.ensures.unchanged ∙ ap (session_with_history s) (unwritten_left s.history c.in-Err.fault (sym (write-has-room s.history) ∙ c.in-Err.ensures.refused)))
