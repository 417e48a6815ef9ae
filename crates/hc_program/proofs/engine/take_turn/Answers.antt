use Rattle.std.proofs.Common.{◌∙◌, ap, inl, inr, refl, sym, true}
use Rattle.hc_program.specs.Declaring.{turn_of}
use Rattle.hc_program.specs.Runs.{Reply, bare_reply, reply_to}
use Rattle.hc_program.specs.Standings.{session_published}
use Rattle.hc_program.proofs.Starved.{publishes, published_or, refuses}
use Rattle.hc_program.proofs.Turns.{meant, published_reply}
use Rattle.hc_program.proofs.engine.take_turn.Goals as goal

pub returns-in-Ok-clause-answered : goal.returns-in-Ok-clause-answered
returns-in-Ok-clause-answered g c = λ unstarved.
    let s = c.args.session.now in
    let turn = turn_of c.args.turn in
    let is = sym (published_reply s turn) in
    let next = publishes c.publish-published.result _ _ c.is_err.ensures.value (sym c.write_reply.ensures.starved ∙ unstarved) c.publish-published.ensures.next in
    meant _ _ _ _ _ _ (reply_to s turn) c.write_reply.ensures.takes
    (c.as_bytes.ensures.value ∙ c.in-Ok.ensures.text ∙ ap (λ (r : Reply). r.text) is)
    (c.in-Ok.ensures.goes_on ∙ ap (λ (r : Reply). r.goes_on) is)
    (next ∙ ap session_published c.in-Ok.ensures.next ∙ ap (λ (r : Reply). r.session_state) is)

pub returns-in-Ok-clause-stopped : goal.returns-in-Ok-clause-stopped
returns-in-Ok-clause-stopped g c = λ starved.
    let s = c.args.session.now in
    let turn = turn_of c.args.turn in
    let next = refuses c.publish-published.result _ _ c.is_err.ensures.value (sym c.write_reply.ensures.starved ∙ starved) c.publish-published.ensures.unchanged in (
      bare_reply s turn,
      inl refl,
      meant _ _ _ _ _ _ (bare_reply s turn) c.write_reply.ensures.takes (c.as_bytes.ensures.value ∙ c.in-Ok.ensures.text) c.in-Ok.ensures.goes_on (next ∙ c.in-Ok.ensures.next),
    )

pub returns-in-Err-clause-stopped : goal.returns-in-Err-clause-stopped
returns-in-Err-clause-stopped g c = λ starved.
    let mid = c.answer-answered.new.session in
    let next = c.publish-published.new.self in
    let stopped : Reply = record { text = c.stop_line.result.now; session_state = mid; goes_on = true } in (
      record stopped { session_state = next },
      inr (
        stopped,
        record { why = c.in-Err.stop; stopped = c.in-Err.ensures.stops; text = c.stop_line.ensures; on = refl },
        published_or c.publish-published.result stopped mid next refl c.publish-published.ensures.next c.publish-published.ensures.unchanged,
      ),
      c.write_reply-in-Err.ensures.takes next,
    )
