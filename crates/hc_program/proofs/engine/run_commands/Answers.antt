use Rattle.std.proofs.Common.{◌≡◌, ◌∷◌, ℕ, suc, length, ap, subst, sym, ◌∙◌}
use Rattle.std.specs.Prelude.{Option}
use Rattle.std.specs.Option.{option_copied}
use Rattle.std.proofs.lemmas.Bool.{or_parts}
use Rattle.hc_text.specs.Cutting.{left_in, lines_after}
use Rattle.hc_program.specs.Declaring.{turn_of, turns_of}
use Rattle.hc_program.specs.Runs.{Reply, reply_to, run}
use Rattle.hc_program.specs.Starved.{StarvedRun}
use Rattle.hc_program.specs.declared.engine.RunEnd.{RunEnd}
use Rattle.hc_program.specs.Turns.{AnswersLine}
use Rattle.hc_program.proofs.Declaring.{no_turns}
use Rattle.hc_program.proofs.Starved.{ended_one, leads_all, leads_done, leads_ended, leads_turn}
use Rattle.hc_program.proofs.Turns.{begins, continues, done, ended_so, ends, run_none, run_turn}
use Rattle.hc_program.proofs.engine.run_commands.Goals as goal

pub loop-rest-init : goal.loop-rest-init
loop-rest-init g c = record { few = c.requires; runs = λ _. begins _ _; starves = leads_all _ _ }

pub loop-rest-preserved : goal.loop-rest-preserved
loop-rest-preserved g c =
    let s = c.loop-rest.session in
    let next = c.take_turn-taken.new.session in
    let turn = turn_of c.split_turn-cut.result.turn in
    let others = turns_of (lines_after c.split_turn-cut.result.first (option_copied c.split_turn-cut.result.after_it)) in
    let first : turns_of (lines_after c.loop-rest.number (option_copied c.loop-rest.rest)) ≡ turn ∷ others =
    ap (λ o. turns_of (lines_after c.loop-rest.number (option_copied o))) c.in-Some.is ∙ c.split_turn-cut.ensures.turn in
    let TakesSo = λ (end : Option ℕ) (reply : Reply). AnswersLine (g.W.Write.contents c.loop-rest.output) (g.W.Write.contents c.take_turn-taken.new.output) next end reply in
    let full : left_in (option_copied c.loop-rest.rest) ≡ suc (length c.in-Some.text.now) = ap (λ o. left_in (option_copied o)) c.in-Some.is in
    record {
      few = c.split_turn-cut.ensures.few;
      runs = λ unstarved.
          let (before, now) = or_parts _ _ unstarved in
          let taken = subst (λ end. TakesSo end (reply_to s turn)) c.in_default-end.is (c.take_turn-taken.ensures.answered now) in
          continues _ _ _ _ _ (reply_to s turn) next (λ next. run next others) (c.loop-rest.invariant.runs before) (run_turn s _ turn others first) taken;
      starves =
          let all = StarvedRun c.args.session.now (turns_of (lines_after c.args.first (option_copied c.args.lines))) in
          leads_turn c.loop-rest.starved c.take_turn-taken.result.starved _ _ _ all s next _ turn others first c.loop-rest.invariant.starves
          (λ now. subst (λ end. TakesSo end (reply_to s turn)) c.in_default-end.is (c.take_turn-taken.ensures.answered now))
          (λ now. let (reply, stops, takes) = c.take_turn-taken.ensures.stopped now in (reply, stops, subst (λ end. TakesSo end reply) c.in_default-end.is takes));
    }

pub returns-in-Some-end-clause-unstarved : goal.returns-in-Some-end-clause-unstarved
returns-in-Some-end-clause-unstarved g c unstarved =
    let s = c.loop-rest.session in
    let next = c.take_turn-taken.new.session in
    let turn = turn_of c.split_turn-cut.result.turn in
    let others = turns_of (lines_after c.split_turn-cut.result.first (option_copied c.split_turn-cut.result.after_it)) in
    let first : turns_of (lines_after c.loop-rest.number (option_copied c.loop-rest.rest)) ≡ turn ∷ others =
    ap (λ o. turns_of (lines_after c.loop-rest.number (option_copied o))) c.in-Some.is ∙ c.split_turn-cut.ensures.turn in
    let TakesSo = λ (end : Option ℕ) (reply : Reply). AnswersLine (g.W.Write.contents c.loop-rest.output) (g.W.Write.contents c.take_turn-taken.new.output) next end reply in
    let (before, now) = or_parts _ _ (ap (λ (e : RunEnd). e.starved) (sym c.ended.ensures) ∙ unstarved) in
    let taken = subst (λ end. TakesSo end (reply_to s turn)) c.in-Some-end.is (c.take_turn-taken.ensures.answered now) in
    ended_so _ _ _ _ _ c.ended.ensures
    (ends _ _ _ _ _ (run (reply_to s turn).session_state others) (reply_to s turn) _ _ (c.loop-rest.invariant.runs before) (run_turn s _ turn others first) taken)

pub returns-in-Some-end-clause-starved : goal.returns-in-Some-end-clause-starved
returns-in-Some-end-clause-starved g c starved =
    let s = c.loop-rest.session in
    let next = c.take_turn-taken.new.session in
    let turn = turn_of c.split_turn-cut.result.turn in
    let others = turns_of (lines_after c.split_turn-cut.result.first (option_copied c.split_turn-cut.result.after_it)) in
    let first : turns_of (lines_after c.loop-rest.number (option_copied c.loop-rest.rest)) ≡ turn ∷ others =
    ap (λ o. turns_of (lines_after c.loop-rest.number (option_copied o))) c.in-Some.is ∙ c.split_turn-cut.ensures.turn in
    let TakesSo = λ (end : Option ℕ) (reply : Reply). AnswersLine (g.W.Write.contents c.loop-rest.output) (g.W.Write.contents c.take_turn-taken.new.output) next end reply in
    let all = StarvedRun c.args.session.now (turns_of (lines_after c.args.first (option_copied c.args.lines))) in
    ended_one _ _ _ _ all c.ended.ensures
    (leads_ended c.loop-rest.starved c.take_turn-taken.result.starved _ _ _ all _ _ s _ turn others first (ap (λ (e : RunEnd). e.starved) (sym c.ended.ensures) ∙ starved) c.loop-rest.invariant.starves
    (λ now. subst (λ end. TakesSo end (reply_to s turn)) c.in-Some-end.is (c.take_turn-taken.ensures.answered now))
    (λ now. let (reply, stops, takes) = c.take_turn-taken.ensures.stopped now in (reply, stops, subst (λ end. TakesSo end reply) c.in-Some-end.is takes)))

pub returns-clause-starved : goal.returns-clause-starved
returns-clause-starved g c starved =
    let none = ap (λ o. turns_of (lines_after c.loop-rest.number (option_copied o))) c.in_default.is ∙ no_turns in
    let all = StarvedRun c.args.session.now (turns_of (lines_after c.args.first (option_copied c.args.lines))) in
    ended_one _ _ _ _ all c.ended-2.ensures
    (leads_done c.loop-rest.starved _ _ _ all c.loop-rest.session _ (ap (λ (e : RunEnd). e.starved) (sym c.ended-2.ensures) ∙ starved) none c.loop-rest.invariant.starves)

pub returns-clause-unstarved : goal.returns-clause-unstarved
returns-clause-unstarved g c unstarved =
    let s = c.loop-rest.session in
    let left = ap (λ o. run s (turns_of (lines_after c.loop-rest.number (option_copied o)))) c.in_default.is ∙ ap (run s) no_turns ∙ run_none s in
    ended_so _ _ _ _ _ c.ended-2.ensures
    (done _ _ _ _ _ (c.loop-rest.invariant.runs (ap (λ (e : RunEnd). e.starved) (sym c.ended-2.ensures) ∙ unstarved)) left)
