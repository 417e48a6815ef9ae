use Rattle.std.proofs.Common.{◌≡◌, ◌∙◌, Bool, List, Some, None, ap, cond, length, map, sym}
use Rattle.hc_events.specs.declared.answer.Answer.TheVariants as answer
use Rattle.hc_events.specs.declared.answer.Outcome.{Outcome}
use Rattle.hc_sendings.specs.declared.writes.AwaitedBlock.{AwaitedBlock}
use Rattle.hc_sendings.specs.Judging.{block_due}
use Rattle.hc_sendings.specs.Walk.{outcomes_in}
use Rattle.hc_sendings.proofs.AnswerGiven.{blocks-missed, blocks-answer_given}
use Rattle.hc_sendings.proofs.judging.judge_write.Goals as goal
use Rattle.hc_sendings.proofs.judging.judge_write.Goals.{else-branch-via-then-branch+else-any_last_sent, else-branch-via-else-branch}

pub returns-then-any_last_sent-clause-answer : goal.returns-then-any_last_sent-clause-answer
returns-then-any_last_sent-clause-answer c =
    let blocks : List AwaitedBlock = c.args.blocks.now in
    let outcomes : List Outcome = c.judge_blocks.new.outcomes.items in
    let several : length blocks ≡ 1 → ⊥ = λ one. c.if-blocks-eq1.false one in
    let whole : Some outcomes ≡ outcomes_in (map block_due blocks) c.args.arrival.now.parts =
    ap (λ (b : Bool). cond b (Some outcomes) None) (sym c.if-branch.true) ∙ c.in_ok-judge_blocks.ensures.outcomes in
    sym (blocks-answer_given blocks c.args.arrival.now outcomes several whole
    ∙ ap (λ (b : Bool). cond b (answer.Written outcomes) answer.Stale) (sym c.any_last_sent.ensures ∙ c.if-any_last_sent.true))

pub returns-else-branch-clause-answer : goal.returns-else-branch-clause-answer
returns-else-branch-clause-answer c =
    let blocks : List AwaitedBlock = c.args.blocks.now in
    let outcomes : List Outcome = c.judge_blocks.new.outcomes.items in
    let several : length blocks ≡ 1 → ⊥ = λ one. c.if-blocks-eq1.false one in
    elim c.else-branch.branch [
      | else-branch-via-then-branch+else-any_last_sent w ↦
          sym (blocks-answer_given blocks c.args.arrival.now outcomes several
          (ap (λ (b : Bool). cond b (Some outcomes) None) (sym w.if-branch.true) ∙ c.in_ok-judge_blocks.ensures.outcomes)
          ∙ ap (λ (b : Bool). cond b (answer.Written outcomes) answer.Stale) (sym w.any_last_sent.ensures ∙ w.if-any_last_sent.false))
      | else-branch-via-else-branch w ↦
          sym (blocks-missed blocks c.args.arrival.now
          (ap (λ (b : Bool). cond b (Some outcomes) None) (sym w.if-branch.false) ∙ c.in_ok-judge_blocks.ensures.outcomes))
    ]
