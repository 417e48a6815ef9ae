use Rattle.std.proofs.Common.{◌+◌, ◌∙◌, ◌∷◌, [], List, length, length-append, sym, subst, ap, ℕ, arith}
use Rattle.std.specs.List.{zip}
use Rattle.hc_plan.specs.Reports.{Answer}
use Rattle.hc_plan.proofs.Answering.{Goes, answer-of, follows, goes-all, goes-on}
use Rattle.hc_plan.proofs.plan.Plan.run.Goals as goal

pub loop-edit-preserved : goal.loop-edit-preserved
loop-edit-preserved c =
    let one = c.apply-answer.ensures in
    let list = c.push_reserved.ensures in
    let answered = answer-of c.loop-edit.self c.apply-answer.new.self c.edit-item.result c.apply-answer.result one.accepted one.report one.refused one.own one.unchanged in
    let goes = goes-on c.args.self.now c.loop-edit.self c.apply-answer.new.self c.args.edits.now c.loop-edit.edit-index c.edit-item.result c.loop-edit.answers.items c.apply-answer.result c.loop-edit-test.true c.edit-item.is answered c.loop-edit.invariant.0 in
    let longer = length-append c.loop-edit.answers.items (c.apply-answer.result ∷ []) in (
      subst (λ (answers : List Answer). Goes c.args.self.now c.args.edits.now (c.loop-edit.edit-index + 1) answers c.apply-answer.new.self) (sym list.items) goes,
      ap length list.items ∙ longer ∙ ap (λ (n : ℕ). n + 1) c.loop-edit.invariant.1,
      let room = c.loop-edit.invariant.2 in omega (arith, list.capacity, room),
    )

pub returns-clause-answers : goal.returns-clause-answers
returns-clause-answers c =
    goes-all c.args.self.now c.loop-edit.self c.args.edits.now c.loop-edit.edit-index c.loop-edit.answers.items (omega (arith, c.loop-edit-test.false)) c.loop-edit.invariant.0

pub returns-clause-state : goal.returns-clause-state
returns-clause-state c =
    follows (zip c.args.edits.now c.loop-edit.answers.items) c.args.self.now c.loop-edit.self
    (goes-all c.args.self.now c.loop-edit.self c.args.edits.now c.loop-edit.edit-index c.loop-edit.answers.items (omega (arith, c.loop-edit-test.false)) c.loop-edit.invariant.0)
