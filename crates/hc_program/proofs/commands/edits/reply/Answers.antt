use Rattle.std.proofs.Common.{◌≢◌, ◌∙◌, ap, string_bytes}
use Rattle.std.specs.Prelude.{Option}
use Rattle.std.specs.Option.{option_map_or}
use Rattle.hc_segment.specs.Machines.{Replacement, machines_replaced}
use Rattle.hc_events.specs.declared.answer.Answer.TheVariants as answer
use Rattle.hc_events.specs.declared.faults.CoreFault.TheVariants.{Memory}
use Rattle.hc_events.specs.Steps.{Edits}
use Rattle.hc_program.specs.Answers.{event_text}
use Rattle.hc_program.specs.Refusals.{refusal_text}
use Rattle.hc_program.specs.Standings.{with_machines}
use Rattle.hc_program.proofs.Grown.{any_err, answered_when, when_ok}
use Rattle.hc_program.proofs.Served.{edit_stays, edited_same, edited_to, of_edit, one_of_edit, other_fault, printed_as, refused_stays, stays_put}
use Rattle.hc_program.proofs.commands.edits.reply.Goals as goal

pub unreachable-requires : goal.unreachable-requires
unreachable-requires c =
    one_of_edit c.edit.result (of_edit c.args.session.now.history c.edit.new.self.history c.args.edit.now c.edit.result c.edit.ensures.answer) c.in_default.not-Edited c.in_default.not-Refused

pub returns-in-Refused-clause-text : goal.returns-in-Refused-clause-text
returns-in-Refused-clause-text c =
    let history = c.args.session.now.history in
    let edit = c.args.edit.now in
    let fault = c.in-Refused.fault in
    answered_when c.say_refusal.result (string_bytes c.args.out.now) _ _ (refusal_text fault) (event_text history (Edits edit)) (fault ≢ Memory) c.in_ok-reserve.ensures.bytes
    (λ other. printed_as history c.edit.new.self.history (Edits edit) (answer.Refused fault) c.in-Refused.ensures.answer (other_fault fault other)) c.say_refusal.ensures.other c.say_refusal.ensures.text

pub returns-in-Refused-clause-next : goal.returns-in-Refused-clause-next
returns-in-Refused-clause-next c =
    let fault = c.in-Refused.fault in
    when_ok c.say_refusal.result (fault ≢ Memory) _ (λ other. edited_same c.args.session.now c.edit.new.self c.args.edit.now fault other c.in-Refused.ensures.answer c.edit.ensures.rest) c.say_refusal.ensures.other

pub returns-in-Edited-clause-next : goal.returns-in-Edited-clause-next
returns-in-Edited-clause-next c =
    let mid = c.edit.new.self in
    edited_to c.args.session.now mid c.carry_out.new.self c.args.edit.now c.in-Edited.epoch c.in-Edited.recut c.in-Edited.moved c.in-Edited.ensures.answer c.edit.ensures.rest
    (c.carry_out.ensures ∙ ap (λ (found : Option Replacement). with_machines mid (option_map_or (λ r. machines_replaced r mid.machines) found mid.machines)) c.in_ok-ready.ensures.replacement)

pub returns-in-Refused-clause-unchanged : goal.returns-in-Refused-clause-unchanged
returns-in-Refused-clause-unchanged c =
    let history = c.args.session.now.history in
    let edit = c.args.edit.now in
    let fault = c.in-Refused.fault in
    let stays = refused_stays history c.edit.new.self.history (Edits edit) fault (edit_stays history edit fault) c.in-Refused.ensures.answer in
    any_err c.say_refusal.result _ (stays_put c.args.session.now c.edit.new.self c.edit.ensures.rest stays)
