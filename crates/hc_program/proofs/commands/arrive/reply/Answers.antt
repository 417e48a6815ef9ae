use Rattle.std.proofs.Common.{arith, rules, ◌≡◌, [], ◌++◌, ◌∙◌, Ok, ap, sym}
use Rattle.std.specs.Prelude.{codes}
use Rattle.std.specs.List.{flat_map}
use Rattle.hc_program.specs.Answers.{outcome_text, event_text}
use Rattle.hc_events.specs.declared.answer.Answer.TheVariants as answer
use Rattle.hc_events.specs.Steps.{Arrives}
use Rattle.hc_frames.specs.Arrived.{reading_of}
use Rattle.hc_events.specs.Arrivals.{read_unless}
use Rattle.hc_program.proofs.Served.{bytes_stay, of_arrival, one_of_arrival, outcomes_few, printed_as, refused_stays, stays_put}
use Rattle.hc_program.proofs.commands.arrive.reply.Goals as goal
use Rattle.hc_program.proofs.commands.arrive.reply.Goals.{in-Answered, in-WriteDone, in-WriteMissed, in-Stale, in-Written}

pub add_outcomes-requires : goal.add_outcomes-requires
add_outcomes-requires c =
    let read = ap (λ fault. read_unless fault (reading_of c.args.bytes.now)) c.in-Ok.ensures.0 ∙ ap Ok (sym c.in-Ok.ensures.1) in
    let few = outcomes_few c.args.session.now.history c.arrive.new.self.history c.args.bytes.now c.in-Ok.arrival c.in-Answered.outcomes read c.in-Answered.ensures.answer in
    let lines = c.len-datagrams.ensures.value in
    let most = c.max.ensures in
    let room = c.in_ok-room_of.ensures in
    let has = c.in_ok-reserve.ensures.capacity in
    grind (arith, few, lines, most, room, has, c.as_slice.ensures)

pub returns-in-Refused-clause-unchanged : goal.returns-in-Refused-clause-unchanged
returns-in-Refused-clause-unchanged c =
    let history = c.args.session.now.history in
    let bytes = c.args.bytes.now in
    stays_put c.args.session.now c.arrive.new.self c.arrive.ensures.rest
    (refused_stays history c.arrive.new.self.history (Arrives bytes) c.in-Refused.field-0 (bytes_stay history bytes c.in-Refused.field-0) c.in-Refused.ensures.answer)

pub unreachable-requires : goal.unreachable-requires
unreachable-requires c =
    let read = ap (λ fault. read_unless fault (reading_of c.args.bytes.now)) c.in-Ok.ensures.0 ∙ ap Ok (sym c.in-Ok.ensures.1) in
    let is = of_arrival c.args.session.now.history c.arrive.new.self.history c.args.bytes.now c.in-Ok.arrival c.arrive.result read c.arrive.ensures.answer in
    one_of_arrival c.arrive.result is c.in_default.not-Answered c.in_default.not-WriteDone c.in_default.not-WriteMissed c.in_default.not-Stale c.in_default.not-Written c.in_default.not-Refused

pub returns-clause-text : goal.returns-clause-text
returns-clause-text c =
    let history = c.args.session.now.history in
    let next = c.arrive.new.self.history in
    let event = Arrives c.args.bytes.now in
    let room = c.in_ok-reserve.ensures.bytes in
    elim c.match-arrive.branch [
      | in-Answered w ↦
          let printed : event_text history event ≡ flat_map outcome_text w.in-Answered.outcomes = printed_as history next event (answer.Answered w.in-Answered.outcomes) w.in-Answered.ensures.answer (λ e. cc) in
          let added = w.add_outcomes.ensures in
          let out = w.out-is in
          let slice = w.as_slice.ensures in
          search (rules, printed, added, out, room, slice)
      | in-WriteDone w ↦
          let printed : event_text history event ≡ codes "write done\n" = printed_as history next event answer.WriteDone w.in-WriteDone.ensures.answer (λ e. cc) in
          let added = w.add_text.ensures.bytes in
          let out = w.out-is in
          search (rules, printed, added, out, room)
      | in-WriteMissed w ↦
          let printed : event_text history event ≡ codes "write missed\n" = printed_as history next event answer.WriteMissed w.in-WriteMissed.ensures.answer (λ e. cc) in
          let added = w.add_text-in-WriteMissed.ensures.bytes in
          let out = w.out-is in
          search (rules, printed, added, out, room)
      | in-Stale w ↦
          let printed : event_text history event ≡ codes "stale\n" = printed_as history next event answer.Stale w.in-Stale.ensures.answer (λ e. cc) in
          let added = w.add_text-in-Stale.ensures.bytes in
          let out = w.out-is in
          search (rules, printed, added, out, room)
      | in-Written w ↦
          let printed : event_text history event ≡ [] = printed_as history next event (answer.Written w.in-Written.field-0) w.in-Written.ensures.answer (λ e. cc) in
          let out = w.out-is in
          search (rules, printed, out, room)
    ]
