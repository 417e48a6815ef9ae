use Rattle.std.proofs.Common.{inl, sym, ◌∙◌}
use Rattle.hc_core.proofs.lemmas.BlockSizes.{write-has-room}
use Rattle.hc_program.proofs.Programming.{IsPassed, cannot, frame-is, none-accepted, once-ok, stops-err, write-fits}
use Rattle.hc_program.proofs.commands.program.write_once.Goals as goal

pub returns-in-Err-clause-once : goal.returns-in-Err-clause-once
returns-in-Err-clause-once g c =
    let history = c.args.session.now.history in
    inl (cannot history c.in-Err.field-0 (sym (write-has-room history) ∙ c.in-Err.ensures.refused), c.in-Err.ensures.unchanged)

pub returns-in_ok-back-in-Ok-clause-once : goal.returns-in_ok-back-in-Ok-clause-once
returns-in_ok-back-in-Ok-clause-once g c =
    let s = c.args.session.now in
    let held = c.in-Ok.ensures.written in
    let fits = write-fits s.history _ c.in-Ok.size c.in-Ok.ensures.accepted held.counted in
    let can = none-accepted s.history (sym (write-has-room s.history) ∙ c.in-Ok.ensures.accepted) in
    let gone : IsPassed s c.next_write.new.self c.pass.new.session _ c.bytes.result.now = record {
      framed = frame-is s.history _ c.next_write.new.out c.in-Ok.size held c.next_write.auto.out fits;
      is_sent = c.in-Ok.ensures.next;
      is_gone = c.in_ok-back-in-Ok.ensures.next;
      is_back = c.bytes.ensures.bytes ∙ c.in_ok-back-in-Ok.ensures.back;
    } in
    once-ok c.take_in.result s c.next_write.new.self c.pass.new.session c.take_in.new.session _ c.bytes.result.now can gone c.take_in.ensures.done c.take_in.ensures.next

pub returns-in_ok-back-in-Ok-clause-stops : goal.returns-in_ok-back-in-Ok-clause-stops
returns-in_ok-back-in-Ok-clause-stops g c =
    let s = c.args.session.now in
    let held = c.in-Ok.ensures.written in
    let fits = write-fits s.history _ c.in-Ok.size c.in-Ok.ensures.accepted held.counted in
    let gone : IsPassed s c.next_write.new.self c.pass.new.session _ c.bytes.result.now = record {
      framed = frame-is s.history _ c.next_write.new.out c.in-Ok.size held c.next_write.auto.out fits;
      is_sent = c.in-Ok.ensures.next;
      is_gone = c.in_ok-back-in-Ok.ensures.next;
      is_back = c.bytes.ensures.bytes ∙ c.in_ok-back-in-Ok.ensures.back;
    } in
    stops-err c.take_in.result s c.next_write.new.self c.pass.new.session c.take_in.new.session _ c.bytes.result.now gone c.take_in.ensures.unchanged
