use Rattle.std.proofs.Common.{◌∙◌, ◌++◌, [], ◌∷◌, ℕ, List, ap, arith, append_assoc, cond, filter, get_or, length, map, sym, take}
use Rattle.hc_events.specs.Sendings.{Frame}
use Rattle.hc_sendings.specs.Stored.{StoredFrame, stored_frame, last_sent_of}
use Rattle.hc_sendings.proofs.AwaitedStill.{Table, next-room, stays_at, stays-more}
use Rattle.hc_sendings.proofs.awaited.add_all.Goals as goal

pub add_awaited-requires : goal.add_awaited-requires
add_awaited-requires c =
    let at : Table = last_sent_of c.args.last_sent.now in
    let number : ℕ = c.loop-frame.frame-index in
    let item : Frame = c.frame-item.result in
    λ awaited_still.
    let stays = ap (λ (frame : Frame). stays_at at (stored_frame frame)) (sym c.frame-item.is) ∙ awaited_still in
    let low = next-room at c.args.more.now number item c.args.frames.now.items _ c.loop-frame-test.true stays c.requires in
    let count = ap length c.loop-frame.invariant.frames in
    let room = c.loop-frame.invariant.room in
    let same = c.loop-frame.frames.ok.0 in
    omega (arith, low, count, room, same)

pub loop-frame-preserved : goal.loop-frame-preserved
loop-frame-preserved c =
    let at : Table = last_sent_of c.args.last_sent.now in
    let number : ℕ = c.loop-frame.frame-index in
    let item : Frame = c.frame-item.result in
    let before : List StoredFrame = c.args.frames.now.items in
    let own : StoredFrame → List StoredFrame = λ frame. cond (stays_at at frame) (frame ∷ []) [] in
    record {
      frames =
          c.add_awaited.ensures.frames
          ∙ ap (λ (frames : List StoredFrame). frames ++ own (stored_frame item)) c.loop-frame.invariant.frames
          ∙ ap (λ (frame : Frame). (before ++ filter (stays_at at) (map stored_frame (take number c.args.more.now))) ++ own (stored_frame frame)) c.frame-item.is
          ∙ append_assoc before (filter (stays_at at) (map stored_frame (take number c.args.more.now))) (own (stored_frame (get_or c.args.more.now number item)))
          ∙ ap (λ (all : List StoredFrame). before ++ all) (sym (stays-more at c.args.more.now number item c.loop-frame-test.true));
      room = c.add_awaited.ensures.room ∙ c.loop-frame.invariant.room;
    }
