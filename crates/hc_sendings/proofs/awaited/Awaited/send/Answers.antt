use Rattle.std.proofs.Common.{◌<◌, ◌∙◌, List, ap, arith, sym, subst, vec_capacity, vec_len}
use Rattle.std.specs.Prelude.{All}
use Rattle.hc_events.specs.Sendings.{Frame}
use Rattle.hc_sendings.specs.Stored.{AreStored, StoredFrame, LastSent, last_sent_of}
use Rattle.hc_sendings.specs.Waiting.{AwaitedFrame, Waiting, all_sent}
use Rattle.hc_sendings.proofs.AwaitedStill.{awaited_at}
use Rattle.hc_sendings.proofs.Room.{few-answer_given}
use Rattle.hc_sendings.proofs.Sent.{After, IsPruned, after_it-or, joined-few, joined-stored, joined-answer_given, pruned-or}
use Rattle.hc_sendings.proofs.awaited.Awaited.send.Goals as goal

abbrev AreAfter : List Frame → List AwaitedFrame → Type 0
AreAfter frames stored = All (λ (old : AwaitedFrame). All (λ (next : Frame). old.serial < next.serial) frames) stored

pub make_way-requires-clause-stored : goal.make_way-requires-clause-stored
make_way-requires-clause-stored c = c.self.invariant.0.ascend

pub make_way-requires-clause-come : goal.make_way-requires-clause-come
make_way-requires-clause-come c = c.requires.after_it.ascend

pub add_all-requires : goal.add_all-requires
add_all-requires c =
    let before : LastSent = c.self.inside.last_sent in
    let now : LastSent = c.note_all.new.last_sent in
    let stored : List StoredFrame = c.self.inside.frames.items in
    let first : List StoredFrame = c.make_way.new.frames.items in
    let second : List StoredFrame = c.make_room.new.frames.items in
    let more : List Frame = c.args.frames.now in
    let are : AreStored before stored = c.self.invariant.0 in
    let awaited : AreAfter more (awaited_at (last_sent_of before) stored) = subst (λ (w : Waiting). AreAfter more w.frames) (sym c.self.view_is) c.requires.after_it.after_it in
    let after_it : All (After more) first = after_it-or (last_sent_of before) stored first more c.make_way.ensures.frames awaited in
    let one : IsPruned (last_sent_of before) stored first = pruned-or (last_sent_of before) stored first c.make_way.ensures.frames in
    let places = c.note_all.ensures.places in
    let had = are.places in
    let room = c.self.invariant.1 in
    let same = c.make_way.ensures.room in
    let still = c.make_room.ensures.room in
    let counted = c.make_way.new.frames.ok.0 in
    let few = joined-few now first second more (vec_capacity c.make_way.new.frames) (vec_len c.make_way.new.frames) c.make_room.ensures.frames counted (one.ascend are.ascend) after_it c.requires.after_it.ascend (omega (arith, places, had, room, same)) in
    omega (arith, few, still)

pub invariant_of-self : goal.invariant_of-self
invariant_of-self c =
    let before : LastSent = c.self.inside.last_sent in
    let now : LastSent = c.note_all.new.last_sent in
    let stored : List StoredFrame = c.self.inside.frames.items in
    let first : List StoredFrame = c.make_way.new.frames.items in
    let second : List StoredFrame = c.make_room.new.frames.items in
    let more : List Frame = c.args.frames.now in
    let are : AreStored before stored = c.self.invariant.0 in
    let awaited : AreAfter more (awaited_at (last_sent_of before) stored) = subst (λ (w : Waiting). AreAfter more w.frames) (sym c.self.view_is) c.requires.after_it.after_it in
    let after_it : All (After more) first = after_it-or (last_sent_of before) stored first more c.make_way.ensures.frames awaited in
    let one : IsPruned (last_sent_of before) stored first = pruned-or (last_sent_of before) stored first c.make_way.ensures.frames in
    let two : IsPruned (last_sent_of now) first second = pruned-or (last_sent_of now) first second c.make_room.ensures.frames in
    let room = c.self.invariant.1 in
    let same = c.make_way.ensures.room in
    let still = c.make_room.ensures.room in
    let yet = c.add_all.ensures.room in (
      subst (AreStored now) (sym c.add_all.ensures.frames)
          (joined-stored before now stored first second more are c.note_all.ensures.places one after_it two c.requires.named c.requires.after_it.ascend),
      omega (arith, room, same, still, yet),
    )

pub returns-clause-sent : goal.returns-clause-sent
returns-clause-sent c =
    let before : LastSent = c.self.inside.last_sent in
    let now : LastSent = c.note_all.new.last_sent in
    let stored : List StoredFrame = c.self.inside.frames.items in
    let first : List StoredFrame = c.make_way.new.frames.items in
    let second : List StoredFrame = c.make_room.new.frames.items in
    let more : List Frame = c.args.frames.now in
    let are : AreStored before stored = c.self.invariant.0 in
    let awaited : AreAfter more (awaited_at (last_sent_of before) stored) = subst (λ (w : Waiting). AreAfter more w.frames) (sym c.self.view_is) c.requires.after_it.after_it in
    let after_it : All (After more) first = after_it-or (last_sent_of before) stored first more c.make_way.ensures.frames awaited in
    let one : IsPruned (last_sent_of before) stored first = pruned-or (last_sent_of before) stored first c.make_way.ensures.frames in
    let two : IsPruned (last_sent_of now) first second = pruned-or (last_sent_of now) first second c.make_room.ensures.frames in
    ap (λ (frames : List StoredFrame). record { frames = awaited_at (last_sent_of now) frames; writes = c.self.inside.writes; further = c.self.inside.further; forgotten = c.self.inside.forgotten }) c.add_all.ensures.frames
    ∙ joined-answer_given before now stored first second more c.self.inside.writes c.self.inside.further c.self.inside.forgotten are c.note_all.ensures.noted one after_it two c.requires.named c.requires.after_it.ascend
    ∙ ap (λ (w : Waiting). all_sent w more) c.self.view_is

pub returns-clause-few : goal.returns-clause-few
returns-clause-few c =
    let before : LastSent = c.self.inside.last_sent in
    let now : LastSent = c.note_all.new.last_sent in
    let stored : List StoredFrame = c.self.inside.frames.items in
    let first : List StoredFrame = c.make_way.new.frames.items in
    let second : List StoredFrame = c.make_room.new.frames.items in
    let more : List Frame = c.args.frames.now in
    let are : AreStored before stored = c.self.invariant.0 in
    let awaited : AreAfter more (awaited_at (last_sent_of before) stored) = subst (λ (w : Waiting). AreAfter more w.frames) (sym c.self.view_is) c.requires.after_it.after_it in
    let after_it : All (After more) first = after_it-or (last_sent_of before) stored first more c.make_way.ensures.frames awaited in
    let one : IsPruned (last_sent_of before) stored first = pruned-or (last_sent_of before) stored first c.make_way.ensures.frames in
    let two : IsPruned (last_sent_of now) first second = pruned-or (last_sent_of now) first second c.make_room.ensures.frames in
    few-answer_given now c.add_all.new.frames.items
    (subst (AreStored now) (sym c.add_all.ensures.frames)
    (joined-stored before now stored first second more are c.note_all.ensures.places one after_it two c.requires.named c.requires.after_it.ascend))
