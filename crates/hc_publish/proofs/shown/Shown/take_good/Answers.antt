use Rattle.hc_publish.specs.Shown.{answered_in}
use Rattle.hc_publish.proofs.Taken.{shows-good}
use Rattle.hc_publish.proofs.shown.Shown.take_good.Goals as goal

pub invariant_of-self : goal.invariant_of-self
invariant_of-self c =
    let copy = c.self.inside in
    rw c.add_good.ensures
    (shows-good (answered_in copy) copy.places copy.epoch copy.inputs c.put.new.self c.args.good.now c.self.invariant
    (record {
      task = rw (← c.task.ensures.value) c.task.ensures.below;
      datagram = rw (← c.datagram.ensures.value) c.datagram.ensures.below;
      few = rw (← c.bytes.ensures.value) c.bytes.ensures.few;
    })
    (rw (← c.task.ensures.value, ← c.datagram.ensures.value, ← c.bytes.ensures.value) c.put.ensures))
