use Rattle.std.proofs.Common.{arith, subst}
use Rattle.std.specs.Io.KnownBytes.{Appends}
use Rattle.std.proofs.KnownBytes.{Appends-trans}
use Rattle.hc_text.proofs.Fronts.{front_grows}
use Rattle.hc_text.proofs.output.write_text.Goals as goal

pub loop-written-preserved-in-Ok : goal.loop-written-preserved-in-Ok
loop-written-preserved-in-Ok g c = record {
  within = omega (arith, c.in-Ok.ensures.bound);
  appended =
      subst (Appends _ _) (front_grows c.args.text.now c.loop-written.written c.in-Ok.count)
      (Appends-trans _ _ _ _ _ c.loop-written.invariant.appended c.in-Ok.ensures.bytes);
}
