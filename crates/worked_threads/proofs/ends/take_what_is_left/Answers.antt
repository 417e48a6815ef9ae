use Rattle.std.proofs.Common.{◌++◌, List, length, ap, sym, subst, arith}
use Rattle.hc_rings.specs.Post.{Post}
use Rattle.hc_rings.specs.Ring.{taken, left, EndCameAfter}
use Rattle.worked_threads.proofs.Rest.{one_less_left}
use Rattle.hc_rings.proofs.lemmas.Ended.{taken_then_left}
use Rattle.worked_threads.proofs.ends.take_what_is_left.Goals as goal

pub unreachable-requires : goal.unreachable-requires
unreachable-requires c = omega (arith, ap length c.in-None.ensures.none_left.0, c.loop.invariant.some_left)

pub loop-preserved : goal.loop-preserved
loop-preserved c =
    let before = c.loop.receiver in
    let after = c.take.new.self in
    let at_end = c.give_back.new.self in
    let posts = taken before ++ left before in
    let one = c.take.ensures.end posts c.loop.invariant.all in
    let end = c.give_back.ensures.end posts one in
    let P : List Post → Type 0 = λ ps. EndCameAfter at_end ps in
    let less = one_less_left (taken before) (left before) (taken after) (left after) _ c.in-Some.ensures.some (taken_then_left after posts one) in
    record {
      all = subst P (sym (taken_then_left at_end posts end)) end;
      some_left = omega (arith, less, ap length c.give_back.ensures.taken.1, c.loop.invariant.some_left);
    }
