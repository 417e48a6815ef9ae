-- Where each part may be worked on, the one that is cut off may be, and each of the others.
use Rattle.std.proofs.Common.{rules, arith}
use Rattle.std.proofs.lemmas.Grind.{common_steps}
use Rattle.hc_lend.specs.Work.{CanWorkOnceBegun}
use Rattle.hc_lend.proofs.Cuts.{can_work-apart}
use Rattle.hc_lend.proofs.at_once.+fn-rest_at_once-join_mut+arg3+rest_at_once.Goals as goal

pub work_alone-requires : goal.work_alone-requires
work_alone-requires g t c =
    (can_work-apart (CanWorkOnceBegun (g.G.Gate.passed c.args.gate.now) (g.W.PartWork.can_work c.args.work.now)) c.args.first c.in-Some.size.now c.args.lengths.now c.in-Some.lengths.now c.args.bytes.now
    c.split_at_mut-part.result.0.now c.split_at_mut-part.result.1.now c.in-Some.ensures.cases.0 c.split_at_mut-part.ensures.value c.split_at_mut-part.ensures.front_len c.requires.can).0

pub join_mut-requires-after_bounds : goal.join_mut-requires-after_bounds
join_mut-requires-after_bounds g t c κs within =
    let may = can_work-apart (CanWorkOnceBegun (g.G.Gate.passed c.args.gate.now) (g.W.PartWork.can_work c.args.work.now)) c.args.first c.in-Some.size.now c.args.lengths.now c.in-Some.lengths.now c.args.bytes.now
    c.split_at_mut-part.result.0.now c.split_at_mut-part.result.1.now c.in-Some.ensures.cases.0 c.split_at_mut-part.ensures.value c.split_at_mut-part.ensures.front_len c.requires.can in
    (may.0, (omega (arith, c.in-Some.ensures.cases.1), (λ a h. h, (λ a h. h, (λ a h. h, ((search rules, search rules, search rules, (grind (arith, common_steps), omega (arith, c.in-Some.ensures.cases.1), may.1)), search rules))))))
