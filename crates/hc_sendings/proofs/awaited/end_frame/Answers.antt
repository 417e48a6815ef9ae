use Rattle.std.proofs.Common.{◌≡◌, ◌∙◌, ◌-◌, ℕ, List, ap, arith, inr, length, subst, take}
use Rattle.hc_sendings.specs.Stored.{IsLast, StoredFrame}
use Rattle.hc_sendings.proofs.Ended.{last-gone}
use Rattle.hc_sendings.proofs.awaited.end_frame.Goals as goal

pub returns-then-is_last-clause-frames : goal.returns-then-is_last-clause-frames
returns-then-is_last-clause-frames c =
    let frames : List StoredFrame = c.args.frames.now.items in
    let size = c.args.frames.now.ok.0 in
    let last : IsLast c.args.serial frames = subst (IsLast c.args.serial) c.as_slice.ensures.value (c.is_last.ensures c.if-is_last.true) in
    let count : c.len.result - 1 ≡ length frames - 1 = omega (arith, c.len.ensures, size) in
    inr (c.truncate.ensures.items ∙ ap (λ (n : ℕ). take n frames) count ∙ last-gone c.args.serial frames c.requires last)
