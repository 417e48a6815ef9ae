use Rattle.std.proofs.Common.{◌≡◌, ◌++◌, ◌∷◌, [], length, ap, sym, ◌∙◌, rules}
use Rattle.hc_rings.specs.Frames.{SameFrameReceiver, frames_left, frames_sent, frames_taken}
use Rattle.hc_segment.specs.Line.{frames_through, machines_after, line_after, line_frames}
use Rattle.hc_segment.specs.Flow.{Flows}
use Rattle.hc_segment.proofs.Joined.{handed-on, line-sent, line-left, only-one, set-one}
use Rattle.hc_segment.proofs.flow.+flow+fn-flow-join_mut+arg2.Goals as goal

pub returns-clause-flows : goal.returns-clause-flows
returns-clause-flows g t c =
    let front = c.split_at_mut-first.result.0.now in
    let back = c.split_at_mut-first.result.1.now in
    let s = c.index-first-0.result in
    let s' = c.join_mut.new.g.2.now in
    let got = frames_taken c.from-1.given.0 in
    let passed = frames_sent c.sender-2-1.given.0 in
    let got2 = frames_taken c.receiver-2-1.given.0 in
    let counted : length got ≡ c.args.count = search rules in
    let frames : passed ≡ frames_through s got = search rules in
    let machines : s' ≡ machines_after s got = search rules in
    let from : SameFrameReceiver c.args.from.now c.from-1.given.0 = search rules in
    let rest : Flows c.args.count back c.rest-1.given.0 c.in-Some.seam.receiver c.receiver-2-1.given.0 c.args.to.now c.to-1.given.0 = search rules in
    let beside : got2 ++ frames_left c.beside.new.self ≡ passed = search rules in
    let handed : got2 ≡ frames_through s got = handed-on s c.args.count got passed got2 (frames_left c.beside.new.self) counted frames rest.counted beside in
    let one : front ≡ s ∷ [] = only-one front s (search rules) c.index-first-0.is in
    let all : c.args.segments.now ≡ s ∷ back = search rules in
    record {
      counted = counted;
      frames = line-sent s back got got2 (frames_sent c.to-1.given.0) handed rest.frames ∙ sym (ap (λ l. line_frames l got) all);
      segments = set-one front c.rest-1.given.0 s s' one ∙ line-left s s' back c.rest-1.given.0 got got2 machines handed rest.segments ∙ sym (ap (λ l. line_after l got) all);
      same_from = from;
      same_to = rest.same_to;
    }
