use Rattle.std.proofs.Common.{rules, ◌≡◌, ◌++◌, length, map, ap, ◌∙◌, arith}
use Rattle.std.proofs.lemmas.Bool.Decides.{nat_tests}
use Rattle.hc_rings.specs.Frames.{frames_left, frames_sent, frames_taken}
use Rattle.hc_segment.specs.Line.{all_machines, machines_after}
use Rattle.hc_segment.proofs.Joined.{all-out}
use Rattle.hc_segment.proofs.Lines.{line_after-joined, line_after-lengths, none-pass}
use Rattle.hc_segment.proofs.chains.chain.Goals as goal

pub returns-clause-frames : goal.returns-clause-frames
returns-clause-frames g c =
    let got = frames_taken c.flow.new.from in
    let out = c.take_all.new.answer.items in
    let fed : got ++ frames_left c.beside.new.self ≡ c.args.frames.items = search rules in
    let counted : c.len-count.result ≡ length c.args.frames.items = search rules in
    let came : out ++ frames_left c.beside-2.new.self ≡ frames_sent c.flow.new.to = search rules in
    (all-out c.args.segments.now c.len-count.result got _ c.args.frames.items (frames_sent c.flow.new.to) out _ fed c.flow.ensures.flows.counted counted c.flow.ensures.flows.frames came c.take_all.ensures.count).0

pub returns-clause-machines : goal.returns-clause-machines
returns-clause-machines g c =
    let line = c.args.segments.now in
    let got = frames_taken c.flow.new.from in
    let out = c.take_all.new.answer.items in
    let fed : got ++ frames_left c.beside.new.self ≡ c.args.frames.items = search rules in
    let counted : c.len-count.result ≡ length c.args.frames.items = search rules in
    let came : out ++ frames_left c.beside-2.new.self ≡ frames_sent c.flow.new.to = search rules in
    let all = (all-out line c.len-count.result got _ c.args.frames.items (frames_sent c.flow.new.to) out _ fed c.flow.ensures.flows.counted counted c.flow.ensures.flows.frames came c.take_all.ensures.count).1 in
    ap all_machines c.flow.ensures.flows.segments ∙ line_after-joined line got ∙ ap (machines_after (all_machines line)) all

pub returns-clause-segments : goal.returns-clause-segments
returns-clause-segments g c = ap (map length) c.flow.ensures.flows.segments ∙ line_after-lengths c.args.segments.now (frames_taken c.flow.new.from)

pub returns-then-is_empty-clause-frames : goal.returns-then-is_empty-clause-frames
returns-then-is_empty-clause-frames g c =
    let none : length c.args.segments.now ≡ 0 = grind (arith, nat_tests) in
    (none-pass c.args.segments.now c.args.frames.items none).0

pub returns-then-is_empty-clause-machines : goal.returns-then-is_empty-clause-machines
returns-then-is_empty-clause-machines g c =
    let none : length c.args.segments.now ≡ 0 = grind (arith, nat_tests) in
    (none-pass c.args.segments.now c.args.frames.items none).1
