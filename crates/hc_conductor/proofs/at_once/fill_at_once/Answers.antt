use denote.Param.Send.{sendable}
use Rattle.std.proofs.Crossing.{crosses}
use Rattle.std.proofs.Common.{rules, ◌≡◌, List, None, length, sum, sum_by, ap, subst, sym, ◌∙◌, arith}
use Rattle.std.specs.List.{concat, flat_map}
use Rattle.std.proofs.lemmas.List.{length-map}
use Rattle.hc_records.specs.Edits.{over_limit_task}
use Rattle.hc_records.specs.Line.{State, line}
use Rattle.hc_events.specs.Points.{line_of}
use Rattle.hc_events.specs.Sendings.{Frame, sent_frame_size}
use Rattle.hc_events.specs.Steps.{sent_text}
use Rattle.hc_lend.specs.Work.{worked_parts}
use Rattle.hc_sendings.specs.Parts.{part_size}
use Rattle.hc_core.proofs.lemmas.Crossing.{core_field_sync, core_sync}
use Rattle.hc_core.proofs.lemmas.Parts.{proposal-few}
use Rattle.hc_conductor.specs.AtOnce.{part_written_at, sizes_of}
use Rattle.hc_conductor.proofs.AtOnce.{parts-fillable, parts-joined, sizes-whole}
use Rattle.hc_conductor.proofs.at_once.fill_at_once.Goals as goal

pub put_sizes-requires-clause-small : goal.put_sizes-requires-clause-small
put_sizes-requires-clause-small g c =
    let history = c.args.core.now.history in
    let tasks = c.args.tasks.now in
    let whole =
    ap (λ (frames : List Frame). sum (sizes_of history frames tasks)) c.requires.proposal
    ∙ (sizes-whole history tasks c.requires.together ∙ ap (sum_by sent_frame_size) (sym c.requires.proposal)) in
    let uncrowded : over_limit_task (line_of history) ≡ None = ap (λ (s : State). over_limit_task (line s)) (sym c.plan.ensures.state) ∙ c.places.ensures.uncrowded in
    let few = proposal-few history c.args.frames.now uncrowded c.requires.present in
    omega (arith, whole, few, c.requires.most)

pub of-requires : goal.of-requires
of-requires g c =
    let history = c.args.core.now.history in
    let tasks = c.args.tasks.now in
    ap sum c.put_sizes.ensures
    ∙ (ap (λ (frames : List Frame). sum (sizes_of history frames tasks)) c.requires.proposal
    ∙ (sizes-whole history tasks c.requires.together ∙ (ap (sum_by sent_frame_size) (sym c.requires.proposal) ∙ sym c.requires.exact)))

pub each_at_once-requires-after_bounds : goal.each_at_once-requires-after_bounds
each_at_once-requires-after_bounds g c κs within = λ k d less passed.
    parts-fillable c.args.core.now.history c.args.frames.now c.args.tasks.now c.of.result.lengths.now c.of.result.bytes.now c.requires.can (c.of.ensures.lengths ∙ c.put_sizes.ensures) c.of.result.all k d less

pub returns : goal.returns
returns g c =
    let history = c.args.core.now.history in
    let tasks = c.args.tasks.now in
    let lengths = c.of.result.lengths.now in
    let long : length lengths ≡ length tasks = ap length (c.of.ensures.lengths ∙ c.put_sizes.ensures) ∙ length-map tasks (λ task. part_size (line_of history) task c.args.frames.now) in
    (search rules ∙ c.each_at_once.ensures.whole)
    ∙ subst (λ (frames : List Frame). concat (worked_parts (λ part b. part_written_at history frames tasks part) 0 lengths c.of.result.bytes.now) ≡ flat_map (sent_text history) frames) (sym c.requires.proposal)
    (parts-joined history tasks lengths c.of.result.bytes.now c.requires.together long)

pub each_at_once-requires-sync-W : goal.each_at_once-requires-sync-W
each_at_once-requires-sync-W g c κs within = search (sendable, crosses, core_field_sync, core_sync) depth 100 fits 100000
