use Rattle.std.proofs.Common.{rules, ℕ, List, length, sum, ap, ◌∙◌, arith}
use Rattle.std.proofs.lemmas.List.Sums.{sum_by-cons}
use Rattle.hc_events.specs.Points.{line_of}
use Rattle.hc_sendings.specs.Parts.{part_size}
use Rattle.hc_conductor.specs.AtOnce.{sizes_of}
use Rattle.hc_conductor.proofs.at_once.+put_sizes.Goals as goal

pub put_sizes-requires : goal.put_sizes-requires
put_sizes-requires t c =
    let history = c.args.core.now.history in
    let frames = c.args.frames.now in
    let cut = c.in-Some.ensures.cases.0 in
    let all = ap (λ (tasks : List ℕ). sum (sizes_of history frames tasks)) cut ∙ sum_by-cons (λ (n : ℕ). n) (part_size (line_of history) c.in-Some.task.now frames) (sizes_of history frames c.in-Some.rest.now) in (
      search rules,
      (c.requires.can, (c.requires.few, (omega (arith, c.requires.exact, ap length cut, c.split_at_mut-first.ensures.back_len), omega (arith, c.requires.small, all)))),
    )
