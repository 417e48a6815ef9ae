use Rattle.std.proofs.Common.{◌≡◌, ℕ, ◌+◌, ◌<◌, List, length, arith, below_more, get_or-set_other, ◌∙◌}
use Rattle.std.proofs.Math.ListN.{length-set}
use Rattle.std.specs.Prelude.{slice_index_or, slice_set}
use Rattle.std.proofs.lemmas.Grind.{get_or-set_at}
use Rattle.hc_records.specs.Boundaries.{is_touched}
use Rattle.hc_cuts.specs.declared.hulls.Hulls.{Hulls}
use Rattle.hc_cuts.specs.Hulls.{AreHulls, no_hulls}
use Rattle.hc_cuts.specs.Areas.{list_by}
use Rattle.hc_cuts.proofs.line_keeping.all_hulls.Goals as goal

-- the hulls of one more task
one-more : (AreOf : ℕ → Hulls → Type 0) (hulls : List Hulls) (task at : ℕ) (more : Hulls) → at ≡ task → task < length hulls
    → ((k : ℕ) → k < task → AreOf k (slice_index_or hulls k no_hulls)) → AreOf task more
    → (k : ℕ) → k < task + 1 → AreOf k (slice_index_or (slice_set hulls at more) k no_hulls)
one-more AreOf hulls task at more is within before own =
    grind (arith, below_more, get_or-set_other, get_or-set_at)

pub loop-task-preserved : goal.loop-task-preserved
loop-task-preserved c = record {
  eight = length-set c.loop-task.hulls c.from.result c.touched_hulls.result ∙ c.loop-task.invariant.eight;
  so_far = λ old new lines.
      let within = c.loop-task-test.true in
      let eight = c.loop-task.invariant.eight in
      one-more (λ task hulls. AreHulls (is_touched (list_by task old) (list_by task new)) hulls) c.loop-task.hulls c.loop-task.task c.from.result c.touched_hulls.result
      c.from.ensures (omega (arith, within, eight)) (c.loop-task.invariant.so_far old new lines) (c.touched_hulls.ensures old new lines);
}

pub returns : goal.returns
returns c = λ old new lines task low.
    let history = c.loop-task-test.false in
    c.loop-task.invariant.so_far old new lines task (omega (arith, history, low))
