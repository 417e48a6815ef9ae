use Rattle.std.proofs.Common.{◌≡◌, ℕ, ◌<◌, List, length}
use Rattle.std.specs.Prelude.{slice_index_or}
use Rattle.hc_records.specs.Boundaries.{is_touched}
use Rattle.hc_records.specs.declared.records.Area.{Area}
use Rattle.hc_cuts.specs.Hulls.{AreHulls, no_hulls}
use Rattle.hc_cuts.specs.Areas.{list_by}
use Rattle.hc_cuts.specs.ApplyWidths.{AreLines}
use Rattle.hc_cuts.proofs.line_keeping.all_hulls.Given as goal

-- the hulls of the tasks so far are worked out
abbrev pub invariant-loop-task : goal.invariant-loop-task
invariant-loop-task l = record {
  eight : length l.hulls ≡ 8;
  so_far :
      (old new : List (List Area)) → AreLines l.change old new → (task : ℕ) → task < l.task
      → AreHulls (is_touched (list_by task old) (list_by task new)) (slice_index_or l.hulls task no_hulls);
}
