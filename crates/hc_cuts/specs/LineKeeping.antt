-- Facts of the tasks of a line when they are turned: their boundaries before, and the hulls of their touched keys.
use Rattle.std.specs.Prelude.{ℕ, ◌<◌, List, slice_index_or, ◌≡◌}
use Rattle.hc_records.specs.declared.keys.Key.{Key}
use Rattle.hc_records.specs.declared.limits.TheConstants.{TASKS}
use Rattle.hc_records.specs.Boundaries.{is_touched}
use Rattle.hc_cuts.specs.declared.hulls.Hulls.{Hulls}
use Rattle.hc_cuts.specs.Hulls.{AreHulls, no_hulls}
use Rattle.hc_cuts.specs.Areas.{list_by, AreaLine}
use Rattle.hc_cuts.specs.ApplyWidths.{AreStartsOf}
use Rattle.hc_cuts.specs.Starts.{TaskCuts}
use Rattle.hc_cuts.specs.TaskCuts.{IsProjectLine, line_cuts}

-- the boundaries of each task without END, and its hulls
pub record Before : Type 0 where
  pub starts : List (List Key)
  pub hulls : List Hulls

-- the hulls of the keys of each task whose widths differ between two lines
abbrev pub AreLineHulls : AreaLine → AreaLine → List Hulls → Type 0
AreLineHulls old new hulls = (task : ℕ) → task < TASKS → AreHulls (is_touched (list_by task old) (list_by task new)) (slice_index_or hulls task no_hulls)

-- the boundaries of the eight tasks of an old line, and the hulls of the keys whose widths differ in a new one
pub record IsKnownBefore (old new : AreaLine) (before : Before) : Type 0 where
  pub starts : AreStartsOf old before.starts
  pub hulls : AreLineHulls old new before.hulls

-- the boundaries and hulls of two such lines, and the tasks of the new line after the change
pub record AreTasksOfEdit (old new : AreaLine) (before : Before) (cuts : List TaskCuts) : Type 0 where
  pub line : IsProjectLine new
  pub known : IsKnownBefore old new before
  pub of_new : cuts ≡ line_cuts new
