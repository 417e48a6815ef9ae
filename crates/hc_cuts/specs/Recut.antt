-- The spans that an edit recuts in the tasks of a line, by the areas of the slaves.
use Rattle.std.specs.Prelude.{ℕ, zero, suc, ◌+◌, nat_lt, Bool, if◌then◌else◌, length, ◌*◌}
use Rattle.hc_records.specs.declared.limits.TheConstants.{MOST_DATAGRAMS}
use Rattle.hc_records.specs.Boundaries.{touched, unsettled_spans}
use Rattle.hc_cuts.specs.Areas.{list_by, AreaLine}
use Rattle.hc_cuts.specs.Starts.{most_read}

-- a task is touched if a key's width differs
abbrev pub is_touched_by : ℕ → AreaLine → AreaLine → Bool
is_touched_by task old new = nat_lt 0 (length (touched (list_by task old) (list_by task new)))

-- the spans of a touched task that are not settled
abbrev pub recut_by : ℕ → AreaLine → AreaLine → ℕ
recut_by task old new = if is_touched_by task old new then unsettled_spans (list_by task old) (list_by task new) else 0

-- the spans of `count` tasks from one on that are not settled
abbrev pub recut_from : ℕ → ℕ → AreaLine → AreaLine → ℕ
recut_from zero task old new = 0
recut_from (suc count) task old new = recut_by task old new + recut_from count (task + 1) old new

-- the number of touched tasks

-- 1 for a touched task, else 0
abbrev pub touched_by : ℕ → AreaLine → AreaLine → ℕ
touched_by task old new = if is_touched_by task old new then 1 else 0

-- the number of touched tasks among `count` tasks from one on
abbrev pub touched_from : ℕ → ℕ → AreaLine → AreaLine → ℕ
touched_from zero task old new = 0
touched_from (suc count) task old new = touched_by task old new + touched_from count (task + 1) old new

-- the most steps that the searches take

-- the most steps of a touched task; no other one is searched
abbrev pub most_steps_by : ℕ → AreaLine → AreaLine → ℕ
most_steps_by task old new = most_read * MOST_DATAGRAMS * touched_by task old new

-- the most steps of `count` tasks from one on
abbrev pub most_steps_from : ℕ → ℕ → AreaLine → AreaLine → ℕ
most_steps_from count task old new = most_read * MOST_DATAGRAMS * touched_from count task old new
