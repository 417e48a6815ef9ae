-- The posts of a task in a run, by the line that was published last.
use Rattle.std.specs.Prelude.{ℕ, List, Option}
use Rattle.hc_places.specs.Table.{Table, table_of}
use Rattle.hc_events.specs.Points.{epoch_of, line_of}
use Rattle.hc_conductor.specs.declared.one_thread.refusals.PostRefusal.{PostRefusal}
use Rattle.hc_records.specs.declared.setting.Setting.{Setting}
use Rattle.hc_conductor.specs.Posting.{post_made, post_refused, with_post}
use Rattle.hc_program.specs.Standings.{SessionState}

-- the table of the line that was published last
abbrev pub table_seen : SessionState → Table
table_seen s = table_of (line_of s.seen)

-- the refusal of a task's values, or none: the first value that is refused decides, else that four posts wait
abbrev pub post_judged : SessionState → ℕ → List Setting → Option PostRefusal
post_judged s task settings = post_refused (table_seen s) task settings s.posts

-- the run with the post of these values, for the epoch of the line that was published last
abbrev pub with_posted : SessionState → ℕ → List Setting → SessionState
with_posted s task settings =
    record s { posts = with_post task (post_made (epoch_of s.seen) (table_seen s) task settings) s.posts }
