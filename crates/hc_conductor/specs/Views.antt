-- The view of a task, as clauses see it.
use Rattle.std.specs.Prelude.{ℕ, List}
use Rattle.hc_places.specs.Table.{Table}
use Rattle.hc_events.specs.declared.change.Change.{Change}
use Rattle.hc_publish.specs.ChangesSince.{ChangesSince, table_shown}
use Rattle.hc_publish.specs.Looks as inner
use Rattle.hc_publish.specs.Stories.{Origin}
use Rattle.hc_rings.specs.declared.posts.PostSender.{PostSender}
use Rattle.hc_conductor.specs.declared.view.TaskView.{TaskView}

-- the content of the copy that is viewed
abbrev pub answered_to : TaskView → ChangesSince
answered_to v = v.view.changes_since

-- the table of the line that a view shows
abbrev pub view_table : TaskView → Table
view_table v = table_shown (answered_to v)

-- the changes that a view shows
abbrev pub view_shown : TaskView → List Change
view_shown v = inner.shown v.view

-- the conductor that the view's seat belongs to
abbrev pub task_view_origin : TaskView → Origin
task_view_origin v = inner.view_origin v.view

-- the task of a view
abbrev pub view_task : TaskView → ℕ
view_task v = v.view.task

-- the end of the ring of posts of the view's seat
abbrev pub view_sender : TaskView → PostSender
view_sender v = v.posts
