-- Views, as clauses see them.
use Rattle.std.specs.Prelude.{ℕ, List}
use Rattle.hc_events.specs.declared.change.Change.{Change}
use Rattle.hc_publish.specs.ChangesSince.{ChangesSince}
use Rattle.hc_publish.specs.PublicationLog.{TheSeen}
use Rattle.hc_publish.specs.Stories.{Origin}

-- the seat's task, the content of the viewed copy, and the entries of the publication log at that copy's last seal
pub record Look : Type 0 where
  pub task : ℕ
  pub changes_since : ChangesSince
  pub token : TheSeen

-- the changes that the view shows
abbrev pub shown : Look → List Change
shown v = v.changes_since.changes

-- the publisher that the view's seat belongs to
abbrev pub view_origin : Look → Origin
view_origin v = record { publication_log = v.token.book; groups = v.changes_since.groups }
