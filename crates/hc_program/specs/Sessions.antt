-- A session, as clauses see it.
use Rattle.std.specs.Prelude.{◌≡◌, [], map, replicate}
use Rattle.hc_records.specs.declared.limits.TheConstants.{TASKS}
use Rattle.hc_events.specs.Accepted.{IsReachable}
use Rattle.hc_events.specs.Changes.{AreLegal, updates_of, update_in}
use Rattle.hc_events.specs.Entries.{History}
use Rattle.hc_events.specs.Points.{opened_with}
use Rattle.hc_publish.specs.ChangesSince.{ChangesSince}
use Rattle.hc_conductor.specs.Mastering.{Mastering, master_history, master_shown, waiting}
use Rattle.hc_program.specs.declared.session.Session.TheInside.{Inside}
use Rattle.hc_program.specs.Standings.{SessionState}

-- the state of a session's run
abbrev pub session_state_in : Inside → SessionState
session_state_in s = record { history = master_history s.master; machines = s.line; posts = waiting s.master; seen = s.seen.value.history }

-- a record that events lead to, and what is shown is all that it gives: legal changes since its opening, with its
-- updates
pub record IsShown (seen : History) (shown : ChangesSince) : Type 0 where
  pub reachable : IsReachable seen
  pub groups : shown.groups ≡ opened_with seen
  pub legal : AreLegal (opened_with seen) shown.changes
  pub updates : map update_in shown.changes ≡ updates_of seen

-- a master at its opening: the opening is shown, and no post waits
pub record MasterIsAtOpening (m : Mastering) : Type 0 where
  pub shown : IsShown (master_history m) (master_shown m)
  pub none : waiting m ≡ replicate TASKS []

-- the invariant of every session: its tasks are shown what the record says that was published last
abbrev pub IsSoundSession : Inside → Type 0
IsSoundSession s = IsShown s.seen.value.history (master_shown s.master)
