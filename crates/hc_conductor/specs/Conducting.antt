-- A conductor, as contracts see it: its core, its publisher, the changes on their way from the one to the other, and the ends
-- at which posts come in.
use Rattle.std.specs.Prelude.{◌≡◌, List, ◌++◌, length, map, reverse}
use Rattle.hc_records.specs.declared.limits.TheConstants.{TASKS}
use Rattle.hc_records.specs.Line.{opened}
use Rattle.hc_events.specs.declared.change.Change.{Change}
use Rattle.hc_events.specs.Changes.{AreLegal, updates_of, update_in}
use Rattle.hc_events.specs.Entries.{History}
use Rattle.hc_events.specs.UpdatesLaws.{state_after_changes}
use Rattle.hc_events.specs.Points.{opened_with, state_of}
use Rattle.hc_core.specs.State.{CoreState}
use Rattle.hc_publish.specs.PublishedState as published_state
use Rattle.hc_publish.specs.PublishedState.{PublishedState}
use Rattle.hc_publish.specs.Stories.{Origin}
use Rattle.hc_rings.specs.declared.posts.PostReceiver.{PostReceiver}

-- the core, the publisher, the changes that were taken from the one and not yet appended to the other, the oldest first, and
-- the ends at which the tasks' posts come in, task i's at index i
pub record Conducting : Type 0 where
  pub core : CoreState
  pub published_state : PublishedState
  pub waiting : List Change
  pub rings : List PostReceiver

-- the history of the core
abbrev pub core_history : Conducting → History
core_history c = c.core.history

-- the changes that views show
abbrev pub conductor_published : Conducting → List Change
conductor_published c = published_state.published c.published_state

-- the changes that were appended and that views do not show yet
abbrev pub conductor_pending : Conducting → List Change
conductor_pending c = published_state.pending c.published_state

-- all changes that a publisher has, published or not, and after them those that wait in a list, whose last one is the first
abbrev pub changes_with : PublishedState → List Change → List Change
changes_with p waiting = published_state.published p ++ published_state.pending p ++ reverse waiting

-- the publisher that the conductor's seats and notes belong to
abbrev pub conductor_origin : Conducting → Origin
conductor_origin c = published_state.origin_of c.published_state

-- all changes that were ever taken from the core, in order
abbrev pub all_taken : Conducting → List Change
all_taken c = conductor_published c ++ conductor_pending c ++ c.waiting

-- the invariant of a conductor: its groups are those of the opened project; all changes in a row are legal for it, give the
-- updates of the record as it was when changes were last taken, and lead to the state that it had then; it has a ring for each
-- task
pub record IsConducting (c : Conducting) : Type 0 where
  pub groups : (conductor_origin c).groups ≡ opened_with (core_history c)
  pub legal : AreLegal (conductor_origin c).groups (all_taken c)
  pub updates : map update_in (all_taken c) ≡ updates_of c.core.taken
  pub after_it : state_after_changes (opened (conductor_origin c).groups) (all_taken c) ≡ state_of c.core.taken
  pub rings : length c.rings ≡ TASKS

-- no change was taken, appended or published
abbrev pub SameChanges : Conducting → Conducting → Type 0
SameChanges p q = (q.core.taken ≡ p.core.taken) × (q.published_state ≡ p.published_state) × (q.waiting ≡ p.waiting)

-- only the core's record has changed: no change was taken, appended or published, and no post was taken
abbrev pub SameLists : Conducting → Conducting → Type 0
SameLists p q = SameChanges p q × (q.rings ≡ p.rings)

-- the published list is all that the record gives
pub record PublishesAll (c : Conducting) : Type 0 where
  pub legal : AreLegal (opened_with (core_history c)) (conductor_published c)
  pub updates : map update_in (conductor_published c) ≡ updates_of (core_history c)
