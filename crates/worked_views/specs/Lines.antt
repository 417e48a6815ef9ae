-- A publisher, and the plan to which its appended changes lead.
use Rattle.std.specs.Prelude.{◌≡◌, ◌++◌}
use Rattle.hc_records.specs.Line.{State, opened}
use Rattle.hc_events.specs.Changes.{AreLegal}
use Rattle.hc_events.specs.UpdatesLaws.{state_after_changes}
use Rattle.hc_publish.specs.PublishedState.{PublishedState, origin_of, pending, published}

-- the changes appended to the publisher are legal, and lead to the plan's state
pub record LeadsTo (publisher : PublishedState) (plan : State) : Type 0 where
  pub legal : AreLegal (origin_of publisher).groups (published publisher ++ pending publisher)
  pub leads : state_after_changes (opened (origin_of publisher).groups) (published publisher ++ pending publisher) ≡ plan
