-- A publisher, as contracts see it: the copy that views show, the steps that they do not show yet, and the prefix of the
-- publication log.
use Rattle.std.specs.Prelude.{List}
use Rattle.hc_events.specs.declared.change.Change.{Change}
use Rattle.hc_publish.specs.ChangesSince.{ChangesSince}
use Rattle.hc_publish.specs.declared.absorb.Step.{Step}
use Rattle.hc_publish.specs.PublicationLog.{TheSeen}
use Rattle.hc_publish.specs.Rule.{changes_in, after_steps}
use Rattle.hc_publish.specs.Stories.{Origin, Story, origin}

-- the copy that views show, the steps after it, and the entries of the whole publication log
pub record PublishedState : Type 0 where
  pub shown : Story
  pub steps : List Step
  pub front : TheSeen

-- the changes that views show
abbrev pub published : PublishedState → List Change
published p = p.shown.shown.changes

-- the changes that views do not show yet
abbrev pub pending : PublishedState → List Change
pending p = changes_in p.steps

-- the publisher itself, as seats and notes name it
abbrev pub origin_of : PublishedState → Origin
origin_of p = origin p.shown

-- the list that a publishing is about to show
abbrev pub all_shown : PublishedState → ChangesSince
all_shown p = after_steps p.shown.shown p.steps
