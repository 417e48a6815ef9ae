-- The invariant of a publisher.
use Rattle.std.specs.Prelude.{◌≡◌, true, List, [], ◌∷◌, drop, ◌++◌}
use Rattle.left_right.specs.Sides.{view}
use Rattle.hc_events.specs.Changes.{AreLegal}
use Rattle.hc_publish.specs.declared.absorb.Step.{Step}
use Rattle.hc_publish.specs.declared.absorb.Step.TheVariants.{Sealed}
use Rattle.hc_publish.specs.declared.publisher.Publisher.TheInside.{Inside}
use Rattle.hc_publish.specs.PublicationLog.{Extends, log_end_of, top}
use Rattle.hc_publish.specs.PublishedState.{PublishedState, all_shown, origin_of, published, pending}
use Rattle.hc_publish.specs.Rule.{AreFew, IsSealed}

-- a publisher, as contracts see it
abbrev pub published_state_in : Inside → PublishedState
published_state_in p = record { shown = p.writer.desk.shown.value; steps = drop p.writer.behind p.writer.log.items; front = p.front }

-- a seal stands after the pending changes; its last entry is the list that is about to be shown
pub record IsReadyToShow (p : PublishedState) : Type 0 where
  pub before : List Step
  pub ends : p.steps ≡ before ++ Sealed p.front ∷ []
  pub last : top p.front.log ≡ all_shown p

-- the published list is legal with all pending changes, and sealed; refused publishings leave at most one seal; the prefix and
-- the copy have one publication log, and the last list that it saw begins the whole list
pub record IsSoundPublisher (p : Inside) : Type 0 where
  pub legal : AreLegal p.writer.desk.shown.value.shown.groups (published (published_state_in p) ++ pending (published_state_in p))
  pub knows : view p.writer.desk.place ≡ p.writer.desk.shown.value.token ∷ []
  pub is_sealed : IsSealed p.writer.desk.shown.value
  pub head_is : p.head ≡ log_end_of p.front.book
  pub one_publication_log : p.writer.desk.shown.value.token.book ≡ p.front.book
  pub extends : Extends (top p.front.log) (all_shown (published_state_in p))
  pub few : AreFew p.is_sealed (published_state_in p).steps
  pub ready : p.is_sealed ≡ true → IsReadyToShow (published_state_in p)

-- everything that was pending is published
abbrev pub ShowsPending : PublishedState → PublishedState → Type 0
ShowsPending before after = (published after ≡ published before ++ pending before) × (pending after ≡ [])

-- nothing more is published, and everything that was pending still is
abbrev pub ShowsNoMore : PublishedState → PublishedState → Type 0
ShowsNoMore before after = (published after ≡ published before) × (pending after ≡ pending before)

-- published and pending changes are unchanged
abbrev pub AreSame : PublishedState → PublishedState → Type 0
AreSame p q = (published q ≡ published p) × (pending q ≡ pending p) × (origin_of q ≡ origin_of p)
