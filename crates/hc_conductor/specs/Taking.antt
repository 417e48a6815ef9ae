-- Posts that are taken from the tasks' rings.
use Rattle.std.specs.Prelude.{◌≡◌, ℕ, ◌+◌, ◌≤◌, Bool, true, false, if◌then◌else◌, List, [], ◌∷◌, ◌++◌, filter, length, map, take}
use mathlib.Core.List.{IsPrefix}
use Rattle.hc_events.specs.declared.answer.Answer.{Answer}
use Rattle.hc_events.specs.declared.answer.Answer.TheVariants as answer
use Rattle.hc_events.specs.Entries.{History}
use Rattle.hc_events.specs.Steps.{Posts, PostsSteady, Step, answers_to, entries_after_all}
use Rattle.hc_rings.specs.declared.posts.TheConstants.{POSTS_WAITING}
use Rattle.hc_rings.specs.declared.posts.PostReceiver.{PostReceiver}
use Rattle.hc_rings.specs.Post.{Post}
use Rattle.hc_rings.specs.Ring.{SameReceiver, given_back, left, spare_places, taken}
use Rattle.hc_core.specs.State.{CoreState}
use Rattle.hc_conductor.specs.declared.taking.PostRule.{PostRule}
use Rattle.hc_conductor.specs.declared.taking.PostRule.TheVariants.{Present, Steady}
use Rattle.hc_conductor.specs.declared.taking.Taken.{Taken}
use Rattle.hc_conductor.specs.Conducting.{Conducting, core_history}

-- a task's post, as an event
abbrev pub event_of : ℕ → Post → Step
event_of task post = Posts task post.epoch post.bytes

-- a task's posts, in order, as events
abbrev pub events_of : ℕ → List Post → List Step
events_of task posts = map (event_of task) posts

-- the posts of tasks from this number on, ascending, as events
abbrev pub events_of_all : ℕ → List (List Post) → List Step
events_of_all task [] = []
events_of_all task (posts ∷ others) = events_of task posts ++ events_of_all (task + 1) others

-- a task's post, as a steady event
abbrev pub steady_event_of : ℕ → Post → Step
steady_event_of task post = PostsSteady task post.epoch post.bytes

-- a task's posts, in order, as steady events
abbrev pub steady_events_of : ℕ → List Post → List Step
steady_events_of task posts = map (steady_event_of task) posts

-- the posts of tasks from this number on, ascending, as steady events
abbrev pub steady_events_of_all : ℕ → List (List Post) → List Step
steady_events_of_all task [] = []
steady_events_of_all task (posts ∷ others) = steady_events_of task posts ++ steady_events_of_all (task + 1) others

-- a task's post, as the event that a rule makes of it
abbrev pub event_by : PostRule → ℕ → Post → Step
event_by Present = event_of
event_by Steady = steady_event_of

-- a task's posts, in order, as the events that a rule makes of them
abbrev pub events_by : PostRule → ℕ → List Post → List Step
events_by rule task posts = map (event_by rule task) posts

-- the posts of tasks from this number on, ascending, as the events that a rule makes of them
abbrev pub all_events_by : PostRule → ℕ → List (List Post) → List Step
all_events_by Present = events_of_all
all_events_by Steady = steady_events_of_all

-- the post was accepted
abbrev pub was_accepted : Answer → Bool
was_accepted answer.Posted = true
was_accepted other = false

-- how many of the events, one after another, the core accepts as posts
abbrev pub posted_in : History → List Step → ℕ
posted_in history steps = length (filter was_accepted (answers_to history steps))

-- 1 if it is true, else 0
abbrev pub one_if : Bool → ℕ
one_if b = if b then 1 else 0

-- the count of the accepted events and of the refused ones; a refused post leaves the core's record unchanged
pub record CountsPosts (history : History) (steps : List Step) (counted : Taken) : Type 0 where
  pub accepted : counted.accepted ≡ posted_in history steps
  pub all : counted.accepted + counted.refused ≡ length steps

-- these posts, at most this many, came out of the ring, in order; their buffers went back, if a place for each was known, and
-- no other buffer did
pub record AreTakenFrom (most : ℕ) (old new : PostReceiver) (posts : List Post) : Type 0 where
  pub few : length posts ≤ most
  pub ring : SameReceiver old new
  pub taken : taken new ≡ taken old ++ posts
  pub back : length posts ≤ spare_places old → given_back new ≡ given_back old ++ posts
  pub no_more : length (given_back new) ≤ length (given_back old) + length posts

-- if this many posts are known to be left, exactly these come out of the ring
abbrev pub TakesKnown : ℕ → PostReceiver → PostReceiver → Type 0
TakesKnown n old new = n ≤ length (left old) → taken new ≡ taken old ++ take n (left old)

-- if this many posts of each ring are known to be left, exactly these come out
abbrev pub EachTakesKnown : List ℕ → List PostReceiver → List PostReceiver → Type 0
EachTakesKnown [] [] [] = Unit {0}
EachTakesKnown (n ∷ ns) (old ∷ olds) (new ∷ updates) = TakesKnown n old new × EachTakesKnown ns olds updates
EachTakesKnown ns olds updates = ⊥

-- the posts that are known to wait, at most this many, are the first that come out of the ring
abbrev pub TakesWaiting : ℕ → PostReceiver → PostReceiver → Type 0
TakesWaiting most old new = IsPrefix (taken old ++ take most (left old)) (taken new)

-- the posts of each ring that are known to wait, at most this many of each, are the first that come out
abbrev pub EachTakesWaiting : List ℕ → List PostReceiver → List PostReceiver → Type 0
EachTakesWaiting [] [] [] = Unit {0}
EachTakesWaiting (n ∷ ns) (old ∷ olds) (new ∷ updates) = TakesWaiting n old new × EachTakesWaiting ns olds updates
EachTakesWaiting ns olds updates = ⊥

-- the posts of each ring that are known to wait, at most four of each, are the first that come out
abbrev pub AreTaken : List PostReceiver → List PostReceiver → List (List Post) → Type 0
AreTaken [] [] [] = Unit {0}
AreTaken (old ∷ olds) (new ∷ updates) (posts ∷ others) = AreTakenFrom POSTS_WAITING old new posts × AreTaken olds updates others
AreTaken olds updates others = ⊥

-- some posts of a task's ring, at most this many, became events of the core, in order
pub record TakesFrom (rule : PostRule) (task most : ℕ) (before after : CoreState) (old new : PostReceiver) (counted : Taken) : Type 0 where
  pub posts : List Post
  pub ring : AreTakenFrom most old new posts
  pub core : after ≡ record before { history = entries_after_all before.history (events_by rule task posts) }
  pub counts : CountsPosts before.history (events_by rule task posts) counted

-- some posts of each ring, from this task's on, became events of the core, in order
pub record TakesFromAll (rule : PostRule) (task : ℕ) (before after : CoreState) (old new : List PostReceiver) (counted : Taken) : Type 0 where
  pub posts : List (List Post)
  pub rings : AreTaken old new posts
  pub core : after ≡ record before { history = entries_after_all before.history (all_events_by rule task posts) }
  pub counts : CountsPosts before.history (all_events_by rule task posts) counted

-- some posts of each ring became events of the core, and nothing else did: the tasks ascending and each ring's posts in order
pub record TakesPosts (old new : Conducting) (counted : Taken) : Type 0 where
  pub posts : List (List Post)
  pub rings : AreTaken old.rings new.rings posts
  pub entries : core_history new ≡ entries_after_all (core_history old) (events_of_all 0 posts)
  pub counts : CountsPosts (core_history old) (events_of_all 0 posts) counted

-- some posts of each ring became steady events of the core, and nothing else did: the tasks ascending and each ring's posts in order
pub record TakesSteadyPosts (old new : Conducting) (counted : Taken) : Type 0 where
  pub posts : List (List Post)
  pub rings : AreTaken old.rings new.rings posts
  pub entries : core_history new ≡ entries_after_all (core_history old) (steady_events_of_all 0 posts)
  pub counts : CountsPosts (core_history old) (steady_events_of_all 0 posts) counted

-- posts of each ring became the events of the core that a rule makes of them
abbrev pub TakesPostsBy : PostRule → Conducting → Conducting → Taken → Type 0
TakesPostsBy Present = TakesPosts
TakesPostsBy Steady = TakesSteadyPosts
