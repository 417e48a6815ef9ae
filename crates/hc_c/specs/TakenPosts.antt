-- Posts that the owner takes from the tasks' seats.
use Rattle.std.specs.Prelude.{◌≡◌, ℕ, ◌+◌, ◌*◌, Bool, true, false, not, if◌then◌else◌, List, [], ◌∷◌, ◌++◌, Option, None, Some, map, replicate}
use Rattle.std.specs.List.{list_any}
use Rattle.hc_events.specs.declared.answer.Answer.{Answer}
use Rattle.hc_events.specs.declared.answer.Answer.TheVariants as answer
use Rattle.hc_events.specs.Steps.{PostsSteady, Step, answers_to, entries_after_all}
use Rattle.hc_core.specs.State.{CoreState}
use Rattle.hc_mail.specs.Contents.{StartsWith, last_after}
use Rattle.hc_mail.specs.Ends.{StaysAtTable, reported, seen}
use Rattle.hc_mail.specs.Posts.{MailedPost}
use Rattle.hc_c.specs.declared.embedded.Embedded.{Embedded}
use Rattle.hc_c.specs.declared.seat.ends.OwnerEnd.{OwnerEnd}
use Rattle.hc_c.specs.declared.seat.taking.TakenPosts.{TakenPosts}

-- a task's post, as an event
abbrev pub posting_of : ℕ → MailedPost → Step
posting_of task post = PostsSteady task post.epoch post.bytes

-- the post was accepted
abbrev pub is_posted : Answer → Bool
is_posted answer.Posted = true
is_posted other = false

-- the post was refused
abbrev pub is_refused : Answer → Bool
is_refused given = not (is_posted given)

-- the newest of some posts; none if there is no post
abbrev pub newest_alone : List MailedPost → List MailedPost
newest_alone [] = []
newest_alone (first ∷ rest) = last_after first rest ∷ []

-- the post that was taken last was refused: after these posts came, and the newest of them was judged so
abbrev pub refused_after : List MailedPost → Bool → Bool → Bool
refused_after [] before judged = before
refused_after (first ∷ rest) before judged = judged

-- these posts came out of a seat's mailbox since the owner looked before: all that a note named are among those that it knows;
-- whether the last one was refused is stored, and the seat's images are unchanged
pub record ComeOut (old new : OwnerEnd) (posts : List MailedPost) (refused : Bool) : Type 0 where
  pub came : seen new.posts.place ≡ seen old.posts.place ++ posts
  pub noted : StartsWith (seen new.posts.place) (reported old.posts.place)
  pub table : StaysAtTable old.posts.place new.posts.place
  pub fate : new.is_refused ≡ refused_after posts old.is_refused refused
  pub images : new.images ≡ old.images

-- these posts of a task became events of the core, in order; one of them was accepted or not, and one refused or not
pub record AreJudged (task : ℕ) (before after : CoreState) (posts : List MailedPost) (accepted refused : Bool) : Type 0 where
  pub core : after ≡ record before { history = entries_after_all before.history (map (posting_of task) posts) }
  pub any_accepted : accepted ≡ list_any is_posted (answers_to before.history (map (posting_of task) posts))
  pub any_refused : refused ≡ list_any is_refused (answers_to before.history (map (posting_of task) posts))

-- the newest post of a task's seat that was not taken, if any, was taken and judged
abbrev pub TakesFrom : ℕ → CoreState → CoreState → OwnerEnd → OwnerEnd → Bool × Bool → Type 0
TakesFrom task before after old new given = (posts : List MailedPost) × ComeOut old new posts given.1 × AreJudged task before after (newest_alone posts) given.0 given.1

-- the newest post of a task's seat, if the task has a seat, was taken and judged
abbrev pub TakesEnd : ℕ → CoreState → CoreState → Option OwnerEnd → Option OwnerEnd → Bool × Bool → Type 0
TakesEnd task before after None None given = (after ≡ before) × (given ≡ (false, false))
TakesEnd task before after (Some old) (Some new) given = TakesFrom task before after old new given
TakesEnd task before after old new given = ⊥

-- 1 if it is true, else 0
abbrev pub one_if : Bool → ℕ
one_if it = if it then 1 else 0

-- the newest posts of the seats of all tasks from a number on were taken and judged, one task after another; the first task's
-- bit is the least significant
abbrev pub TakesAll : ℕ → CoreState → CoreState → List (Option OwnerEnd) → List (Option OwnerEnd) → ℕ → ℕ → Type 0
TakesAll task before after [] [] accepted refused = (after ≡ before) × (accepted ≡ 0) × (refused ≡ 0)
TakesAll task before after (old ∷ olds) (new ∷ updates) accepted refused =
    (between : CoreState) × (given : Bool × Bool) × (others : ℕ × ℕ) × TakesEnd task before between old new given × TakesAll (task + 1) between after olds updates others.0 others.1
    × (accepted ≡ one_if given.0 + 2 * others.0) × (refused ≡ one_if given.1 + 2 * others.1)
TakesAll task before after olds updates accepted refused = ⊥

-- the newest posts of a line's seats are taken; the rest of the line is unchanged
pub record TakesPosts (taken : TakenPosts) (old new : Embedded) : Type 0 where
  pub posts : TakesAll 0 old.core new.core old.ends.by_task new.ends.by_task taken.accepted taken.refused
  pub reserved : taken.reserved ≡ replicate 6 0
  pub lookers : new.ends.lookers ≡ old.ends.lookers
  pub others : new ≡ record old { core = new.core; ends = new.ends }
