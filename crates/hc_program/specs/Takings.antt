-- The command `take`: the tasks' posts go to the core.
use Rattle.std.specs.Prelude.{ℕ, ◌-◌, List, [], ◌++◌, length, codes, replicate}
use Rattle.std.specs.Fmt.{decimal}
use Rattle.hc_records.specs.declared.limits.TheConstants.{TASKS}
use Rattle.hc_events.specs.Steps.{Step, entries_after_all}
use Rattle.hc_conductor.specs.Taking.{events_of_all, posted_in}
use Rattle.hc_program.specs.Standings.{SessionState}

-- the posts that wait, as events of the core: the tasks ascending, each one's posts in order
abbrev pub posts_taken : SessionState → List Step
posts_taken s = events_of_all 0 s.posts

-- the line `taken A refused R`: the number of posts that were accepted, and of those refused
unfoldable pub taken_text : ℕ → ℕ → List ℕ
taken_text accepted refused = codes "taken " ++ decimal accepted ++ codes " refused " ++ decimal refused ++ codes "\n"

-- the printed text of a take: the posts that the core accepts one after another, and the others
unfoldable pub take_text : SessionState → List ℕ
take_text s = let accepted = posted_in s.history (posts_taken s) in taken_text accepted (length (posts_taken s) - accepted)

-- the state after a take: no post waits
abbrev pub session_taken : SessionState → SessionState
session_taken s = record s { history = entries_after_all s.history (posts_taken s); posts = replicate TASKS [] }
