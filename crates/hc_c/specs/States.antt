-- The state of a task's image: how far its data answer the last sending of the task.
use Rattle.std.specs.Prelude.{ℕ, ◌+◌, ◌==◌, nat_le, if◌then◌else◌, Bool, false, List, [], ◌∷◌, length, Option, Some, None}
use Rattle.hc_c.specs.declared.states.TheConstants.{COMPLETE, INCOMPLETE, NO_DATA}

-- a datagram has data, and they answer this serial or a later one
abbrev pub is_since : ℕ → Option ℕ → Bool
is_since first None = false
is_since first (Some serial) = nat_le first serial

-- how many datagrams have data that answer this serial or a later one, from the serials that their data answer
abbrev pub count_since : ℕ → List (Option ℕ) → ℕ
count_since first [] = 0
count_since first (serial ∷ serials) = (if is_since first serial then 1 else 0) + count_since first serials

-- the state of a task with this many datagrams, of which this many answer its last sending: 2 if all do, also if there is none;
-- 0 if none does; else 1
abbrev pub state_number : ℕ → ℕ → ℕ
state_number since all = if since == all then COMPLETE else (if since == 0 then NO_DATA else INCOMPLETE)

-- the state of a task whose last sending begins with this serial, from the serials that its datagrams' data answer
abbrev pub task_state : ℕ → List (Option ℕ) → ℕ
task_state first serials = state_number (count_since first serials) (length serials)
