-- The share of a slave in the working counter of a datagram (ETG.1000.4, 5.4).
use Rattle.std.specs.Prelude.{◌≡◌, ℕ, List, map, find, sum_by, option_and_then, option_map, unwrap_or, Option, None, Some}
use Rattle.hc_records.specs.declared.keys.Key.{Key}
use Rattle.hc_records.specs.Image.{counter_share, inside, task_places}
use Rattle.hc_records.specs.Line.{Member, State, groups_of, is_at, line}
use Rattle.hc_records.specs.Project.{lowest_fault}
use Rattle.hc_places.specs.declared.table.Datagram.{Datagram}
use Rattle.hc_places.specs.Table.{datagram_in, table_of}

-- the keys of the areas that lie in a datagram of a task
abbrev pub datagram_keys : List Member → ℕ → ℕ → List Key
datagram_keys line task datagram = map (λ area. area.key) (inside datagram (task_places task line))

-- the number that the slave with a station address adds to the working counter of a datagram of a task; none if no such slave
-- is in the line
abbrev pub share_of : List Member → ℕ → ℕ → ℕ → Option ℕ
share_of line task datagram station =
    option_map (λ member. counter_share (datagram_keys line task datagram) member.rank) (find (is_at station) line)

-- the number that the slave with a station address adds to the working counter of a datagram of a task; none if no such slave
-- is in the line, or if the task has no such datagram
abbrev pub share_at : List Member → ℕ → ℕ → ℕ → Option ℕ
share_at line task datagram station =
    option_and_then (λ found. share_of line task datagram station) (datagram_in (table_of line) task datagram)

-- the law of the shares: in the line of a project, the numbers that its slaves add to a datagram's counter sum up to the
-- expected counter
abbrev pub SharesAddUp : Type 0
SharesAddUp =
    (state : State) (task number : ℕ) (datagram : Datagram) → lowest_fault (groups_of state.groups) ≡ None
    → datagram_in (table_of (line state)) task number ≡ Some datagram
    → sum_by (λ member. unwrap_or (share_at (line state) task number member.slave.station) 0) (line state) ≡ datagram.expected
