-- Laws of the logical addresses of a line's datagrams. Each is the contract of a function of `laws`.
use Rattle.std.specs.Prelude.{◌≡◌, ℕ, ◌+◌, ◌<◌, ◌≤◌, None, List}
use Rattle.hc_records.specs.declared.limits.TheConstants.{TASKS}
use Rattle.hc_records.specs.Line.{Member, State, groups_of, line}
use Rattle.hc_records.specs.Image.{datagram_count, datagram_length, logical_address, task_places}
use Rattle.hc_records.specs.Edits.{over_limit_task}
use Rattle.hc_records.specs.Project.{lowest_fault}

-- the line has a datagram of a task with this number
pub record LineHasDatagram (line : List Member) (task datagram : ℕ) : Type 0 where
  pub in_task : task < TASKS
  pub counted : datagram < datagram_count (task_places task line)

-- a logical address of the datagram: from its first one up to its last data byte's
pub record HasAddress (line : List Member) (task datagram address : ℕ) : Type 0 where
  pub from : logical_address task datagram ≤ address
  pub to : address < logical_address task datagram + datagram_length (task_places task line) datagram

-- in the line of a project whose tasks have at most 16 datagrams each, no logical address is one of two datagrams
abbrev pub AddressesHaveOneDatagram : Type 0
AddressesHaveOneDatagram =
    (state : State) (task datagram other another address : ℕ)
    → lowest_fault (groups_of state.groups) ≡ None → over_limit_task (line state) ≡ None
    → LineHasDatagram (line state) task datagram → HasAddress (line state) task datagram address
    → LineHasDatagram (line state) other another → HasAddress (line state) other another address
    → (task ≡ other) × (datagram ≡ another)
