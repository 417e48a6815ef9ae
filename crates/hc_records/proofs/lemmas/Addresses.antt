-- The logical addresses of a line's datagrams.
use Rattle.std.proofs.Common.{◌≡◌, ℕ, ◌+◌, ◌<◌, ◌≤◌, false, List, None, arith}
use Rattle.std.specs.Prelude.{nat_lt}
use Rattle.std.proofs.lemmas.Bool.{ltb-false}
use Rattle.hc_records.specs.declared.limits.TheConstants.{MOST_DATAGRAM_BYTES, MOST_DATAGRAMS, TASKS}
use Rattle.hc_records.specs.Line.{Member, State, groups_of, line}
use Rattle.hc_records.specs.TaskList.{task_list}
use Rattle.hc_records.specs.Image.{datagram_count, datagram_length, logical_address, task_places, tasks}
use Rattle.hc_records.specs.Edits.{over_limit_task}
use Rattle.hc_records.specs.Project.{lowest_fault}
use Rattle.hc_records.specs.AddressLaws.{HasAddress, LineHasDatagram}
use Rattle.hc_records.proofs.lemmas.Finds.{each-task, found-none}
use Rattle.hc_records.proofs.lemmas.Lengths.{length-sendable}
use Rattle.hc_records.proofs.lemmas.Packable.{project-packable}

-- where no task is over its limit, each has at most 16 datagrams
pub uncrowded-few : (line : List Member) (task : ℕ) → over_limit_task line ≡ None → task < TASKS → datagram_count (task_places task line) ≤ MOST_DATAGRAMS
uncrowded-few line task none low =
    ltb-false MOST_DATAGRAMS (datagram_count (task_places task line))
    (each-task (λ task. nat_lt MOST_DATAGRAMS (datagram_count (task_places task line)) ≡ false)
    (found-none (λ task. nat_lt MOST_DATAGRAMS (datagram_count (task_places task line))) tasks none) task low)

-- an address gives its task and its datagram
address-says : (task datagram bytes other another others address : ℕ) → datagram < MOST_DATAGRAMS → another < MOST_DATAGRAMS → bytes ≤ MOST_DATAGRAM_BYTES → others ≤ MOST_DATAGRAM_BYTES →
    logical_address task datagram ≤ address → address < logical_address task datagram + bytes → logical_address other another ≤ address → address < logical_address other another + others →
    (task ≡ other) × (datagram ≡ another)
address-says task datagram bytes other another others address low low' few few' from to from' to' =
    let same : task ≡ other = omega arith in
    (same, omega arith)

pub addresses-one : (state : State) (task datagram other another address : ℕ) → lowest_fault (groups_of state.groups) ≡ None → over_limit_task (line state) ≡ None →
    LineHasDatagram (line state) task datagram → HasAddress (line state) task datagram address → LineHasDatagram (line state) other another → HasAddress (line state) other another address →
    (task ≡ other) × (datagram ≡ another)
addresses-one state task datagram other another address none uncrowded is has is' has' =
    let few = uncrowded-few (line state) task uncrowded is.in_task in
    let few' = uncrowded-few (line state) other uncrowded is'.in_task in
    let low = is.counted in
    let low' = is'.counted in
    address-says task datagram (datagram_length (task_places task (line state)) datagram) other another (datagram_length (task_places other (line state)) another) address
    (omega (arith, few, low)) (omega (arith, few', low'))
    (length-sendable (task_list task (line state)) datagram (project-packable state task none) low).most
    (length-sendable (task_list other (line state)) another (project-packable state other none) low').most
    has.from has.to has'.from has'.to
