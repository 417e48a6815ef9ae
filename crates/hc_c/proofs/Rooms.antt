-- What is needed where a slice is too short.
use Rattle.std.proofs.Common.{◌≡◌, ◌≢◌, ℕ, Bool, true, false, not, if◌then◌else◌, List, [], ◌∷◌, ◌++◌, length, map, Some, None, ◌==◌, nat_lt, refl}
use Rattle.std.proofs.lemmas.Option.{same_Some}
use Rattle.std.proofs.lemmas.Bool.{eq-eqb}
use Rattle.hc_records.specs.Lists.{lowest}
use Rattle.hc_events.specs.declared.faults.CoreFault.{CoreFault}
use Rattle.hc_events.specs.declared.faults.CoreFault.TheVariants.{UnknownAlias, AlreadyPresent, NotPresent, Mandatory, UnknownStation, Absent, NoSuchArea, NoSuchTask, UnknownPdo, RepeatedPdo, AreaTooBig, TooManyDatagrams, EpochsSpent, StalePost, PostLength, Unprogrammed, NothingOwed, SerialsSpent, Short, NotEtherCat, BadType, BadLength, Circulating, MoreFollows, UnknownCommand, IndexMismatch, Memory, Room, BadGroup, AliasTaken, StationTaken, VariableTaken, TooManyGroups, TooManySlaves, Waits, UnderWay}
use Rattle.hc_events.specs.Calls.{frames_size, further_into_faults, ready_into_faults, room_faults, send_into_faults, write_all_into_faults, write_into_faults, write_size}
use Rattle.hc_events.specs.Entries.{History}
use Rattle.hc_events.specs.Faults.{core_fault_number}
use Rattle.hc_events.specs.Owed.{owed_blocks}
use Rattle.hc_events.specs.Steps.{further_faults, has_serials, proposal, ready_faults, task_faults, wait_fault, write_faults}
use Rattle.hc_events.specs.UnderWay.{further_blocks}
use Rattle.hc_events.specs.WriteFrames.{frame_blocks, writes_size}

-- no other fault has its number
numbered_room : (fault : CoreFault) → (core_fault_number fault == 29) ≡ true → (needed : ℕ) × (fault ≡ Room needed)
numbered_room UnknownAlias e = cc
numbered_room AlreadyPresent e = cc
numbered_room NotPresent e = cc
numbered_room Mandatory e = cc
numbered_room UnknownStation e = cc
numbered_room Absent e = cc
numbered_room NoSuchArea e = cc
numbered_room NoSuchTask e = cc
numbered_room UnknownPdo e = cc
numbered_room RepeatedPdo e = cc
numbered_room AreaTooBig e = cc
numbered_room (TooManyDatagrams task) e = cc
numbered_room EpochsSpent e = cc
numbered_room StalePost e = cc
numbered_room PostLength e = cc
numbered_room (Unprogrammed owed) e = cc
numbered_room NothingOwed e = cc
numbered_room SerialsSpent e = cc
numbered_room Short e = cc
numbered_room NotEtherCat e = cc
numbered_room BadType e = cc
numbered_room BadLength e = cc
numbered_room Circulating e = cc
numbered_room MoreFollows e = cc
numbered_room UnknownCommand e = cc
numbered_room IndexMismatch e = cc
numbered_room Memory e = cc
numbered_room (Room needed) e = (needed, refl)
numbered_room (BadGroup bad) e = cc
numbered_room AliasTaken e = cc
numbered_room StationTaken e = cc
numbered_room VariableTaken e = cc
numbered_room TooManyGroups e = cc
numbered_room TooManySlaves e = cc
numbered_room (Waits task blocks outside) e = cc
numbered_room UnderWay e = cc

pub room_alone : (fault : CoreFault) → core_fault_number fault ≡ 29 → (needed : ℕ) × (fault ≡ Room needed)
room_alone fault e = numbered_room fault (eq-eqb (core_fault_number fault) 29 e)

same_needed : {one other : ℕ} → Room one ≡ Room other → other ≡ one
same_needed e = cc

-- a slice's own fault
at_room : (short : Bool) (size needed : ℕ) → (if short then Some (Room size) else None) ≡ Some (Room needed) → needed ≡ size
at_room true size needed is = same_needed (same_Some (Room size) (Room needed) is)
at_room false size needed is = cc

-- each of the faults is another one
abbrev AreOther : List (Bool × CoreFault) → Type 0
AreOther [] = Unit {0}
AreOther (judged ∷ rest) = ((needed : ℕ) → judged.1 ≢ Room needed) × AreOther rest

after_it : (judged : Bool) (one : CoreFault) (rest : List (Bool × CoreFault)) (size needed : ℕ) → ((bytes : ℕ) → one ≢ Room bytes) → (lowest rest ≡ Some (Room needed) → needed ≡ size)
    → (if judged then Some one else lowest rest) ≡ Some (Room needed) → needed ≡ size
after_it true one rest size needed other later is = absurd (other needed (same_Some one (Room needed) is))
after_it false one rest size needed other later is = later is

needed_after : (faults : List (Bool × CoreFault)) (size bytes needed : ℕ) → AreOther faults → lowest (faults ++ room_faults size bytes) ≡ Some (Room needed) → needed ≡ size
needed_after [] size bytes needed other is = at_room (nat_lt bytes size) size needed is
needed_after (judged ∷ rest) size bytes needed other is =
    after_it judged.0 judged.1 (rest ++ room_faults size bytes) size needed other.0 (needed_after rest size bytes needed other.1) is

-- those of a register write
pub write_needs : (history : History) (bytes needed : ℕ) → lowest (write_into_faults history bytes) ≡ Some (Room needed) → needed ≡ write_size (owed_blocks history)
write_needs history bytes needed is =
    let apart : AreOther (write_faults history (owed_blocks history)) = (λ one e. cc, (λ one e. cc, tt)) in
    needed_after (write_faults history (owed_blocks history)) (write_size (owed_blocks history)) bytes needed apart is

-- those of a frame of register writes
pub writes_need : (history : History) (bytes needed : ℕ) → lowest (write_all_into_faults history bytes) ≡ Some (Room needed) → needed ≡ writes_size (frame_blocks (owed_blocks history))
writes_need history bytes needed is =
    let apart : AreOther (write_faults history (owed_blocks history)) = (λ one e. cc, (λ one e. cc, tt)) in
    needed_after (write_faults history (owed_blocks history)) (writes_size (frame_blocks (owed_blocks history))) bytes needed apart is

-- those of a frame of further register writes
pub further_needs : (history : History) (bytes needed : ℕ) → lowest (further_into_faults history bytes) ≡ Some (Room needed) → needed ≡ writes_size (frame_blocks (further_blocks history))
further_needs history bytes needed is =
    let apart : AreOther (further_faults history) = (λ one e. cc, (λ one e. cc, (λ one e. cc, tt))) in
    needed_after (further_faults history) (writes_size (frame_blocks (further_blocks history))) bytes needed apart is

-- those of tasks that are sent
pub frames_need : (history : History) (tasks : List ℕ) (bytes needed : ℕ) → lowest (send_into_faults history tasks bytes) ≡ Some (Room needed) → needed ≡ frames_size history tasks
frames_need history tasks bytes needed is =
    let apart : AreOther (task_faults history tasks) = (λ one e. cc, (λ one e. cc, (λ one e. cc, tt))) in
    needed_after (task_faults history tasks) (frames_size history tasks) bytes needed apart is

-- those of ready tasks that are sent
waits_are_other : (history : History) (tasks : List ℕ) (rest : List (Bool × CoreFault)) → AreOther rest → AreOther (map (wait_fault history) tasks ++ rest)
waits_are_other history [] rest other = other
waits_are_other history (task ∷ tasks) rest other = (λ one e. cc, waits_are_other history tasks rest other)

pub ready_frames_need : (history : History) (tasks : List ℕ) (bytes needed : ℕ) → lowest (ready_into_faults history tasks bytes) ≡ Some (Room needed) → needed ≡ frames_size history tasks
ready_frames_need history tasks bytes needed is =
    let last : AreOther ((not (has_serials history (length (proposal history tasks))), SerialsSpent) ∷ []) = (λ one e. cc, tt) in
    let apart : AreOther (ready_faults history tasks) = (λ one e. cc, waits_are_other history tasks ((not (has_serials history (length (proposal history tasks))), SerialsSpent) ∷ []) last) in
    needed_after (ready_faults history tasks) (frames_size history tasks) bytes needed apart is

-- a task's waiting has a number of its own
numbered_waits : (fault : CoreFault) → (core_fault_number fault == 36) ≡ true → (task blocks outside : ℕ) × (fault ≡ Waits task blocks outside)
numbered_waits UnknownAlias e = cc
numbered_waits AlreadyPresent e = cc
numbered_waits NotPresent e = cc
numbered_waits Mandatory e = cc
numbered_waits UnknownStation e = cc
numbered_waits Absent e = cc
numbered_waits NoSuchArea e = cc
numbered_waits NoSuchTask e = cc
numbered_waits UnknownPdo e = cc
numbered_waits RepeatedPdo e = cc
numbered_waits AreaTooBig e = cc
numbered_waits (TooManyDatagrams task) e = cc
numbered_waits EpochsSpent e = cc
numbered_waits StalePost e = cc
numbered_waits PostLength e = cc
numbered_waits (Unprogrammed owed) e = cc
numbered_waits NothingOwed e = cc
numbered_waits SerialsSpent e = cc
numbered_waits Short e = cc
numbered_waits NotEtherCat e = cc
numbered_waits BadType e = cc
numbered_waits BadLength e = cc
numbered_waits Circulating e = cc
numbered_waits MoreFollows e = cc
numbered_waits UnknownCommand e = cc
numbered_waits IndexMismatch e = cc
numbered_waits Memory e = cc
numbered_waits (Room needed) e = cc
numbered_waits (BadGroup bad) e = cc
numbered_waits AliasTaken e = cc
numbered_waits StationTaken e = cc
numbered_waits VariableTaken e = cc
numbered_waits TooManyGroups e = cc
numbered_waits TooManySlaves e = cc
numbered_waits (Waits task blocks outside) e = (task, blocks, outside, refl)
numbered_waits UnderWay e = cc

pub waits_alone : (fault : CoreFault) → core_fault_number fault ≡ 36 → (task blocks outside : ℕ) × (fault ≡ Waits task blocks outside)
waits_alone fault e = numbered_waits fault (eq-eqb (core_fault_number fault) 36 e)
