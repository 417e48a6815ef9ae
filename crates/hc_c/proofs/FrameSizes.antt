-- How many bytes frames have: none has more than an Ethernet frame, so that those of a sending and of a register write fit 32 bits.
use Rattle.std.proofs.Common.{◌≡◌, ◌≢◌, ℕ, ◌+◌, ◌*◌, ◌/◌, ◌<◌, ◌≤◌, Bool, true, false, List, [], ◌∷◌, length, refl, subst, arith, if◌then◌else◌, inl, inr, length-append, None, Some}
use Rattle.std.specs.Prelude.{All, ◌==◌, ◌⊎◌, sum_by}
use Rattle.std.specs.List.{flat_map}
use Rattle.std.proofs.lemmas.Bool.{cases_lt}
use Rattle.std.proofs.lemmas.Bool.Decides.{nat_tests}
use Rattle.std.proofs.lemmas.List.Elements.{All-cons, All-filter, All-nil, All-weaker}
use Rattle.std.proofs.lemmas.List.FromFn.{length-map-range_with_len}
use Rattle.std.proofs.lemmas.List.Sums.{sum_by-cons, sum_by-le}
use Rattle.hc_records.specs.declared.limits.TheConstants.{MOST_AREA_BITS, MOST_DATAGRAMS, MOST_DATAGRAM_BYTES, TASKS}
use Rattle.hc_records.specs.Edits.{over_limit_task}
use Rattle.hc_records.specs.Image.{datagram_count, end_of, inside, task_places}
use Rattle.hc_records.specs.Laws.{LiesInside}
use Rattle.hc_records.specs.Line.{Member, State, groups_of, line}
use Rattle.hc_records.specs.Lists.{lowest}
use Rattle.hc_records.specs.Packing.{empty_front, packed}
use Rattle.hc_records.specs.Project.{lowest_fault}
use Rattle.hc_records.specs.TaskList.{task_list}
use Rattle.hc_records.proofs.lemmas.Addresses.{uncrowded-few}
use Rattle.hc_records.proofs.lemmas.Greatest.{greatest-most}
use Rattle.hc_records.proofs.lemmas.Inside.{packed-inside}
use Rattle.hc_records.proofs.lemmas.Packable.{project-packable}
use Rattle.hc_registers.specs.Blocks.{LineBlock}
use Rattle.hc_frames.specs.declared.limits.TheConstants.{MAX_ETHERCAT}
use Rattle.hc_events.specs.declared.faults.CoreFault.TheVariants.{Memory, Room}
use Rattle.hc_events.specs.Calls.{AreSentTogether, frames_size, further_into_faults, ready_into_faults, write_all_into_faults, write_into_faults, write_size}
use Rattle.hc_events.specs.Entries.{History}
use Rattle.hc_events.specs.Owed.{owed_blocks}
use Rattle.hc_events.specs.Points.{next_serial, state_of}
use Rattle.hc_events.specs.Sendings.{Frame, Named, frame_joined, frame_of_one, framed, framed_after, has_room, line_data_length, sendings_of, sent_frame_size, task_datagrams}
use Rattle.hc_events.specs.Steps.{proposal}
use Rattle.hc_events.specs.UnderWay.{further_blocks}
use Rattle.hc_events.specs.WriteFrames.{block_bytes, blocks_bytes, frame_blocks, writes_size}
use Rattle.hc_events.proofs.lemmas.Fronts.{beside-fits}
use Rattle.hc_sendings.proofs.lemmas.Listed.{standing-task}
use Rattle.hc_core.specs.declared.writing.SentWrites.{SentWrites}
use Rattle.hc_core.specs.Written.{HoldsFurther, HoldsWrite, HoldsWrites}
use Rattle.hc_core.proofs.lemmas.BlockSizes.{write-sized}
use Rattle.hc_c.proofs.Rooms.{further_needs, ready_frames_need, write_needs, writes_need}

-- a datagram of a task has at most 1,486 bytes of data

bytes_most : (end : ℕ) → end ≤ MOST_AREA_BITS → (end + 7) / 8 ≤ MOST_DATAGRAM_BYTES
bytes_most end most = omega arith

short : (state : State) (named : Named) → lowest_fault (groups_of state.groups) ≡ None → line_data_length (line state) named ≤ MOST_DATAGRAM_BYTES
short state named project =
    let list = task_list named.0 (line state) in
    let areas = packed empty_front list in
    let lie : All LiesInside (inside named.1 areas) = All-filter (λ area. area.datagram == named.1) LiesInside areas (packed-inside empty_front list (project-packable state named.0 project)) in
    bytes_most (end_of (inside named.1 areas)) (greatest-most (λ area. area.bit + area.bits) 0 MOST_AREA_BITS (inside named.1 areas) (omega arith) lie)

-- so each frame fits

abbrev Fits : Frame → Type 0
Fits frame = 2 + frame.bytes ≤ MAX_ETHERCAT

either : (P : List Frame → Type 0) (room : Bool) (a b : List Frame) → (room ≡ true → P a) → P b → P (if room then a else b)
either P true a b first second = first refl
either P false a b first second = second

joined_fits : (frame : Frame) (named : Named) (size : ℕ) → has_room frame.bytes size ≡ true → Fits (frame_joined frame named size)
joined_fits frame named size t = grind (arith, nat_tests)

after_fit : (members : List Member) (frame : Frame) (datagrams : List Named) → ((named : Named) → line_data_length members named ≤ MOST_DATAGRAM_BYTES) → Fits frame → All Fits (framed_after members frame datagrams)
after_fit members frame [] few fits = All-cons Fits frame [] fits (All-nil Fits)
after_fit members frame (datagram ∷ datagrams) few fits =
    let size = line_data_length members datagram in
    let most = few datagram in
    let next = frame_of_one (frame.serial + 1) datagram size in
    either (All Fits) (has_room frame.bytes size) (framed_after members (frame_joined frame datagram size) datagrams) (frame ∷ framed_after members next datagrams)
    (λ t. after_fit members (frame_joined frame datagram size) datagrams few (joined_fits frame datagram size t))
    (All-cons Fits frame (framed_after members next datagrams) fits (after_fit members next datagrams few (omega (arith, most))))

framed_fit : (members : List Member) (serial : ℕ) (datagrams : List Named) → ((named : Named) → line_data_length members named ≤ MOST_DATAGRAM_BYTES) → All Fits (framed members serial datagrams)
framed_fit members serial [] few = All-nil Fits
framed_fit members serial (datagram ∷ datagrams) few =
    let most = few datagram in
    after_fit members (frame_of_one serial datagram (line_data_length members datagram)) datagrams few (omega (arith, most))

-- and frames are no more than datagrams

after_few : (members : List Member) (frame : Frame) (datagrams : List Named) → length (framed_after members frame datagrams) ≤ 1 + length datagrams
after_few members frame [] = omega arith
after_few members frame (datagram ∷ datagrams) =
    let size = line_data_length members datagram in
    let joined = after_few members (frame_joined frame datagram size) datagrams in
    let next = after_few members (frame_of_one (frame.serial + 1) datagram size) datagrams in
    either (λ (frames : List Frame). length frames ≤ 1 + length (datagram ∷ datagrams)) (has_room frame.bytes size) (framed_after members (frame_joined frame datagram size) datagrams)
    (frame ∷ framed_after members (frame_of_one (frame.serial + 1) datagram size) datagrams) (λ t. omega (arith, joined)) (omega (arith, next))

framed_few : (members : List Member) (serial : ℕ) (datagrams : List Named) → length (framed members serial datagrams) ≤ length datagrams
framed_few members serial [] = omega arith
framed_few members serial (datagram ∷ datagrams) = let few = after_few members (frame_of_one serial datagram (line_data_length members datagram)) datagrams in omega (arith, few)

-- the tasks of a line have few datagrams

low_few : (state : State) (task : ℕ) → lowest_fault (groups_of state.groups) ≡ None → over_limit_task (line state) ≡ None → (task < TASKS) ⊎ (TASKS ≤ task) → (0 < datagram_count (task_places task (line state))) ⊎ (datagram_count (task_places task (line state)) ≤ 0)
    → datagram_count (task_places task (line state)) ≤ MOST_DATAGRAMS
low_few state task project uncrowded (inl low) some = uncrowded-few (line state) task uncrowded low
low_few state task project uncrowded (inr high) (inl some) = let low = standing-task state task 0 project some in absurd (omega (arith, low, high))
low_few state task project uncrowded (inr high) (inr none) = omega (arith, none)

task_few : (state : State) (task : ℕ) → lowest_fault (groups_of state.groups) ≡ None → over_limit_task (line state) ≡ None → length (task_datagrams (line state) task) ≤ MOST_DATAGRAMS
task_few state task project uncrowded =
    let count = datagram_count (task_places task (line state)) in
    let few = low_few state task project uncrowded (cases_lt task TASKS) (cases_lt 0 count) in
    let long = length-map-range_with_len {X = Named} (λ d. (task, d)) 0 count in
    omega (arith, few, long)

tasks_few : (state : State) (tasks : List ℕ) → lowest_fault (groups_of state.groups) ≡ None → over_limit_task (line state) ≡ None → length (flat_map (task_datagrams (line state)) tasks) ≤ MOST_DATAGRAMS * length tasks
tasks_few state [] project uncrowded = omega arith
tasks_few state (task ∷ tasks) project uncrowded =
    let one = task_few state task project uncrowded in
    let rest = tasks_few state tasks project uncrowded in
    let all = length-append (task_datagrams (line state) task) (flat_map (task_datagrams (line state)) tasks) in
    omega (arith, one, rest, all)

sent_few : (state : State) (serial : ℕ) (tasks : List ℕ) → lowest_fault (groups_of state.groups) ≡ None → over_limit_task (line state) ≡ None → AreSentTogether tasks → length (sendings_of (line state) serial tasks) ≤ 128
sent_few state serial tasks project uncrowded together =
    let frames = framed_few (line state) serial (flat_map (task_datagrams (line state)) tasks) in
    let datagrams = tasks_few state tasks project uncrowded in
    let most = together.most in
    omega (arith, frames, datagrams, most)

size_most : (frame : Frame) → Fits frame → sent_frame_size frame ≤ 1514
size_most frame fits = omega (arith, fits)

sent_small : (state : State) (serial : ℕ) (tasks : List ℕ) → lowest_fault (groups_of state.groups) ≡ None → over_limit_task (line state) ≡ None → AreSentTogether tasks → sum_by sent_frame_size (sendings_of (line state) serial tasks) < 4294967296
sent_small state serial tasks project uncrowded together =
    let frames = sendings_of (line state) serial tasks in
    let few = sent_few state serial tasks project uncrowded together in
    let fit = framed_fit (line state) serial (flat_map (task_datagrams (line state)) tasks) (λ named. short state named project) in
    let all = sum_by-le sent_frame_size 1514 frames (All-weaker Fits (λ (frame : Frame). sent_frame_size frame ≤ 1514) size_most frames fit) in
    omega (arith, few, all)

-- those of a proposal

pub frames_small : (history : History) (plan : State) (tasks : List ℕ) → plan ≡ state_of history → lowest_fault (groups_of plan.groups) ≡ None → over_limit_task (line plan) ≡ None → AreSentTogether tasks → frames_size history tasks < 4294967296
frames_small history plan tasks is project uncrowded together =
    subst (λ (state : State). sum_by sent_frame_size (sendings_of (line state) (next_serial history) tasks) < 4294967296) is (sent_small plan (next_serial history) tasks project uncrowded together)

pub frames_few : (history : History) (plan : State) (tasks : List ℕ) → plan ≡ state_of history → lowest_fault (groups_of plan.groups) ≡ None → over_limit_task (line plan) ≡ None → AreSentTogether tasks → length (proposal history tasks) < 4294967296
frames_few history plan tasks is project uncrowded together =
    let few = subst (λ (state : State). length (sendings_of (line state) (next_serial history) tasks) ≤ 128) is (sent_few plan (next_serial history) tasks project uncrowded together) in
    omega (arith, few)

pub room_other : (bytes : ℕ) → Room bytes ≢ Memory
room_other bytes e = cc

pub frames_need_small : (history : History) (plan : State) (tasks : List ℕ) (bytes needed : ℕ) → plan ≡ state_of history → lowest_fault (groups_of plan.groups) ≡ None → over_limit_task (line plan) ≡ None → AreSentTogether tasks
    → lowest (ready_into_faults history tasks bytes) ≡ Some (Room needed) → needed < 4294967296
frames_need_small history plan tasks bytes needed is project uncrowded together refused =
    let small = frames_small history plan tasks is project uncrowded together in
    let same = ready_frames_need history tasks bytes needed refused in
    omega (arith, small, same)

-- those of register writes

no_block : (blocks : List LineBlock) → length blocks ≤ 0 → write_size blocks ≤ 60
no_block [] none = omega arith
no_block (block ∷ blocks) none = absurd (omega (arith, none))

first_small : (history : History) → (0 < length (owed_blocks history)) ⊎ (length (owed_blocks history) ≤ 0) → write_size (owed_blocks history) < 4294967296
first_small history (inl some) = let size = write-sized history some in omega (arith, size)
first_small history (inr none) = let size = no_block (owed_blocks history) none in omega (arith, size)

pub write_small : (history : History) (old new : List ℕ) (size : ℕ) → HoldsWrite history old new size → size < 4294967296
write_small history old new size holds =
    let small = first_small history (cases_lt 0 (length (owed_blocks history))) in
    let same = holds.counted in
    omega (arith, small, same)

pub write_need_small : (history : History) (bytes needed : ℕ) → lowest (write_into_faults history bytes) ≡ Some (Room needed) → needed < 4294967296
write_need_small history bytes needed refused =
    let small = first_small history (cases_lt 0 (length (owed_blocks history))) in
    let same = write_needs history bytes needed refused in
    omega (arith, small, same)

all_small : (blocks : List LineBlock) → writes_size (frame_blocks blocks) < 4294967296
all_small blocks = let fits = beside-fits 0 blocks (omega arith) in omega (arith, fits)

blocks_counted : (blocks : List LineBlock) → length blocks ≤ blocks_bytes blocks
blocks_counted [] = omega arith
blocks_counted (block ∷ blocks) =
    let rest = blocks_counted blocks in
    let sum = sum_by-cons block_bytes block blocks in
    omega (arith, rest, sum)

pub writes_small : (history : History) (old new : List ℕ) (sent : SentWrites) → HoldsWrites history old new sent → sent.size < 4294967296
writes_small history old new sent holds =
    let small = all_small (owed_blocks history) in
    let same = holds.blocks.size in
    omega (arith, small, same)

all_few : (blocks : List LineBlock) → length (frame_blocks blocks) < 4294967296
all_few blocks =
    let fits = beside-fits 0 blocks (omega arith) in
    let few = blocks_counted (frame_blocks blocks) in
    omega (arith, fits, few)

pub blocks_small : (history : History) (old new : List ℕ) (sent : SentWrites) → HoldsWrites history old new sent → sent.blocks < 4294967296
blocks_small history old new sent holds =
    let few = all_few (owed_blocks history) in
    let same = holds.blocks.count in
    omega (arith, few, same)

pub writes_need_small : (history : History) (bytes needed : ℕ) → lowest (write_all_into_faults history bytes) ≡ Some (Room needed) → needed < 4294967296
writes_need_small history bytes needed refused =
    let small = all_small (owed_blocks history) in
    let same = writes_need history bytes needed refused in
    omega (arith, small, same)

-- those of further register writes

pub further_small : (history : History) (old new : List ℕ) (sent : SentWrites) → HoldsFurther history old new sent → sent.size < 4294967296
further_small history old new sent holds =
    let small = all_small (further_blocks history) in
    let same = holds.blocks.size in
    omega (arith, small, same)

pub further_few : (history : History) (old new : List ℕ) (sent : SentWrites) → HoldsFurther history old new sent → sent.blocks < 4294967296
further_few history old new sent holds =
    let few = all_few (further_blocks history) in
    let same = holds.blocks.count in
    omega (arith, few, same)

pub further_need_small : (history : History) (bytes needed : ℕ) → lowest (further_into_faults history bytes) ≡ Some (Room needed) → needed < 4294967296
further_need_small history bytes needed refused =
    let small = all_small (further_blocks history) in
    let same = further_needs history bytes needed refused in
    omega (arith, small, same)
