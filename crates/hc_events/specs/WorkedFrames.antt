-- Worked frames of tasks, computed by the definitions: a wrong definition fails here.
use Rattle.std.specs.Prelude.{◌≡◌, ℕ, ◌+◌, List, [], ◌∷◌, ◌++◌, map, replicate, slice_range, take, Some, None, option_map, refl}
use Rattle.hc_bits.specs.Bits.{bit_of, number_of}
use Rattle.hc_records.specs.Lists.{lowest}
use Rattle.hc_records.specs.declared.records.Dir.TheVariants.{Out}
use Rattle.hc_records.specs.declared.records.Pdo.{Pdo}
use Rattle.hc_records.specs.declared.records.Slave.{Slave}
use Rattle.hc_frames.specs.Arrived.{starts_within}
use Rattle.hc_events.specs.declared.answer.Answer.TheVariants as answer
use Rattle.hc_events.specs.declared.answer.Outcome.TheVariants.{Inputs, WrongCount, Stale}
use Rattle.hc_events.specs.declared.faults.CoreFault.TheVariants.{Room}
use Rattle.hc_events.specs.Arrivals.{Part}
use Rattle.hc_events.specs.Entries.{History, Opened}
use Rattle.hc_events.specs.Sendings.{sent_frame_size}
use Rattle.hc_events.specs.Calls.{preview, send_into_faults}
use Rattle.hc_events.specs.Steps.{Posts, SendsTasks, SendsWrite, Reads, answers_to, entries_after_all, proposal, sent_text}
use Rattle.hc_events.specs.WorkedAxis.{area_of, back, data_back, head_of, moved, opened, written_at}

-- The frame that a task would be sent in, with nothing posted and nothing written yet.

shown : map (option_map (sent_text opened)) (preview opened 0 0 ∷ preview opened 0 1 ∷ preview opened 1 0 ∷ [])
    ≡ Some (head_of 0 0x0f ++ 0x0c ∷ 0x00 ∷ 0 ∷ 0 ∷ 0 ∷ 0x01 ∷ 0x03 ∷ replicate 37 0) ∷ None ∷ None ∷ []
unfolding bit_of number_of starts_within
shown = refl

-- Two tasks share a frame, and each of its datagrams has a working counter of its own.

abbrev shared_text : List ℕ
shared_text =
    head_of 6 0x1b
    ++ 0x0c ∷ 0x06 ∷ 0 ∷ 0 ∷ 0 ∷ 0x01 ∷ 0x02 ∷ 0x80 ∷ 0 ∷ 0 ∷ 0 ∷ 0 ∷ 0 ∷ 0
    ∷ 0x0c ∷ 0x06 ∷ 0 ∷ 0 ∷ 0 ∷ 0x02 ∷ 0x01 ∷ 0 ∷ 0 ∷ 0 ∷ 0x02 ∷ 0 ∷ 0
    ∷ replicate 17 0

abbrev first_back : ℕ → Part
first_back counter = data_back 0x01000000 (0x34 ∷ 0x0a ∷ []) counter

abbrev second_back : ℕ → Part
second_back counter = data_back 0x02000000 (0x02 ∷ []) counter

shared_frame : answers_to moved (SendsTasks (0 ∷ 1 ∷ []) ∷ back 6 (first_back 1 ∷ second_back 1 ∷ []) ∷ Reads 0 ∷ Reads 1 ∷ [])
    ≡ answer.Sent (shared_text ∷ [])
    ∷ answer.Answered (Inputs 0 0 ∷ WrongCount 2 1 ∷ [])
    ∷ answer.Image 1 (Some (0x34 ∷ 0x0a ∷ []) ∷ [])
    ∷ answer.Image 1 (None ∷ [])
    ∷ []
unfolding bit_of number_of starts_within
shared_frame = refl

-- a datagram that was sent again is stale in the older frame, and the other one is not

abbrev sent_again : History
sent_again = entries_after_all moved (
    SendsTasks (0 ∷ 1 ∷ [])
    ∷ back 6 (first_back 1 ∷ second_back 1 ∷ [])
    ∷ SendsTasks (0 ∷ 1 ∷ [])
    ∷ SendsTasks (0 ∷ [])
    ∷ [])

each_by_itself : answers_to sent_again (back 7 (first_back 1 ∷ second_back 2 ∷ []) ∷ back 8 (first_back 1 ∷ []) ∷ [])
    ≡ answer.Answered (Stale ∷ Inputs 1 0 ∷ []) ∷ answer.Answered (Inputs 0 0 ∷ []) ∷ []
unfolding bit_of number_of starts_within
each_by_itself = refl

-- a frame whose datagrams are exchanged, left out or repeated answers nothing and uses up nothing

other_lists : answers_to sent_again (
    back 7 (second_back 2 ∷ first_back 1 ∷ [])
    ∷ back 7 (second_back 2 ∷ [])
    ∷ back 7 (first_back 1 ∷ second_back 2 ∷ second_back 2 ∷ [])
    ∷ back 7 (first_back 1 ∷ second_back 2 ∷ [])
    ∷ [])
    ≡ answer.Stale ∷ answer.Stale ∷ answer.Stale ∷ answer.Answered (Stale ∷ Inputs 1 0 ∷ []) ∷ []
unfolding bit_of number_of starts_within
other_lists = refl

-- a frame without its last datagram answers nothing either

last_one_missing : answers_to moved (SendsTasks (0 ∷ 1 ∷ []) ∷ back 6 (first_back 1 ∷ []) ∷ back 6 (first_back 1 ∷ second_back 2 ∷ []) ∷ [])
    ≡ answer.Sent (shared_text ∷ []) ∷ answer.Stale ∷ answer.Answered (Inputs 0 0 ∷ Inputs 1 0 ∷ []) ∷ []
unfolding bit_of number_of starts_within
last_one_missing = refl

-- The tasks' datagrams are in the order in which the tasks are given, also in the answer.

abbrev turned_text : List ℕ
turned_text =
    head_of 6 0x1b
    ++ 0x0c ∷ 0x06 ∷ 0 ∷ 0 ∷ 0 ∷ 0x02 ∷ 0x01 ∷ 0x80 ∷ 0 ∷ 0 ∷ 0x02 ∷ 0 ∷ 0
    ∷ 0x0c ∷ 0x06 ∷ 0 ∷ 0 ∷ 0 ∷ 0x01 ∷ 0x02 ∷ 0 ∷ 0 ∷ 0 ∷ 0 ∷ 0 ∷ 0 ∷ 0
    ∷ replicate 17 0

given_order : answers_to moved (
    SendsTasks (1 ∷ 0 ∷ [])
    ∷ back 6 (first_back 1 ∷ second_back 2 ∷ [])
    ∷ back 6 (second_back 2 ∷ first_back 1 ∷ [])
    ∷ [])
    ≡ answer.Sent (turned_text ∷ []) ∷ answer.Stale ∷ answer.Answered (Inputs 1 0 ∷ Inputs 0 0 ∷ []) ∷ []
unfolding bit_of number_of starts_within
given_order = refl

-- Two tasks of 737 output bytes fill a frame; one byte more, and each has a frame of its own.

-- PDOs of so many entries with so many bits each
abbrev offered_from : ℕ → List (ℕ × ℕ) → List Pdo
offered_from index [] = []
offered_from index (pdo ∷ pdos) = record { index = index; entries = replicate pdo.0 (None, pdo.1) } ∷ offered_from (index + 1) pdos

-- output areas of one slave each, in the tasks from 0 on, by the PDOs of each
abbrev wide_slaves : ℕ → List (List (ℕ × ℕ)) → List Slave
wide_slaves task [] = []
wide_slaves task (pdos ∷ more) =
    record {
      station = 1001 + task;
      areas =
          record {
            sm = 2;
            dir = Out;
            phys = 0x1000;
            offered = offered_from 0x1600 pdos;
            assigned = map (λ pdo. pdo.index) (offered_from 0x1600 pdos);
            task = task;
          }
          ∷ [];
    }
    ∷ wide_slaves (task + 1) more

abbrev wide : List (List (ℕ × ℕ)) → History
wide areas = Opened (record { alias = 0; slaves = wide_slaves 0 areas } ∷ []) ∷ []

abbrev bytes_700 : List (ℕ × ℕ)
bytes_700 = (64, 64) ∷ (47, 32) ∷ []

abbrev bytes_737 : List (ℕ × ℕ)
bytes_737 = (64, 64) ∷ (45, 40) ∷ []

abbrev bytes_738 : List (ℕ × ℕ)
bytes_738 = (64, 64) ∷ (45, 40) ∷ (1, 8) ∷ []

abbrev bytes_1000 : List (ℕ × ℕ)
bytes_1000 = (64, 64) ∷ (61, 64) ∷ []

abbrev sizes : History → List ℕ → List ℕ
sizes history tasks = map sent_frame_size (proposal history tasks)

wide_sizes : map (λ history. sizes history (0 ∷ 1 ∷ [])) (wide (bytes_737 ∷ bytes_737 ∷ []) ∷ wide (bytes_738 ∷ bytes_737 ∷ []) ∷ [])
    ≡ (1514 ∷ []) ∷ (766 ∷ 765 ∷ []) ∷ []
wide_sizes = refl

abbrev full : History
full = wide (bytes_737 ∷ bytes_737 ∷ [])

wide_header : map (λ sending. slice_range (sent_text full sending) 11 16) (proposal full (0 ∷ 1 ∷ [])) ≡ (0x00 ∷ 0x88 ∷ 0xa4 ∷ 0xda ∷ 0x15 ∷ []) ∷ []
unfolding bit_of number_of starts_within
wide_header = refl

-- A datagram joins no other frame than the one just before it, though an older one has room; so the order in which tasks are given decides.

abbrev three_tasks : History
three_tasks = wide (bytes_700 ∷ bytes_1000 ∷ bytes_700 ∷ [])

not_the_first_that_fits : sizes three_tasks (0 ∷ 1 ∷ 2 ∷ []) ≡ 728 ∷ 1028 ∷ 728 ∷ []
not_the_first_that_fits = refl

beside_one_another : sizes three_tasks (0 ∷ 2 ∷ 1 ∷ []) ≡ 1440 ∷ 1028 ∷ []
beside_one_another = refl

-- A task of two datagrams, each in a frame of its own: the frames have serials of their own, and so have the datagrams their data.

abbrev long_slaves : List Slave
long_slaves =
    record { station = 1001; areas = area_of 2 Out 0x1100 0x1600 1 64 ∷ [] }
    ∷ record {
      station = 1002;
      areas =
          record {
            sm = 2;
            dir = Out;
            phys = 0x1000;
            offered =
                record { index = 0x1600; entries = (Some 2, 64) ∷ [] }
                ∷ offered_from 0x1601 ((64, 64) ∷ (64, 64) ∷ (56, 64) ∷ []);
            assigned = 0x1600 ∷ 0x1601 ∷ 0x1602 ∷ 0x1603 ∷ [];
            task = 0;
          }
          ∷ [];
    }
    ∷ []

-- the 8 bytes of the first datagram, and the first 8 of the second one's 1,480, which do not fit after those of the first into 1,486
abbrev first_bytes : List ℕ
first_bytes = 0x01 ∷ 0x02 ∷ 0x03 ∷ 0x04 ∷ 0x05 ∷ 0x06 ∷ 0x07 ∷ 0x08 ∷ []

abbrev second_bytes : List ℕ
second_bytes = 0x21 ∷ 0x22 ∷ 0x23 ∷ 0x24 ∷ 0x25 ∷ 0x26 ∷ 0x27 ∷ 0x28 ∷ []

abbrev long_posted : History
long_posted = entries_after_all (Opened (record { alias = 0; slaves = long_slaves } ∷ []) ∷ []) (
    SendsWrite ∷ back 0 (written_at 1001 0x0810 8 1 ∷ [])
    ∷ SendsWrite ∷ back 1 (written_at 1001 0x0600 16 1 ∷ [])
    ∷ SendsWrite ∷ back 2 (written_at 1002 0x0810 8 1 ∷ [])
    ∷ SendsWrite ∷ back 3 (written_at 1002 0x0600 16 1 ∷ [])
    ∷ Posts 0 0 (first_bytes ++ second_bytes ++ replicate 1472 0)
    ∷ [])

two_sizes : sizes long_posted (0 ∷ []) ≡ 60 ∷ 1508 ∷ []
unfolding bit_of number_of starts_within
two_sizes = refl

two_in_a_slice : map (λ bytes. lowest (send_into_faults long_posted (0 ∷ []) bytes)) (1567 ∷ 1568 ∷ []) ≡ Some (Room 1568) ∷ None ∷ []
unfolding bit_of number_of starts_within
two_in_a_slice = refl

two_texts : map (λ sending. take 34 (sent_text long_posted sending)) (proposal long_posted (0 ∷ []))
    ≡ (head_of 4 0x14 ++ 0x0c ∷ 0x04 ∷ 0 ∷ 0 ∷ 0 ∷ 0x01 ∷ 0x08 ∷ 0 ∷ 0 ∷ 0 ∷ first_bytes)
    ∷ (replicate 6 0xff ++ 0x02 ∷ 0 ∷ 0 ∷ 0 ∷ 0 ∷ 0x05 ∷ 0x88 ∷ 0xa4 ∷ 0xd4 ∷ 0x15
    ∷ 0x0c ∷ 0x05 ∷ 0x00 ∷ 0x08 ∷ 0x00 ∷ 0x01 ∷ 0xc8 ∷ 0x05 ∷ 0 ∷ 0 ∷ second_bytes)
    ∷ []
unfolding bit_of number_of starts_within
two_texts = refl

abbrev long_sent : History
long_sent = entries_after_all long_posted (SendsTasks (0 ∷ []) ∷ [])

two_answers : answers_to long_sent (
    back 4 (data_back 0x01000000 first_bytes 2 ∷ [])
    ∷ Reads 0
    ∷ back 5 (data_back 0x01000800 (replicate 1480 7) 2 ∷ [])
    ∷ [])
    ≡ answer.Answered (Inputs 0 0 ∷ [])
    ∷ answer.Image 0 (Some first_bytes ∷ None ∷ [])
    ∷ answer.Answered (Inputs 0 1 ∷ [])
    ∷ []
unfolding bit_of number_of starts_within
two_answers = refl
