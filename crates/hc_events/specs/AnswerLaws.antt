-- Laws of answers: an arrival answers a sending as its first one, and the awaited sendings are those that arrivals can answer.
use Rattle.std.specs.Prelude.{◌≡◌, ◌↔◌, ℕ, ◌<◌, ◌≤◌, ◌==◌, ◌&&◌, not, Bool, true, false, if◌then◌else◌, All, Contains, List, [], ◌∷◌, ◌++◌, length, map, Some, None, Ok}
use Rattle.std.specs.List.{flat_map, list_all, list_any, zip}
use Rattle.hc_records.specs.declared.records.Group.{Group}
use Rattle.hc_records.specs.Line.{Member, State, groups_of, line}
use Rattle.hc_records.specs.Project.{lowest_fault}
use Rattle.hc_records.specs.Image.{expected_counter}
use Rattle.hc_registers.specs.Blocks.{LineBlock, line_blocks}
use Rattle.hc_frames.specs.FrameText.{Datagram}
use Rattle.hc_frames.specs.Laws.{CanBeCarried}
use Rattle.hc_frames.specs.Returned.{IsReturned}
use Rattle.hc_events.specs.declared.sending.TheConstants.{FRAME_BLOCKS}
use Rattle.hc_events.specs.Arrivals.{Arrival, Part, arrival_in}
use Rattle.hc_events.specs.Entries.{HistoryEntry, History, Opened, Edited, Sent, Wrote, Came}
use Rattle.hc_events.specs.Points.{line_of, next_serial}
use Rattle.hc_events.specs.Sendings.{Named}
use Rattle.hc_events.specs.Heads.{Head, Item, Datagram as DatagramItem, Block, block_item, data_head, item_of, same_item, write_head}
use Rattle.hc_events.specs.Answering.{Sending, answered_by, has_heads, is_forgetting, is_stale_to, judge, judged, judged_by, sending_of, sends}
use Rattle.hc_events.specs.Awaited.{awaited, is_write_sending}
use Rattle.hc_events.specs.Images.{NewAnswer, new_answer_by}
use Rattle.hc_events.specs.Owed.{owed_blocks}
use Rattle.hc_events.specs.Steps.{Arrives, SendsReady, Step, answer_to, sent_datagram, judged_answer}
use Rattle.hc_events.specs.Accepted.{IsReachable, IsInLine, carries_first, history_of}
use Rattle.hc_events.specs.SendingLaws.{IsSendingAt, heads_of}
use Rattle.hc_events.specs.Forgetting.{writes_one}
use Rattle.hc_events.specs.WriteFrames.{block_datagram}

-- an entry leaves a sending to be answered: it is no opening, no accepted edit, and no arrival with the sending's serial, commands, addresses and lengths
abbrev pub LeavesAwaited : ℕ → List Head → HistoryEntry → Type 0
LeavesAwaited serial heads (Opened groups) = ⊥
LeavesAwaited serial heads (Edited edit) = ⊥
LeavesAwaited serial heads (Came other) = other.serial ≡ serial → has_heads heads other.parts ≡ false
LeavesAwaited serial heads entry = Unit {0}

-- an arrival is the first answer to a sending: it has the sending's serial and, datagram for datagram, its commands, addresses and lengths, and each entry since left the sending open
pub record IsFirstAnswer (history : History) (arrival : Arrival) (sending : Sending) : Type 0 where
  pub sent : IsSendingAt history arrival.serial sending
  pub fits : has_heads sending.heads arrival.parts ≡ true
  pub left_open : All (LeavesAwaited arrival.serial sending.heads) sending.since

-- an arrival answers just the sending whose first answer it is
abbrev pub AnswersTheSerial : Type 0
AnswersTheSerial =
    (history : History) (arrival : Arrival) (sending : Sending)
    → (answered_by history arrival ≡ Some sending) ↔ IsFirstAnswer history arrival sending

-- the head of an item is that of the line: the head of this datagram of a task, or of one of the line's register blocks, which
-- is the one that the sending's head names, since its write has this head
abbrev pub IsItemOf : List Member → Item → Head → Type 0
IsItemOf line (DatagramItem task d) head = IsInLine line (task, d) × (head ≡ data_head line (task, d))
IsItemOf line (Block station number) head = (block : LineBlock) × Contains (line_blocks line) block × (head ≡ write_head block)

-- the line has the task's datagram or the register block that the head carries, and says of it the same command, address, length and expected working counter
abbrev pub IsHeadOf : List Member → Head → Type 0
IsHeadOf line head = IsItemOf line head.item head

-- a sending that is answered is of the present line: command, address, length and expected working counter of each datagram are those that it has now
abbrev pub AnsweredAreOfTheLine : Type 0
AnsweredAreOfTheLine =
    (history : History) (arrival : Arrival) (sending : Sending) → IsReachable history → answered_by history arrival ≡ Some sending
    → All (IsHeadOf (line_of history)) sending.heads

-- something is awaited with an arrival's serial, and the arrival has its commands, addresses and lengths
pub record IsAwaited (history : History) (arrival : Arrival) : Type 0 where
  pub sending : Sending
  pub there : awaited history arrival.serial ≡ Some sending
  pub fits : has_heads sending.heads arrival.parts ≡ true

-- the sending that an arrival answers, with what is awaited: it says the same, and each datagram is judged as that one's would be
pub record IsAnsweredAs (history : History) (arrival : Arrival) (sending : Sending) : Type 0 where
  pub answered : Sending
  pub found : answered_by history arrival ≡ Some answered
  pub heads : answered.heads ≡ sending.heads
  pub judged : judged_by history arrival ≡ judged arrival sending

-- an arrival is not stale exactly if it is awaited, and then it answers the awaited sending
pub record AnswersTheAwaited (history : History) (arrival : Arrival) : Type 0 where
  pub updates : (is_stale_to history arrival ≡ false) ↔ IsAwaited history arrival
  pub answers : (a : IsAwaited history arrival) → IsAnsweredAs history arrival a.sending

-- `AnswersTheAwaited` holds for any record and any arrival
abbrev pub AwaitedAreAnswered : Type 0
AwaitedAreAnswered = (history : History) (arrival : Arrival) → AnswersTheAwaited history arrival

-- the register blocks of a line have names of their own: a station address and a number name one block. So it is in a project's line
abbrev pub HasOwnNames : List Member → Type 0
HasOwnNames line =
    (a b : LineBlock) → Contains (line_blocks line) a → Contains (line_blocks line) b → same_item (block_item a) (block_item b) ≡ true → a ≡ b

-- `HasOwnNames` holds for the line of any project's state: `Project::groups` returns the condition of the opened groups, and
-- `Plan` that of the state's groups after its edits
abbrev pub ProjectsHaveOwnNames : Type 0
ProjectsHaveOwnNames = (state : State) → lowest_fault (groups_of state.groups) ≡ None → HasOwnNames (line state)

-- of two frames of register writes the later one is of one block, and the earlier one is of more
pub record IsBesideOne (older newer : Sending) : Type 0 where
  pub one : length newer.heads ≡ 1
  pub more : 1 < length older.heads

-- `IsBesideOne` holds for any two awaited frames that carry the first owed blocks, whatever further frames were sent beside
-- them. A later frame of several blocks carries all awaited blocks of an earlier one, and so does a single write after a single
-- write. At most two such frames are awaited, and no two of them have several blocks
abbrev pub TwoWritesAreAwaited : Type 0
TwoWritesAreAwaited =
    (history : History) (low high : ℕ) (older newer : Sending) → IsReachable history → HasOwnNames (line_of history) → carries_first history low → carries_first history high → low < high
    → awaited history low ≡ Some older → is_write_sending older ≡ true → awaited history high ≡ Some newer → is_write_sending newer ≡ true
    → IsBesideOne older newer

-- if each register write was sent in a frame of its own, only one of two that carry the first owed block is awaited
abbrev pub OneWriteIsAwaited : Type 0
OneWriteIsAwaited =
    (history : History) (serial other : ℕ) (write sending : Sending) → IsReachable history → HasOwnNames (line_of history)
    → carries_first history serial → carries_first history other → list_all writes_one history ≡ true → awaited history serial ≡ Some write → is_write_sending write ≡ true
    → awaited history other ≡ Some sending → is_write_sending sending ≡ true → other ≡ serial

-- a frame of register writes has 74 datagrams at most
abbrev pub WritesFitAFrame : Type 0
WritesFitAFrame =
    (history : History) (serial : ℕ) (sending : Sending) → IsReachable history → sending_of history serial ≡ Some sending
    → is_write_sending sending ≡ true → length sending.heads ≤ FRAME_BLOCKS

-- each frame of tasks was sent while nothing was owed
abbrev pub sent_programmed : History → Bool
sent_programmed [] = true
sent_programmed (Sent frame ∷ history) = (length (owed_blocks history) == 0) && sent_programmed history
sent_programmed (entry ∷ history) = sent_programmed history

-- the event sends ready tasks, which may be while blocks are owed
abbrev pub sends_ready : Step → Bool
sends_ready (SendsReady tasks) = true
sends_ready step = false

-- `sent_programmed` holds for each record of events without a sending of ready tasks
abbrev pub SendTasksAreProgrammed : Type 0
SendTasksAreProgrammed = (groups : List Group) (steps : List Step) → list_any sends_ready steps ≡ false → sent_programmed (history_of groups steps) ≡ true

-- as long as no slave's registers were forgotten, and each frame of tasks was sent while nothing was owed, no frame of tasks is awaited beside a register write
abbrev pub WritesAreAwaitedAlone : Type 0
WritesAreAwaitedAlone =
    (history : History) (serial other : ℕ) (write sending : Sending) → IsReachable history → list_any is_forgetting history ≡ false → sent_programmed history ≡ true
    → awaited history serial ≡ Some write → is_write_sending write ≡ true
    → awaited history other ≡ Some sending → is_write_sending sending ≡ true

-- the datagrams that a sending goes out with
abbrev pub sent_datagrams : History → HistoryEntry → List Datagram
sent_datagrams history (Sent frame) = map (sent_datagram history) frame
sent_datagrams history (Wrote blocks) = map block_datagram blocks
sent_datagrams history entry = []

-- the data of a task's datagram that came back with its expected working counter and was not sent again since
abbrev pub good_part : List HistoryEntry → List Member → Named × Part → List NewAnswer
good_part since line pair =
    if not (list_any (sends (item_of pair.0)) since) && (pair.1.counter == expected_counter pair.0.0 pair.0.1 line)
    then record { task = pair.0.0; datagram = pair.0.1; bytes = pair.1.bytes } ∷ []
    else []

-- the `good_part` of each datagram of a frame with the part in its place, in order, as far as both go; none for an entry that
-- is not a frame of tasks
abbrev pub good_parts : List HistoryEntry → List Member → HistoryEntry → List Part → List NewAnswer
good_parts since line (Sent frame) parts = flat_map (good_part since line) (zip frame parts)
good_parts since line entry parts = []

-- a returned text is read and answers its sending; datagram by datagram it is judged by whether that was sent again since and by its counter, and so it is reported; and it gives the data that came
-- back
pub record ReturnsWell (since : List HistoryEntry) (entry : HistoryEntry) (before : History) (parts : List Part) (bytes : List ℕ) : Type 0 where
  pub read : arrival_in bytes ≡ Ok (record { serial = next_serial before; parts = parts })
  pub answered :
      answered_by (since ++ entry ∷ before) (record { serial = next_serial before; parts = parts })
      ≡ Some (record { heads = heads_of before entry; since = since })
  pub judged :
      judged_by (since ++ entry ∷ before) (record { serial = next_serial before; parts = parts })
      ≡ map (judge since) (zip (heads_of before entry) parts)
  pub answer : answer_to (since ++ entry ∷ before) (Arrives bytes) ≡ judged_answer (map (judge since) (zip (heads_of before entry) parts))
  pub good_answers : new_answer_by (since ++ entry ∷ before) (record { serial = next_serial before; parts = parts }) ≡ good_parts since (line_of before) entry parts

-- `ReturnsWell` holds for a frame of tasks or a register write that comes back from the line, whatever its slaves made of its data and its counters, and
-- whatever was recorded since its sending, as long as each such entry left it awaited (`LeavesAwaited`)
abbrev pub ReturnedFramesAnswer : Type 0
ReturnedFramesAnswer =
    (since : List HistoryEntry) (entry : HistoryEntry) (before : History) (parts : List Part) (bytes : List ℕ)
    → IsReturned (next_serial before) (sent_datagrams before entry) parts bytes → CanBeCarried (next_serial before) parts
    → All (LeavesAwaited (next_serial before) (heads_of before entry)) since → ReturnsWell since entry before parts bytes
