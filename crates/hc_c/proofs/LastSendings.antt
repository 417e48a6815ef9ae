-- Which frame carried a datagram last, and which frames its data can be of.
use Rattle.std.proofs.Common.{◌≡◌, ℕ, ◌+◌, ◌<◌, ◌==◌, ◌∙◌, Bool, true, false, cond, ◌&&◌, ◌||◌, ◌⊎◌, inl, inr, List, [], ◌∷◌, ◌++◌, map, refl, sym, ap, ap₂, subst, arith, Option, Some, None}
use Rattle.std.specs.Prelude.{All, fold, option_map}
use Rattle.std.specs.Option.{option_map_or}
use Rattle.std.specs.List.{flat_map, list_any, zip}
use Rattle.std.proofs.lemmas.Bool.{and_from, and_parts, eq-eqb, eqb-true, or_left, or_parts, or_right}
use Rattle.std.proofs.lemmas.List.Elements.{All-head, All-tail}
use Rattle.std.proofs.lemmas.List.Folds.{list_any-append}
use Rattle.std.proofs.lemmas.Option.{same_Some}
use Rattle.hc_records.specs.Line.{Member}
use Rattle.hc_records.proofs.lemmas.Choices.{by_bool, member-by, or-no}
use Rattle.hc_registers.specs.Blocks.{LineBlock}
use Rattle.hc_core.specs.LastData.{begins_epoch}
use Rattle.hc_events.specs.AnswerLaws.{LeavesAwaited}
use Rattle.hc_events.specs.Answering.{Good, Sending, Stale, Wrong, answered_by, is_good, is_outdated, judge, judged, sends}
use Rattle.hc_events.specs.Arrivals.{Arrival, Part}
use Rattle.hc_events.specs.Entries.{HistoryEntry, History, Opened, Edited, Sent, Wrote, Came}
use Rattle.hc_events.specs.Heads.{Block, Datagram, Head, Item, data_heads, item_of, same_item, write_heads}
use Rattle.hc_events.specs.Images.{NewAnswer, is_for, new_answer, new_answer_by, new_answer_item}
use Rattle.hc_events.specs.Points.{epoch_of, line_of, next_serial}
use Rattle.hc_events.specs.SendingLaws.{heads_of, is_sending}
use Rattle.hc_events.specs.Sendings.{Named}
use Rattle.hc_events.specs.Steady.{SteadyData, edit_changes, steadied, steady_data, steady_serial}
use Rattle.hc_events.proofs.lemmas.Answers.{answers-first}
use Rattle.hc_events.proofs.lemmas.Once.{below_more}
use Rattle.hc_c.specs.LastSendings.{HasLastData, WasAnswered, WasLost, comes_with, last_frame_serial}

-- the serial of the last frame since the last accepted edit that carried a datagram

abbrev pub frame_serial_now : History → ℕ → ℕ → Option ℕ
frame_serial_now [] task d = None
frame_serial_now (Opened groups ∷ history) task d = None
frame_serial_now (Edited edit ∷ history) task d = None
frame_serial_now (Sent frame ∷ history) task d = cond (sends (Datagram task d) (Sent frame)) (Some (next_serial history)) (frame_serial_now history task d)
frame_serial_now (entry ∷ history) task d = frame_serial_now history task d

chosen-last : (b : Bool) (next serial : ℕ) (now last : Option ℕ) → (now ≡ Some serial → last ≡ Some serial) → cond b (Some next) now ≡ Some serial → cond b (Some next) last ≡ Some serial
chosen-last true next serial now last older e = e
chosen-last false next serial now last older e = older e

-- it is the last one of all
pub now-last : (history : History) (task d serial : ℕ) → frame_serial_now history task d ≡ Some serial → last_frame_serial history task d ≡ Some serial
now-last [] task d serial e = cc
now-last (Opened groups ∷ history) task d serial e = cc
now-last (Edited edit ∷ history) task d serial e = cc
now-last (Sent frame ∷ history) task d serial e =
    chosen-last (sends (Datagram task d) (Sent frame)) (next_serial history) serial (frame_serial_now history task d) (last_frame_serial history task d) (now-last history task d serial) e
now-last (entry ∷ history) task d serial e = now-last history task d serial e

chosen-below : (b : Bool) (next serial : ℕ) (now : Option ℕ) → (now ≡ Some serial → serial < next) → cond b (Some next) now ≡ Some serial → serial < next + 1
chosen-below true next serial now older e = let same = same_Some next serial e in omega (arith, same)
chosen-below false next serial now older e = below_more serial next (older e)

now-below : (history : History) (task d serial : ℕ) → frame_serial_now history task d ≡ Some serial → serial < next_serial history
now-below [] task d serial e = cc
now-below (Opened groups ∷ history) task d serial e = cc
now-below (Edited edit ∷ history) task d serial e = cc
now-below (Sent frame ∷ history) task d serial e =
    chosen-below (sends (Datagram task d) (Sent frame)) (next_serial history) serial (frame_serial_now history task d) (now-below history task d serial) e
now-below (Wrote blocks ∷ history) task d serial e = below_more serial (next_serial history) (now-below history task d serial e)
now-below (entry ∷ history) task d serial e = now-below history task d serial e

-- entries that neither end a sending nor carry the datagram leave it
now-stays : (since : List HistoryEntry) (history : History) (task d serial : ℕ) (heads : List Head) → All (LeavesAwaited serial heads) since → list_any (sends (Datagram task d)) since ≡ false
    → frame_serial_now (since ++ history) task d ≡ frame_serial_now history task d
now-stays [] history task d serial heads leaves none = refl
now-stays (Opened groups ∷ since) history task d serial heads leaves none = absurd (All-head (LeavesAwaited serial heads) (Opened groups) since leaves)
now-stays (Edited edit ∷ since) history task d serial heads leaves none = absurd (All-head (LeavesAwaited serial heads) (Edited edit) since leaves)
now-stays (Sent frame ∷ since) history task d serial heads leaves none =
    let parts = or_parts (sends (Datagram task d) (Sent frame)) (list_any (sends (Datagram task d)) since) none in
    ap (λ b. cond b (Some (next_serial (since ++ history))) (frame_serial_now (since ++ history) task d)) parts.0
    ∙ now-stays since history task d serial heads (All-tail (LeavesAwaited serial heads) (Sent frame) since leaves) parts.1
now-stays (entry ∷ since) history task d serial heads leaves none =
    now-stays since history task d serial heads (All-tail (LeavesAwaited serial heads) entry since leaves) (or_parts (sends (Datagram task d) entry) (list_any (sends (Datagram task d)) since) none).1

-- a good answer of a datagram is one of the last frame that carried it

answer-named : (task d : ℕ) (since : List HistoryEntry) (item : Item) (outdated counts : Bool) (bytes : List ℕ) → is_outdated item since ≡ outdated
    → list_any (is_for task d) (cond (is_good (cond outdated Stale (cond counts Good Wrong))) (new_answer_item item bytes) []) ≡ true
    → (same_item (Datagram task d) item ≡ true) × (list_any (sends (Datagram task d)) since ≡ false)
answer-named task d since (Datagram other e) false true bytes holds is =
    let both = and_parts (other == task) (e == d) (sym (or-no ((other == task) && (e == d))) ∙ is) in
    let task_is = eqb-true other task both.0 in
    let number_is = eqb-true e d both.1 in (
      and_from (task == other) (d == e) (eq-eqb task other (sym task_is)) (eq-eqb d e (sym number_is)),
      sym (ap₂ (λ (t n : ℕ). list_any (sends (Datagram t n)) since) task_is number_is) ∙ holds,
    )
answer-named task d since (Datagram other e) false false bytes holds is = cc
answer-named task d since (Datagram other e) true counts bytes holds is = cc
answer-named task d since (Block station number) false true bytes holds is = cc
answer-named task d since (Block station number) false false bytes holds is = cc
answer-named task d since (Block station number) true counts bytes holds is = cc

judged-good : (task d : ℕ) (since : List HistoryEntry) (heads : List Head) (parts : List Part) → list_any (is_for task d) (flat_map new_answer (map (judge since) (zip heads parts))) ≡ true
    → (list_any (λ (head : Head). same_item (Datagram task d) head.item) heads ≡ true) × (list_any (sends (Datagram task d)) since ≡ false)
judged-good task d since [] parts e = cc
judged-good task d since (head ∷ heads) [] e = cc
judged-good task d since (head ∷ heads) (part ∷ parts) e =
    let first = new_answer (judge since (head, part)) in
    let rest = flat_map new_answer (map (judge since) (zip heads parts)) in
    let split = sym (list_any-append (is_for task d) first rest) ∙ e in
    by_bool (list_any (is_for task d) first)
    (λ t. let one = answer-named task d since head.item (is_outdated head.item since) (part.counter == head.expected) part.bytes refl t in
    (or_left (same_item (Datagram task d) head.item) (list_any (λ (other : Head). same_item (Datagram task d) other.item) heads) one.0, one.1))
    (λ t. let later = judged-good task d since heads parts (member-by (list_any (is_for task d) first) (list_any (is_for task d) rest) split t) in
    (or_right (same_item (Datagram task d) head.item) (list_any (λ (other : Head). same_item (Datagram task d) other.item) heads) later.0, later.1))

frame-heads : (line : List Member) (task d : ℕ) (frame : List Named) → list_any (λ (head : Head). same_item (Datagram task d) head.item) (data_heads line frame) ≡ sends (Datagram task d) (Sent frame)
frame-heads line task d [] = refl
frame-heads line task d (named ∷ frame) = ap (λ b. same_item (Datagram task d) (item_of named) || b) (frame-heads line task d frame)

write-heads : (task d : ℕ) (blocks : List LineBlock) → list_any (λ (head : Head). same_item (Datagram task d) head.item) (write_heads blocks) ≡ false
write-heads task d [] = refl
write-heads task d (block ∷ blocks) = write-heads task d blocks

sent-here : (before : History) (entry : HistoryEntry) (task d : ℕ) → is_sending entry ≡ true → list_any (λ (head : Head). same_item (Datagram task d) head.item) (heads_of before entry) ≡ true
    → frame_serial_now (entry ∷ before) task d ≡ Some (next_serial before)
sent-here before (Sent frame) task d is carries =
    ap (λ b. cond b (Some (next_serial before)) (frame_serial_now before task d)) (sym (frame-heads (line_of before) task d frame) ∙ carries)
sent-here before (Wrote blocks) task d is carries = let never : false ≡ true = sym (write-heads task d blocks) ∙ carries in cc
sent-here before (entry) task d is carries = cc

answer-last : (history : History) (arrival : Arrival) (task d : ℕ) (found : Option Sending) → answered_by history arrival ≡ found
    → list_any (is_for task d) (flat_map new_answer (option_map_or (judged arrival) found [])) ≡ true → frame_serial_now history task d ≡ Some arrival.serial
answer-last history arrival task d None e good = cc
answer-last history arrival task d (Some sending) e good =
    let first = (answers-first history arrival sending).0 e in
    let at = first.sent in
    let named = judged-good task d sending.since sending.heads arrival.parts good in
    let heads = ap (list_any (λ (head : Head). same_item (Datagram task d) head.item)) at.heads in
    ap (λ (h : History). frame_serial_now h task d) at.split
    ∙ now-stays sending.since (at.entry ∷ at.before) task d arrival.serial sending.heads first.left_open named.1
    ∙ sent-here at.before at.entry task d at.sends (sym heads ∙ named.0)
    ∙ ap Some at.serial_is

pub good-last : (history : History) (arrival : Arrival) (task d : ℕ) → list_any (is_for task d) (new_answer_by history arrival) ≡ true → frame_serial_now history task d ≡ Some arrival.serial
good-last history arrival task d good = answer-last history arrival task d (answered_by history arrival) refl good

-- what an arrival leaves of the serial of a datagram's data

abbrev serial_of_data : Option SteadyData → Option ℕ
serial_of_data found = option_map (λ (one : SteadyData). one.serial) found

serial-chosen : (own any : Bool) (one : SteadyData) (before : Option SteadyData) → cond any (Some one.serial) (serial_of_data (cond own (Some one) before)) ≡ cond (own || any) (Some one.serial) (serial_of_data before)
serial-chosen true true one before = refl
serial-chosen true false one before = refl
serial-chosen false any one before = refl

serial-steadied : (serial epoch task d : ℕ) (before : Option SteadyData) (answers : List NewAnswer)
    → serial_of_data (fold (steadied serial epoch task d) before answers) ≡ cond (list_any (is_for task d) answers) (Some serial) (serial_of_data before)
serial-steadied serial epoch task d before [] = refl
serial-steadied serial epoch task d before (good ∷ answers) =
    serial-steadied serial epoch task d (steadied serial epoch task d before good) answers
    ∙ serial-chosen (is_for task d good) (list_any (is_for task d) answers) (record { bytes = good.bytes; serial = serial; epoch = epoch }) before

-- its own where it is a good answer of the datagram, else the one before
pub came-serial : (history : History) (arrival : Arrival) (task d : ℕ)
    → ((list_any (is_for task d) (new_answer_by history arrival) ≡ true) × (steady_serial (Came arrival ∷ history) task d ≡ Some arrival.serial)) ⊎ (steady_serial (Came arrival ∷ history) task d ≡ steady_serial history task d)
came-serial history arrival task d =
    let all = serial-steadied arrival.serial (epoch_of history) task d (steady_data history task d) (new_answer_by history arrival) in
    by_bool (list_any (is_for task d) (new_answer_by history arrival))
    (λ t. inl (t, all ∙ ap (λ b. cond b (Some arrival.serial) (steady_serial history task d)) t))
    (λ t. inr (all ∙ ap (λ b. cond b (Some arrival.serial) (steady_serial history task d)) t))

-- an edit leaves the serial, or none
pub edited-serial : (changes : Bool) (found : Option SteadyData) (serial : ℕ) → serial_of_data (cond changes None found) ≡ Some serial → (changes ≡ false) × (serial_of_data found ≡ Some serial)
edited-serial true found serial e = cc
edited-serial false found serial e = (refl, e)

-- data are of a sending that was made
pub data-below : (history : History) (task d serial : ℕ) → steady_serial history task d ≡ Some serial → serial < next_serial history
data-below [] task d serial e = cc
data-below (Opened groups ∷ history) task d serial e = cc
data-below (Edited edit ∷ history) task d serial e = data-below history task d serial (edited-serial (edit_changes history edit task) (steady_data history task d) serial e).1
data-below (Sent frame ∷ history) task d serial e = below_more serial (next_serial history) (data-below history task d serial e)
data-below (Wrote blocks ∷ history) task d serial e = below_more serial (next_serial history) (data-below history task d serial e)
data-below (Came arrival ∷ history) task d serial e = elim (came-serial history arrival task d) [
  | inl (good, is) ↦
      let same = same_Some arrival.serial serial (sym is ∙ e) in
      let below = now-below history task d arrival.serial (good-last history arrival task d good) in
      omega (arith, same, below)
  | inr same ↦ data-below history task d serial (sym same ∙ e)
]
data-below (entry ∷ history) task d serial e = data-below history task d serial e

-- a datagram that was answered well has data of the last frame that carried it

keeps-last : (since : List HistoryEntry) (history : History) (task d : ℕ) → list_any (sends (Datagram task d)) since ≡ false → list_any begins_epoch since ≡ false → HasLastData history task d
    → HasLastData (since ++ history) task d
keeps-last [] history task d none present has = has
keeps-last (Opened groups ∷ since) history task d none present has = cc
keeps-last (Edited edit ∷ since) history task d none present has = cc
keeps-last (Sent frame ∷ since) history task d none present has =
    let parts = or_parts (sends (Datagram task d) (Sent frame)) (list_any (sends (Datagram task d)) since) none in
    let older = keeps-last since history task d parts.1 present has in
    record {
      serial = older.serial;
      read = older.read;
      sent = ap (λ b. cond b (Some (next_serial (since ++ history))) (last_frame_serial (since ++ history) task d)) parts.0 ∙ older.sent;
    }
keeps-last (Came arrival ∷ since) history task d none present has =
    let older = keeps-last since history task d none present has in
    elim (came-serial (since ++ history) arrival task d) [
      | inl (good, is) ↦
          record { serial = arrival.serial; read = is; sent = now-last (since ++ history) task d arrival.serial (good-last (since ++ history) arrival task d good) }
      | inr same ↦ record { serial = older.serial; read = same ∙ older.read; sent = older.sent }
    ]
keeps-last (entry ∷ since) history task d none present has =
    let older = keeps-last since history task d (or_parts (sends (Datagram task d) entry) (list_any (sends (Datagram task d)) since) none).1 present has in
    record { serial = older.serial; read = older.read; sent = older.sent }

answered-now : (history : History) (arrival : Arrival) (task d : ℕ) → list_any (is_for task d) (new_answer_by history arrival) ≡ true → HasLastData (Came arrival ∷ history) task d
answered-now history arrival task d good = record {
  serial = arrival.serial;
  read =
      serial-steadied arrival.serial (epoch_of history) task d (steady_data history task d) (new_answer_by history arrival)
      ∙ ap (λ b. cond b (Some arrival.serial) (steady_serial history task d)) good;
  sent = now-last history task d arrival.serial (good-last history arrival task d good);
}

pub answered-last : (history : History) (task d : ℕ) → WasAnswered history task d → HasLastData history task d
answered-last history task d was =
    subst (λ (h : History). HasLastData h task d) (sym was.came)
    (keeps-last was.since (Came was.arrival ∷ was.before) task d was.last was.present (answered-now was.before was.arrival task d was.good))

-- one whose last frame did not come back has none

no-data-of : (since : List HistoryEntry) (frame : List Named) (before : History) (task d serial : ℕ) → serial ≡ next_serial before → list_any (comes_with serial) since ≡ false
    → steady_serial (since ++ Sent frame ∷ before) task d ≡ Some serial → ⊥
no-data-of [] frame before task d serial is lost e = let below = data-below before task d serial e in absurd (omega (arith, below, is))
no-data-of (Opened groups ∷ since) frame before task d serial is lost e = cc
no-data-of (Edited edit ∷ since) frame before task d serial is lost e =
    no-data-of since frame before task d serial is lost
    (edited-serial (edit_changes (since ++ Sent frame ∷ before) edit task) (steady_data (since ++ Sent frame ∷ before) task d) serial e).1
no-data-of (Came arrival ∷ since) frame before task d serial is lost e =
    let parts = or_parts (arrival.serial == serial) (list_any (comes_with serial) since) lost in
    elim (came-serial (since ++ Sent frame ∷ before) arrival task d) [
      | inl (good, own) ↦
          let never : true ≡ false = sym (eq-eqb arrival.serial serial (same_Some arrival.serial serial (sym own ∙ e))) ∙ parts.0 in cc
      | inr same ↦ no-data-of since frame before task d serial is parts.1 (sym same ∙ e)
    ]
no-data-of (entry ∷ since) frame before task d serial is lost e = no-data-of since frame before task d serial is lost e

last-is : (since : List HistoryEntry) (frame : List Named) (before : History) (task d serial : ℕ) → sends (Datagram task d) (Sent frame) ≡ true → list_any (sends (Datagram task d)) since ≡ false
    → last_frame_serial (since ++ Sent frame ∷ before) task d ≡ Some serial → serial ≡ next_serial before
last-is [] frame before task d serial carries none e =
    sym (same_Some (next_serial before) serial (sym (ap (λ b. cond b (Some (next_serial before)) (last_frame_serial before task d)) carries) ∙ e))
last-is (Opened groups ∷ since) frame before task d serial carries none e = cc
last-is (Sent other ∷ since) frame before task d serial carries none e =
    let parts = or_parts (sends (Datagram task d) (Sent other)) (list_any (sends (Datagram task d)) since) none in
    last-is since frame before task d serial carries parts.1
    (sym (ap (λ b. cond b (Some (next_serial (since ++ Sent frame ∷ before))) (last_frame_serial (since ++ Sent frame ∷ before) task d)) parts.0) ∙ e)
last-is (entry ∷ since) frame before task d serial carries none e =
    last-is since frame before task d serial carries (or_parts (sends (Datagram task d) entry) (list_any (sends (Datagram task d)) since) none).1 e

pub lost-none : (history : History) (task d : ℕ) → WasLost history task d → HasLastData history task d → ⊥
lost-none history task d was has =
    let sent = sym (ap (λ (h : History). last_frame_serial h task d) was.split) ∙ has.sent in
    let read = sym (ap (λ (h : History). steady_serial h task d) was.split) ∙ has.read in
    let is = last-is was.since was.frame was.before task d has.serial was.carries was.last sent in
    no-data-of was.since was.frame was.before task d has.serial is (ap (λ (n : ℕ). list_any (comes_with n) was.since) is ∙ was.lost) read
