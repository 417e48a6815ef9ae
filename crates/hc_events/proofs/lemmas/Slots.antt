-- The data that are read of a datagram have the datagram's length. A good answer is of a datagram that has in the line each property that all
-- datagrams had when they were sent, since no edit came between.
use Rattle.std.proofs.Common.{◌≡◌, ℕ, ◌==◌, Bool, true, false, cond, ◌&&◌, List, [], ◌∷◌, length, map, refl, sym, ap, ◌∙◌, subst, Option, Some, None}
use Rattle.std.specs.Prelude.{All, fold, option_map, option_and_then}
use Rattle.std.specs.Option.{option_map_or}
use Rattle.std.specs.List.{flat_map, list_any, zip}
use Rattle.std.proofs.lemmas.List.Elements.{All-nil, All-cons, All-head, All-tail}
use Rattle.std.proofs.lemmas.Bool.{and_parts, not-true, or_parts, eqb-true}
use Rattle.hc_records.specs.Line.{Member}
use Rattle.hc_records.proofs.lemmas.Lists.{All-flat_map}
use Rattle.hc_records.proofs.lemmas.Choices.{by_bool}
use Rattle.hc_frames.specs.Commands.{code_of}
use Rattle.hc_events.specs.Arrivals.{Arrival, Part}
use Rattle.hc_events.specs.Entries.{HistoryEntry, History, Opened, Edited, Posted, Sent, Wrote, Came, Forgot, Cleared, Unplugged}
use Rattle.hc_events.specs.Points.{line_of, next_serial}
use Rattle.hc_events.specs.Sendings.{Named, line_data_length}
use Rattle.hc_events.specs.Heads.{Head, Item, Datagram, Block, data_head, data_heads, write_head, write_heads}
use Rattle.hc_events.specs.Answering.{Sending, sending_of_heads, followed_by, sending_of, has_head, has_heads, fits_sending, ends, is_answer, only_if, has_good, judge, judged}
use Rattle.hc_events.specs.Images.{NewAnswer, new_answer, new_answer_by, new_answer_item, is_for, renewed, slot_of}
use Rattle.hc_registers.specs.Blocks.{LineBlock}

-- something that holds of each datagram that was sent, in the line at that time

abbrev pub AllSent : (List Member → Named → Type 0) → History → Type 0
AllSent P [] = Unit {0}
AllSent P (Opened groups ∷ history) = Unit {0}
AllSent P (Sent frame ∷ history) = All (P (line_of history)) frame × AllSent P history
AllSent P (entry ∷ history) = AllSent P history

abbrev pub Any : List Member → Named → Type 0
Any line named = Unit {0}

any_frame : (line : List Member) (frame : List Named) → All (Any line) frame
any_frame line [] = All-nil (Any line)
any_frame line (named ∷ frame) = All-cons (Any line) named frame tt (any_frame line frame)

pub any-sent : (history : History) → AllSent Any history
any-sent [] = tt
any-sent (Opened groups ∷ history) = tt
any-sent (Edited edit ∷ history) = any-sent history
any-sent (Posted task bytes ∷ history) = any-sent history
any-sent (Forgot station ∷ history) = any-sent history
any-sent (Cleared station ∷ history) = any-sent history
any-sent (Unplugged station ∷ history) = any-sent history
any-sent (Sent frame ∷ history) = (any_frame (line_of history) frame, any-sent history)
any-sent (Wrote blocks ∷ history) = any-sent history
any-sent (Came arrival ∷ history) = any-sent history

-- a head of a task's datagram says the length that the datagram has in a line

abbrev FitsItem : (List Member → Named → Type 0) → List Member → Item → ℕ → Type 0
FitsItem P line (Datagram task d) size = (size ≡ line_data_length line (task, d)) × P line (task, d)
FitsItem P line (Block station number) size = Unit {0}

abbrev FitsHead : (List Member → Named → Type 0) → List Member → Head → Type 0
FitsHead P line head = FitsItem P line head.item head.length

data_fit : (P : List Member → Named → Type 0) (line : List Member) (frame : List Named) → All (P line) frame → All (FitsHead P line) (data_heads line frame)
data_fit P line [] all = All-nil (FitsHead P line)
data_fit P line (named ∷ frame) all =
    All-cons (FitsHead P line) (data_head line named) (data_heads line frame) (refl, All-head (P line) named frame all) (data_fit P line frame (All-tail (P line) named frame all))

writes_fit : (P : List Member → Named → Type 0) (line : List Member) (blocks : List LineBlock) → All (FitsHead P line) (write_heads blocks)
writes_fit P line [] = All-nil (FitsHead P line)
writes_fit P line (block ∷ blocks) = All-cons (FitsHead P line) (write_head block) (write_heads blocks) tt (writes_fit P line blocks)

-- a sending that hasn't ended has such heads for the present line

abbrev FitsLine : (List Member → Named → Type 0) → List Member → ℕ → Option Sending → Type 0
FitsLine P line serial None = Unit {0}
FitsLine P line serial (Some sending) = list_any (ends serial sending.heads) sending.since ≡ false → All (FitsHead P line) sending.heads

fits_more : (P : List Member → Named → Type 0) (line : List Member) (serial : ℕ) (entry : HistoryEntry) (found : Option Sending) → FitsLine P line serial found → FitsLine P line serial (option_map (followed_by entry) found)
fits_more P line serial entry None fit = fit
fits_more P line serial entry (Some sending) fit = λ none. fit (or_parts (ends serial sending.heads entry) _ none).1

fits_edited : (P : List Member → Named → Type 0) (line : List Member) (serial : ℕ) (entry : HistoryEntry) → ((heads : List Head) → ends serial heads entry ≡ true) → (found : Option Sending) → FitsLine P line serial (option_map (followed_by entry) found)
fits_edited P line serial entry over None = tt
fits_edited P line serial entry over (Some sending) =
    λ none. let never : true ≡ false = sym (over sending.heads) ∙ (or_parts (ends serial sending.heads entry) _ none).0 in cc

fits_either : (P : List Member → Named → Type 0) (line : List Member) (serial : ℕ) (c : Bool) (first rest : Option Sending) → FitsLine P line serial first → FitsLine P line serial rest → FitsLine P line serial (cond c first rest)
fits_either P line serial true first rest a b = a
fits_either P line serial false first rest a b = b

sent_fit : (P : List Member → Named → Type 0) (history : History) (serial : ℕ) → AllSent P history → FitsLine P (line_of history) serial (sending_of history serial)
sent_fit P [] serial sent = tt
sent_fit P (Opened groups ∷ history) serial sent = tt
sent_fit P (Edited edit ∷ history) serial sent = fits_edited P (line_of (Edited edit ∷ history)) serial (Edited edit) (λ heads. refl) (sending_of history serial)
sent_fit P (Posted task bytes ∷ history) serial sent = fits_more P (line_of history) serial (Posted task bytes) (sending_of history serial) (sent_fit P history serial sent)
sent_fit P (Forgot station ∷ history) serial sent = fits_more P (line_of history) serial (Forgot station) (sending_of history serial) (sent_fit P history serial sent)
sent_fit P (Cleared station ∷ history) serial sent = fits_more P (line_of history) serial (Cleared station) (sending_of history serial) (sent_fit P history serial sent)
sent_fit P (Unplugged station ∷ history) serial sent = fits_more P (line_of history) serial (Unplugged station) (sending_of history serial) (sent_fit P history serial sent)
sent_fit P (Came arrival ∷ history) serial sent = fits_more P (line_of history) serial (Came arrival) (sending_of history serial) (sent_fit P history serial sent)
sent_fit P (Sent frame ∷ history) serial sent =
    fits_either P (line_of history) serial (next_serial history == serial) (Some (sending_of_heads (data_heads (line_of history) frame))) (option_map (followed_by (Sent frame)) (sending_of history serial))
    (λ none. data_fit P (line_of history) frame sent.0) (fits_more P (line_of history) serial (Sent frame) (sending_of history serial) (sent_fit P history serial sent.1))
sent_fit P (Wrote blocks ∷ history) serial sent =
    fits_either P (line_of history) serial (next_serial history == serial) (Some (sending_of_heads (write_heads blocks))) (option_map (followed_by (Wrote blocks)) (sending_of history serial))
    (λ none. writes_fit P (line_of history) blocks)
    (fits_more P (line_of history) serial (Wrote blocks) (sending_of history serial) (sent_fit P history serial sent))

-- what comes back has the heads' lengths, so good data fit

abbrev pub FitsNewAnswer : (List Member → Named → Type 0) → List Member → NewAnswer → Type 0
FitsNewAnswer P line good = (length good.bytes ≡ line_data_length line (good.task, good.datagram)) × P line (good.task, good.datagram)

new_answer_fits : (P : List Member → Named → Type 0) (line : List Member) (good : Bool) (item : Item) (size : ℕ) (bytes : List ℕ) → FitsItem P line item size → size ≡ length bytes → All (FitsNewAnswer P line) (cond good (new_answer_item item bytes) [])
new_answer_fits P line false item size bytes fit same = All-nil (FitsNewAnswer P line)
new_answer_fits P line true (Block station number) size bytes fit same = All-nil (FitsNewAnswer P line)
new_answer_fits P line true (Datagram task d) size bytes fit same =
    All-cons (FitsNewAnswer P line) (record { task = task; datagram = d; bytes = bytes }) [] (sym same ∙ fit.0, fit.1) (All-nil (FitsNewAnswer P line))

same_size : (head : Head) (part : Part) → has_head head part ≡ true → head.length ≡ length part.bytes
same_size head part e =
    eqb-true head.length (length part.bytes)
    (and_parts ((code_of head.command == code_of part.command) && (head.address == part.address)) (head.length == length part.bytes) e).1

judged_fit : (P : List Member → Named → Type 0) (line : List Member) (since : List HistoryEntry) (heads : List Head) (parts : List Part) → All (FitsHead P line) heads → has_heads heads parts ≡ true → All (λ datagram. All (FitsNewAnswer P line) (new_answer datagram)) (map (judge since) (zip heads parts))
judged_fit P line since [] parts fit e = All-nil (λ datagram. All (FitsNewAnswer P line) (new_answer datagram))
judged_fit P line since (head ∷ heads) [] fit e = cc
judged_fit P line since (head ∷ heads) (part ∷ parts) fit e =
    let same = and_parts (has_head head part) _ e in
    All-cons (λ datagram. All (FitsNewAnswer P line) (new_answer datagram)) (judge since (head, part)) (map (judge since) (zip heads parts))
    (new_answer_fits P line (has_good (judge since (head, part))) head.item head.length part.bytes (All-head (FitsHead P line) head heads fit) (same_size head part same.0))
    (judged_fit P line since heads parts (All-tail (FitsHead P line) head heads fit) same.1)

answer_fits : (P : List Member → Named → Type 0) (line : List Member) (arrival : Arrival) (found : Option Sending) → FitsLine P line arrival.serial found → All (FitsNewAnswer P line) (flat_map new_answer (option_map_or (judged arrival) (option_and_then (only_if (is_answer arrival)) found) []))
answer_fits P line arrival None fit = All-nil (FitsNewAnswer P line)
answer_fits P line arrival (Some sending) fit =
    by_bool (is_answer arrival sending)
    (λ t. let both = and_parts (fits_sending arrival.serial sending.heads arrival) _ t in
    let all = All-flat_map (FitsNewAnswer P line) new_answer (judged arrival sending)
    (judged_fit P line sending.since sending.heads arrival.parts (fit (not-true _ both.1)) (and_parts (arrival.serial == arrival.serial) _ both.0).1) in
    rw t all)
    (λ t. let none = All-nil (FitsNewAnswer P line) in rw t none)

pub new_answer-fits : (P : List Member → Named → Type 0) (history : History) (arrival : Arrival) → AllSent P history → All (FitsNewAnswer P (line_of history)) (new_answer_by history arrival)
new_answer-fits P history arrival sent = answer_fits P (line_of history) arrival (sending_of history arrival.serial) (sent_fit P history arrival.serial sent)

-- slots

abbrev Sized : ℕ → Option (List ℕ) → Type 0
Sized size None = Unit {0}
Sized size (Some bytes) = length bytes ≡ size

renewed_fits : (line : List Member) (task d : ℕ) (good : NewAnswer) (slot : Option (List ℕ)) → FitsNewAnswer Any line good → Sized (line_data_length line (task, d)) slot → Sized (line_data_length line (task, d)) (renewed task d slot good)
renewed_fits line task d good slot fit sized =
    by_bool (is_for task d good)
    (λ t. let both = and_parts (good.task == task) _ t in
    let same : length good.bytes ≡ line_data_length line (task, d) =
    fit.0 ∙ ap (λ n. line_data_length line (n, good.datagram)) (eqb-true good.task task both.0) ∙ ap (λ n. line_data_length line (task, n)) (eqb-true good.datagram d both.1) in
    rw t same)
    (λ t. rw t sized)

all_fit : (line : List Member) (task d : ℕ) (good_answers : List NewAnswer) (slot : Option (List ℕ)) → All (FitsNewAnswer Any line) good_answers → Sized (line_data_length line (task, d)) slot → Sized (line_data_length line (task, d)) (fold (renewed task d) slot good_answers)
all_fit line task d [] slot fit sized = sized
all_fit line task d (good ∷ good_answers) slot fit sized =
    all_fit line task d good_answers (renewed task d slot good) (All-tail (FitsNewAnswer Any line) good good_answers fit)
    (renewed_fits line task d good slot (All-head (FitsNewAnswer Any line) good good_answers fit) sized)

slot_sized : (history : History) (task d : ℕ) → Sized (line_data_length (line_of history) (task, d)) (slot_of history task d)
slot_sized [] task d = tt
slot_sized (Opened groups ∷ history) task d = tt
slot_sized (Edited edit ∷ history) task d = tt
slot_sized (Posted t bytes ∷ history) task d = slot_sized history task d
slot_sized (Forgot station ∷ history) task d = slot_sized history task d
slot_sized (Cleared station ∷ history) task d = slot_sized history task d
slot_sized (Unplugged station ∷ history) task d = slot_sized history task d
slot_sized (Sent frame ∷ history) task d = slot_sized history task d
slot_sized (Wrote blocks ∷ history) task d = slot_sized history task d
slot_sized (Came arrival ∷ history) task d = all_fit (line_of history) task d (new_answer_by history arrival) (slot_of history task d) (new_answer-fits Any history arrival (any-sent history)) (slot_sized history task d)

pub slots-fit : (history : History) (task d : ℕ) (bytes : List ℕ) → slot_of history task d ≡ Some bytes → length bytes ≡ line_data_length (line_of history) (task, d)
slots-fit history task d bytes e = subst (Sized (line_data_length (line_of history) (task, d))) e (slot_sized history task d)
