-- Frames of logical datagrams through machines.
use Rattle.std.proofs.Common.{◌≡◌, ℕ, ◌+◌, ◌*◌, ◌%◌, ◌<◌, ◌∙◌, List, [], ◌∷◌, length, is_none, refl, ap, ap₂, subst, arith}
use Rattle.std.specs.Prelude.{All, None, Option, map, if◌then◌else◌}
use Rattle.std.proofs.lemmas.List.{append-nil}
use Rattle.std.proofs.lemmas.List.Elements.{All-head, All-tail}
use Rattle.hc_frames.specs.declared.reading.faults.FrameFault.{FrameFault}
use Rattle.hc_frames.specs.Arrived.{Reading, fault_in, reading_of}
use Rattle.hc_frames.specs.FrameText.{WireDatagram, Datagram, frame_text, lrw, sent_on_wire}
use Rattle.hc_frames.specs.Laws.{CanBeCarried}
use Rattle.hc_frames.specs.Returned.{IsReturned}
use Rattle.hc_frames.proofs.lemmas.Returns.{returned-read, sent-returned}
use Rattle.hc_machine.specs.Commands.{memory_after_datagram, served}
use Rattle.hc_machine.specs.Frames.{all_served, frame_after, memory_after, memory_after_datagrams}
use Rattle.hc_machine.specs.Logical.{logical_count, logical_data, logical_memory}
use Rattle.hc_machine.proofs.lemmas.Memories.{length-data}
use Rattle.hc_machine.proofs.lemmas.Returned.{returned-passes}
use Rattle.hc_segment.specs.Line.{frame_through, machines_after_frame}
use Rattle.hc_exchange.specs.Carrying.{count_through, data_through, logical_part, memories_after}
use Rattle.hc_exchange.specs.FrameLaws.{Addressed, LogicalFramesPass, SharedFramesPass, logical_of, datagrams_after_machines}
use Rattle.hc_exchange.specs.Sequences.{all_after_frames}

served-logical : (memory : List ℕ) (address : ℕ) (bytes : List ℕ) (counter : ℕ)
    → served memory (logical_part address bytes counter) ≡ logical_part address (logical_data memory (8 * address) bytes) ((counter + logical_count memory (8 * address) (length bytes)) % 65536)
unfolding served
served-logical memory address bytes counter = refl

after_it-logical : (memory : List ℕ) (address : ℕ) (bytes : List ℕ) (counter : ℕ)
    → memory_after_datagram memory (logical_part address bytes counter) ≡ logical_memory memory (8 * address) bytes
unfolding memory_after_datagram
after_it-logical memory address bytes counter = refl

pub after_it-read : (memory frame : List ℕ) (serial : ℕ) (parts : List WireDatagram) → fault_in frame ≡ None → reading_of frame ≡ record { serial = serial; parts = parts }
    → memory_after memory frame ≡ memory_after_datagrams memory parts
unfolding memory_after
after_it-read memory frame serial parts none answer_given =
    ap (λ (o : Option FrameFault). if is_none o then memory_after_datagrams memory (reading_of frame).parts else memory) none
    ∙ ap (λ (r : Reading). memory_after_datagrams memory r.parts) answer_given

-- a datagram on its way, with its counter so far

record Item : Type 0 where
  address : ℕ
  bytes : List ℕ
  counter : ℕ

abbrev part_of : Item → WireDatagram
part_of i = logical_part i.address i.bytes i.counter

-- as a machine passes it on, and as it passes on several
abbrev after : List ℕ → Item → Item
after m i = record {
  address = i.address;
  bytes = logical_data m (8 * i.address) i.bytes;
  counter = (i.counter + logical_count m (8 * i.address) (length i.bytes)) % 65536;
}

all_after : List ℕ → List Item → List Item
all_after m [] = []
all_after m (i ∷ is) = after m i ∷ all_after (logical_memory m (8 * i.address) i.bytes) is

left_by : List ℕ → List Item → List ℕ
left_by m [] = m
left_by m (i ∷ is) = left_by (logical_memory m (8 * i.address) i.bytes) is

served-items : (m : List ℕ) (is : List Item) → all_served m (map part_of is) ≡ map part_of (all_after m is)
unfolding all_after
served-items m [] = refl
served-items m (i ∷ is) =
    let from = 8 * i.address in
    ap₂ (λ (p : WireDatagram) (ps : List WireDatagram). p ∷ ps) (served-logical m i.address i.bytes i.counter)
    (ap (λ (m' : List ℕ). all_served m' (map part_of is)) (after_it-logical m i.address i.bytes i.counter) ∙ served-items (logical_memory m from i.bytes) is)

left-items : (m : List ℕ) (is : List Item) → memory_after_datagrams m (map part_of is) ≡ left_by m is
unfolding left_by
left-items m [] = refl
left-items m (i ∷ is) =
    ap (λ (m' : List ℕ). memory_after_datagrams m' (map part_of is)) (after_it-logical m i.address i.bytes i.counter) ∙ left-items (logical_memory m (8 * i.address) i.bytes) is

-- machines one after another

through : List (List ℕ) → List Item → List Item
through [] is = is
through (m ∷ ms) is = through ms (all_after m is)

after_it : List (List ℕ) → List Item → List (List ℕ)
after_it [] is = []
after_it (m ∷ ms) is = left_by m is ∷ after_it ms (all_after m is)

record Passed (ms : List (List ℕ)) (serial : ℕ) (ws : List Datagram) (is : List Item) (frame : List ℕ) : Type 0 where
  back : IsReturned serial ws (map part_of (through ms is)) (frame_through ms frame)
  carried : CanBeCarried serial (map part_of (through ms is))
  machines : machines_after_frame ms frame ≡ after_it ms is

passes : (ms : List (List ℕ)) (serial : ℕ) (ws : List Datagram) (is : List Item) (frame : List ℕ) → All (λ m. length m ≡ 12288) ms
    → IsReturned serial ws (map part_of is) frame → CanBeCarried serial (map part_of is) → Passed ms serial ws is frame
unfolding through after_it
passes [] serial ws is frame long back can = record { back = back; carried = can; machines = refl }
passes (m ∷ ms) serial ws is frame long back can =
    let read = returned-read serial ws (map part_of is) frame back can in
    let next = returned-passes m (All-head (λ (x : List ℕ). length x ≡ 12288) m ms long) serial ws (map part_of is) frame back can in
    let parts = served-items m is in
    let rest =
    passes ms serial ws (all_after m is) (frame_after m frame) (All-tail (λ (x : List ℕ). length x ≡ 12288) m ms long)
    (subst (λ (ps : List WireDatagram). IsReturned serial ws ps (frame_after m frame)) parts next.0) (subst (CanBeCarried serial) parts next.1) in
    record {
      back = rest.back;
      carried = rest.carried;
      machines = ap₂ (λ (x : List ℕ) (xs : List (List ℕ)). x ∷ xs) (after_it-read m frame serial (map part_of is) read.0 read.1 ∙ left-items m is) rest.machines;
    }

-- one datagram through all machines, then the others

one_through : List (List ℕ) → Item → Item
one_through [] i = i
one_through (m ∷ ms) i = one_through ms (after m i)

through-next : (ms : List (List ℕ)) (i : Item) (is : List Item) → through ms (i ∷ is) ≡ one_through ms i ∷ through (memories_after ms (8 * i.address) i.bytes) is
unfolding through one_through all_after
through-next [] i is = refl
through-next (m ∷ ms) i is = through-next ms (after m i) (all_after (logical_memory m (8 * i.address) i.bytes) is)

after_it-next : (ms : List (List ℕ)) (i : Item) (is : List Item) → after_it ms (i ∷ is) ≡ after_it (memories_after ms (8 * i.address) i.bytes) is
unfolding after_it left_by all_after
after_it-next [] i is = refl
after_it-next (m ∷ ms) i is =
    ap (λ (xs : List (List ℕ)). left_by (logical_memory m (8 * i.address) i.bytes) is ∷ xs) (after_it-next ms (after m i) (all_after (logical_memory m (8 * i.address) i.bytes) is))

through-none : (ms : List (List ℕ)) → through ms [] ≡ []
unfolding through all_after
through-none [] = refl
through-none (m ∷ ms) = through-none ms

after_it-none : (ms : List (List ℕ)) → after_it ms [] ≡ ms
unfolding after_it left_by all_after
after_it-none [] = refl
after_it-none (m ∷ ms) = ap (λ (xs : List (List ℕ)). m ∷ xs) (after_it-none ms)

wrapped-none : (counter : ℕ) → counter < 65536 → counter ≡ (counter + 0) % 65536
wrapped-none counter low = omega arith

wrapped-twice : (counter first rest : ℕ) → ((counter + first) % 65536 + rest) % 65536 ≡ (counter + (first + rest)) % 65536
wrapped-twice counter first rest = omega arith

wrapped-low : (n : ℕ) → n % 65536 < 65536
wrapped-low n = omega arith

part-through : (ms : List (List ℕ)) (i : Item) → i.counter < 65536
    → part_of (one_through ms i) ≡ logical_part i.address (data_through ms (8 * i.address) i.bytes) ((i.counter + count_through ms (8 * i.address) (length i.bytes)) % 65536)
unfolding one_through
part-through [] i low = ap (λ (n : ℕ). logical_part i.address i.bytes n) (wrapped-none i.counter low)
part-through (m ∷ ms) i low =
    let from = 8 * i.address in
    let count = logical_count m from (length i.bytes) in
    part-through ms (after m i) (wrapped-low (i.counter + count))
    ∙ ap (λ (n : ℕ). logical_part i.address (data_through ms from (logical_data m from i.bytes)) n)
    (ap (λ (k : ℕ). ((i.counter + count) % 65536 + count_through ms from k) % 65536) (length-data m i.bytes from) ∙ wrapped-twice i.counter count (count_through ms from (length i.bytes)))

-- as they are sent

abbrev item_of : Addressed → Item
item_of d = record { address = d.address; bytes = d.bytes; counter = 0 }

parts-through : (ms : List (List ℕ)) (ds : List Addressed) → map part_of (through ms (map item_of ds)) ≡ datagrams_after_machines ms ds
parts-through ms [] = ap (map part_of) (through-none ms)
parts-through ms (d ∷ ds) =
    let none : 0 + count_through ms (8 * d.address) (length d.bytes) ≡ count_through ms (8 * d.address) (length d.bytes) = omega arith in
    ap (map part_of) (through-next ms (item_of d) (map item_of ds))
    ∙ ap₂ (λ (p : WireDatagram) (ps : List WireDatagram). p ∷ ps)
    (part-through ms (item_of d) (omega arith) ∙ ap (λ (n : ℕ). logical_part d.address (data_through ms (8 * d.address) d.bytes) (n % 65536)) none)
    (parts-through (memories_after ms (8 * d.address) d.bytes) ds)

machines-after_it : (ms : List (List ℕ)) (ds : List Addressed) → after_it ms (map item_of ds) ≡ all_after_frames ms (map logical_of ds)
machines-after_it ms [] = after_it-none ms
machines-after_it ms (d ∷ ds) = after_it-next ms (item_of d) (map item_of ds) ∙ machines-after_it (memories_after ms (8 * d.address) d.bytes) ds

sent-items : (ds : List Addressed) → map sent_on_wire (map (λ (d : Addressed). lrw d.address d.bytes) ds) ≡ map part_of (map item_of ds)
sent-items [] = refl
sent-items (d ∷ ds) = ap (λ (ps : List WireDatagram). part_of (item_of d) ∷ ps) (sent-items ds)

carried-items : (ds : List Addressed) → map (λ (d : Addressed). sent_on_wire (lrw d.address d.bytes)) ds ≡ map part_of (map item_of ds)
carried-items [] = refl
carried-items (d ∷ ds) = ap (λ (ps : List WireDatagram). part_of (item_of d) ∷ ps) (carried-items ds)

passed-all : (machines : List (List ℕ)) (serial : ℕ) (ds : List Addressed) → All (λ m. length m ≡ 12288) machines → CanBeCarried serial (map (λ (d : Addressed). sent_on_wire (lrw d.address d.bytes)) ds)
    → Passed machines serial (map (λ (d : Addressed). lrw d.address d.bytes) ds) (map item_of ds) (frame_text serial (map (λ (d : Addressed). lrw d.address d.bytes) ds))
passed-all machines serial ds long can =
    let ws = map (λ (d : Addressed). lrw d.address d.bytes) ds in
    let sent_back : IsReturned serial ws (map sent_on_wire ws) (frame_text serial ws) = subst (IsReturned serial ws (map sent_on_wire ws)) (append-nil (frame_text serial ws)) (sent-returned serial ws []) in
    let back = subst (λ (ps : List WireDatagram). IsReturned serial ws ps (frame_text serial ws)) (sent-items ds) sent_back in
    passes machines serial ws (map item_of ds) (frame_text serial ws) long back (subst (CanBeCarried serial) (carried-items ds) can)

-- as a returned text of the sending
pub record IsReturnedBy (machines : List (List ℕ)) (serial : ℕ) (ds : List Addressed) : Type 0 where
  pub back : IsReturned serial (map (λ d. lrw d.address d.bytes) ds) (datagrams_after_machines machines ds) (frame_through machines (frame_text serial (map (λ d. lrw d.address d.bytes) ds)))
  pub carried : CanBeCarried serial (datagrams_after_machines machines ds)

pub shared-returned : (machines : List (List ℕ)) (serial : ℕ) (ds : List Addressed) → All (λ m. length m ≡ 12288) machines → CanBeCarried serial (map (λ (d : Addressed). sent_on_wire (lrw d.address d.bytes)) ds)
    → IsReturnedBy machines serial ds
shared-returned machines serial ds long can =
    let ws = map (λ (d : Addressed). lrw d.address d.bytes) ds in
    let passed = passed-all machines serial ds long can in
    record {
      back = subst (λ (ps : List WireDatagram). IsReturned serial ws ps (frame_through machines (frame_text serial ws))) (parts-through machines ds) passed.back;
      carried = subst (CanBeCarried serial) (parts-through machines ds) passed.carried;
    }

pub shared-pass : SharedFramesPass
shared-pass machines serial ds long can =
    let ws = map (λ (d : Addressed). lrw d.address d.bytes) ds in
    let passed = passed-all machines serial ds long can in
    let read = returned-read serial ws (map part_of (through machines (map item_of ds))) (frame_through machines (frame_text serial ws)) passed.back passed.carried in
    record {
      readable = read.0;
      reading = read.1 ∙ ap answer_given-with (parts-through machines ds);
      memories = passed.machines ∙ machines-after_it machines ds;
    }
  where
    answer_given-with : List WireDatagram → Reading
    answer_given-with parts = record { serial = serial; parts = parts }

-- one alone
pub frames-pass : LogicalFramesPass
frames-pass machines serial address bytes long can =
    let all = shared-pass machines serial (record { address = address; bytes = bytes } ∷ []) long can in
    record { readable = all.readable; reading = all.reading; memories = all.memories }
