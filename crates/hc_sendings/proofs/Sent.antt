-- Frames are sent: what is awaited after them.
use Rattle.std.proofs.Common.{◌≡◌, ℕ, ◌-◌, ◌<◌, ◌==◌, nat_lt, Bool, true, false, cond, not, ◌&&◌, List, [], ◌∷◌, ◌++◌, ◌+◌, ◌≤◌, ◌⊎◌, inl, inr, length, length-append, map, filter, get_or, refl, sym, ap, ◌∙◌, subst, arith, append_assoc, append-nil, Some}
use Rattle.std.specs.Prelude.{All, AllPairs}
use Rattle.std.specs.List.{list_any}
use Rattle.std.proofs.lemmas.Bool.Decides.{nat_tests}
use Rattle.std.proofs.lemmas.Bool.{ltb-false, ltb-true, or_parts}
use Rattle.std.proofs.lemmas.List.{get_or_default, length-map, map-append}
use Rattle.std.proofs.lemmas.List.Sums.{count_by-le-length, length-filter}
use Rattle.std.proofs.lemmas.List.Elements.{All-append, All-cons, All-filter, All-head, All-map, All-nil, All-tail, All-weaker, filter-append}
use Rattle.std.proofs.lemmas.List.Kept.{AllPairs-filter}
use Rattle.std.proofs.lemmas.Grind.{common_steps}
use Rattle.hc_records.proofs.lemmas.Lists.{All-unmap, AllPairs-append, AllPairs-head, AllPairs-map, AllPairs-tail}
use Rattle.hc_records.proofs.lemmas.Choices.{by_bool, itself}
use Rattle.hc_events.specs.Sendings.{Frame, Named}
use Rattle.hc_sendings.specs.Waiting.{AwaitedFrame, AwaitedWrite, AwaitedDatagram, IsTaskDatagram, all_sent, as_sent, is_still_awaited, is_named, just_sent, sent_again, with_again}
use Rattle.hc_sendings.specs.Stored.{AreStored, StoredFrame, LastSent, is_serial, stored_frame, last_sent_after, last_sent_of}
use Rattle.hc_sendings.proofs.Room.{few-stay}
use Rattle.hc_sendings.proofs.AwaitedStill.{Table, awaited_still-same, awaited_still-stays, awaited_at, filter-map_is, map-all, stays_at, answered_at}

-- a table in which a frame is the newest of its datagrams
abbrev noted_at : Frame → Table → Table
noted_at frame at = λ named. cond (list_any (is_named named) frame.datagrams) (Some frame.serial) (at named)

-- the frame itself

named-itself : (named : Named) → is_named named named ≡ true
named-itself named = rw (itself named.0, itself named.1) refl

any-at : {X : Type 0} (test : X → Bool) (xs : List X) (k : ℕ) (d : X) → k < length xs → test (get_or xs k d) ≡ true → list_any test xs ≡ true
any-at test xs k d within e = grind (arith, common_steps)

all-in : (datagrams : List Named) → All (λ named. list_any (is_named named) datagrams ≡ true) datagrams
all-in datagrams = λ k d within. any-at (is_named (get_or datagrams k d)) datagrams k d within (named-itself (get_or datagrams k d))

answer_given-sent : (at : Table) (frame : Frame) → answered_at (noted_at frame at) (stored_frame frame) ≡ as_sent frame
answer_given-sent at frame =
    ap (λ (datagrams : List AwaitedDatagram). record { serial = frame.serial; datagrams = datagrams })
    (map-all (λ named. list_any (is_named named) frame.datagrams ≡ true) (λ named. record { datagram = named; last_sent = is_serial frame.serial (noted_at frame at named) }) just_sent
    (λ named t. ap (λ b. record { datagram = named; last_sent = is_serial frame.serial (cond b (Some frame.serial) (at named)) }) t
    ∙ ap (λ b. record { datagram = named; last_sent = b }) (itself frame.serial))
    frame.datagrams (all-in frame.datagrams))

-- the frames before it

older : (at : Table) (frame : Frame) (serial : ℕ) (named : Named) → serial < frame.serial
    → is_serial serial (noted_at frame at named) ≡ (is_serial serial (at named) && not (list_any (is_named named) frame.datagrams))
older at frame serial named below =
    let apart : (frame.serial == serial) ≡ false = grind (arith, nat_tests) in
    by_bool (list_any (is_named named) frame.datagrams)
    (λ t. by_bool (is_serial serial (at named)) (λ u. rw (t, u) apart) (λ u. rw (t, u) apart))
    (λ t. by_bool (is_serial serial (at named)) (λ u. rw (t, u) refl) (λ u. rw (t, u) refl))

older-datagrams : (at : Table) (frame : Frame) (serial : ℕ) → serial < frame.serial → (datagrams : List Named)
    → map (λ named. record { datagram = named; last_sent = is_serial serial (noted_at frame at named) }) datagrams
    ≡ map (sent_again frame.datagrams) (map (λ named. record { datagram = named; last_sent = is_serial serial (at named) }) datagrams)
older-datagrams at frame serial below [] = refl
older-datagrams at frame serial below (d ∷ ds) =
    ap (λ b. record { datagram = d; last_sent = b } ∷ map (λ named. record { datagram = named; last_sent = is_serial serial (noted_at frame at named) }) ds) (older at frame serial d below)
    ∙ ap (λ (carried : List AwaitedDatagram). record { datagram = d; last_sent = is_serial serial (at d) && not (list_any (is_named d) frame.datagrams) } ∷ carried) (older-datagrams at frame serial below ds)

answer_given-older : (at : Table) (frame : Frame) (stored : StoredFrame) → stored.serial < frame.serial → answered_at (noted_at frame at) stored ≡ with_again frame.datagrams (answered_at at stored)
answer_given-older at frame stored below = ap (λ (datagrams : List AwaitedDatagram). record { serial = stored.serial; datagrams = datagrams }) (older-datagrams at frame stored.serial below stored.datagrams)

older-frames : (at : Table) (frame : Frame) (frames : List StoredFrame) → All (λ stored. stored.serial < frame.serial) frames
    → map (answered_at (noted_at frame at)) frames ≡ map (with_again frame.datagrams) (map (answered_at at) frames)
older-frames at frame [] below = refl
older-frames at frame (stored ∷ frames) below =
    ap (λ (one : AwaitedFrame). one ∷ map (answered_at (noted_at frame at)) frames) (answer_given-older at frame stored (All-head (λ (k : StoredFrame). k.serial < frame.serial) stored frames below))
    ∙ ap (λ (rest : List AwaitedFrame). with_again frame.datagrams (answered_at at stored) ∷ rest) (older-frames at frame frames (All-tail (λ (k : StoredFrame). k.serial < frame.serial) stored frames below))

-- one that is the newest of no datagram stays so

none-again : (again : List Named) (datagrams : List AwaitedDatagram) → list_any (λ carried. carried.last_sent) datagrams ≡ false
    → list_any (λ carried. carried.last_sent) (map (sent_again again) datagrams) ≡ false
none-again again [] e = refl
none-again again (d ∷ ds) e =
    let parts = or_parts d.last_sent (list_any (λ (carried : AwaitedDatagram). carried.last_sent) ds) e in
    rw parts.0 (none-again again ds parts.1)

again-either : (again : List Named) (frame : AwaitedFrame) (before all : List AwaitedFrame) (b : Bool) → is_still_awaited frame ≡ b
    → filter is_still_awaited (map (with_again again) before) ≡ all
    → filter is_still_awaited (map (with_again again) (cond b (frame ∷ before) before)) ≡ cond (is_still_awaited (with_again again frame)) (with_again again frame ∷ all) all
again-either again frame before all true awaited_still e = ap (λ (rest : List AwaitedFrame). cond (is_still_awaited (with_again again frame)) (with_again again frame ∷ rest) rest) e
again-either again frame before all false awaited_still e = e ∙ sym (ap (λ b. cond b (with_again again frame ∷ all) all) (none-again again frame.datagrams awaited_still))

again-awaited_still : (again : List Named) (frames : List AwaitedFrame) → filter is_still_awaited (map (with_again again) (filter is_still_awaited frames)) ≡ filter is_still_awaited (map (with_again again) frames)
again-awaited_still again [] = refl
again-awaited_still again (frame ∷ frames) =
    again-either again frame (filter is_still_awaited frames) (filter is_still_awaited (map (with_again again) frames)) (is_still_awaited frame) refl (again-awaited_still again frames)

-- one frame is sent
sent-one : (at : Table) (frame : Frame) (frames : List StoredFrame) → All (λ stored. stored.serial < frame.serial) frames
    → awaited_at (noted_at frame at) (frames ++ stored_frame frame ∷ []) ≡ filter is_still_awaited (map (with_again frame.datagrams) (awaited_at at frames) ++ as_sent frame ∷ [])
sent-one at frame frames below =
    ap (filter is_still_awaited) (map-append (answered_at (noted_at frame at)) frames (stored_frame frame ∷ []))
    ∙ ap (λ (one : AwaitedFrame). filter is_still_awaited (map (answered_at (noted_at frame at)) frames ++ one ∷ [])) (answer_given-sent at frame)
    ∙ filter-append is_still_awaited (map (answered_at (noted_at frame at)) frames) (as_sent frame ∷ [])
    ∙ ap (λ (rest : List AwaitedFrame). filter is_still_awaited rest ++ filter is_still_awaited (as_sent frame ∷ [])) (older-frames at frame frames below)
    ∙ ap (λ (rest : List AwaitedFrame). rest ++ filter is_still_awaited (as_sent frame ∷ [])) (sym (again-awaited_still frame.datagrams (map (answered_at at) frames)))
    ∙ sym (filter-append is_still_awaited (map (with_again frame.datagrams) (awaited_at at frames)) (as_sent frame ∷ []))

-- and all of them, one after another

abbrev Below : Frame → StoredFrame → Type 0
Below frame stored = stored.serial < frame.serial

sent-all : (frames : List Frame) (at : Table) (stored : List StoredFrame) (writes further : List AwaitedWrite) (forgotten : Bool)
    → AllPairs (λ a b. a.serial < b.serial) frames
    → All (λ old. All (λ next. old.serial < next.serial) frames) stored
    → record { frames = awaited_at (λ named. last_sent_after named (at named) frames) (stored ++ map stored_frame frames); writes = writes; further = further; forgotten = forgotten }
    ≡ all_sent (record { frames = awaited_at at stored; writes = writes; further = further; forgotten = forgotten }) frames
sent-all [] at stored writes further forgotten ascend after_it =
    ap (λ (all : List StoredFrame). record { frames = awaited_at at all; writes = writes; further = further; forgotten = forgotten }) (append-nil stored)
sent-all (frame ∷ frames) at stored writes further forgotten ascend after_it =
    let later = AllPairs-head (λ (a b : Frame). a.serial < b.serial) frame frames ascend in
    let below : All (Below frame) stored = All-weaker (λ (old : StoredFrame). All (λ (next : Frame). old.serial < next.serial) (frame ∷ frames)) (Below frame) (λ old all. All-head (λ (next : Frame). old.serial < next.serial) frame frames all) stored after_it in
    let rest : All (λ (old : StoredFrame). All (λ (next : Frame). old.serial < next.serial) frames) stored =
    All-weaker (λ (old : StoredFrame). All (λ (next : Frame). old.serial < next.serial) (frame ∷ frames)) (λ (old : StoredFrame). All (λ (next : Frame). old.serial < next.serial) frames) (λ old all. All-tail (λ (next : Frame). old.serial < next.serial) frame frames all) stored after_it in
    let more : All (λ (old : StoredFrame). All (λ (next : Frame). old.serial < next.serial) frames) (stored ++ stored_frame frame ∷ []) =
    All-append (λ (old : StoredFrame). All (λ (next : Frame). old.serial < next.serial) frames) stored (stored_frame frame ∷ []) rest
    (All-cons (λ (old : StoredFrame). All (λ (next : Frame). old.serial < next.serial) frames) (stored_frame frame) [] later (All-nil (λ (old : StoredFrame). All (λ (next : Frame). old.serial < next.serial) frames))) in
    ap (λ (all : List StoredFrame). record { frames = awaited_at (λ named. last_sent_after named (noted_at frame at named) frames) all; writes = writes; further = further; forgotten = forgotten })
    (sym (append_assoc stored (stored_frame frame ∷ []) (map stored_frame frames)))
    ∙ sent-all frames (noted_at frame at) (stored ++ stored_frame frame ∷ []) writes further forgotten
    (AllPairs-tail (λ (a b : Frame). a.serial < b.serial) frame frames ascend) more
    ∙ ap (λ (now : List AwaitedFrame). all_sent (record { frames = now; writes = writes; further = further; forgotten = forgotten }) frames)
    (sent-one at frame stored below)

-- what is kept of frames that are sent, after those that were awaited before: serials ascend and datagrams have their places

abbrev pub Ascend : StoredFrame → StoredFrame → Type 0
Ascend a b = a.serial < b.serial

stored-after_it : (at : Table) (stored : List StoredFrame) (frames : List Frame) → All (λ old. All (λ next. old.serial < next.serial) frames) (awaited_at at stored)
    → All (λ (old : StoredFrame). All (λ (next : Frame). old.serial < next.serial) frames) (filter (stays_at at) stored)
stored-after_it at stored frames after_it =
    All-unmap (λ (old : AwaitedFrame). All (λ (next : Frame). old.serial < next.serial) frames) (answered_at at) (filter (stays_at at) stored)
    (subst (All (λ (old : AwaitedFrame). All (λ (next : Frame). old.serial < next.serial) frames)) (filter-map_is is_still_awaited (answered_at at) stored) after_it)

all-ascend : (stored : List StoredFrame) (frames : List Frame) → AllPairs (λ a b. a.serial < b.serial) stored → AllPairs (λ a b. a.serial < b.serial) frames
    → All (λ (old : StoredFrame). All (λ (next : Frame). old.serial < next.serial) frames) stored → AllPairs (λ a b. a.serial < b.serial) (stored ++ map stored_frame frames)
all-ascend stored frames first second after_it =
    AllPairs-append Ascend stored (map stored_frame frames) first (AllPairs-map Ascend stored_frame frames second)
    (All-weaker (λ (old : StoredFrame). All (λ (next : Frame). old.serial < next.serial) frames) (λ (old : StoredFrame). All (Ascend old) (map stored_frame frames))
    (λ old all. All-map (Ascend old) stored_frame frames all) stored after_it)

all-named : (stored : List StoredFrame) (frames : List Frame) → All (λ (frame : StoredFrame). All IsTaskDatagram frame.datagrams) stored → All (λ (frame : Frame). All IsTaskDatagram frame.datagrams) frames
    → All (λ (frame : StoredFrame). All IsTaskDatagram frame.datagrams) (stored ++ map stored_frame frames)
all-named stored frames first second =
    All-append (λ (frame : StoredFrame). All IsTaskDatagram frame.datagrams) stored (map stored_frame frames) first (All-map (λ (frame : StoredFrame). All IsTaskDatagram frame.datagrams) stored_frame frames second)

abbrev pub After : List Frame → StoredFrame → Type 0
After frames old = All (λ (next : Frame). old.serial < next.serial) frames

-- frames without some that are awaited no longer

pub record IsPruned (at : Table) (old new : List StoredFrame) : Type 0 where
  pub answer_given : awaited_at at new ≡ awaited_at at old
  pub ascend : AllPairs Ascend old → AllPairs Ascend new
  pub named : All (λ frame. All IsTaskDatagram frame.datagrams) old → All (λ frame. All IsTaskDatagram frame.datagrams) new
  pub after_it : (frames : List Frame) → All (After frames) old → All (After frames) new

pub pruned-or : {X : Type 0} (at : Table) (old new : List StoredFrame) → (new ≡ filter (stays_at at) old) ⊎ ((new ≡ old) × X) → IsPruned at old new
pruned-or at old new (inl e) =
    subst (IsPruned at old) (sym e)
    (record {
      answer_given = awaited_still-stays at old;
      ascend = AllPairs-filter Ascend (stays_at at) old;
      named = All-filter (stays_at at) (λ (frame : StoredFrame). All IsTaskDatagram frame.datagrams) old;
      after_it = λ frames. All-filter (stays_at at) (After frames) old;
    })
pruned-or at old new (inr e) = subst (IsPruned at old) (sym e.0) (record { answer_given = refl; ascend = λ pairs. pairs; named = λ all. all; after_it = λ frames all. all })

-- the last one that is kept has the highest serial, and the first one that comes the lowest

stored-low : (stored : List StoredFrame) (last : StoredFrame) (k : ℕ) (d : StoredFrame) → AllPairs Ascend stored → k < length stored → last ≡ get_or stored (length stored - 1) last
    → (get_or stored k d).serial ≤ last.serial
stored-low stored last k d ascend within is =
    let end = length stored - 1 in
    let there : (get_or stored end d).serial ≡ last.serial = ap (λ (f : StoredFrame). f.serial) (get_or_default stored end d last (omega arith) ∙ sym is) in
    by_bool (nat_lt k end)
    (λ t. let below = ascend k end d (ltb-true k end t) (omega arith) in omega (arith, below, there))
    (λ t. let from = ltb-false k end t in
    let at : k ≡ end = omega arith in
    let same = ap (λ (n : ℕ). (get_or stored n d).serial) at in omega (arith, same, there))

come-high : (frames : List Frame) (first : Frame) (k : ℕ) (d : Frame) → AllPairs (λ a b. a.serial < b.serial) frames → k < length frames → first ≡ get_or frames 0 first
    → first.serial ≤ (get_or frames k d).serial
come-high frames first k d ascend within is =
    let there : (get_or frames 0 d).serial ≡ first.serial = ap (λ (f : Frame). f.serial) (get_or_default frames 0 d first (omega arith) ∙ sym is) in
    by_bool (nat_lt 0 k)
    (λ t. let below = ascend 0 k d (ltb-true 0 k t) within in omega (arith, below, there))
    (λ t. let from = ltb-false 0 k t in
    let at : k ≡ 0 = omega arith in
    let same = ap (λ (n : ℕ). (get_or frames n d).serial) at in omega (arith, same, there))

pub ends-apart : (stored : List StoredFrame) (frames : List Frame) (last : StoredFrame) (first : Frame) → AllPairs Ascend stored → AllPairs (λ a b. a.serial < b.serial) frames
    → last ≡ get_or stored (length stored - 1) last → first ≡ get_or frames 0 first → last.serial < first.serial → All (After frames) stored
ends-apart stored frames last first ascend come is_last is_first apart k d within j e among =
    let low = stored-low stored last k d ascend within is_last in
    let high = come-high frames first j e come among is_first in
    omega (arith, low, high, apart)

-- those that are left have lower serials than frames that come
pub after_it-or : (at : Table) (stored first : List StoredFrame) (frames : List Frame)
    → (first ≡ filter (stays_at at) stored) ⊎ ((first ≡ stored) × All (λ old. All (λ next. old.serial < next.serial) frames) stored)
    → All (λ old. All (λ next. old.serial < next.serial) frames) (awaited_at at stored) → All (After frames) first
after_it-or at stored first frames (inl e) after_it = subst (All (After frames)) (sym e) (stored-after_it at stored frames after_it)
after_it-or at stored first frames (inr e) after_it = subst (All (After frames)) (sym e.0) e.1

awaited_still-append : (at : Table) (one other : List StoredFrame) → awaited_at at (one ++ other) ≡ awaited_at at one ++ awaited_at at other
awaited_still-append at one other = ap (filter is_still_awaited) (map-append (answered_at at) one other) ∙ filter-append is_still_awaited (map (answered_at at) one) (map (answered_at at) other)

-- the whole of it: frames that are awaited no longer may go, the frames are noted, others may go, and those of the new frames that are the newest of a datagram come after
abbrev pub joined : LastSent → List StoredFrame → List Frame → List StoredFrame
joined now second frames = second ++ filter (stays_at (last_sent_of now)) (map stored_frame frames)

pub joined-stored : (before now : LastSent) (stored first second : List StoredFrame) (frames : List Frame) → AreStored before stored → length now ≡ length before
    → IsPruned (last_sent_of before) stored first → All (After frames) first → IsPruned (last_sent_of now) first second
    → All (λ (frame : Frame). All IsTaskDatagram frame.datagrams) frames → AllPairs (λ a b. a.serial < b.serial) frames
    → AreStored now (joined now second frames)
joined-stored before now stored first second frames are places one after_it two named ascend =
    let stays = stays_at (last_sent_of now) in
    let new : List StoredFrame = filter stays (map stored_frame frames) in
    record {
      places = places ∙ are.places;
      ascend = AllPairs-append Ascend second new (two.ascend (one.ascend are.ascend)) (AllPairs-filter Ascend stays (map stored_frame frames) (AllPairs-map Ascend stored_frame frames ascend))
          (All-weaker (After frames) (λ (old : StoredFrame). All (Ascend old) new)
          (λ old all. All-filter stays (Ascend old) (map stored_frame frames) (All-map (Ascend old) stored_frame frames all)) second (two.after_it frames after_it));
      named = All-append (λ (frame : StoredFrame). All IsTaskDatagram frame.datagrams) second new
          (two.named (one.named are.named))
          (All-filter stays (λ (frame : StoredFrame). All IsTaskDatagram frame.datagrams) (map stored_frame frames) (All-map (λ (frame : StoredFrame). All IsTaskDatagram frame.datagrams) stored_frame frames named));
    }

pub joined-answer_given : (before now : LastSent) (stored first second : List StoredFrame) (frames : List Frame) (writes further : List AwaitedWrite) (forgotten : Bool) → AreStored before stored
    → ((d : Named) → IsTaskDatagram d → last_sent_of now d ≡ last_sent_after d (last_sent_of before d) frames)
    → IsPruned (last_sent_of before) stored first → All (After frames) first → IsPruned (last_sent_of now) first second
    → All (λ (frame : Frame). All IsTaskDatagram frame.datagrams) frames → AllPairs (λ a b. a.serial < b.serial) frames
    → record { frames = awaited_at (last_sent_of now) (joined now second frames); writes = writes; further = further; forgotten = forgotten }
    ≡ all_sent (record { frames = awaited_at (last_sent_of before) stored; writes = writes; further = further; forgotten = forgotten }) frames
joined-answer_given before now stored first second frames writes further forgotten are noted one after_it two named ascend =
    let at : Table = last_sent_of now in
    let new : List StoredFrame = map stored_frame frames in
    ap (λ (all : List AwaitedFrame). record { frames = all; writes = writes; further = further; forgotten = forgotten })
    (awaited_still-append at second (filter (stays_at at) new)
    ∙ ap (λ (all : List AwaitedFrame). all ++ awaited_at at (filter (stays_at at) new)) two.answer_given
    ∙ ap (λ (all : List AwaitedFrame). awaited_at at first ++ all) (awaited_still-stays at new)
    ∙ sym (awaited_still-append at first new)
    ∙ awaited_still-same at (λ d. last_sent_after d (last_sent_of before d) frames) noted (first ++ new)
    (all-named first frames (one.named are.named) named))
    ∙ sent-all frames (last_sent_of before) first writes further forgotten ascend after_it
    ∙ ap (λ (all : List AwaitedFrame). all_sent (record { frames = all; writes = writes; further = further; forgotten = forgotten }) frames) one.answer_given

-- there is room for the frames that come: for all of them, or if those that are left are the newest of a datagram each
pub joined-few : (now : LastSent) (first second : List StoredFrame) (frames : List Frame) (room count : ℕ)
    → (second ≡ filter (stays_at (last_sent_of now)) first) ⊎ ((second ≡ first) × (count + length frames ≤ room)) → count ≡ length first
    → AllPairs Ascend first → All (After frames) first → AllPairs (λ a b. a.serial < b.serial) frames → length now ≤ room
    → length (joined now second frames) ≤ room
joined-few now first second frames room count (inl e) counted first_ascend after_it ascend places =
    let stays = stays_at (last_sent_of now) in
    let few = few-stay now (first ++ map stored_frame frames) (all-ascend first frames first_ascend ascend after_it) in
    let whole = ap (λ (all : List StoredFrame). length (all ++ filter stays (map stored_frame frames))) e ∙ ap length (sym (filter-append stays first (map stored_frame frames))) in
    omega (arith, few, whole, places)
joined-few now first second frames room count (inr e) counted first_ascend after_it ascend places =
    let stays = stays_at (last_sent_of now) in
    let whole = ap (λ (all : List StoredFrame). length (all ++ filter stays (map stored_frame frames))) e.0 ∙ length-append first (filter stays (map stored_frame frames)) in
    let new = length-filter stays (map stored_frame frames) in
    let some = count_by-le-length stays (map stored_frame frames) in
    let all = length-map frames stored_frame in
    let fits = e.1 in
    omega (arith, whole, new, some, all, fits, counted)
