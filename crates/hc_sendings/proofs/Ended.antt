-- A frame is answered: it has no datagrams any more, and is awaited no longer.
use Rattle.std.proofs.Common.{◌≡◌, ◌≢◌, ℕ, ◌+◌, ◌-◌, ◌<◌, ◌==◌, ◌⊎◌, inl, inr, Bool, true, false, cond, not, List, [], ◌∷◌, ◌++◌, append-nil, get_or-take, take, take_all, length, map, filter, get_or, set, refl, sym, ap, subst, arith, ◌∙◌, ltb-true}
use Rattle.std.specs.Prelude.{All, AllPairs, nat_lt}
use Rattle.std.specs.List.Sorted.{IsPartitionPoint}
use Rattle.std.proofs.lemmas.Bool.Decides.{nat_tests}
use Rattle.std.proofs.lemmas.Grind.{get_or-set_at}
use Rattle.std.proofs.lemmas.List.{ext_get_or, get_or-map, get_or-set_other, length-map, length-set, length-take, take_more}
use Rattle.std.proofs.lemmas.List.Elements.{All-cons, All-filter, All-head, All-nil, All-tail, filter-append}
use Rattle.std.proofs.lemmas.List.Kept.{AllPairs-filter}
use Rattle.std.proofs.lemmas.Bool.{eq-eqb, ne_eqb, eqb-false, eqb-true}
use Rattle.hc_records.proofs.lemmas.Choices.{below, by_bool, lower-other}
use Rattle.hc_sendings.specs.Waiting.{AwaitedFrame, AwaitedWrite, IsTaskDatagram, ended, is_still_awaited}
use Rattle.hc_sendings.specs.Stored.{AreStored, IsLast, StoredFrame, LastSent, frame_emptied, frames_without, last_sent_of}
use Rattle.hc_sendings.proofs.AwaitedStill.{Table, awaited_at, answered_at}
use Rattle.hc_sendings.proofs.Found.{above}

-- one frame

emptied-is : (serial : ℕ) (stored : StoredFrame) → (stored.serial == serial) ≡ true → frame_emptied serial stored ≡ record { serial = stored.serial; datagrams = [] }
emptied-is serial stored t = rw t refl

emptied-not : (serial : ℕ) (stored : StoredFrame) → (stored.serial == serial) ≡ false → frame_emptied serial stored ≡ stored
emptied-not serial stored t = rw t refl

same-serial : (serial : ℕ) (stored : StoredFrame) → (frame_emptied serial stored).serial ≡ stored.serial
same-serial serial stored =
    by_bool (stored.serial == serial)
    (λ t. ap (λ (one : StoredFrame). one.serial) (emptied-is serial stored t))
    (λ t. ap (λ (one : StoredFrame). one.serial) (emptied-not serial stored t))

-- what is awaited of the frames

dropped : (serial : ℕ) (frame : AwaitedFrame) (before : List AwaitedFrame) (b : Bool) → (frame.serial == serial) ≡ true
    → filter (λ (one : AwaitedFrame). not (one.serial == serial)) (cond b (frame ∷ before) before) ≡ filter (λ (one : AwaitedFrame). not (one.serial == serial)) before
dropped serial frame before true t = rw t refl
dropped serial frame before false t = refl

stays : (serial : ℕ) (frame : AwaitedFrame) (before rest : List AwaitedFrame) (b : Bool) → (frame.serial == serial) ≡ false
    → rest ≡ filter (λ (one : AwaitedFrame). not (one.serial == serial)) before
    → cond b (frame ∷ rest) rest ≡ filter (λ (one : AwaitedFrame). not (one.serial == serial)) (cond b (frame ∷ before) before)
stays serial frame before rest true t e = rw t (ap (λ (all : List AwaitedFrame). frame ∷ all) e)
stays serial frame before rest false t e = e

frames-ended : (at : Table) (serial : ℕ) (frames : List StoredFrame)
    → awaited_at at (map (frame_emptied serial) frames) ≡ filter (λ (frame : AwaitedFrame). not (frame.serial == serial)) (awaited_at at frames)
frames-ended at serial [] = refl
frames-ended at serial (stored ∷ frames) =
    by_bool (stored.serial == serial)
    (λ t. ap (λ (one : StoredFrame). cond (is_still_awaited (answered_at at one)) (answered_at at one ∷ awaited_at at (map (frame_emptied serial) frames)) (awaited_at at (map (frame_emptied serial) frames))) (emptied-is serial stored t)
    ∙ frames-ended at serial frames
    ∙ sym (dropped serial (answered_at at stored) (awaited_at at frames) (is_still_awaited (answered_at at stored)) t))
    (λ t. ap (λ (one : StoredFrame). cond (is_still_awaited (answered_at at one)) (answered_at at one ∷ awaited_at at (map (frame_emptied serial) frames)) (awaited_at at (map (frame_emptied serial) frames))) (emptied-not serial stored t)
    ∙ stays serial (answered_at at stored) (awaited_at at frames) (awaited_at at (map (frame_emptied serial) frames)) (is_still_awaited (answered_at at stored)) t (frames-ended at serial frames))

frames-gone : (at : Table) (serial : ℕ) (frames : List StoredFrame)
    → awaited_at at (frames_without serial frames) ≡ filter (λ (frame : AwaitedFrame). not (frame.serial == serial)) (awaited_at at frames)
frames-gone at serial [] = refl
frames-gone at serial (stored ∷ frames) =
    by_bool (stored.serial == serial)
    (λ t. ap (λ (b : Bool). awaited_at at (cond (not b) (stored ∷ frames_without serial frames) (frames_without serial frames))) t
    ∙ frames-gone at serial frames
    ∙ sym (dropped serial (answered_at at stored) (awaited_at at frames) (is_still_awaited (answered_at at stored)) t))
    (λ t. ap (λ (b : Bool). awaited_at at (cond (not b) (stored ∷ frames_without serial frames) (frames_without serial frames))) t
    ∙ stays serial (answered_at at stored) (awaited_at at frames) (awaited_at at (frames_without serial frames)) (is_still_awaited (answered_at at stored)) t (frames-gone at serial frames))

abbrev AreEnded : ℕ → List StoredFrame → List StoredFrame → Type 0
AreEnded serial frames next = (next ≡ map (frame_emptied serial) frames) ⊎ (next ≡ frames_without serial frames)

ended-either : (at : Table) (serial : ℕ) (frames next : List StoredFrame) → AreEnded serial frames next
    → awaited_at at next ≡ filter (λ (frame : AwaitedFrame). not (frame.serial == serial)) (awaited_at at frames)
ended-either at serial frames next (inl e) = ap (awaited_at at) e ∙ frames-ended at serial frames
ended-either at serial frames next (inr e) = ap (awaited_at at) e ∙ frames-gone at serial frames

pub all-ended : (last_sent : LastSent) (serial : ℕ) (frames next : List StoredFrame) (writes left further others : List AwaitedWrite) (forgotten : Bool) → AreEnded serial frames next
    → left ≡ filter (λ (one : AwaitedWrite). not (one.serial == serial)) writes
    → others ≡ filter (λ (one : AwaitedWrite). not (one.serial == serial)) further
    → record { frames = awaited_at (last_sent_of last_sent) next; writes = left; further = others; forgotten = forgotten }
    ≡ ended serial (record { frames = awaited_at (last_sent_of last_sent) frames; writes = writes; further = further; forgotten = forgotten })
all-ended last_sent serial frames next writes left further others forgotten are is also =
    ap (λ (all : List AwaitedFrame). record { frames = all; writes = left; further = others; forgotten = forgotten }) (ended-either (last_sent_of last_sent) serial frames next are)
    ∙ ap (λ (some : List AwaitedWrite). record { frames = filter (λ (frame : AwaitedFrame). not (frame.serial == serial)) (awaited_at (last_sent_of last_sent) frames); writes = some; further = others; forgotten = forgotten }) is
    ∙ ap (λ (some : List AwaitedWrite). record { frames = filter (λ (frame : AwaitedFrame). not (frame.serial == serial)) (awaited_at (last_sent_of last_sent) frames); writes = filter (λ (one : AwaitedWrite). not (one.serial == serial)) writes; further = some; forgotten = forgotten }) also

-- the frames are kept as before

abbrev HasNames : StoredFrame → Type 0
HasNames frame = All IsTaskDatagram frame.datagrams

named-one : (serial : ℕ) (frame : StoredFrame) → HasNames frame → HasNames (frame_emptied serial frame)
named-one serial frame own =
    by_bool (frame.serial == serial)
    (λ t. subst HasNames (sym (emptied-is serial frame t)) (All-nil IsTaskDatagram))
    (λ t. subst HasNames (sym (emptied-not serial frame t)) own)

named-all : (serial : ℕ) (frames : List StoredFrame) → All HasNames frames → All HasNames (map (frame_emptied serial) frames)
named-all serial [] all = All-nil HasNames
named-all serial (frame ∷ frames) all =
    All-cons HasNames (frame_emptied serial frame) (map (frame_emptied serial) frames) (named-one serial frame (All-head HasNames frame frames all)) (named-all serial frames (All-tail HasNames frame frames all))

serial-at : (serial : ℕ) (frames : List StoredFrame) (i : ℕ) (d : StoredFrame) → i < length frames → (get_or (map (frame_emptied serial) frames) i d).serial ≡ (get_or frames i d).serial
serial-at serial frames i d within =
    ap (λ (one : StoredFrame). one.serial) (get_or-map (frame_emptied serial) frames i d d within) ∙ same-serial serial (get_or frames i d)

ascend-all : (serial : ℕ) (frames : List StoredFrame) → AllPairs (λ a b. a.serial < b.serial) frames → AllPairs (λ (a b : StoredFrame). a.serial < b.serial) (map (frame_emptied serial) frames)
ascend-all serial frames ascend i j d low within =
    let size = length-map frames (frame_emptied serial) in
    let inside : j < length frames = omega (arith, size, within) in
    let before : i < length frames = omega (arith, low, inside) in
    let first = serial-at serial frames i d before in
    let second = serial-at serial frames j d inside in
    let held = ascend i j d low inside in
    omega (arith, first, second, held)

pub stored-ended : (last_sent : LastSent) (serial : ℕ) (frames next : List StoredFrame) → AreEnded serial frames next → AreStored last_sent frames → AreStored last_sent next
stored-ended last_sent serial frames next (inl is) are =
    subst (AreStored last_sent) (sym is)
    (record { places = are.places; ascend = ascend-all serial frames are.ascend; named = named-all serial frames are.named })
stored-ended last_sent serial frames next (inr is) are =
    let other : StoredFrame → Bool = λ (frame : StoredFrame). not (frame.serial == serial) in
    subst (AreStored last_sent) (sym is)
    (record {
      places = are.places;
      ascend = AllPairs-filter (λ (a b : StoredFrame). a.serial < b.serial) other frames are.ascend;
      named = All-filter other HasNames frames are.named;
    })

-- the one frame with the serial is at the place at which the serials reach it

is-after_it : (a b : ℕ) → nat_lt a b ≡ false → a ≢ b → b < a
is-after_it a b t e = grind (arith, nat_tests)

abbrev pub Ascend : List StoredFrame → Type 0
Ascend frames = AllPairs (λ a b. a.serial < b.serial) frames

abbrev pub Reaches : List StoredFrame → ℕ → ℕ → Type 0
Reaches frames serial place = IsPartitionPoint (λ (frame : StoredFrame). nat_lt frame.serial serial ≡ true) (λ (frame : StoredFrame). nat_lt frame.serial serial ≡ false) frames place

-- no other frame has it
others : (frames : List StoredFrame) (serial place i : ℕ) (d : StoredFrame) → Ascend frames → Reaches frames serial place → i < length frames → i ≢ place
    → ((get_or frames i d).serial == serial) ≡ false
others frames serial place i d ascend parts within apart =
    by_bool (nat_lt i place)
    (λ t. below (get_or frames i d).serial serial (parts.0 i d (omega arith) (ltb-true i place t)))
    (λ t. let low = is-after_it i place t apart in
    above (get_or frames place d).serial (get_or frames i d).serial serial (ascend place i d low within) (parts.1 place d (omega arith) (omega (arith, low, within))))

pub set-emptied : (frames : List StoredFrame) (serial place : ℕ) (d : StoredFrame) → Ascend frames → Reaches frames serial place → place < length frames → (get_or frames place d).serial ≡ serial
    → set frames place (record { serial = (get_or frames place d).serial; datagrams = [] }) ≡ map (frame_emptied serial) frames
set-emptied frames serial place d ascend parts inside is =
    let empty : StoredFrame = record { serial = (get_or frames place d).serial; datagrams = [] } in
    ext_get_or d (set frames place empty) (map (frame_emptied serial) frames) (length-set frames place empty ∙ sym (length-map frames (frame_emptied serial)))
    (λ i low.
    let size = length-set frames place empty in
    let within : i < length frames = omega (arith, size, low) in
    by_bool (i == place)
    (λ t. let here = eqb-true i place t in
    get_or-set_at frames place i empty d here inside
    ∙ sym (emptied-is serial (get_or frames place d) (eq-eqb (get_or frames place d).serial serial is))
    ∙ ap (λ n. frame_emptied serial (get_or frames n d)) (sym here)
    ∙ sym (get_or-map (frame_emptied serial) frames i d d within))
    (λ t. let apart = eqb-false i place t in
    get_or-set_other frames place i empty d apart
    ∙ sym (emptied-not serial (get_or frames i d) (others frames serial place i d ascend parts within apart))
    ∙ sym (get_or-map (frame_emptied serial) frames i d d within)))

pub none-emptied : (frames : List StoredFrame) (serial place : ℕ) → Ascend frames → Reaches frames serial place → ((d : StoredFrame) → place < length frames → (get_or frames place d).serial ≢ serial)
    → frames ≡ map (frame_emptied serial) frames
none-emptied frames serial place ascend parts none =
    let d : StoredFrame = record { serial = 0; datagrams = [] } in
    ext_get_or d frames (map (frame_emptied serial) frames) (sym (length-map frames (frame_emptied serial)))
    (λ i within.
    sym (emptied-not serial (get_or frames i d)
    (by_bool (i == place)
    (λ t. let here = eqb-true i place t in
    ap (λ n. (get_or frames n d).serial == serial) here ∙ ne_eqb (get_or frames place d).serial serial (none d (omega (arith, here, within))))
    (λ t. others frames serial place i d ascend parts within (eqb-false i place t))))
    ∙ sym (get_or-map (frame_emptied serial) frames i d d within))

-- the last one has it: the others stay

keeps-lower : (serial : ℕ) (frames : List StoredFrame) → All (λ (frame : StoredFrame). frame.serial < serial) frames → frames_without serial frames ≡ frames
keeps-lower serial [] all = refl
keeps-lower serial (frame ∷ frames) all =
    ap (λ (b : Bool). cond (not b) (frame ∷ frames_without serial frames) (frames_without serial frames)) (lower-other frame.serial serial (All-head (λ (one : StoredFrame). one.serial < serial) frame frames all))
    ∙ ap (λ (rest : List StoredFrame). frame ∷ rest) (keeps-lower serial frames (All-tail (λ (one : StoredFrame). one.serial < serial) frame frames all))

front-lower : (serial : ℕ) (frames : List StoredFrame) (n : ℕ) → Ascend frames → n < length frames → ((d : StoredFrame) → (get_or frames n d).serial ≡ serial)
    → All (λ (frame : StoredFrame). frame.serial < serial) (take n frames)
front-lower serial frames n ascend inside is k d within =
    let size = length-take n frames in
    let low : k < n = omega (arith, size, within) in
    let under : (get_or frames k d).serial < (get_or frames n d).serial = ascend k n d low inside in
    let there = is d in
    let same = ap (λ (one : StoredFrame). one.serial) (get_or-take n frames k d low) in
    omega (arith, under, there, same)

pub last-gone : (serial : ℕ) (frames : List StoredFrame) → Ascend frames → IsLast serial frames → take (length frames - 1) frames ≡ frames_without serial frames
last-gone serial frames ascend last =
    let some = last.some in
    let d : StoredFrame = record { serial = 0; datagrams = [] } in
    let final : StoredFrame = get_or frames (length frames - 1) d in
    let front : List StoredFrame = take (length frames - 1) frames in
    let inside : length frames - 1 < length frames = omega (arith, some) in
    let count : length frames ≡ length frames - 1 + 1 = omega (arith, some) in
    let whole : frames ≡ front ++ final ∷ [] =
    sym (take_all (length frames) frames (omega arith)) ∙ ap (λ (n : ℕ). take n frames) count ∙ take_more frames (length frames - 1) d inside in
    sym (ap (frames_without serial) whole
    ∙ filter-append (λ (frame : StoredFrame). not (frame.serial == serial)) front (final ∷ [])
    ∙ ap (λ (rest : List StoredFrame). rest ++ frames_without serial (final ∷ [])) (keeps-lower serial front (front-lower serial frames (length frames - 1) ascend inside last.has_it))
    ∙ ap (λ (b : Bool). front ++ cond (not b) (final ∷ []) []) (eq-eqb final.serial serial (last.has_it d))
    ∙ append-nil front)
