-- Stored frames, and those of them that are awaited.
use Rattle.std.proofs.Common.{◌≡◌, ℕ, ◌+◌, ◌<◌, ◌≤◌, Bool, true, false, cond, ◌||◌, List, [], ◌∷◌, ◌++◌, length, map, filter, take, drop, get_or, refl, sym, ap, ◌∙◌, arith, add-one, length-append, Option}
use Rattle.std.specs.Prelude.{All}
use Rattle.std.specs.List.{list_any}
use Rattle.std.proofs.lemmas.List.{map-append, take-append-drop}
use Rattle.std.proofs.lemmas.List.Elements.{All-head, All-tail, filter-append}
use Rattle.std.proofs.Math.Seq.{take-suc}
use Rattle.hc_events.specs.Sendings.{Frame, Named}
use Rattle.hc_sendings.specs.Waiting.{AwaitedFrame, IsTaskDatagram, is_still_awaited}
use Rattle.hc_sendings.specs.Stored.{StoredFrame, is_serial, stored_frame}

-- filters and maps

filter-map_either : {X Y : Type 0} (f : X → Y) (x : X) (xs : List X) (ys : List Y) (b : Bool) → ys ≡ map f xs → cond b (f x ∷ ys) ys ≡ map f (cond b (x ∷ xs) xs)
filter-map_either f x xs ys true e = ap (λ zs. f x ∷ zs) e
filter-map_either f x xs ys false e = e

pub filter-map_is : {X Y : Type 0} (test : Y → Bool) (f : X → Y) (xs : List X) → filter test (map f xs) ≡ map f (filter (λ x. test (f x)) xs)
filter-map_is test f [] = refl
filter-map_is test f (x ∷ xs) = filter-map_either f x (filter (λ y. test (f y)) xs) (filter test (map f xs)) (test (f x)) (filter-map_is test f xs)

filter-again_either : {X : Type 0} (test : X → Bool) (x : X) (xs : List X) (b : Bool) → test x ≡ b → filter test xs ≡ xs → filter test (cond b (x ∷ xs) xs) ≡ cond b (x ∷ xs) xs
filter-again_either test x xs true passes e = rw passes (ap (λ ys. x ∷ ys) e)
filter-again_either test x xs false passes e = e

filter-again : {X : Type 0} (test : X → Bool) (xs : List X) → filter test (filter test xs) ≡ filter test xs
filter-again test [] = refl
filter-again test (x ∷ xs) = filter-again_either test x (filter test xs) (test x) refl (filter-again test xs)

pub map-all : {X Y : Type 0} (P : X → Type 0) (f g : X → Y) → ((x : X) → P x → f x ≡ g x) → (xs : List X) → All P xs → map f xs ≡ map g xs
map-all P f g same [] all = refl
map-all P f g same (x ∷ xs) all =
    ap (λ y. y ∷ map f xs) (same x (All-head P x xs all)) ∙ ap (λ ys. g x ∷ ys) (map-all P f g same xs (All-tail P x xs all))

-- frames by what a table says of each datagram

abbrev pub Table : Type 0
Table = Named → Option ℕ

abbrev pub answered_at : Table → StoredFrame → AwaitedFrame
answered_at at frame = record {
  serial = frame.serial;
  datagrams = map (λ named. record { datagram = named; last_sent = is_serial frame.serial (at named) }) frame.datagrams;
}

abbrev pub awaited_at : Table → List StoredFrame → List AwaitedFrame
awaited_at at frames = filter is_still_awaited (map (answered_at at) frames)

abbrev pub stays_at : Table → StoredFrame → Bool
stays_at at frame = is_still_awaited (answered_at at frame)

-- those that are awaited give the same as all
pub awaited_still-stays : (at : Table) (frames : List StoredFrame) → awaited_at at (filter (stays_at at) frames) ≡ awaited_at at frames
awaited_still-stays at frames =
    filter-map_is is_still_awaited (answered_at at) (filter (stays_at at) frames)
    ∙ ap (map (answered_at at)) (filter-again (stays_at at) frames)
    ∙ sym (filter-map_is is_still_awaited (answered_at at) frames)

-- what tables say that agree
answer_given-same : (a b : Table) → ((named : Named) → IsTaskDatagram named → a named ≡ b named) → (frame : StoredFrame) → All IsTaskDatagram frame.datagrams → answered_at a frame ≡ answered_at b frame
answer_given-same a b same frame named =
    ap (λ datagrams. record { serial = frame.serial; datagrams = datagrams })
    (map-all IsTaskDatagram _ _ (λ d is. ap (λ found. record { datagram = d; last_sent = is_serial frame.serial found }) (same d is)) frame.datagrams named)

pub awaited_still-same : (a b : Table) → ((named : Named) → IsTaskDatagram named → a named ≡ b named) → (frames : List StoredFrame) → All (λ frame. All IsTaskDatagram frame.datagrams) frames → awaited_at a frames ≡ awaited_at b frames
awaited_still-same a b same frames named =
    ap (filter is_still_awaited) (map-all (λ (frame : StoredFrame). All IsTaskDatagram frame.datagrams) (answered_at a) (answered_at b) (answer_given-same a b same) frames named)

-- a frame is awaited if it is the newest of one of its datagrams
pub any-answer_given : (at : Table) (serial : ℕ) (datagrams : List Named)
    → list_any (λ named. is_serial serial (at named)) datagrams ≡ is_still_awaited (record { serial = serial; datagrams = map (λ named. record { datagram = named; last_sent = is_serial serial (at named) }) datagrams })
any-answer_given at serial [] = refl
any-answer_given at serial (d ∷ ds) = ap (λ b. is_serial serial (at d) || b) (any-answer_given at serial ds)

-- one more of the frames that are walked over

pub stays-more : (at : Table) (frames : List Frame) (i : ℕ) (d : Frame) → i < length frames
    → filter (stays_at at) (map stored_frame (take (i + 1) frames))
    ≡ filter (stays_at at) (map stored_frame (take i frames)) ++ cond (stays_at at (stored_frame (get_or frames i d))) (stored_frame (get_or frames i d) ∷ []) []
stays-more at frames i d within =
    let one : take (i + 1) frames ≡ take i frames ++ get_or frames i d ∷ [] = rw add-one (take-suc frames i d within) in
    ap (λ (front : List Frame). filter (stays_at at) (map stored_frame front)) one
    ∙ ap (filter (stays_at at)) (map-append stored_frame (take i frames) (get_or frames i d ∷ []))
    ∙ filter-append (stays_at at) (map stored_frame (take i frames)) (stored_frame (get_or frames i d) ∷ [])

-- those of a part of the frames are no more than those of all
stays-few : (at : Table) (frames : List Frame) (i : ℕ) → length (filter (stays_at at) (map stored_frame (take i frames))) ≤ length (filter (stays_at at) (map stored_frame frames))
stays-few at frames i =
    let parts : filter (stays_at at) (map stored_frame frames) ≡ filter (stays_at at) (map stored_frame (take i frames)) ++ filter (stays_at at) (map stored_frame (drop i frames)) =
    ap (λ (all : List Frame). filter (stays_at at) (map stored_frame all)) (sym (take-append-drop i frames))
    ∙ ap (filter (stays_at at)) (map-append stored_frame (take i frames) (drop i frames))
    ∙ filter-append (stays_at at) (map stored_frame (take i frames)) (map stored_frame (drop i frames)) in
    let whole = ap length parts in
    let sum = length-append (filter (stays_at at) (map stored_frame (take i frames))) (filter (stays_at at) (map stored_frame (drop i frames))) in
    omega (arith, whole, sum)

-- there is room for one more of them
pub next-room : (at : Table) (frames : List Frame) (i : ℕ) (d : Frame) (before : List StoredFrame) (room : ℕ) → i < length frames
    → stays_at at (stored_frame (get_or frames i d)) ≡ true
    → length (before ++ filter (stays_at at) (map stored_frame frames)) ≤ room
    → length (before ++ filter (stays_at at) (map stored_frame (take i frames))) < room
next-room at frames i d before room within stays fits =
    let front = filter (stays_at at) (map stored_frame (take i frames)) in
    let more : filter (stays_at at) (map stored_frame (take (i + 1) frames)) ≡ front ++ stored_frame (get_or frames i d) ∷ [] =
    stays-more at frames i d within ∙ ap (λ b. front ++ cond b (stored_frame (get_or frames i d) ∷ []) []) stays in
    let least = stays-few at frames (i + 1) in
    let longer = ap length more ∙ length-append front (stored_frame (get_or frames i d) ∷ []) in
    let first = length-append before (filter (stays_at at) (map stored_frame frames)) in
    let second = length-append before front in
    omega (arith, least, longer, first, second, fits)
