-- A master whose rings' ends have looked at each other; then one of its tasks posts.
use Rattle.std.proofs.Common.{◌≡◌, ℕ, ◌<◌, ◌≤◌, List, [], length, get_or, map, replicate, set, sym, ap, subst, ◌∙◌, arith, None}
use Rattle.std.proofs.Math.Seq.{map-set_same}
use Rattle.std.proofs.lemmas.List.{get_or-map, length-map, map-set}
use Rattle.std.proofs.lemmas.List.FromFn.{length-range_with_len}
use Rattle.hc_publish.specs.PublishedState as published_state
use Rattle.hc_publish.specs.PublishedState.{PublishedState}
use Rattle.hc_publish.specs.Seats as inner
use Rattle.hc_rings.specs.declared.posts.PostSender.{PostSender}
use Rattle.hc_rings.specs.Post.{Post, post_count}
use Rattle.hc_rings.specs.Ring as ring
use Rattle.hc_rings.specs.Ring.{known_places, known_spares}
use Rattle.hc_conductor.specs.declared.seat.TaskSeat.{TaskSeat}
use Rattle.hc_conductor.specs.declared.viewer.Viewer.{Viewer}
use Rattle.hc_conductor.specs.Conducting.{Conducting}
use Rattle.hc_conductor.specs.Outputs.{SameSeat}
use Rattle.hc_conductor.specs.Seats.{seat_epoch, seat_held, seat_known, task_seat_origin, sender, outputs_size, seat_task, viewer_of}
use Rattle.hc_conductor.specs.Together.{EachRing, LostNoBuffer, KnowAll, posts_waiting, waiting_between}
use Rattle.hc_conductor.specs.Mastering.{IsMastering, Mastering, waiting}
use Rattle.hc_conductor.specs.Posting.{with_post}
use Rattle.hc_conductor.proofs.Posted.{PostsOne, known-at, posted-at}
use Rattle.hc_conductor.proofs.Seated.{as-many-waiting, each-at, map-twice, seen-alike}

-- the ends of its rings looked at each other, and nothing else happened
pub record HasLooked (m : Mastering) (c : Conducting) (seats : List TaskSeat) : Type 0 where
  pub known : EachRing KnowAll (map sender seats) c.rings
  pub whole : EachRing LostNoBuffer (map sender seats) c.rings
  pub viewers : map viewer_of seats ≡ map viewer_of m.seats
  pub held : map ring.held (map sender seats) ≡ map ring.held (map sender m.seats)
  pub waits : posts_waiting (map sender seats) c.rings ≡ waiting m
  pub published_state : c.published_state ≡ m.conductor.published_state

pub has-looked : (m : Mastering) (c : Conducting) (before seats : List TaskSeat) → IsMastering m → before ≡ m.seats → EachRing KnowAll (map sender seats) c.rings
    → (EachRing LostNoBuffer (map sender before) m.conductor.rings → EachRing LostNoBuffer (map sender seats) c.rings) → map viewer_of seats ≡ map viewer_of before
    → map ring.held (map sender seats) ≡ map ring.held (map sender before) → posts_waiting (map sender seats) c.rings ≡ posts_waiting (map sender before) m.conductor.rings → c.published_state ≡ m.conductor.published_state
    → HasLooked m c seats
has-looked m c before seats is same seat_known whole viewers seat_held waits published_state = record {
  known = seat_known;
  whole = whole (subst (λ (ss : List TaskSeat). EachRing LostNoBuffer (map sender ss) m.conductor.rings) (sym same) is.whole);
  viewers = viewers ∙ ap (λ (ss : List TaskSeat). map viewer_of ss) same;
  held = seat_held ∙ ap (λ (ss : List TaskSeat). map ring.held (map sender ss)) same;
  waits = waits ∙ ap (λ (ss : List TaskSeat). posts_waiting (map sender ss) m.conductor.rings) same;
  published_state = published_state;
}

-- what is seen of the views of its seats
alike : {B : Type 0} (f : Viewer → B) (m : Mastering) (c : Conducting) (seats : List TaskSeat) → HasLooked m c seats → map (λ s. f (viewer_of s)) seats ≡ map (λ s. f (viewer_of s)) m.seats
alike f m c seats looked = seen-alike f viewer_of m.seats seats looked.viewers

none-held : (m : Mastering) (c : Conducting) (seats : List TaskSeat) → IsMastering m → HasLooked m c seats → map seat_held seats ≡ replicate 8 None
none-held m c seats is looked = sym (map-twice ring.held sender seats) ∙ (looked.held ∙ (map-twice ring.held sender m.seats ∙ is.none_held))

pub looked-is_placed : (m : Mastering) (c : Conducting) (seats : List TaskSeat) → IsMastering m → HasLooked m c seats → IsMastering (record { conductor = c; seats = seats })
looked-is_placed m c seats is looked = record {
  tasks = alike (λ (v : Viewer). inner.task_of v.seat) m c seats looked ∙ is.tasks;
  known = alike (λ (v : Viewer). inner.known v.seat) m c seats looked ∙ (is.known ∙ ap (λ (b : PublishedState). replicate 8 (published_state.published b)) (sym looked.published_state));
  origins = alike (λ (v : Viewer). inner.seat_origin v.seat) m c seats looked ∙ (is.origins ∙ ap (λ (b : PublishedState). replicate 8 (published_state.origin_of b)) (sym looked.published_state));
  none_held = none-held m c seats is looked;
  whole = looked.whole;
}

eight-seats : (m : Mastering) → IsMastering m → length m.seats ≡ 8
eight-seats m is = sym (length-map m.seats seat_task) ∙ (ap length is.tasks ∙ length-range_with_len 0 8)

pub as-many : (m : Mastering) (c : Conducting) (seats : List TaskSeat) → HasLooked m c seats → length seats ≡ length m.seats
as-many m c seats looked = sym (length-map seats viewer_of) ∙ (ap length looked.viewers ∙ length-map m.seats viewer_of)

-- the count of a task's posts that wait
few-wait : (m : Mastering) (counts : List ℕ) (task d : ℕ) → IsMastering m → counts ≡ map length (waiting m) → task < 8 → get_or counts task d < 4 → length (get_or (waiting m) task []) < 4
few-wait m counts task d is answer_given low few =
    let many : length (waiting m) ≡ 8 = as-many-waiting LostNoBuffer (map sender m.seats) m.conductor.rings is.whole ∙ (length-map m.seats sender ∙ eight-seats m is) in
    let at : get_or counts task d ≡ length (get_or (waiting m) task []) = ap (λ (ns : List ℕ). get_or ns task d) answer_given ∙ get_or-map length (waiting m) task [] d (omega (arith, many, low)) in
    omega (arith, at, few)

-- what a task's seat has for a post where fewer than four of its posts wait
pub record HasRoom (m : Mastering) (task : ℕ) (s : TaskSeat) : Type 0 where
  pub spare : 0 < known_spares (sender s)
  pub place : 2 ≤ known_places (sender s)
  pub epoch : seat_epoch s ≡ get_or (map seat_epoch m.seats) task 0
  pub size : outputs_size s ≡ get_or (map outputs_size m.seats) task 0

pub has-room : (m : Mastering) (c : Conducting) (before seats : List TaskSeat) (counts : List ℕ) (task : ℕ) (s : TaskSeat) → IsMastering m → HasLooked m c seats → task < 8 → s ≡ get_or seats task s
    → before ≡ m.seats → counts ≡ map length (posts_waiting (map sender before) m.conductor.rings) → get_or counts task 0 < 4 → HasRoom m task s
has-room m c before seats counts task s is looked low there same answer_given below =
    let few = few-wait m counts task 0 is (answer_given ∙ ap (λ (ss : List TaskSeat). map length (posts_waiting (map sender ss) m.conductor.rings)) same) low below in
    let inside : task < length seats = omega (arith, low, as-many m c seats looked, eight-seats m is) in
    let ends = known-at (map sender seats) c.rings task (sender s) looked.known looked.whole (omega (arith, inside, length-map seats sender)) in
    let at : get_or (map sender seats) task (sender s) ≡ sender s = get_or-map sender seats task s (sender s) inside ∙ ap sender (sym there) in
    let know : KnowAll (sender s) ends.ring = subst (λ (x : PostSender). KnowAll x ends.ring) at ends.know in
    let holds : ring.held (sender s) ≡ None = ap seat_held there ∙ each-at seat_held seats 8 None task s (none-held m c seats is looked) low in
    let none : post_count (ring.held (sender s)) ≡ 0 = ap post_count holds in
    let waits : length (ring.left ends.ring) ≡ length (get_or (waiting m) task []) =
    ap length (know.left_are ∙ (ap (λ (x : PostSender). waiting_between x ends.ring) (sym at) ∙ (sym ends.waits ∙ ap (λ (pss : List (List Post)). get_or pss task []) looked.waits))) in
    let spares = know.spares in
    let back = ends.whole.back in
    let places = know.places in
    record {
      spare = omega (arith, spares, back, none, waits, few);
      place = omega (arith, places, waits, few);
      epoch = ap seat_epoch there ∙ (sym (get_or-map seat_epoch seats task s 0 inside) ∙ ap (λ (es : List ℕ). get_or es task 0) (alike (λ (v : Viewer). v.epoch) m c seats looked));
      size = ap outputs_size there ∙ (sym (get_or-map outputs_size seats task s 0 inside) ∙ ap (λ (ns : List ℕ). get_or ns task 0) (alike (λ (v : Viewer). v.size) m c seats looked));
    }

-- one seat of its makes a post
pub record MakesPost (m : Mastering) (c : Conducting) (task : ℕ) (seats : List TaskSeat) (post : Post) : Type 0 where
  pub is_placed : IsMastering (record { conductor = c; seats = seats })
  pub waits : waiting (record { conductor = c; seats = seats }) ≡ with_post task post (waiting m)

pub makes-post : (m : Mastering) (c : Conducting) (seats : List TaskSeat) (task : ℕ) (s t d : TaskSeat) (post : Post) → IsMastering m → HasLooked m c seats → task < 8 → s ≡ get_or seats task d
    → SameSeat s t → PostsOne (sender s) (sender t) post → seat_held t ≡ None → MakesPost m c task (set seats task t) post
makes-post m c seats task s t d post is looked low there same one none =
    let before = looked-is_placed m c seats is looked in
    let inside : task < length seats = omega (arith, low, as-many m c seats looked, eight-seats m is) in
    let at : sender s ≡ get_or (map sender seats) task (sender d) = ap sender there ∙ sym (get_or-map sender seats task d (sender d) inside) in
    let came = posted-at (map sender seats) c.rings task (sender d) (sender t) post before.whole (omega (arith, inside, length-map seats sender)) (subst (λ (x : PostSender). PostsOne x (sender t) post) at one) in
    let senders = map-set sender seats task t in
    let views : viewer_of t ≡ viewer_of (get_or seats task d) = same ∙ ap viewer_of there in
    record {
      is_placed = record {
        tasks = map-set_same seat_task seats task t d (ap (λ (v : Viewer). inner.task_of v.seat) views) ∙ before.tasks;
        known = map-set_same seat_known seats task t d (ap (λ (v : Viewer). inner.known v.seat) views) ∙ before.known;
        origins = map-set_same task_seat_origin seats task t d (ap (λ (v : Viewer). inner.seat_origin v.seat) views) ∙ before.origins;
        none_held = map-set_same seat_held seats task t d (none ∙ sym (each-at seat_held seats 8 None task d before.none_held low)) ∙ before.none_held;
        whole = subst (λ (ss : List PostSender). EachRing LostNoBuffer ss c.rings) (sym senders) came.whole;
      };
      waits =
          ap (λ (ss : List PostSender). posts_waiting ss c.rings) senders
          ∙ (came.waiting ∙ ap (with_post task post) looked.waits);
    }
