use Rattle.std.proofs.Common.{◌≡◌, ℕ, [], List, length, map, replicate, sym, ap, subst, ◌∙◌}
use Rattle.std.proofs.lemmas.List.{length-map}
use Rattle.std.proofs.lemmas.List.FromFn.{length-range_with_len}
use Rattle.hc_publish.specs.PublishedState as published_state
use Rattle.hc_publish.specs.PublishedState.{PublishedState}
use Rattle.hc_publish.specs.Seats as inner
use Rattle.hc_rings.specs.Ring as ring
use Rattle.hc_conductor.specs.declared.seat.TaskSeat.{TaskSeat}
use Rattle.hc_conductor.specs.declared.viewer.Viewer.{Viewer}
use Rattle.hc_conductor.specs.Seats.{sender, seat_task, viewer_of}
use Rattle.hc_conductor.specs.Together.{AreJoined, EachRing, LostNoBuffer, posts_waiting}
use Rattle.hc_conductor.proofs.lemmas.Joined.{whole-joined}
use Rattle.hc_conductor.specs.Mastering.{IsMastering}
use Rattle.hc_conductor.proofs.Seated.{all-empty, as-many-waiting, map-twice, seen-alike}
use Rattle.hc_conductor.proofs.one_thread.master.Master.take.Goals as goal
use Rattle.hc_conductor.proofs.Takings.{whole-list}

pub take_all_posts-requires : goal.take_all_posts-requires
take_all_posts-requires c =
    let whole = subst (λ (ss : List TaskSeat). EachRing LostNoBuffer (map sender ss) c.self.inside.conductor.rings) (sym c.deref_mut.ensures.value) c.self.invariant.whole in
    whole-joined (map sender c.deref_mut.result.now) c.self.inside.conductor.rings whole

pub invariant_of-self : goal.invariant_of-self
invariant_of-self c =
    let i = c.self.invariant in
    let new = c.take_all_posts.new.self in
    let items = c.self.inside.seats.items in
    let updates = c.take_all_posts.new.seats in
    let answer_given = c.take_all_posts.ensures in
    let value = c.deref_mut.ensures.value in
    let boards = answer_given.changes.1 in
    let viewers = answer_given.viewers ∙ ap (λ (ss : List TaskSeat). map viewer_of ss) value in
    let held = answer_given.held ∙ ap (λ (ss : List TaskSeat). map ring.held (map sender ss)) value in
    let many : length updates ≡ length items = sym (length-map updates viewer_of) ∙ (ap length viewers ∙ length-map items viewer_of) in
    subst (λ (ss : List TaskSeat). IsMastering (record { conductor = new; seats = ss })) (sym (whole-list updates _ _ (many ∙ sym c.self.inside.seats.ok.0)))
    (record {
      tasks = seen-alike (λ (v : Viewer). inner.task_of v.seat) viewer_of items updates viewers ∙ i.tasks;
      known = seen-alike (λ (v : Viewer). inner.known v.seat) viewer_of items updates viewers ∙ (i.known ∙ ap (λ (b : PublishedState). replicate 8 (published_state.published b)) (sym boards));
      origins = seen-alike (λ (v : Viewer). inner.seat_origin v.seat) viewer_of items updates viewers ∙ (i.origins ∙ ap (λ (b : PublishedState). replicate 8 (published_state.origin_of b)) (sym boards));
      none_held = sym (map-twice ring.held sender updates) ∙ (held ∙ (map-twice ring.held sender items ∙ i.none_held));
      whole = answer_given.whole (subst (λ (ss : List TaskSeat). EachRing LostNoBuffer (map sender ss) c.self.inside.conductor.rings) (sym value) i.whole);
    })

pub returns-clause-none : goal.returns-clause-none
returns-clause-none c =
    let i = c.self.invariant in
    let new = c.take_all_posts.new.self in
    let items = c.self.inside.seats.items in
    let updates = c.take_all_posts.new.seats in
    let answer_given = c.take_all_posts.ensures in
    let viewers = answer_given.viewers ∙ ap (λ (ss : List TaskSeat). map viewer_of ss) c.deref_mut.ensures.value in
    let many : length updates ≡ length items = sym (length-map updates viewer_of) ∙ (ap length viewers ∙ length-map items viewer_of) in
    let eight : length updates ≡ 8 = many ∙ (sym (length-map items seat_task) ∙ (ap length i.tasks ∙ length-range_with_len 0 8)) in
    let long = as-many-waiting AreJoined (map sender updates) new.rings answer_given.joined ∙ (length-map updates sender ∙ eight) in
    ap (λ (ss : List TaskSeat). posts_waiting (map sender ss) new.rings) (whole-list updates _ _ (many ∙ sym c.self.inside.seats.ok.0))
    ∙ (all-empty (posts_waiting (map sender updates) new.rings) answer_given.none ∙ ap (λ (n : ℕ). replicate n []) long)
