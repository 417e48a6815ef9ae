use Rattle.std.proofs.Common.{◌≡◌, ℕ, ◌++◌, List, length, map, replicate, sym, ap, subst, ◌∙◌}
use Rattle.std.proofs.lemmas.List.{length-map}
use Rattle.std.proofs.lemmas.List.FromFn.{length-range_with_len}
use mathlib.Core.List.{IsPrefix}
use Rattle.hc_events.specs.declared.change.Change.{Change}
use Rattle.hc_publish.specs.Stories.{Origin}
use Rattle.hc_rings.specs.declared.posts.PostReceiver.{PostReceiver}
use Rattle.hc_rings.specs.declared.posts.PostSender.{PostSender}
use Rattle.hc_rings.specs.Ring as ring
use Rattle.hc_conductor.specs.declared.seat.TaskSeat.{TaskSeat}
use Rattle.hc_conductor.specs.Conducting.{all_taken, conductor_origin, conductor_pending, conductor_published}
use Rattle.hc_conductor.specs.Seats.{task_seat_origin, sender, seat_task}
use Rattle.hc_conductor.specs.Together.{EachRing, LostNoBuffer}
use Rattle.hc_conductor.specs.Learning.{CanLearn}
use Rattle.hc_conductor.specs.Mastering.{IsMastering}
use Rattle.hc_conductor.proofs.Learnt.{can-learn, prefix-after_it}
use Rattle.hc_conductor.proofs.Seated.{seen-alike}
use Rattle.hc_conductor.proofs.one_thread.master.Master.publish.Goals as goal
use Rattle.hc_conductor.proofs.Takings.{whole-list}

pub learn_all-requires : goal.learn_all-requires
learn_all-requires g c =
    let i = c.self.invariant in
    let old = c.self.inside.conductor in
    let new = c.publish.new.self in
    let items = c.self.inside.seats.items in
    let eight : length items ≡ 8 = sym (length-map items seat_task) ∙ (ap length i.tasks ∙ length-range_with_len 0 8) in
    let begins = subst (λ (l : List Change). IsPrefix (conductor_published old) l) (sym c.in_ok-publish.ensures.shown) (prefix-after_it (conductor_published old) (conductor_pending old) (all_taken new) (prefix-after_it (conductor_published old ++ conductor_pending old) old.waiting (all_taken new) c.publish.ensures.all)) in
    subst (CanLearn new) (sym c.deref_mut.ensures.value)
    (can-learn new items (conductor_origin old) (conductor_published old) c.publish.ensures.origin begins (i.origins ∙ ap (λ (n : ℕ). replicate n (conductor_origin old)) (sym eight))
    (i.known ∙ ap (λ (n : ℕ). replicate n (conductor_published old)) (sym eight)))

pub invariant_of-self-2 : goal.invariant_of-self-2
invariant_of-self-2 g c =
    let i = c.self.invariant in
    let new = c.publish.new.self in
    let items = c.self.inside.seats.items in
    let updates = c.learn_all.new.seats in
    let answer_given = c.learn_all.ensures in
    let value = c.deref_mut.ensures.value in
    let eight : length c.deref_mut.result.now ≡ 8 = ap length value ∙ (sym (length-map items seat_task) ∙ (ap length i.tasks ∙ length-range_with_len 0 8)) in
    let tasks = answer_given.tasks ∙ (ap (λ (ss : List TaskSeat). map seat_task ss) value ∙ i.tasks) in
    let many : length updates ≡ length items = sym (length-map updates seat_task) ∙ (ap length (tasks ∙ sym i.tasks) ∙ length-map items seat_task) in
    let whole = subst (λ (ss : List PostSender). EachRing LostNoBuffer ss new.rings) (sym (answer_given.senders ∙ ap (λ (ss : List TaskSeat). map sender ss) value))
    (subst (λ (rs : List PostReceiver). EachRing LostNoBuffer (map sender items) rs) (sym c.publish.ensures.rings) i.whole) in
    subst (λ (ss : List TaskSeat). IsMastering (record { conductor = new; seats = ss })) (sym (whole-list updates _ _ (many ∙ sym c.self.inside.seats.ok.0)))
    (record {
      tasks = tasks;
      known = answer_given.known ∙ ap (λ (n : ℕ). replicate n (conductor_published new)) eight;
      origins = answer_given.origins ∙ (ap (λ (ss : List TaskSeat). map task_seat_origin ss) value ∙ (i.origins ∙ ap (λ (o : Origin). replicate 8 o) (sym c.publish.ensures.origin)));
      none_held = seen-alike ring.held sender items updates (answer_given.senders ∙ ap (λ (ss : List TaskSeat). map sender ss) value) ∙ i.none_held;
      whole = whole;
    })
