use Rattle.std.proofs.Common.{◌≡◌, ℕ, ◌<◌, List, get_or, map, set, sym, ap, ap₂, subst, ◌∙◌, arith}
use Rattle.hc_rings.specs.Post.{post_of}
use Rattle.hc_conductor.specs.declared.seat.TaskSeat.{TaskSeat}
use Rattle.hc_conductor.specs.Seats.{seat_epoch, sender, outputs_size}
use Rattle.hc_conductor.specs.Together.{EachRing, LostNoBuffer}
use Rattle.hc_conductor.proofs.lemmas.Joined.{whole-joined}
use Rattle.hc_conductor.specs.Mastering.{IsMastering, Mastering, waiting}
use Rattle.hc_conductor.specs.Posting.{with_post}
use Rattle.hc_conductor.proofs.Looked.{as-many, has-looked, has-room, looked-is_placed, makes-post}
use Rattle.hc_conductor.proofs.one_thread.master.Master.post_known.Goals as goal
use Rattle.hc_conductor.proofs.Takings.{whole-list}

pub posts_waiting-waiting-requires : goal.posts_waiting-waiting-requires
posts_waiting-waiting-requires c =
    let whole = subst (λ (ss : List TaskSeat). EachRing LostNoBuffer (map sender ss) c.self.inside.conductor.rings) (sym c.deref_mut.ensures.value) c.self.invariant.whole in
    whole-joined (map sender c.deref_mut.result.now) c.self.inside.conductor.rings whole

pub invariant_of-self : goal.invariant_of-self
invariant_of-self c =
    let m : Mastering = record { conductor = c.self.inside.conductor; seats = c.self.inside.seats.items } in
    let answer_given = c.posts_waiting-waiting.ensures in
    let new = c.posts_waiting-waiting.new.self in
    let seats = c.posts_waiting-waiting.new.seats in
    let looked = has-looked m new c.deref_mut.result.now seats c.self.invariant c.deref_mut.ensures.value answer_given.known answer_given.whole answer_given.viewers answer_given.held answer_given.waiting answer_given.changes.1 in
    let whole = whole-list seats _ _ (as-many m new seats looked ∙ sym c.self.inside.seats.ok.0) in
    subst (λ (ss : List TaskSeat). IsMastering (record { conductor = new; seats = ss })) (sym whole) (looked-is_placed m new seats c.self.invariant looked)

pub post_bytes-requires : goal.post_bytes-requires
post_bytes-requires c =
    let m : Mastering = record { conductor = c.self.inside.conductor; seats = c.self.inside.seats.items } in
    let n = c.from-2.result in
    let low : n < 8 = omega (arith, c.from-2.ensures, c.requires.task) in
    let answer_given = c.posts_waiting-waiting.ensures in
    let new = c.posts_waiting-waiting.new.self in
    let seats = c.posts_waiting-waiting.new.seats in
    let looked = has-looked m new c.deref_mut.result.now seats c.self.invariant c.deref_mut.ensures.value answer_given.known answer_given.whole answer_given.viewers answer_given.held answer_given.waiting answer_given.changes.1 in
    let whole = whole-list seats _ _ (as-many m new seats looked ∙ sym c.self.inside.seats.ok.0) in
    let s = c.index_mut.result.now in
    let there : s ≡ get_or seats n s = c.index_mut.ensures.value ∙ ap (λ (ss : List TaskSeat). get_or ss n s) whole in
    let few = subst (λ (k : ℕ). get_or c.posts_waiting-waiting.result k 0 < 4) (c.from.ensures ∙ sym c.from-2.ensures) c.if-waiting-from.false in
    let room = has-room m new c.deref_mut.result.now seats c.posts_waiting-waiting.result n s c.self.invariant looked low there c.deref_mut.ensures.value answer_given.counts few in
    let size =
    sym c.requires.viewed
    ∙ (ap (λ (x : Mastering). get_or (map outputs_size x.seats) c.args.task 0) (sym c.self.view_is) ∙ (ap (λ (k : ℕ). get_or (map outputs_size m.seats) k 0) (sym c.from-2.ensures) ∙ sym room.size)) in
    record { size = size; spare = room.spare; place = room.place }

pub invariant_of-self-2 : goal.invariant_of-self-2
invariant_of-self-2 c =
    let m : Mastering = record { conductor = c.self.inside.conductor; seats = c.self.inside.seats.items } in
    let n = c.from-2.result in
    let low : n < 8 = omega (arith, c.from-2.ensures, c.requires.task) in
    let answer_given = c.posts_waiting-waiting.ensures in
    let new = c.posts_waiting-waiting.new.self in
    let seats = c.posts_waiting-waiting.new.seats in
    let looked = has-looked m new c.deref_mut.result.now seats c.self.invariant c.deref_mut.ensures.value answer_given.known answer_given.whole answer_given.viewers answer_given.held answer_given.waiting answer_given.changes.1 in
    let whole = whole-list seats _ _ (as-many m new seats looked ∙ sym c.self.inside.seats.ok.0) in
    let s = c.index_mut.result.now in
    let there : s ≡ get_or seats n s = c.index_mut.ensures.value ∙ ap (λ (ss : List TaskSeat). get_or ss n s) whole in
    let few = subst (λ (k : ℕ). get_or c.posts_waiting-waiting.result k 0 < 4) (c.from.ensures ∙ sym c.from-2.ensures) c.if-waiting-from.false in
    let room = has-room m new c.deref_mut.result.now seats c.posts_waiting-waiting.result n s c.self.invariant looked low there c.deref_mut.ensures.value answer_given.counts few in
    let t = c.post_bytes.new.seat in
    let posts = c.post_bytes.ensures in
    let made = makes-post m new seats n s t s (post_of (seat_epoch s) c.args.bytes.now) c.self.invariant looked low there posts.seat (record { sender = posts.ring; one = posts.posted; each = posts.each }) posts.held in
    subst (λ (ss : List TaskSeat). IsMastering (record { conductor = new; seats = set ss n t })) (sym whole) made.is_placed

pub returns-clause-posted : goal.returns-clause-posted
returns-clause-posted c =
    let m : Mastering = record { conductor = c.self.inside.conductor; seats = c.self.inside.seats.items } in
    let n = c.from-2.result in
    let low : n < 8 = omega (arith, c.from-2.ensures, c.requires.task) in
    let answer_given = c.posts_waiting-waiting.ensures in
    let new = c.posts_waiting-waiting.new.self in
    let seats = c.posts_waiting-waiting.new.seats in
    let looked = has-looked m new c.deref_mut.result.now seats c.self.invariant c.deref_mut.ensures.value answer_given.known answer_given.whole answer_given.viewers answer_given.held answer_given.waiting answer_given.changes.1 in
    let whole = whole-list seats _ _ (as-many m new seats looked ∙ sym c.self.inside.seats.ok.0) in
    let s = c.index_mut.result.now in
    let there : s ≡ get_or seats n s = c.index_mut.ensures.value ∙ ap (λ (ss : List TaskSeat). get_or ss n s) whole in
    let few = subst (λ (k : ℕ). get_or c.posts_waiting-waiting.result k 0 < 4) (c.from.ensures ∙ sym c.from-2.ensures) c.if-waiting-from.false in
    let room = has-room m new c.deref_mut.result.now seats c.posts_waiting-waiting.result n s c.self.invariant looked low there c.deref_mut.ensures.value answer_given.counts few in
    let t = c.post_bytes.new.seat in
    let posts = c.post_bytes.ensures in
    let post = post_of (seat_epoch s) c.args.bytes.now in
    let made = makes-post m new seats n s t s post c.self.invariant looked low there posts.seat (record { sender = posts.ring; one = posts.posted; each = posts.each }) posts.held in
    let epoch : seat_epoch s ≡ get_or (map seat_epoch c.args.self.now.seats) c.args.task 0 =
    room.epoch ∙ (ap (λ (k : ℕ). get_or (map seat_epoch m.seats) k 0) c.from-2.ensures ∙ ap (λ (x : Mastering). get_or (map seat_epoch x.seats) c.args.task 0) c.self.view_is) in
    ap (λ (ss : List TaskSeat). waiting (record { conductor = new; seats = set ss n t })) whole
    ∙ (made.waits
    ∙ (ap (λ (k : ℕ). with_post k post (waiting m)) c.from-2.ensures
    ∙ ap₂ (λ (e : ℕ) (x : Mastering). with_post c.args.task (post_of e c.args.bytes.now) (waiting x)) epoch c.self.view_is))
