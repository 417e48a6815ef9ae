use Rattle.std.proofs.Common.{◌≡◌, ℕ, ◌≤◌, List, [], length, map, sym, ap, subst, ◌∙◌}
use Rattle.std.specs.Prelude.{All}
use Rattle.hc_events.specs.Changes.{updates_of}
use Rattle.hc_events.specs.Entries.{History}
use Rattle.hc_events.specs.Points.{opened_with, state_of}
use Rattle.hc_events.specs.Steps.{entries_after_all}
use Rattle.hc_rings.specs.declared.posts.PostReceiver.{PostReceiver}
use Rattle.hc_rings.specs.declared.posts.TheConstants.{POSTS_WAITING}
use Rattle.hc_rings.specs.Post.{Post}
use Rattle.hc_core.specs.State.{CoreState}
use Rattle.hc_conductor.specs.Conducting.{Conducting, core_history}
use Rattle.hc_conductor.specs.Seats.{sender}
use Rattle.hc_conductor.specs.Taking.{CountsPosts, events_of_all}
use Rattle.hc_conductor.specs.Together.{AreJoined, EachRing, LostNoBuffer, posts_waiting}
use Rattle.hc_conductor.proofs.Kept.{opened-after_all}
use Rattle.hc_conductor.proofs.Takings.{as-many-rings, whole-list}
use Rattle.hc_conductor.proofs.Waiting.{few-waiting, waiting-taken}
use Rattle.hc_conductor.proofs.conductor.Conductor.take_all_posts.Goals as goal

pub take_all-requires-clause-few : goal.take_all-requires-clause-few
take_all-requires-clause-few c =
    let answer_given = c.posts_waiting-counts.ensures in
    subst (All (λ (n : ℕ). n ≤ POSTS_WAITING)) (sym (answer_given.counts ∙ ap (λ (posts : List (List Post)). map length posts) (sym answer_given.waiting)))
    (few-waiting (map sender c.posts_waiting-counts.new.seats) c.posts_waiting-counts.new.self.rings answer_given.known)

pub invariant_of-self : goal.invariant_of-self
invariant_of-self c =
    let many = as-many-rings _ _ c.take_all.ensures.taken.posts c.take_all.ensures.taken.rings ∙ ap length c.deref_mut.ensures.value in
    let i = c.self.invariant in
    let took = c.take_all.ensures.taken in
    let after = sym took.core in
    let all = whole-list c.take_all.new.rings _ _ (many ∙ sym c.self.inside.rings.ok.0) in
    record {
      groups = i.groups ∙ (sym (opened-after_all _ (events_of_all 0 took.posts)) ∙ ap (λ (s : CoreState). opened_with s.history) after);
      legal = i.legal;
      updates = i.updates ∙ ap (λ (s : CoreState). updates_of s.taken) after;
      after_it = i.after_it ∙ ap (λ (s : CoreState). state_of s.taken) after;
      rings = ap length all ∙ (many ∙ i.rings);
    }

pub returns-clause-entries : goal.returns-clause-entries
returns-clause-entries c =
    let same = sym (ap (λ (x : Conducting). x.rings) c.self.view_is) ∙ sym c.deref_mut.ensures.value in
    let answer_given = c.posts_waiting-counts.ensures in
    let all = waiting-taken _ _ _ _ _ _ _ _ answer_given.known same answer_given.waiting answer_given.counts c.take_all.ensures.known c.take_all.ensures.taken.rings in
    let before = ap core_history c.self.view_is ∙ answer_given.record in
    ap (λ (s : CoreState). s.history) c.take_all.ensures.taken.core
    ∙ (ap (λ (posts : List (List Post)). entries_after_all c.self.inside.core.history (events_of_all 0 posts)) all.0
    ∙ ap (λ (history : History). entries_after_all history (events_of_all 0 (posts_waiting (map sender c.args.seats.now) c.args.self.now.rings))) before)

pub returns-clause-counts : goal.returns-clause-counts
returns-clause-counts c =
    let same = sym (ap (λ (x : Conducting). x.rings) c.self.view_is) ∙ sym c.deref_mut.ensures.value in
    let answer_given = c.posts_waiting-counts.ensures in
    let all = waiting-taken _ _ _ _ _ _ _ _ answer_given.known same answer_given.waiting answer_given.counts c.take_all.ensures.known c.take_all.ensures.taken.rings in
    let before = ap core_history c.self.view_is ∙ answer_given.record in
    subst (λ (history : History). CountsPosts history (events_of_all 0 (posts_waiting (map sender c.args.seats.now) c.args.self.now.rings)) c.take_all.result) before
    (subst (λ (posts : List (List Post)). CountsPosts c.self.inside.core.history (events_of_all 0 posts) c.take_all.result) all.0 c.take_all.ensures.taken.counts)

pub returns-clause-joined : goal.returns-clause-joined
returns-clause-joined c =
    let many = as-many-rings _ _ c.take_all.ensures.taken.posts c.take_all.ensures.taken.rings ∙ ap length c.deref_mut.ensures.value in
    let same = sym (ap (λ (x : Conducting). x.rings) c.self.view_is) ∙ sym c.deref_mut.ensures.value in
    let answer_given = c.posts_waiting-counts.ensures in
    let all = waiting-taken _ _ _ _ _ _ _ _ answer_given.known same answer_given.waiting answer_given.counts c.take_all.ensures.known c.take_all.ensures.taken.rings in
    subst (EachRing AreJoined (map sender c.posts_waiting-counts.new.seats)) (sym (whole-list c.take_all.new.rings _ _ (many ∙ sym c.self.inside.rings.ok.0))) all.1.joined

pub returns-clause-whole : goal.returns-clause-whole
returns-clause-whole c =
    let many = as-many-rings _ _ c.take_all.ensures.taken.posts c.take_all.ensures.taken.rings ∙ ap length c.deref_mut.ensures.value in
    let same = sym (ap (λ (x : Conducting). x.rings) c.self.view_is) ∙ sym c.deref_mut.ensures.value in
    let answer_given = c.posts_waiting-counts.ensures in
    let all = waiting-taken _ _ _ _ _ _ _ _ answer_given.known same answer_given.waiting answer_given.counts c.take_all.ensures.known c.take_all.ensures.taken.rings in
    let senders = map sender c.posts_waiting-counts.new.seats in
    λ whole. subst (EachRing LostNoBuffer senders) (sym (whole-list c.take_all.new.rings _ _ (many ∙ sym c.self.inside.rings.ok.0)))
    (all.1.whole (subst (EachRing LostNoBuffer senders) same (answer_given.whole whole)))

pub returns-clause-none : goal.returns-clause-none
returns-clause-none c =
    let many = as-many-rings _ _ c.take_all.ensures.taken.posts c.take_all.ensures.taken.rings ∙ ap length c.deref_mut.ensures.value in
    let same = sym (ap (λ (x : Conducting). x.rings) c.self.view_is) ∙ sym c.deref_mut.ensures.value in
    let answer_given = c.posts_waiting-counts.ensures in
    let all = waiting-taken _ _ _ _ _ _ _ _ answer_given.known same answer_given.waiting answer_given.counts c.take_all.ensures.known c.take_all.ensures.taken.rings in
    subst (λ (rs : List PostReceiver). All (λ (posts : List Post). posts ≡ []) (posts_waiting (map sender c.posts_waiting-counts.new.seats) rs))
    (sym (whole-list c.take_all.new.rings _ _ (many ∙ sym c.self.inside.rings.ok.0))) all.1.none
