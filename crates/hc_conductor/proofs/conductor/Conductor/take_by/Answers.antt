use Rattle.std.proofs.Common.{List, length, replicate, sym, ◌∙◌, ap, subst}
use Rattle.hc_records.specs.declared.limits.TheConstants.{TASKS}
use Rattle.hc_rings.specs.declared.posts.PostReceiver.{PostReceiver}
use Rattle.hc_rings.specs.declared.posts.TheConstants.{POSTS_WAITING}
use Rattle.hc_events.specs.Changes.{updates_of}
use Rattle.hc_events.specs.Entries.{History}
use Rattle.hc_events.specs.Points.{opened_with, state_of}
use Rattle.hc_events.specs.Steps.{entries_after_all}
use Rattle.hc_core.specs.State.{CoreState}
use Rattle.hc_conductor.specs.Conducting.{Conducting, core_history}
use Rattle.hc_conductor.specs.Taking.{AreTaken, CountsPosts, EachTakesWaiting, all_events_by}
use Rattle.hc_conductor.specs.Together.{AreJoined, EachRing}
use Rattle.hc_conductor.proofs.lemmas.Joined.{taken-joined}
use Rattle.hc_conductor.proofs.Kept.{opened-after_all}
use Rattle.hc_conductor.proofs.Takings.{as-many-rings, takes-by, whole-list}
use Rattle.hc_conductor.proofs.conductor.Conductor.take_by.Goals as goal

pub invariant_of-self : goal.invariant_of-self
invariant_of-self c =
    let i = c.self.invariant in
    let took = c.take_all.ensures.taken in
    let after = sym took.core in
    let many = as-many-rings _ _ took.posts took.rings ∙ ap length c.deref_mut.ensures.value in
    let all = whole-list c.take_all.new.rings _ _ (many ∙ sym c.self.inside.rings.ok.0) in
    record {
      groups = i.groups ∙ (sym (opened-after_all _ (all_events_by c.args.rule 0 took.posts)) ∙ ap (λ s. opened_with s.history) after);
      legal = i.legal;
      updates = i.updates ∙ ap (λ s. updates_of s.taken) after;
      after_it = i.after_it ∙ ap (λ s. state_of s.taken) after;
      rings = ap length all ∙ (many ∙ i.rings);
    }

pub returns-clause-joined : goal.returns-clause-joined
returns-clause-joined c =
    let took = c.take_all.ensures.taken in
    let many = as-many-rings _ _ took.posts took.rings ∙ ap length c.deref_mut.ensures.value in
    let all = whole-list c.take_all.new.rings _ _ (many ∙ sym c.self.inside.rings.ok.0) in
    let same = sym (ap (λ (x : Conducting). x.rings) c.self.view_is) ∙ sym c.deref_mut.ensures.value in
    λ seats joined. subst (EachRing AreJoined seats) (sym all) (taken-joined seats _ c.take_all.new.rings took.posts (subst (EachRing AreJoined seats) same joined) took.rings)

pub returns-clause-waiting : goal.returns-clause-waiting
returns-clause-waiting c =
    let took = c.take_all.ensures.taken in
    let counts = replicate TASKS POSTS_WAITING in
    let many = as-many-rings _ _ took.posts took.rings ∙ ap length c.deref_mut.ensures.value in
    let all = whole-list c.take_all.new.rings _ _ (many ∙ sym c.self.inside.rings.ok.0) in
    let same = sym (ap (λ (x : Conducting). x.rings) c.self.view_is) ∙ sym c.deref_mut.ensures.value in
    subst (EachTakesWaiting counts c.args.self.now.rings) (sym all)
    (subst (λ (rings : List PostReceiver). EachTakesWaiting counts rings c.take_all.new.rings) (sym same) c.take_all.ensures.waiting)

pub returns-clause-taken : goal.returns-clause-taken
returns-clause-taken c =
    let took = c.take_all.ensures.taken in
    let many = as-many-rings _ _ took.posts took.rings ∙ ap length c.deref_mut.ensures.value in
    let all = whole-list c.take_all.new.rings _ _ (many ∙ sym c.self.inside.rings.ok.0) in
    let same = sym (ap (λ (x : Conducting). x.rings) c.self.view_is) ∙ sym c.deref_mut.ensures.value in
    let before = ap core_history c.self.view_is in
    let steps = all_events_by c.args.rule 0 took.posts in
    takes-by c.args.rule _ _ _ took.posts
    (subst (λ (rings : List PostReceiver). AreTaken c.args.self.now.rings rings took.posts) (sym all)
    (subst (λ (rings : List PostReceiver). AreTaken rings c.take_all.new.rings took.posts) (sym same) took.rings))
    (ap (λ (s : CoreState). s.history) took.core ∙ ap (λ (history : History). entries_after_all history steps) before)
    (subst (λ (history : History). CountsPosts history steps c.take_all.result) before took.counts)
