use Rattle.std.proofs.Common.{◌+◌, List, ◌∷◌, length, refl, ap, subst, sym, arith}
use Rattle.std.proofs.lemmas.List.{length-map}
use Rattle.hc_rings.specs.declared.posts.PostReceiver.{PostReceiver}
use Rattle.hc_conductor.specs.declared.taking.Taken.{Taken}
use Rattle.hc_conductor.specs.Taking.{TakesFromAll, event_by}
use Rattle.hc_conductor.proofs.Takings.{few-events, first-few, four-taken, rings-taken}
use Rattle.hc_conductor.proofs.taking.+take_all.Goals as goal

pub overflow_add-result : goal.overflow_add-result
overflow_add-result t c =
    let one = c.take_some-first.ensures.taken in
    let rest = c.take_all-rest.ensures.taken in
    let most = first-few _ _ _ c.in-Some-split_first.ensures.cases.0 c.requires.few in
    let few = few-events c.args.rule (c.args.task + 1) c.in-Some.others.now c.take_all-rest.new.rings rest.posts rest.rings in
    omega (arith, one.ring.few, length-map one.posts (event_by c.args.rule c.args.task), one.counts.all, rest.counts.all, few, ap length c.in-Some.ensures.cases.0, c.requires.tasks, most)

pub overflow_add-result-2 : goal.overflow_add-result-2
overflow_add-result-2 t c =
    let one = c.take_some-first.ensures.taken in
    let rest = c.take_all-rest.ensures.taken in
    let most = first-few _ _ _ c.in-Some-split_first.ensures.cases.0 c.requires.few in
    let few = few-events c.args.rule (c.args.task + 1) c.in-Some.others.now c.take_all-rest.new.rings rest.posts rest.rings in
    omega (arith, one.ring.few, length-map one.posts (event_by c.args.rule c.args.task), one.counts.all, rest.counts.all, few, ap length c.in-Some.ensures.cases.0, c.requires.tasks, most)

pub returns-clause-taken : goal.returns-clause-taken
returns-clause-taken t c =
    let first = c.take_some-first.result in
    let rest = c.take_all-rest.result in
    let answer_given : Taken = record { accepted = first.accepted + rest.accepted; refused = first.refused + rest.refused } in
    subst (λ (rings : List PostReceiver). TakesFromAll c.args.rule c.args.task c.args.core.now c.take_all-rest.new.core rings (c.take_some-first.new.ring ∷ c.take_all-rest.new.rings) answer_given) (sym c.in-Some.ensures.cases.0)
    (rings-taken c.args.rule c.args.task c.args.core.now c.take_some-first.new.core c.take_all-rest.new.core c.in-Some.ring.now c.take_some-first.new.ring c.in-Some.others.now c.take_all-rest.new.rings answer_given first rest
    (four-taken _ _ _ _ _ _ _ _ (first-few _ _ _ c.in-Some-split_first.ensures.cases.0 c.requires.few) c.take_some-first.ensures.taken) c.take_all-rest.ensures.taken refl refl)
