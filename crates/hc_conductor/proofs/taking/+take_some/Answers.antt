use Rattle.std.proofs.Common.{◌≡◌, ℕ, suc, ◌-◌, ◌+◌, subst, arith}
use Rattle.hc_conductor.specs.Taking.{TakesKnown, TakesWaiting}
use Rattle.hc_conductor.proofs.Waiting.{one-known, one-taken, one-waiting}
use Rattle.hc_conductor.proofs.taking.+take_some.Goals as goal

pub returns-clause-known : goal.returns-clause-known
returns-clause-known t c =
    let all : suc (c.args.most - 1) ≡ c.args.most = omega (arith, c.if-most-eq0.false) in
    subst (λ (k : ℕ). TakesKnown k c.args.ring.now c.take_some.new.ring) all
    (one-known (c.args.most - 1) c.args.ring.now c.take.new.self c.give_back.new.self c.take_some.new.ring c.in-Some.post c.in-Some.ensures.first c.in-Some.ensures.some
    c.give_back.ensures.taken.0 c.give_back.ensures.taken.1 c.take_some.ensures.known)

pub returns-clause-waiting : goal.returns-clause-waiting
returns-clause-waiting t c =
    let all : suc (c.args.most - 1) ≡ c.args.most = omega (arith, c.if-most-eq0.false) in
    subst (λ (k : ℕ). TakesWaiting k c.args.ring.now c.take_some.new.ring) all
    (one-waiting (c.args.most - 1) c.args.ring.now c.take.new.self c.give_back.new.self c.take_some.new.ring c.in-Some.post c.in-Some.ensures.first c.in-Some.ensures.some
    c.give_back.ensures.taken.0 c.give_back.ensures.taken.1 c.take_some.ensures.waiting)

pub returns-clause-taken : goal.returns-clause-taken
returns-clause-taken t c =
    let all : suc (c.args.most - 1) ≡ c.args.most = omega (arith, c.if-most-eq0.false) in
    one-taken c.args.rule c.args.task (c.args.most - 1) c.args.most c.args.core.now c.is_accepted_by-accepted.new.core c.take_some.new.core c.args.ring.now c.take.new.self c.give_back.new.self c.take_some.new.ring c.in-Some.post c.is_accepted_by-accepted.result
    c.take_some.result c.with_one.result all c.is_accepted_by-accepted.ensures.core c.is_accepted_by-accepted.ensures.accepted c.take.ensures.ring c.in-Some.ensures.some c.take.ensures.places c.take.ensures.given_back
    c.give_back.ensures.ring c.give_back.ensures.taken.0 c.give_back.ensures.given_back c.give_back.ensures.stored c.give_back.ensures.places c.take_some.ensures.taken c.with_one.ensures.accepted c.with_one.ensures.all
