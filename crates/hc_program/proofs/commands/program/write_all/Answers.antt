use Rattle.std.proofs.Common.{arith, inr, refl, rules}
use Rattle.hc_program.specs.Stops.{StopsProgram}
use Rattle.hc_program.proofs.Programming.{begun, counted, done-so, ended-so, falls, few-first, fewer, one-done, one-written}
use Rattle.hc_program.proofs.commands.program.write_all.Goals as goal

pub loop-count-init : goal.loop-count-init
loop-count-init g c = record { reached = refl; whole = begun c.args.session.now; few = few-first _ }

pub returns-in_err-write_once-clause-stops : goal.returns-in_err-write_once-clause-stops
returns-in_err-write_once-clause-stops g c =
    let stopped : StopsProgram c.args.session.now c.in_err-write_once.field-0.0 c.write_once.new.session =
    inr (c.loop-count.count, c.loop-count.session, c.loop-count.invariant.reached, c.in_err-write_once.ensures.stops) in
    search (rules, stopped)

pub overflow_add-count : goal.overflow_add-count
overflow_add-count g c =
    let s = c.loop-count.session in
    let next = c.write_once.new.session in
    let (can, done, is) = done-so s next c.in_ok-write_once.field-0 c.if-branch.true c.in_ok-write_once.ensures.once in
    let few = counted c.loop-count.count s next can is c.loop-count.invariant.few in
    grind (arith, few)

pub loop-count-smaller : goal.loop-count-smaller
loop-count-smaller g c =
    let s = c.loop-count.session in
    let next = c.write_once.new.session in
    let (can, done, is) = done-so s next c.in_ok-write_once.field-0 c.if-branch.true c.in_ok-write_once.ensures.once in
    falls s next can is

pub loop-count-preserved : goal.loop-count-preserved
loop-count-preserved g c =
    let count = c.loop-count.count in
    let s = c.loop-count.session in
    let next = c.write_once.new.session in
    let (can, done, is) = done-so s next c.in_ok-write_once.field-0 c.if-branch.true c.in_ok-write_once.ensures.once in
    record {
      reached = one-written count c.args.session.now s next c.loop-count.invariant.reached can done is;
      whole = one-done count s next _ can done is c.loop-count.invariant.whole;
      few = fewer count s next can is c.loop-count.invariant.few;
    }

pub returns-clause-programmed : goal.returns-clause-programmed
returns-clause-programmed g c =
    ended-so c.loop-count.count c.loop-count.session c.write_once.new.session c.in_ok-write_once.field-0 _ c.if-branch.false c.in_ok-write_once.ensures.once c.loop-count.invariant.whole
