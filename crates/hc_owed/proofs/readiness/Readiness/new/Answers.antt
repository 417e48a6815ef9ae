use Rattle.std.proofs.Common.{◌≡◌, ℕ, ◌*◌, List, ◌++◌, ◌∷◌, [], length, map, sym, ap, ◌∙◌, arith}
use Rattle.std.specs.List.{range_with_len}
use Rattle.std.proofs.lemmas.List.{length-map}
use Rattle.std.proofs.lemmas.List.FromFn.{map-range_with_len_more}
use Rattle.hc_records.specs.declared.records.Slave.{Slave}
use Rattle.hc_records.proofs.lemmas.Lines.{declared_slaves}
use Rattle.hc_registers.specs.RankPlaces.{stations}
use Rattle.hc_registers.proofs.lemmas.RanksStanding.{length-places}
use Rattle.hc_owed.specs.declared.area.JudgedArea.{JudgedArea}
use Rattle.hc_owed.specs.Readiness.{judged_at, none_unplugged, unknown_registers}
use Rattle.hc_owed.specs.RegisterState.{RegisterState, nothing_known}
use Rattle.hc_owed.proofs.AreaPlaces.{length-range}
use Rattle.hc_owed.proofs.readiness.Readiness.new.Goals as goal

pub opened_area-requires-clause-inside : goal.opened_area-requires-clause-inside
opened_area-requires-clause-inside c =
    let plan = c.args.plan.now in
    let count = c.slaves-count.ensures.count ∙ ap (λ (r : RegisterState). length r.stations) c.requires.owed in
    let named = length-map (declared_slaves plan.groups) (λ (slave : Slave). slave.station) in
    let size = length-places plan in
    omega (arith, c.loop-n-test.true, count, named, size)

pub push-requires : goal.push-requires
push-requires c =
    let size = ap length c.loop-n.invariant ∙ length-range (judged_at nothing_known unknown_registers none_unplugged c.args.plan.now) c.loop-n.n in
    omega (arith, size, c.loop-n-test.true, c.slaves-count.ensures.few)

pub loop-n-preserved : goal.loop-n-preserved
loop-n-preserved c =
    let n = c.loop-n.n in
    let f = judged_at nothing_known unknown_registers none_unplugged c.args.plan.now in
    c.in_ok-push.ensures ∙ ap (λ (l : List JudgedArea). l ++ c.opened_area.result ∷ []) c.loop-n.invariant
    ∙ ap (λ (a : JudgedArea). map f (range_with_len 0 n) ++ a ∷ []) c.opened_area.ensures ∙ sym (map-range_with_len_more f 0 n n (omega arith))

pub returns : goal.returns
returns c =
    let f = judged_at nothing_known unknown_registers none_unplugged c.args.plan.now in
    let count = c.slaves-count.ensures.count ∙ ap (λ (r : RegisterState). length r.stations) c.requires.owed in
    let all : c.loop-n.n ≡ 8 * length (stations c.args.plan.now) = omega (arith, c.loop-n-test.false, c.loop-n.auto.n-end, count) in
    c.loop-n.invariant ∙ ap (λ (k : ℕ). map f (range_with_len 0 k)) all
