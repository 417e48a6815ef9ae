use Rattle.std.proofs.Common.{◌≡◌, Some, arith, rules}
use Rattle.std.specs.Prelude.{slice_get}
use Rattle.std.proofs.lemmas.Grind.{common_steps}
use Rattle.std.proofs.lemmas.Option.{gets, slice_get_within}
use Rattle.hc_groups.proofs.Indexes.{ranked, seen}
use Rattle.hc_groups.proofs.index.Indexed.slave_in.Goals as goal

pub number_at-requires-clause-inside : goal.number_at-requires-clause-inside
number_at-requires-clause-inside c =
    (ranked c.args.self.now _ c.args.group c.args.place c.in_ok-declared.declared.now (seen c.self.view_is c.self.invariant.0)
    (grind (arith, common_steps, gets)) (slice_get_within _ c.args.place c.in_ok-slave.slave.now (grind (arith, common_steps, gets)))).inside

pub number_at-requires-clause-low : goal.number_at-requires-clause-low
number_at-requires-clause-low c =
    (ranked c.args.self.now _ c.args.group c.args.place c.in_ok-declared.declared.now (seen c.self.view_is c.self.invariant.0)
    (grind (arith, common_steps, gets)) (slice_get_within _ c.args.place c.in_ok-slave.slave.now (grind (arith, common_steps, gets)))).low

pub returns : goal.returns
returns c =
    let groups = c.args.self.now in
    let declared = c.in_ok-declared.declared.now in
    let slave = c.in_ok-slave.slave.now in
    let here : slice_get groups c.args.group ≡ Some declared = grind (arith, common_steps, gets) in
    let own : slice_get declared.group.slaves c.args.place ≡ Some slave = grind (arith, common_steps, gets) in
    let rank = (ranked groups _ c.args.group c.args.place declared (seen c.self.view_is c.self.invariant.0) here (slice_get_within _ c.args.place slave own)).rank in
    search rules
