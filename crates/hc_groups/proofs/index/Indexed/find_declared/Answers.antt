use Rattle.std.proofs.Common.{◌≡◌, ◌-◌, List, get_or, Some, None, subst, arith}
use Rattle.std.specs.Prelude.{slice_get}
use Rattle.std.proofs.lemmas.Grind.{common_steps}
use Rattle.std.proofs.lemmas.Option.{gets}
use Rattle.hc_records.specs.declared.records.Declared.{Declared}
use Rattle.hc_groups.specs.Index.{IsDeclaredAt}
use Rattle.hc_groups.proofs.IndexFound.{history-end}
use Rattle.hc_groups.proofs.Indexes.{rank-at, rank-falls, rank-history, seen}
use Rattle.hc_groups.proofs.index.Indexed.find_declared.Goals as goal

pub returns-in_err-get-clause-sum_place : goal.returns-in_err-get-clause-sum_place
returns-in_err-get-clause-sum_place c =
    let none : slice_get c.self.inside.owners.now (c.args.rank - 1) ≡ None = grind (arith, common_steps, gets) in
    rw c.from_residual.ensures (rank-history c.args.self.now _ (seen c.self.view_is c.self.invariant.0) c.args.rank c.requires (history-end c.self.inside.owners.now (c.args.rank - 1) none))

pub bounds-self-inside-index : goal.bounds-self-inside-index
bounds-self-inside-index c =
    let at : slice_get c.self.inside.owners.now (c.args.rank - 1) ≡ Some c.from-index.result = grind (arith, common_steps, gets) in
    let owner = rank-falls c.self.inside.groups.now _ c.self.invariant.0 c.args.rank c.from-index.result c.requires at in
    owner.within

pub overflow_sub-offset-2 : goal.overflow_sub-offset-2
overflow_sub-offset-2 c =
    let at : slice_get c.self.inside.owners.now (c.args.rank - 1) ≡ Some c.from-index.result = grind (arith, common_steps, gets) in
    let owner = rank-falls c.self.inside.groups.now _ c.self.invariant.0 c.args.rank c.from-index.result c.requires at in
    let front = owner.front in omega (arith, front, c.from-2.ensures)

pub returns-clause-sum_place : goal.returns-clause-sum_place
returns-clause-sum_place c =
    let at : slice_get c.self.inside.owners.now (c.args.rank - 1) ≡ Some c.from-index.result = grind (arith, common_steps, gets) in
    let owner = rank-falls c.self.inside.groups.now _ c.self.invariant.0 c.args.rank c.from-index.result c.requires at in
    rw c.from-2.ensures (subst (λ (g : List Declared). IsDeclaredAt g c.args.rank c.from-index.result (c.args.rank - 1 - get_or c.self.inside.ranks.now c.from-index.result 0)) c.self.view_is (rank-at c.self.inside.groups.now _ c.self.invariant.0 c.args.rank c.from-index.result owner))
