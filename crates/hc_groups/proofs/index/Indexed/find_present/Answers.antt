use Rattle.std.proofs.Common.{◌∙◌, List, ap, get_or, sym, true, false, arith}
use Rattle.std.specs.Prelude.{length}
use Rattle.std.proofs.lemmas.Option.{slice_get_within}
use Rattle.hc_records.specs.declared.records.Declared.{Declared}
use Rattle.hc_groups.proofs.Indexes.{at-absent, at-member, at-present, none-history}
use Rattle.hc_groups.proofs.index.Indexed.find_present.Goals as goal

pub returns-in_err-sum_place : goal.returns-in_err-sum_place
returns-in_err-sum_place c = rw c.from_residual.ensures (none-history c.args.self.now c.args.rank c.in_err-sum_place.ensures.sum_place)

pub bounds-self-inside-sum_place : goal.bounds-self-inside-sum_place
bounds-self-inside-sum_place c =
    let it = c.in_ok-sum_place.ensures.sum_place in
    let inside = slice_get_within c.args.self.now _ it.declared it.at in
    let same = ap length c.self.view_is in
    omega (arith, inside, same)

pub returns-then-self-sum_place : goal.returns-then-self-sum_place
returns-then-self-sum_place c =
    let it = c.in_ok-sum_place.ensures.sum_place in
    let present = ap (λ (groups : List Declared). (get_or groups c.in_ok-sum_place.sum_place.index c.index-self-sum_place.result).present) (sym c.self.view_is) ∙ c.if-self-sum_place.true in
    at-member c.args.self.now c.args.rank _ _ it (at-present c.args.self.now c.args.rank _ _ it c.index-self-sum_place.result true present)

pub returns-else-self-sum_place : goal.returns-else-self-sum_place
returns-else-self-sum_place c =
    let it = c.in_ok-sum_place.ensures.sum_place in
    let absent = ap (λ (groups : List Declared). (get_or groups c.in_ok-sum_place.sum_place.index c.index-self-sum_place.result).present) (sym c.self.view_is) ∙ c.if-self-sum_place.false in
    at-absent c.args.self.now c.args.rank _ _ it (at-present c.args.self.now c.args.rank _ _ it c.index-self-sum_place.result false absent)
