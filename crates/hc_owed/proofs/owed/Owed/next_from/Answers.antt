use Rattle.std.proofs.Common.{◌≡◌, Some, None, Option, [], drop, sym, ap, subst, ◌∙◌}
use Rattle.std.specs.Prelude.{MatchOption}
use Rattle.std.specs.List.{position_from}
use Rattle.hc_owed.specs.RegisterState.{RegisterState}
use Rattle.hc_owed.specs.Laws.{IsNextOwed, owed_from}
use Rattle.hc_owed.specs.declared.owed.OwedBlock.{OwedBlock}
use Rattle.hc_owed.proofs.Saying.{all-are_placed, next-owed}
use Rattle.hc_owed.proofs.owed.Owed.next_from.Goals as goal

pub returns-in_err-place-clause-next : goal.returns-in_err-place-clause-next
returns-in_err-place-clause-next c = λ known state plan is.
    rw c.from_residual.ensures (next-owed known state c.args.place None (c.in_err-place.ensures.value ∙ ap (λ (b : RegisterState). position_from (λ flag. flag) c.args.place (drop c.args.place b.owed)) (c.self.view_is ∙ is.right)))

pub returns-in_err-place-clause-all : goal.returns-in_err-place-clause-all
returns-in_err-place-clause-all c = all-are_placed

pub returns-clause-all : goal.returns-clause-all
returns-clause-all c = all-are_placed

pub returns-clause-next : goal.returns-clause-next
returns-clause-next c = λ known state plan is.
    let place = c.in_ok-place.place in
    let same = c.self.view_is ∙ is.right in
    let found = next-owed known state c.args.place (Some place) (c.in_ok-place.ensures.value ∙ ap (λ (b : RegisterState). position_from (λ flag. flag) c.args.place (drop c.args.place b.owed)) same) in
    subst (λ (o : Option OwedBlock). MatchOption o (owed_from known state c.args.place ≡ []) (IsNextOwed known state c.args.place))
    (sym (c.found_at.ensures known state found.block plan (record { right = is.right; project = is.project; is_placed = found.is_placed })))
    (record { from = found.from; is_placed = found.is_placed; next = found.next })
