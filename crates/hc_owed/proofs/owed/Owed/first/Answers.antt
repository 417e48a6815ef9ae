use Rattle.std.proofs.Common.{◌≡◌, Some, None, Option, [], sym, ap, subst, ◌∙◌}
use Rattle.std.specs.Prelude.{MatchOption, position}
use Rattle.hc_owed.specs.RegisterState.{RegisterState}
use Rattle.hc_owed.specs.Laws.{IsFirstOwed, lacking_blocks}
use Rattle.hc_owed.specs.declared.owed.OwedBlock.{OwedBlock}
use Rattle.hc_owed.proofs.Saying.{first-owed}
use Rattle.hc_owed.proofs.owed.Owed.first.Goals as goal

pub returns-in_err-place : goal.returns-in_err-place
returns-in_err-place c = λ known state plan is.
    rw c.from_residual.ensures (first-owed known state None is.project (c.in_err-place.ensures.value ∙ ap (λ (b : RegisterState). position (λ flag. flag) b.owed) (c.self.view_is ∙ is.right)))

pub returns : goal.returns
returns c = λ known state plan is.
    let place = c.in_ok-place.place in
    let same = c.self.view_is ∙ is.right in
    let found = first-owed known state (Some place) is.project (c.in_ok-place.ensures.value ∙ ap (λ (b : RegisterState). position (λ flag. flag) b.owed) same) in
    subst (λ (o : Option OwedBlock). MatchOption o (lacking_blocks known state ≡ []) (IsFirstOwed known state))
    (sym (c.found_at.ensures known state found.block plan (record { right = is.right; project = is.project; is_placed = found.is_placed })))
    (record { rest = found.rest; is_placed = found.is_placed; first = found.first })
