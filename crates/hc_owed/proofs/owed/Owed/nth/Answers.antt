use Rattle.std.proofs.Common.{◌≡◌, Some, None, Option, sym, ap, subst, ◌∙◌}
use Rattle.std.specs.Prelude.{MatchOption, slice_get}
use Rattle.hc_owed.specs.RegisterState.{RegisterState}
use Rattle.hc_owed.specs.Flags.{nth_set}
use Rattle.hc_owed.specs.Laws.{IsOwedAt, lacking_blocks}
use Rattle.hc_owed.specs.declared.owed.OwedBlock.{OwedBlock}
use Rattle.hc_owed.proofs.Saying.{nth-owed}
use Rattle.hc_owed.proofs.owed.Owed.nth.Goals as goal

pub returns-in_err-place : goal.returns-in_err-place
returns-in_err-place c = λ known state plan is.
    rw c.from_residual.ensures (nth-owed known state c.args.index None is.project (c.in_err-place.ensures.value ∙ ap (λ (b : RegisterState). nth_set c.args.index 0 b.owed) (c.self.view_is ∙ is.right)))

pub returns : goal.returns
returns c = λ known state plan is.
    let place = c.in_ok-place.place in
    let same = c.self.view_is ∙ is.right in
    let found = nth-owed known state c.args.index (Some place) is.project (c.in_ok-place.ensures.value ∙ ap (λ (b : RegisterState). nth_set c.args.index 0 b.owed) same) in
    subst (λ (o : Option OwedBlock). MatchOption o (slice_get (lacking_blocks known state) c.args.index ≡ None) (IsOwedAt known state c.args.index))
    (sym (c.found_at.ensures known state found.block plan (record { right = is.right; project = is.project; is_placed = found.is_placed })))
    (record { is_placed = found.is_placed; is = found.is })
