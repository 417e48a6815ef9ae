use Rattle.std.proofs.Common.{◌≡◌, arith, [], true, false, sym, ◌∙◌, ap, subst, fold}
use Rattle.std.proofs.lemmas.List.{append-nil}
use Rattle.hc_events.specs.Changes.{AreLegal}
use Rattle.hc_publish.specs.ChangesSince.{IsLegal}
use Rattle.hc_publish.specs.PublicationLog.{top}
use Rattle.hc_publish.specs.Rule.{AreFew, IsSealed, after_steps, changes_in, copy_after}
use Rattle.hc_publish.proofs.Rising.{extends_same}
use Rattle.hc_publish.proofs.Ruled.{shows_again, of_ok, fold_shown}
use Rattle.hc_publish.proofs.opening.opened.Goals as goal

pub publish_as-writer-requires : goal.publish_as-writer-requires
publish_as-writer-requires g c next is =
    let x = c.in_ok-writer.writer.desk.shown.value in
    let first : x.shown ≡ _ = ap (λ z. z.shown) c.in_ok-writer.ensures.0 in
    let changes_since = first ∙ c.in_ok-first.ensures in
    let token = ap (λ z. z.token) c.in_ok-writer.ensures.0 ∙ c.again.ensures in
    let sealed : IsSealed x = (ap (λ t. top t.log) token ∙ (ap top c.in-Some.ensures.1 ∙ sym first), subst IsLegal (sym changes_since) tt) in
    shows_again _ _ x next _ c.in_ok-writer.ensures.1 sealed is

pub invariant_of-result : goal.invariant_of-result
invariant_of-result g c =
    let x = c.in_ok-writer.writer.desk.shown.value in
    let y = c.publish_as-writer.result.0.desk.shown.value in
    let values = of_ok _ c.publish_as-writer.result.1 c.if-is_err.ensures.value c.publish_as-writer.ensures.values in
    let rule = of_ok _ c.publish_as-writer.result.1 c.if-is_err.ensures.value c.publish_as-writer.ensures.rule in
    let same : y ≡ x = values.0 ∙ ap (λ z. fold copy_after x z) c.in_ok-writer.ensures.1 in
    let copy = same ∙ c.in_ok-writer.ensures.0 in
    let all : top c.in-Some.front.log ≡ after_steps y.shown [] = ap top c.in-Some.ensures.1 ∙ (sym (ap (λ z. z.shown) copy) ∙ fold_shown y []) in
    record {
      legal = rw (values.1) (subst (AreLegal y.shown.groups) (sym (append-nil y.shown.changes)) rule.2.1);
      knows = rule.0;
      is_sealed = rule.2;
      head_is = c.in-Some.ensures.0;
      one_publication_log = ap (λ z. z.token.book) copy ∙ ap (λ t. t.book) c.again.ensures;
      extends = rw (values.1) (extends_same _ _ all);
      few = subst (AreFew false) (sym values.1) (omega arith);
      ready = λ (e : false ≡ true). absurd (cc e);
    }

pub returns : goal.returns
returns g c =
    let x = c.in_ok-writer.writer.desk.shown.value in
    let y = c.publish_as-writer.result.0.desk.shown.value in
    let values = of_ok _ c.publish_as-writer.result.1 c.if-is_err.ensures.value c.publish_as-writer.ensures.values in
    let same : y ≡ x = values.0 ∙ ap (λ z. fold copy_after x z) c.in_ok-writer.ensures.1 in
    let changes_since = ap (λ z. z.shown) (same ∙ c.in_ok-writer.ensures.0) ∙ c.in_ok-first.ensures in
    (ap (λ s. s.changes) changes_since, ap changes_in values.1, ap (λ s. s.groups) changes_since)
