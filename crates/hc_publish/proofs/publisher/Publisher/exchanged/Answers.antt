use Rattle.std.proofs.Common.{◌≡◌, arith, [], ◌∷◌, drop, true, false, sym, ap, ◌∙◌, subst}
use Rattle.std.proofs.lemmas.List.{append-nil}
use Rattle.hc_events.specs.Changes.{AreLegal}
use Rattle.hc_publish.specs.PublicationLog.{top}
use Rattle.hc_publish.specs.Rule.{AreFew, IsSealed, after_steps}
use Rattle.hc_publish.specs.Published.{IsReadyToShow}
use Rattle.hc_publish.proofs.Rising.{extends_same}
use Rattle.hc_publish.proofs.Ruled.{fold_shown, seals, sealed_shown, sealed_token}
use Rattle.hc_publish.proofs.publisher.Publisher.exchanged.Goals as goal

pub publish_as-requires : goal.publish_as-requires
publish_as-requires g c next is =
    let p = c.self.inside in
    let i = c.self.invariant in
    let ready = subst IsReadyToShow (sym c.self.view_is) c.requires in
    seals _ _ p.writer.desk.shown.value next p.front _ ready.before ready.ends i.one_publication_log ready.last i.legal is

pub invariant_of-publisher : goal.invariant_of-publisher
invariant_of-publisher g c =
    let p = c.self.inside in
    let i = c.self.invariant in
    let x = p.writer.desk.shown.value in
    let y = c.publish_as.result.0.desk.shown.value in
    let steps = drop p.writer.behind p.writer.log.items in
    let ready = subst IsReadyToShow (sym c.self.view_is) c.requires in
    let values = rw c.in_default-Ok.is-1 at c.publish_as.ensures.values in
    let rule = rw c.in_default-Ok.is-1 at c.publish_as.ensures.rule in
    let shown : y.shown ≡ after_steps x.shown steps = sealed_shown x y steps values.0 in
    let token : y.token ≡ p.front = sealed_token x y steps ready.before p.front ready.ends values.0 in
    let all : top p.front.log ≡ after_steps y.shown [] = ready.last ∙ (sym shown ∙ fold_shown y []) in
    record {
      legal = rw (values.1) (subst (AreLegal y.shown.groups) (sym (append-nil y.shown.changes)) rule.2.1);
      knows = rule.0;
      is_sealed = rule.2;
      head_is = i.head_is;
      one_publication_log = ap (λ t. t.book) token;
      extends = rw (values.1) (extends_same _ _ all);
      few = subst (AreFew false) (sym values.1) (omega arith);
      ready = λ (e : false ≡ true). absurd (cc e);
    }

pub invariant_of-publisher-in_default-Err : goal.invariant_of-publisher-in_default-Err
invariant_of-publisher-in_default-Err g c =
    let p = c.self.inside in
    let i = c.self.invariant in
    let ready = subst IsReadyToShow (sym c.self.view_is) c.requires in
    let values = rw c.in_default-Err.is-1 at c.publish_as.ensures.values in
    let rule = rw c.in_default-Err.is-1 at c.publish_as.ensures.rule in
    record {
      legal = rw (values.0, values.1) i.legal;
      knows = rule ∙ (i.knows ∙ ap (λ z. z.token ∷ []) (sym values.0));
      is_sealed = subst IsSealed (sym values.0) i.is_sealed;
      head_is = i.head_is;
      one_publication_log = ap (λ z. z.token.book) values.0 ∙ i.one_publication_log;
      extends = rw (values.0, values.1) i.extends;
      few = subst (AreFew p.is_sealed) (sym values.1) i.few;
      ready = λ (e : p.is_sealed ≡ true). record { before = ready.before; ends = values.1 ∙ ready.ends; last = rw (values.0, values.1) ready.last };
    }
