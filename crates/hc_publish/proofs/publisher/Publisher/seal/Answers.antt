use Rattle.std.proofs.Common.{◌≡◌, true, false, subst, [], ◌∷◌, ◌++◌, drop, sym, ◌∙◌, ap}
use Rattle.hc_publish.specs.PublicationLog.{log_end_of, top}
use Rattle.hc_publish.specs.declared.absorb.Step.TheVariants.{Sealed}
use Rattle.hc_publish.specs.Rule.{AreFew}
use Rattle.hc_publish.specs.Stories.{origin}
use Rattle.hc_publish.specs.PublishedState.{all_shown}
use Rattle.hc_publish.specs.Published.{published_state_in}
use Rattle.hc_publish.proofs.Rising.{extends_same, top-append}
use Rattle.hc_publish.proofs.Ruled.{append_sealed, few_sealed}
use Rattle.hc_publish.proofs.publisher.Publisher.seal.Goals as goal

pub invariant_of-self : goal.invariant_of-self
invariant_of-self c =
    let p = c.self.inside in
    let i = c.self.invariant in
    let b = published_state_in p in
    let same = c.append.ensures.desk in
    let old = drop p.writer.behind p.writer.log.items in
    let unchanged = append_sealed c.append.result old _ _ c.append.ensures.pending in
    let next = c.in-Some.ensures in
    let last : top c.in-Some.next.log ≡ all_shown b = ap top next.1 ∙ top-append p.front.log (all_shown b) in
    record {
      legal = rw (same, unchanged) i.legal;
      knows = rw same i.knows;
      is_sealed = rw same i.is_sealed;
      head_is = i.head_is ∙ ap log_end_of (sym next.0);
      one_publication_log = rw same (i.one_publication_log ∙ sym next.0);
      extends = rw (same, unchanged) (extends_same _ _ last);
      few = few_sealed old _ _ c.in-Ok.ensures.pending (subst (λ z. AreFew false z.steps) (sym c.self.view_is) c.requires);
      ready = λ (e : true ≡ true). record { before = old; ends = c.in-Ok.ensures.pending ∙ ap (λ f. old ++ Sealed f ∷ []) c.again-seal.ensures; last = rw (same, unchanged) last };
    }

pub invariant_of-self-in-Err : goal.invariant_of-self-in-Err
invariant_of-self-in-Err c =
    let p = c.self.inside in
    let i = c.self.invariant in
    let b = published_state_in p in
    let same = c.append.ensures.desk in
    let old = drop p.writer.behind p.writer.log.items in
    let unchanged = append_sealed c.append.result old _ _ c.append.ensures.pending in
    let next = c.in-Some.ensures in
    let last : top c.in-Some.next.log ≡ all_shown b = ap top next.1 ∙ top-append p.front.log (all_shown b) in
    record {
      legal = rw (same, unchanged) i.legal;
      knows = rw same i.knows;
      is_sealed = rw same i.is_sealed;
      head_is = i.head_is ∙ ap log_end_of (sym next.0);
      one_publication_log = rw same (i.one_publication_log ∙ sym next.0);
      extends = rw (same, unchanged) (extends_same _ _ last);
      few = rw (c.in-Err.ensures.pending.1) (subst (λ z. AreFew false z.steps) (sym c.self.view_is) c.requires);
      ready = λ (e : false ≡ true). cc;
    }

pub returns-clause-same : goal.returns-clause-same
returns-clause-same c =
    let w = c.self.inside.writer in
    let old = drop w.behind w.log.items in
    let same = c.append.ensures.desk in
    rw (← c.self.view_is) (ap (λ d. d.shown.value.shown.changes) same, append_sealed c.append.result old _ _ c.append.ensures.pending, ap (λ d. origin d.shown.value) same)

pub returns-clause-ready : goal.returns-clause-ready
returns-clause-ready c =
    let p = c.self.inside in
    let b = published_state_in p in
    let same = c.append.ensures.desk in
    let old = drop p.writer.behind p.writer.log.items in
    let unchanged = append_sealed c.append.result old _ _ c.append.ensures.pending in
    let last : top c.in-Some.next.log ≡ all_shown b = ap top c.in-Some.ensures.1 ∙ top-append p.front.log (all_shown b) in
    record { before = old; ends = c.in-Ok.ensures.pending ∙ ap (λ f. old ++ Sealed f ∷ []) c.again-seal.ensures; last = rw (same, unchanged) last }
