use Rattle.std.proofs.Common.{◌∙◌, ap, drop, false, true, ◌≡◌}
use Rattle.hc_publish.specs.PublicationLog.{top}
use Rattle.hc_publish.specs.Rule.{changes_in}
use Rattle.hc_publish.specs.PublishedState.{published, pending}
use Rattle.hc_publish.specs.Published.{published_state_in}
use Rattle.hc_publish.proofs.Ruled.{changes-append, appended, few_grown, stays_legal, stays_begun}
use Rattle.hc_publish.proofs.publisher.Publisher.append.Goals as goal

pub invariant_of-self : goal.invariant_of-self
invariant_of-self c =
    let p = c.self.inside in
    let i = c.self.invariant in
    let b = published_state_in p in
    let same = c.append.ensures.desk in
    let old = drop p.writer.behind p.writer.log.items in
    let grown = appended c.append.result old _ c.args.change c.append.ensures.pending in
    record {
      legal = rw same (stays_legal b.shown.shown.groups (published b) (pending b) _ c.args.change grown i.legal (rw (← c.self.view_is) at c.requires));
      knows = rw same i.knows;
      is_sealed = rw same i.is_sealed;
      head_is = i.head_is;
      one_publication_log = rw same i.one_publication_log;
      extends = rw same (stays_begun (top p.front.log) b.shown.shown old (drop c.append.new.self.behind c.append.new.self.log.items) c.args.change grown i.extends);
      few = few_grown p.is_sealed old _ c.args.change c.in-Ok.ensures.pending i.few;
      ready = λ (e : false ≡ true). absurd (cc e);
    }

pub returns-in-Ok-clause-pending : goal.returns-in-Ok-clause-pending
returns-in-Ok-clause-pending c =
    let w = c.self.inside.writer in
    let old = drop w.behind w.log.items in
    rw (← c.self.view_is) (ap changes_in c.in-Ok.ensures.pending ∙ changes-append old _)
