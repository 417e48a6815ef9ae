use Rattle.std.proofs.Common.{◌∙◌, ℕ, List, Some, ap, length, subst, sym}
use Rattle.std.specs.Prelude.{◌≤◌}
use Rattle.hc_records.specs.declared.limits.TheConstants.{MOST_AREAS}
use Rattle.hc_records.specs.declared.records.Area.{Area}
use Rattle.hc_records.specs.declared.records.Slave.{Slave}
use Rattle.hc_records.specs.Line.{is_at}
use Rattle.hc_plan.specs.inner.Shares.{share_in}
use Rattle.hc_plan.proofs.LineBlocks.{found-mapped}
use Rattle.hc_plan.proofs.Sharing.{found-share}
use Rattle.hc_plan.proofs.shares.share_of.Goals as goal

pub share-requires : goal.share-requires
share-requires c =
    let found = sym c.slave_at.ensures ∙ c.in-Some.is in
    let areas = c.as_slice-areas.ensures ∙ ap (λ (slave : Slave). slave.areas) c.slave.ensures in
    subst (λ (all : List Area). length all ≤ MOST_AREAS) (sym areas)
    (found-mapped c.args.groups.now c.args.layout.now (is_at c.args.station) c.in-Some.member c.requires found).few

pub returns-in-Some-clause-value : goal.returns-in-Some-clause-value
returns-in-Some-clause-value c =
    let found = sym c.slave_at.ensures ∙ c.in-Some.is in
    let areas = c.as_slice-areas.ensures ∙ ap (λ (slave : Slave). slave.areas) c.slave.ensures in
    let named : ℕ × ℕ = (c.args.task, c.args.datagram) in
    ap Some (c.share.ensures.value
    ∙ ap (λ (all : List Area). share_in c.args.layout.now named c.rank.result all) areas
    ∙ ap (λ (rank : _). share_in c.args.layout.now named rank c.in-Some.member.slave.areas) c.rank.ensures)
    ∙ sym (found-share c.args.groups.now c.args.layout.now c.args.task c.args.datagram c.args.station c.in-Some.member c.requires c.number.ensures.below found)
