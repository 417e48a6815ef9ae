use Rattle.std.proofs.Common.{◌∙◌, ℕ, ap₂, List, subst, sym, rules}
use Rattle.std.specs.Prelude.{All, ◌<◌}
use Rattle.hc_records.specs.Laws.{LiesInside}
use Rattle.hc_records.specs.Packing.{Placed}
use Rattle.hc_places.proofs.lemmas.Lines.{datagram-of}
use Rattle.hc_places.specs.DatagramUses.{datagram_use_answered, counted_inside}
use Rattle.hc_places.specs.Table.{Table}
use Rattle.hc_cuts.specs.Areas.{areas_by_rank}
use Rattle.hc_cuts.proofs.lemmas.Projects.{project-line}
use Rattle.hc_changes.proofs.lemmas.Tables.{unchanged-listed, unchanged-answer_given}
use Rattle.hc_changes.proofs.tables.datagram_use_in.Goals as goal

pub of-requires-clause-inside : goal.of-requires-clause-inside
of-requires-clause-inside c =
    let groups = c.requires.groups in
    let is = datagram-of groups c.args.task c.args.number c.in_ok-areas.areas.items c.requires.line.project (c.in_ok-areas.ensures (areas_by_rank groups) c.requires.line.of_groups) in
    subst (λ (areas : List Placed). All LiesInside areas) (sym c.as_slice.ensures.value) is.inside

pub of-requires-clause-counted : goal.of-requires-clause-counted
of-requires-clause-counted c =
    let groups = c.requires.groups in
    let is = datagram-of groups c.args.task c.args.number c.in_ok-areas.areas.items c.requires.line.project (c.in_ok-areas.ensures (areas_by_rank groups) c.requires.line.of_groups) in
    subst (λ (areas : List Placed). counted_inside c.args.number areas < 65536) (sym c.as_slice.ensures.value) is.counted

pub returns-then-is_unchanged-clause-value : goal.returns-then-is_unchanged-clause-value
returns-then-is_unchanged-clause-value c before after edited =
    let said = c.is_unchanged.ensures (areas_by_rank before) (areas_by_rank after)
    (record { line = project-line after edited.line.project; known = edited.tasks; of_new = edited.line.of_groups }) in
    c.datagram_use.ensures.value
    ∙ ap₂ (λ (table : Table) (task : ℕ). datagram_use_answered table task c.args.number) edited.table c.number.ensures.value
    ∙ unchanged-answer_given before after c.args.task c.args.number edited.project edited.line.project c.number.ensures.below
    (unchanged-listed before after c.args.task c.args.number ∙ sym said ∙ c.if-is_unchanged.true)

pub returns-clause-value : goal.returns-clause-value
returns-clause-value c before after edited = search (rules, datagram-of)
