use Rattle.std.proofs.Common.{◌≡◌, ◌∙◌, length, refl, sym, arith}
use Rattle.std.proofs.lemmas.Bool.{eq-eqb, ne_eqb}
use Rattle.std.proofs.lemmas.Result.{err_from_is_err_and}
use Rattle.hc_records.specs.declared.limits.TheConstants.{LAST_EPOCH}
use Rattle.hc_cuts.specs.Areas.{areas_by_rank}
use Rattle.hc_plan.proofs.WidthsApplied.{edited_line-lines}
use Rattle.hc_plan.proofs.Editing.{made-accepted, made-over_limit, made-spent}
use Rattle.hc_plan.proofs.Saying.{moved-count, moved-few, moved-named}
use Rattle.hc_plan.proofs.applying.work_out.Goals as goal

pub say-leading-requires-clause-known : goal.say-leading-requires-clause-known
say-leading-requires-clause-known g c =
    let it = c.args.edited_line.now in
    c.of-known.ensures (areas_by_rank it.old) (areas_by_rank it.new) (edited_line-lines it c.change.result.now c.requires.edit.is c.change.ensures)
    c.requires.trees

pub restore_line_widths-requires-clause-known : goal.restore_line_widths-requires-clause-known
restore_line_widths-requires-clause-known g c =
    let it = c.args.edited_line.now in
    c.of-known.ensures (areas_by_rank it.old) (areas_by_rank it.new) (edited_line-lines it c.change.result.now c.requires.edit.is c.change.ensures)
    c.requires.trees

pub returns-in-Err-clause-refused : goal.returns-in-Err-clause-refused
returns-in-Err-clause-refused g c =
    let it = c.args.edited_line.now in
    λ other. made-over_limit it.old it.new c.args.epoch c.args.edit.now c.in-Err.task c.requires.edit.own c.requires.edit.leads c.in-Err.ensures.refused

pub returns-then-epoch-eq-LAST_EPOCH-clause-refused : goal.returns-then-epoch-eq-LAST_EPOCH-clause-refused
returns-then-epoch-eq-LAST_EPOCH-clause-refused g c =
    let it = c.args.edited_line.now in
    λ other. made-spent it.old it.new c.args.epoch c.args.edit.now c.requires.edit.own c.requires.edit.leads c.in-Ok.ensures.accepted (eq-eqb c.args.epoch LAST_EPOCH c.if-epoch-eq-LAST_EPOCH.true)

pub overflow_cast-report : goal.overflow_cast-report
overflow_cast-report g c =
    let few = moved-few c.args.edited_line.now c.in_ok-blocks.field-0.blocks.items c.requires.edit.is c.in-Ok.ensures.accepted c.in_ok-blocks.ensures.blocks in
    omega (arith, few, c.len.ensures)

pub returns-clause-starts : goal.returns-clause-starts
returns-clause-starts g c = c.copied_starts-starts.ensures.starts (areas_by_rank c.args.edited_line.now.new) c.in-Ok.ensures.applied

pub returns-clause-report : goal.returns-clause-report
returns-clause-report g c =
    let it = c.args.edited_line.now in
    let answer_given = c.in_ok-blocks.ensures in
    let blocks = c.in_ok-blocks.field-0.blocks.items in
    let many : c.len.result ≡ length blocks = let len = c.len.ensures in omega (arith, c.in_ok-blocks.field-0.blocks.ok.0) in
    record {
      epoch = refl;
      recut = c.in-Ok.ensures.recut;
      moved = many ∙ moved-count it blocks answer_given.blocks;
      blocks = c.of.ensures ∙ moved-named it blocks c.in_ok-blocks.field-0.names.items answer_given.blocks answer_given.names;
      named = answer_given.edit;
      leads = answer_given.leads.leads;
      says = answer_given.leads.says;
      places = answer_given.leads.count;
    }

pub returns-clause-accepted : goal.returns-clause-accepted
returns-clause-accepted g c =
    let it = c.args.edited_line.now in
    made-accepted it.old it.new c.args.epoch c.args.edit.now c.requires.edit.changes c.requires.edit.own c.requires.edit.leads c.in-Ok.ensures.accepted (ne_eqb c.args.epoch LAST_EPOCH c.if-epoch-eq-LAST_EPOCH.false)

-- that trees are those of a line is handed on as it was reported: a tactic would open the eight tasks of both
-- lines

pub apply_line_widths-requires-clause-trees : goal.apply_line_widths-requires-clause-trees
apply_line_widths-requires-clause-trees g c = c.requires.trees

pub say-leading-requires-clause-trees : goal.say-leading-requires-clause-trees
say-leading-requires-clause-trees g c = c.in-Ok.ensures.applied

pub restore_line_widths-requires-clause-trees : goal.restore_line_widths-requires-clause-trees
restore_line_widths-requires-clause-trees g c = c.in-Ok.ensures.applied

pub returns-in-Err-clause-unchanged : goal.returns-in-Err-clause-unchanged
returns-in-Err-clause-unchanged g c = c.in-Err.ensures.unchanged

pub returns-then-epoch-eq-LAST_EPOCH-clause-unchanged : goal.returns-then-epoch-eq-LAST_EPOCH-clause-unchanged
returns-then-epoch-eq-LAST_EPOCH-clause-unchanged g c = c.restore_line_widths.ensures ∙ sym c.requires.trees

pub returns-in_err-blocks-clause-unchanged : goal.returns-in_err-blocks-clause-unchanged
returns-in_err-blocks-clause-unchanged g c = c.restore_line_widths.ensures ∙ sym c.requires.trees

pub returns-clause-unchanged : goal.returns-clause-unchanged
returns-clause-unchanged g c = c.restore_line_widths.ensures ∙ sym c.requires.trees

pub returns-in_err-blocks-clause-refused : goal.returns-in_err-blocks-clause-refused
returns-in_err-blocks-clause-refused g c =
    let p = err_from_is_err_and c.from_residual.result c.from_residual.ensures.1 in
    rw (p.1, p.2) (λ other. absurd (other refl))
