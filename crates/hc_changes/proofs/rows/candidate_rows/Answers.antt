use Rattle.std.proofs.Common.{◌∙◌, append-nil, subst, sym}
use Rattle.std.proofs.lemmas.List.{drop_all}
use Rattle.hc_changes.specs.Rows.{IsInside, candidate_rows, rows_of}
use Rattle.hc_changes.proofs.lemmas.Lists.{all-added}
use Rattle.hc_changes.proofs.rows.candidate_rows.Goals as goal

pub add_candidate-requires : goal.add_candidate-requires
add_candidate-requires c = subst IsInside (sym c.candidate-item.is) (c.requires c.loop-candidate.candidate-index c.candidate-item.result c.loop-candidate-test.true)

pub loop-candidate-preserved : goal.loop-candidate-preserved
loop-candidate-preserved c =
    let candidates = c.args.candidates.now in
    let l = c.loop-candidate in
    all-added rows_of candidates l.candidate-index c.candidate-item.result l.rows.items c.add_candidate.new.rows.items (candidate_rows candidates) c.loop-candidate-test.true
    c.candidate-item.is c.in_ok-add_candidate.ensures l.invariant

pub returns : goal.returns
returns c = sym (append-nil c.loop-candidate.rows.items) ∙ rw (drop_all c.loop-candidate.candidate-index c.args.candidates.now c.loop-candidate-test.false) at c.loop-candidate.invariant
