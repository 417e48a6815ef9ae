use Rattle.std.proofs.Common.{◌∙◌, ◌+◌, ap, sym, drop}
use Rattle.std.proofs.lemmas.List.{drop_all, drop_more}
use Rattle.hc_project.specs.Reading.{both, faults_joined}
use Rattle.hc_project.proofs.Joined.{both_alone, both_grouped}
use Rattle.hc_project.proofs.reading.SyntaxFaults.joined.Goals as goal

pub loop-index-preserved : goal.loop-index-preserved
loop-index-preserved c =
    let all = c.loop-index.all in
    let list = c.args.list.now in
    let rest = faults_joined (drop (c.loop-index.index + 1) list) in
    ap (λ all. both all rest) c.both-all.ensures
    ∙ both_grouped all _ rest
    ∙ sym (ap (λ left. both all (faults_joined left)) (drop_more list c.loop-index.index _ c.loop-index-test.true))
    ∙ c.loop-index.invariant

pub returns : goal.returns
returns c =
    let left = rw (drop_all c.loop-index.index c.args.list.now c.loop-index-test.false) at c.loop-index.invariant in
    sym (both_alone c.loop-index.all) ∙ left
