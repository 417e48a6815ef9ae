use Rattle.std.proofs.Common.{ap, arith, ◌∙◌, List}
use Rattle.std.specs.Prelude.{sum_by}
use Rattle.std.proofs.lemmas.List.Sums.{sum_by-cons}
use Rattle.hc_records.specs.declared.records.Declared.{Declared}
use Rattle.hc_segment.proofs.Counted.{before-few, present-few, slaves_in}
use Rattle.hc_segment.proofs.changing.+slaves_before.Goals as goal

pub overflow_add-result : goal.overflow_add-result
overflow_add-result t c =
    let declared = c.in-Some.declared.now in
    let others = c.in-Some.others.now in
    let all = ap (λ (groups : List Declared). sum_by slaves_in groups) c.in-Some.ensures.cases.0 ∙ sum_by-cons slaves_in declared others in
    omega (arith, all, c.requires, c.present_count.ensures, c.slaves_before.ensures, present-few declared, before-few c.args.alias others)
