use Rattle.std.proofs.Common.{◌∙◌, ap, length, arith}
use Rattle.hc_records.proofs.lemmas.Slaves.{project-counted}
use Rattle.hc_groups.proofs.Indexes.{seen}
use Rattle.hc_groups.proofs.Owned.{owners-length}
use Rattle.hc_groups.proofs.index.Indexed.first_rank_after.Goals as goal

pub overflow_cast-result : goal.overflow_cast-result
overflow_cast-result c =
    let is = (seen c.self.view_is c.self.invariant.0).declared in
    let long = ap length is.owners ∙ owners-length 0 c.args.self.now in
    let counted = project-counted c.args.self.now is.project in
    omega (arith, long, counted)

pub overflow_add-result : goal.overflow_add-result
overflow_add-result c =
    let is = (seen c.self.view_is c.self.invariant.0).declared in
    let long = ap length is.owners ∙ owners-length 0 c.args.self.now in
    let counted = project-counted c.args.self.now is.project in
    omega (arith, long, counted)

pub returns : goal.returns
returns c =
    let is = (seen c.self.view_is c.self.invariant.0).declared in
    let long = ap length is.owners ∙ owners-length 0 c.args.self.now in
    omega (arith, long)
