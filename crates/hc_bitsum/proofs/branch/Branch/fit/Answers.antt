use Rattle.std.proofs.Common.{arith}
use Rattle.std.proofs.lemmas.List.{get_or_default}
use Rattle.std.proofs.lemmas.List.Elements.{All-get_or}
use Rattle.hc_bitsum.proofs.Anew.{drop-part}
use Rattle.hc_bitsum.proofs.Nodes.{few-rows, row-inside}
use Rattle.hc_bitsum.proofs.Scan.{found-both, scan-append-through}
use Rattle.hc_bitsum.proofs.branch.Branch.fit.Goals as goal

pub index-requires : goal.index-requires
index-requires g c = grind (arith, row-inside)

pub fit_row-requires-clause-row : goal.fit_row-requires-clause-row
fit_row-requires-clause-row g c = grind (arith, row-inside, get_or_default, All-get_or)

pub fit_row-requires-clause-place : goal.fit_row-requires-clause-place
fit_row-requires-clause-place g c = grind (arith, row-inside, few-rows)

pub fit_after-requires-clause-row : goal.fit_after-requires-clause-row
fit_after-requires-clause-row g c = row-inside c.args.self.now c.args.skip c.requires.branch c.requires.within

pub returns-in-Found-clause-fit : goal.returns-in-Found-clause-fit
returns-in-Found-clause-fit g c =
    grind (arith, row-inside, get_or_default, found-both, drop-part)

pub returns-in-Through-clause-fit : goal.returns-in-Through-clause-fit
returns-in-Through-clause-fit g c =
    grind (arith, row-inside, get_or_default, drop-part, scan-append-through)
