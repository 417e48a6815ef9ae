use Rattle.std.specs.Prelude.{replicate}
use Rattle.std.proofs.Common.{◌≡◌, ◌*◌, ◌^◌, rules}
use Rattle.std.proofs.lemmas.List.{length-replicate}
use Rattle.hc_bitsum.specs.declared.sum.Sum.TheVariants.{Empty}
use Rattle.hc_bitsum.proofs.Blank.{blank-each, blank-many, blank-sums, blank_rows}
use Rattle.hc_bitsum.proofs.branch.Branch.blank.Goals as goal

pub returns-clause-branch : goal.returns-clause-branch
returns-clause-branch c =
    let levels = c.args.levels in
    let rows : c.in_ok-from_elem.field-0.items ≡ blank_rows levels = search rules in
    let sums : c.in_ok-from_elem-2.field-0.items ≡ replicate (2 * 2 ^ levels) Empty = search rules in
    record {
      low = c.requires.low;
      many = rw rows (blank-many levels);
      nodes = rw sums (length-replicate (2 * 2 ^ levels) Empty);
      each = rw rows (blank-each levels);
      are = rw (rows, sums) (blank-sums c.args.dir levels);
    }
