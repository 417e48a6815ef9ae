use Rattle.std.proofs.Common.{◌≡◌, ◌/◌, ◌%◌, ℕ, List, [], get_or, length, set, ap, subst, sym, ◌∙◌, arith, length-set}
use Rattle.std.specs.Vec.{with_items}
use Rattle.std.proofs.lemmas.List.{get_or_default, with_items_is}
use Rattle.std.proofs.lemmas.List.Elements.{All-get_or, All-set}
use Rattle.hc_bitsum.specs.Branch.{AreSums}
use Rattle.hc_bitsum.specs.Rows.{IsRow}
use Rattle.hc_bitsum.proofs.Anew.{part-set, set-row}
use Rattle.hc_bitsum.proofs.Nodes.{row-inside}
use Rattle.hc_bitsum.proofs.branch.Branch.set.Goals as goal

pub index_mut-requires : goal.index_mut-requires
index_mut-requires c = grind (arith, row-inside)

pub sum_anew-requires-clause-row : goal.sum_anew-requires-clause-row
sum_anew-requires-clause-row c = grind (arith, row-inside, length-set)

pub returns-clause-slots : goal.returns-clause-slots
returns-clause-slots c = grind (arith, row-inside, get_or_default, length-set, part-set)

pub returns-clause-branch : goal.returns-clause-branch
returns-clause-branch c =
    let branch = c.args.self.now in
    let rows = branch.rows.items in
    let r = c.args.at / 8 in
    let j = c.args.at % 8 in
    let inside = row-inside branch c.args.at c.requires.branch c.requires.within in
    let own : c.index_mut.result.now ≡ get_or rows r [] = c.index_mut.ensures.value ∙ get_or_default rows r c.index_mut.result.now [] inside in
    let row = set c.index_mut.result.now j c.args.bits in
    let many = c.sum_anew.ensures.nodes in
    let nodes = c.requires.branch.nodes in
    let same : (with_items branch.sums c.sum_anew.new.sums).items ≡ c.sum_anew.new.sums = with_items_is branch.sums c.sum_anew.new.sums (omega (arith, branch.sums.ok.0)) in
    let sums : AreSums branch.dir c.deref.result.now c.sum_anew.new.sums = c.sum_anew.ensures.sums in
    record {
      low = c.requires.branch.low;
      many = length-set rows r row ∙ c.requires.branch.many;
      nodes = ap length same ∙ many;
      each =
          rw own (All-set IsRow rows r (set (get_or rows r []) j c.args.bits)
          (set-row (get_or rows r []) j c.args.bits (All-get_or IsRow rows r [] inside c.requires.branch.each) c.requires.bits) c.requires.branch.each);
      are =
          subst (AreSums branch.dir (set rows r row)) (sym same)
          (subst (λ (xs : List (List ℕ)). AreSums branch.dir xs c.sum_anew.new.sums) c.deref.ensures.value sums);
    }
