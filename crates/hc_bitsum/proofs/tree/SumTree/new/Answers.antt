use Rattle.std.proofs.Common.{◌≡◌, ◌∙◌, ◌++◌, List, ap}
use Rattle.std.specs.Prelude.{filter}
use Rattle.std.proofs.lemmas.List.Elements.{filter-append}
use Rattle.hc_records.specs.declared.records.Dir.TheVariants.{Out, In}
use Rattle.hc_records.specs.TaskList.{Keyed}
use Rattle.hc_bitsum.specs.Branch.{branch_slots}
use Rattle.hc_bitsum.specs.Rows.{blank_slots}
use Rattle.hc_bitsum.specs.Slots.{Slots}
use Rattle.hc_bitsum.specs.Tree.{Tree, has_width}
use Rattle.hc_bitsum.proofs.Blank.{blank-empty, blank-stays}
use Rattle.hc_bitsum.proofs.tree.SumTree.new.Goals as goal

pub invariant_of-result : goal.invariant_of-result
invariant_of-result c = record {
  outs = rw c.in_ok-blank.ensures.slots (blank-stays Out c.args.slaves c.levels_of-levels.result c.levels_of-levels.ensures.room c.levels_of-levels.ensures.low);
  ins = rw c.in_ok-blank-2.ensures.slots (blank-stays In c.args.slaves c.levels_of-levels.result c.levels_of-levels.ensures.room c.levels_of-levels.ensures.low);
  out_sums = c.in_ok-blank.ensures.branch;
  in_sums = c.in_ok-blank-2.ensures.branch;
}

pub returns : goal.returns
returns c =
    let levels = c.levels_of-levels.result in
    let outs : (branch_slots c.in_ok-blank.field-0).areas ≡ (blank_slots Out levels).areas = ap (λ (s : Slots). s.areas) c.in_ok-blank.ensures.slots in
    let ins : (branch_slots c.in_ok-blank-2.field-0).areas ≡ (blank_slots In levels).areas = ap (λ (s : Slots). s.areas) c.in_ok-blank-2.ensures.slots in
    let none = filter-append has_width (branch_slots c.in_ok-blank.field-0).areas (branch_slots c.in_ok-blank-2.field-0).areas
    ∙ ap (λ (areas : List Keyed). filter has_width areas ++ filter has_width (branch_slots c.in_ok-blank-2.field-0).areas) outs
    ∙ ap (λ (areas : List Keyed). filter has_width (blank_slots Out levels).areas ++ filter has_width areas) ins
    ∙ ap (λ (areas : List Keyed). areas ++ filter has_width (blank_slots In levels).areas) (blank-empty Out levels)
    ∙ blank-empty In levels in
    ap (λ (list : List Keyed). let tree : Tree = record { slaves = c.args.slaves; list = list } in tree) none
