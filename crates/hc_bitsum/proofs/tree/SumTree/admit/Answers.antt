use Rattle.std.proofs.Common.{◌≡◌, ◌≤◌, ap, refl, arith}
use Rattle.hc_records.specs.declared.records.Dir.TheVariants.{Out, In}
use Rattle.hc_bitsum.specs.Branch.{branch_slots}
use Rattle.hc_bitsum.specs.Tree.{HasRoom, Tree}
use Rattle.hc_bitsum.proofs.Unchanged.{holds-list}
use Rattle.hc_bitsum.proofs.More.{holds-more, stays-more}
use Rattle.hc_bitsum.proofs.tree.SumTree.admit.Goals as goal

pub invariant_of-self : goal.invariant_of-self
invariant_of-self c =
    let slaves : c.self.inside.slaves ≡ c.args.self.now.slaves = ap (λ (tree : Tree). tree.slaves) c.self.view_is in
    let more : c.self.inside.slaves ≤ c.args.slaves = let least = c.requires.more in omega arith in
    let room : HasRoom c.self.inside.slaves c.args.slaves = rw slaves c.requires.room in
    record {
      outs = stays-more Out c.self.inside.slaves c.args.slaves c.self.inside.outputs.levels (branch_slots c.self.inside.outputs) more room refl c.self.invariant.outs;
      ins = stays-more In c.self.inside.slaves c.args.slaves c.self.inside.inputs.levels (branch_slots c.self.inside.inputs) more room refl c.self.invariant.ins;
      out_sums = c.self.invariant.out_sums;
      in_sums = c.self.invariant.in_sums;
    }

pub returns-clause-admitted : goal.returns-clause-admitted
returns-clause-admitted c = ap (λ (tree : Tree). let own : Tree = record { slaves = c.args.slaves; list = tree.list } in own) c.self.view_is

pub returns-clause-holds : goal.returns-clause-holds
returns-clause-holds c =
    let slaves : c.self.inside.slaves ≡ c.args.self.now.slaves = ap (λ (tree : Tree). tree.slaves) c.self.view_is in
    holds-more c.self.inside.slaves c.args.slaves _ (let least = c.requires.more in omega arith)
    (holds-list c.self.inside.slaves (branch_slots c.self.inside.outputs) (branch_slots c.self.inside.inputs) c.self.invariant.outs c.self.invariant.ins)
