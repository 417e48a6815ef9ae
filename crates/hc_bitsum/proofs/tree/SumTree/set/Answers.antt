use Rattle.std.proofs.Common.{◌≡◌, ◌∙◌, ℕ, ap, subst, sym, arith}
use Rattle.hc_records.specs.declared.records.Dir.{Dir}
use Rattle.hc_records.specs.declared.records.Dir.TheVariants.{Out, In}
use Rattle.hc_records.specs.declared.keys.Key.{Key}
use Rattle.hc_bitsum.specs.Branch.{branch_slots}
use Rattle.hc_bitsum.specs.Slots.{Slots, key_at, set_at, with_bits}
use Rattle.hc_bitsum.specs.Tree.{HasPlace, Tree}
use Rattle.hc_bitsum.proofs.Unchanged.{holds-list}
use Rattle.hc_bitsum.proofs.Halves.{wide-inputs, wide-outputs, with_bits-stays}
use Rattle.hc_bitsum.proofs.tree.SumTree.set.Goals as goal

-- the place of an area whose width is set
placed-at : (slaves own : ℕ) (key there : Key) → own ≡ slaves → key ≡ there → HasPlace slaves key → HasPlace own there
placed-at slaves own key there same is has = subst (λ (k : Key). HasPlace own k) is (subst (λ (n : ℕ). HasPlace n key) (sym same) has)

pub invariant_of-self : goal.invariant_of-self
invariant_of-self c =
    let place = c.place_of-place.result in
    let key : c.args.key ≡ key_at Out place = c.place_of-place.ensures.value ∙ ap (λ (d : Dir). key_at d place) c.in-Out.is in
    let slaves : c.self.inside.slaves ≡ c.args.self.now.slaves = ap (λ (tree : Tree). tree.slaves) c.self.view_is in
    let own = placed-at c.args.self.now.slaves c.self.inside.slaves c.args.key (key_at Out place) slaves key c.requires.place in
    record {
      outs = rw c.set.ensures.slots (with_bits-stays Out c.self.inside.slaves (branch_slots c.self.inside.outputs) place c.args.bits c.requires.narrow own c.self.invariant.outs);
      ins = c.self.invariant.ins;
      out_sums = c.set.ensures.branch;
      in_sums = c.self.invariant.in_sums;
    }

pub invariant_of-self-in-In : goal.invariant_of-self-in-In
invariant_of-self-in-In c =
    let place = c.place_of-place.result in
    let key : c.args.key ≡ key_at In place = c.place_of-place.ensures.value ∙ ap (λ (d : Dir). key_at d place) c.in-In.is in
    let slaves : c.self.inside.slaves ≡ c.args.self.now.slaves = ap (λ (tree : Tree). tree.slaves) c.self.view_is in
    let own = placed-at c.args.self.now.slaves c.self.inside.slaves c.args.key (key_at In place) slaves key c.requires.place in
    record {
      outs = c.self.invariant.outs;
      ins = rw c.set-in-In.ensures.slots (with_bits-stays In c.self.inside.slaves (branch_slots c.self.inside.inputs) place c.args.bits c.requires.narrow own c.self.invariant.ins);
      out_sums = c.self.invariant.out_sums;
      in_sums = c.set-in-In.ensures.branch;
    }

pub returns-in-Out-clause-set : goal.returns-in-Out-clause-set
returns-in-Out-clause-set c = grind (arith, wide-outputs)

pub returns-in-In-clause-set : goal.returns-in-In-clause-set
returns-in-In-clause-set c = grind (arith, wide-inputs)

pub returns-in-Out-clause-holds : goal.returns-in-Out-clause-holds
returns-in-Out-clause-holds c =
    let place = c.place_of-place.result in
    let key : c.args.key ≡ key_at Out place = c.place_of-place.ensures.value ∙ ap (λ (d : Dir). key_at d place) c.in-Out.is in
    let slaves : c.self.inside.slaves ≡ c.args.self.now.slaves = ap (λ (tree : Tree). tree.slaves) c.self.view_is in
    let own = placed-at c.args.self.now.slaves c.self.inside.slaves c.args.key (key_at Out place) slaves key c.requires.place in
    let stays = with_bits-stays Out c.self.inside.slaves (branch_slots c.self.inside.outputs) place c.args.bits c.requires.narrow own c.self.invariant.outs in
    let areas : (branch_slots c.set.new.self).areas ≡ set_at place c.args.bits (branch_slots c.self.inside.outputs).areas = ap (λ (s : Slots). s.areas) c.set.ensures.slots in
    rw areas (holds-list c.self.inside.slaves (with_bits (branch_slots c.self.inside.outputs) place c.args.bits) (branch_slots c.self.inside.inputs) stays c.self.invariant.ins)

pub returns-in-In-clause-holds : goal.returns-in-In-clause-holds
returns-in-In-clause-holds c =
    let place = c.place_of-place.result in
    let key : c.args.key ≡ key_at In place = c.place_of-place.ensures.value ∙ ap (λ (d : Dir). key_at d place) c.in-In.is in
    let slaves : c.self.inside.slaves ≡ c.args.self.now.slaves = ap (λ (tree : Tree). tree.slaves) c.self.view_is in
    let own = placed-at c.args.self.now.slaves c.self.inside.slaves c.args.key (key_at In place) slaves key c.requires.place in
    let stays = with_bits-stays In c.self.inside.slaves (branch_slots c.self.inside.inputs) place c.args.bits c.requires.narrow own c.self.invariant.ins in
    let areas : (branch_slots c.set-in-In.new.self).areas ≡ set_at place c.args.bits (branch_slots c.self.inside.inputs).areas = ap (λ (s : Slots). s.areas) c.set-in-In.ensures.slots in
    rw areas (holds-list c.self.inside.slaves (branch_slots c.self.inside.outputs) (with_bits (branch_slots c.self.inside.inputs) place c.args.bits) c.self.invariant.outs stays)
