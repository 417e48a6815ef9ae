use Rattle.std.proofs.Common.{◌≡◌, ℕ, List, ◌++◌, [], ◌∷◌, cond, map, sym, ap, ◌∙◌, arith}
use Rattle.std.specs.Prelude.{filter}
use Rattle.std.specs.List.{range_with_len}
use Rattle.std.proofs.lemmas.List.FromFn.{filter_of_map_range_with_len_more}
use Rattle.hc_machine.specs.declared.fmmu.Fmmu.{Fmmu}
use Rattle.hc_machine.specs.Fmmus.{fmmu_block_at, fmmu_of, fmmus_of}
use Rattle.hc_machine.specs.Logical.{fmmu_meets}
use Rattle.hc_machine.proofs.fmmu.add_all_mapped.Goals as goal

pub loop-i-preserved : goal.loop-i-preserved
loop-i-preserved c =
    let a = c.args in
    let i = c.loop-i.invariant in
    record {
      value = c.add_mapped.ensures.value ∙ ap (λ (xs : List Fmmu). xs ++ cond (fmmu_meets a.from a.n (fmmu_of (fmmu_block_at a.memory.now c.loop-i.i))) (fmmu_of (fmmu_block_at a.memory.now c.loop-i.i) ∷ []) []) i.value
          ∙ sym (filter_of_map_range_with_len_more (fmmu_meets a.from a.n) (λ i. fmmu_of (fmmu_block_at a.memory.now i)) 0 c.loop-i.i c.loop-i.i (omega arith));
      few = let more = c.add_mapped.ensures.room in omega arith;
      in_memory = c.add_mapped.ensures.in_memory;
    }

pub returns-clause-value : goal.returns-clause-value
unfolding fmmus_of
returns-clause-value c =
    let a = c.args in
    let all : c.loop-i.i ≡ 16 = omega arith in
    c.loop-i.invariant.value ∙ ap (λ (n : ℕ). filter (fmmu_meets a.from a.n) (map (λ i. fmmu_of (fmmu_block_at a.memory.now i)) (range_with_len 0 n))) all
