use Rattle.std.proofs.Common.{◌≡◌, ◌++◌, ◌∷◌, [], cond, Bool, false, sym, ap, ◌∙◌, append-nil, arith}
use Rattle.std.proofs.lemmas.Bool.Decides.{nat_tests}
use Rattle.hc_machine.specs.Fmmus.{fmmu_block_at, fmmu_of, is_active}
use Rattle.hc_machine.proofs.Mapped.{activation-at, idle-unmet}
use Rattle.hc_machine.proofs.fmmu.add_mapped.Goals as goal

pub returns-then-memory-from-ne1-clause-value : goal.returns-then-memory-from-ne1-clause-value
returns-then-memory-from-ne1-clause-value c =
    let a = c.args in
    let same = activation-at a.memory.now a.i in
    let t = c.if-memory-from-ne1.true in
    let off : is_active (fmmu_block_at a.memory.now a.i) ≡ false = grind (arith, nat_tests) in
    let f = fmmu_of (fmmu_block_at a.memory.now a.i) in
    sym (append-nil a.mapped.now.items) ∙ ap (λ (b : Bool). a.mapped.now.items ++ cond b (f ∷ []) []) (sym (idle-unmet (fmmu_block_at a.memory.now a.i) a.from a.n off))
