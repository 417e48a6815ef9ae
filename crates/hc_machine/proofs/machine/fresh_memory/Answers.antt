use Rattle.std.proofs.Common.{◌≡◌, ℕ, List, length, ap, ◌∙◌, arith}
use Rattle.std.specs.Int.{w16, to_le_bytes}
use Rattle.std.proofs.lemmas.List.{take_at}
use Rattle.hc_machine.specs.Memory.{with_part}
use Rattle.hc_machine.proofs.machine.fresh_memory.Goals as goal

pub returns-clause-items : goal.returns-clause-items
returns-clause-items c =
    let long : length c.put_part.new.bytes ≡ c.in_ok-memory.memory.len = omega arith in
    take_at c.put_part.new.bytes _ c.in_ok-memory.memory.len long ∙ c.put_part.ensures
    ∙ ap (λ (at : ℕ). with_part at c.to_le_bytes.result c.deref_mut.result.now) c.from.ensures
    ∙ ap (λ (part : List ℕ). with_part 18 part c.deref_mut.result.now) c.to_le_bytes.ensures
    ∙ ap (with_part 18 (to_le_bytes w16 c.args.alias)) (c.deref_mut.ensures.value ∙ c.in_ok-memory.ensures.items)
