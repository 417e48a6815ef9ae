use Rattle.std.proofs.Common.{◌+◌, ◌*◌, List, Bool, length, refl, ap, ap₂, ◌∙◌}
use Rattle.std.specs.Prelude.{if◌then◌else◌}
use Rattle.std.specs.List.{list_any}
use Rattle.hc_machine.specs.declared.fmmu.Fmmu.{Fmmu}
use Rattle.hc_machine.specs.Fmmus.{fmmus_of}
use Rattle.hc_machine.specs.Logical.{logical_count, logical_data, logical_memory}
use Rattle.hc_machine.specs.Memory.{with_alias_of}
use Rattle.hc_machine.proofs.Mapped.{reads-mapped, writes-mapped}
use Rattle.hc_machine.proofs.logical.serve_logical.Goals as goal

pub returns-clause-data : goal.returns-clause-data
unfolding logical_data
returns-clause-data c = c.exchange_data.ensures.data

pub returns-clause-memory : goal.returns-clause-memory
unfolding logical_memory with_alias_of
returns-clause-memory c =
    c.put_back.ensures ∙ rw (c.exchange_data.ensures.memory, c.alias_of-alias.ensures.0, c.alias_of-alias.ensures.1) refl

pub returns-clause-count : goal.returns-clause-count
unfolding logical_count
returns-clause-count c =
    let a = c.args in
    let from = 8 * a.address in
    let size = 8 * length a.bytes.now in
    c.count_of.ensures.value
    ∙ ap (λ (fs : List Fmmu). (if list_any (λ f. f.reads) fs then 1 else 0) + (if list_any (λ f. f.writes) fs then 2 else 0)) (c.as_slice-fmmus.ensures.value ∙ c.add_all_mapped.ensures.value)
    ∙ ap₂ (λ (x y : Bool). (if x then 1 else 0) + (if y then 2 else 0)) (reads-mapped (fmmus_of a.memory.now) from size) (writes-mapped (fmmus_of a.memory.now) from size)
