use Rattle.std.proofs.Common.{◌≡◌, ◌+◌, ◌-◌, ◌*◌, ◌%◌, ◌/◌, ◌==◌, true, min, refl, arith}
use Rattle.hc_machine.specs.Fmmus.{fmmu_of, first_logical, first_memory, end_logical, is_active, is_read, is_write_fmmu}
use Rattle.hc_machine.proofs.fmmu.fmmu_of.Goals as goal

pub returns-clause-value : goal.returns-clause-value
unfolding fmmu_of
returns-clause-value c =
    let block = c.args.block.now in
    let on : is_active block ≡ true = c.requires in
    let logical : 8 * c.logical_start_address-start.result + c.from.result ≡ first_logical block = omega arith in
    let end : c.end_logical-end.result ≡ end_logical block = c.end_logical-end.ensures in
    let memory : c.min-memory.result ≡ first_memory block = omega arith in
    let width : c.min.result ≡ min (end_logical block - first_logical block) (98304 - first_memory block) = cc in
    let reads : (c.fmmu_type.result % 2 == 1) ≡ is_read block = cc in
    let writes : (c.fmmu_type-2.result / 2 % 2 == 1) ≡ is_write_fmmu block = cc in
    rw (on, logical, memory, width, reads, writes) refl
