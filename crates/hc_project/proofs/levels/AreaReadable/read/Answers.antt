use Rattle.toml.specs.View.{view}
use Rattle.hc_project.proofs.Areas.{area_is}
use Rattle.hc_project.proofs.levels.AreaReadable.read.Goals as goal

pub returns : goal.returns
returns c =
    area_is c.args.most c.args.place c.in_area-here.result c.args.index (view c.args.value.now)
    c.read_byte-sm.result c.read_direction-dir.result c.read_word-phys.result c.read_byte-task.result
    c.in_ok-assigned.assigned c.in_ok-offered.offered c.over.result c.outside_if.result c.joined.result
    c.in_area-here.ensures
    (rw (c.get.ensures, c.with_key.ensures) at c.read_byte-sm.ensures)
    (rw (c.get-2.ensures, c.with_key-2.ensures) at c.read_direction-dir.ensures)
    (rw (c.get-3.ensures, c.with_key-at_phys.ensures) at c.read_word-phys.ensures)
    (rw (c.get-4.ensures, c.with_key-3.ensures) at c.read_byte-task.ensures)
    (rw c.get-5.ensures at c.in_ok-assigned.ensures)
    (rw c.get-6.ensures at c.in_ok-offered.ensures)
    c.over.ensures
    (rw (c.is_past_memory.ensures, c.with_key-at_phys.ensures) at c.outside_if.ensures)
    c.joined.ensures
