-- The memory that C's handle of a seat owns: that of a box with the task's end, or none.
use base.Fml.{Fml, ftrue}
use base.Stored.{Coded}
use denote.RawPtr.{Ptr}
use Rattle.std.specs.Box.Ownership.{box_owns}
use Rattle.std.specs.Coded.{coded_option}
use Rattle.std.specs.Global.{Global}
use Rattle.std.specs.declared.option.Option.{Option}
use Rattle.std.specs.declared.option.Option.TheVariants.{None, Some}
use Rattle.std_heap.specs.contracts.GlobalAllocator.TheImpl.{ghosts}
use Rattle.hc_c.specs.contracts.seat.ends.TaskEnd.{the_row}

-- the memory of an end, if there is one, with the right to free it
abbrev pub owns_end : Global → Ptr → Option the_row.Denot → Fml
owns_end alloc at None = ftrue
owns_end alloc at (Some value) = box_owns (ghosts.dealloc_token alloc) the_row at value

-- the encoding of the content of a seat's handle: a task's end, or none
abbrev pub end_coded : Coded (Option the_row.Denot)
end_coded = coded_option the_row.coded
