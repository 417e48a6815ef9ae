-- The memory that C's handle owns: that of a box with the opened line, or none.
use base.Fml.{Fml, ftrue}
use base.Stored.{Coded}
use denote.RawPtr.{Ptr}
use Rattle.std.specs.Box.Ownership.{box_owns}
use Rattle.std.specs.Coded.{coded_option}
use Rattle.std.specs.Global.{Global}
use Rattle.std.specs.declared.option.Option.{Option}
use Rattle.std.specs.declared.option.Option.TheVariants.{None, Some}
use Rattle.std_heap.specs.contracts.GlobalAllocator.TheImpl.{ghosts}
use Rattle.hc_c.specs.contracts.embedded.Embedded.{the_row}

-- the memory of a line, if there is one, with the right to free it
abbrev pub owns_embedded : Global → Ptr → Option the_row.Denot → Fml
owns_embedded alloc at None = ftrue
owns_embedded alloc at (Some value) = box_owns (ghosts.dealloc_token alloc) the_row at value

-- the encoding of the content of a handle: a line, or none
abbrev pub embedded_coded : Coded (Option the_row.Denot)
embedded_coded = coded_option the_row.coded
