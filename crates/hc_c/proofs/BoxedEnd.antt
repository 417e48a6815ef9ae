-- A task's end with its allocator, under the names that a walk over a box asks for.
use mathlib.Core.List.{[]}
use mir.Syntax.{impl, tnil, dnil}
use denote.Signature.{Slot, plain}
use Rattle.std_alloc.proofs.BoxSteps.Form.{Bx}
use Rattle.std_heap.specs.contracts.Global as allocator
use Rattle.std_heap.specs.contracts.GlobalAllocator.TheImpl as allocates
use Rattle.std_heap.proofs.Global.TheLaws as allocator_laws
use Rattle.hc_c.specs.contracts.seat.ends.TaskEnd as end
use Rattle.hc_c.proofs.seat.ends.TaskEnd.TheLaws as end_laws
use Rattle.hc_c.specs.contracts.handle.unboxed.Unboxed as unboxed
use Rattle.hc_c.specs.contracts.seat.handle.SeatHolding as holding

-- a box of it
abbrev pub Own : Bx
Own = record {
  row = end.the_row;
  laws = end_laws.the_row_laws;
  al = record { row = allocator.the_row; laws = allocator_laws.the_row_laws; g = allocates.ghosts; d = allocates.dict; drops = impl [] tnil dnil };
}

-- that box taken apart, and what C holds of it, as a function's first parameter
abbrev pub Apart : Slot 0
Apart = plain (λ _. unboxed.the_row end.the_row allocator.the_row allocates.ghosts)

abbrev pub Held : Slot 0
Held = plain (λ _. holding.the_row)
