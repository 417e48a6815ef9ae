-- The handle of a seat after the end that it lent was changed.
use Rattle.std.specs.Borrow.{Fml, Lends, MutBor}
use Rattle.std.specs.declared.option.Option.TheVariants.{Some}
use Rattle.hc_c.specs.contracts.seat.ends.TaskEnd as end
use Rattle.hc_c.specs.contracts.seat.handle.SeatHolding as holding
use Rattle.hc_c.specs.declared.seat.ends.TaskEnd.{TaskEnd}
use Rattle.hc_c.specs.declared.seat.handle.SeatHolding.{SeatHolding}

-- this end, at the address of the other
abbrev pub with_end : SeatHolding → TaskEnd → SeatHolding
with_end held own = record held { value = Some own }

-- the handle holds the end as the borrower leaves it
abbrev pub LendsEnd : MutBor SeatHolding → MutBor TaskEnd → Fml
LendsEnd held own = Lends holding.the_row end.the_row held own (with_end held.now)
