-- The handle after the line that it lent was changed.
use Rattle.std.specs.Borrow.{Fml, Lends, MutBor}
use Rattle.std.specs.declared.option.Option.TheVariants.{Some}
use Rattle.hc_c.specs.contracts.embedded.Embedded as line
use Rattle.hc_c.specs.contracts.handle.Holding as holding
use Rattle.hc_c.specs.declared.embedded.Embedded.{Embedded}
use Rattle.hc_c.specs.declared.handle.Holding.{Holding}

-- this line, at the address of the other
abbrev pub with_line : Holding → Embedded → Holding
with_line held own = record held { value = Some own }

-- the handle holds the line as the borrower leaves it
abbrev pub LendsLine : MutBor Holding → MutBor Embedded → Fml
LendsLine held own = Lends holding.the_row line.the_row held own (with_line held.now)
