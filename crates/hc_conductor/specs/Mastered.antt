-- A master by its fields, as contracts see it.
use Rattle.hc_conductor.specs.declared.one_thread.master.Master.TheInside.{Inside}
use Rattle.hc_conductor.specs.Mastering.{IsMastering, Mastering}

-- the conductor and the seats
abbrev pub mastering_in : Inside → Mastering
mastering_in m = record { conductor = m.conductor; seats = m.seats.items }

-- the invariant of a master
abbrev pub IsSoundMaster : Inside → Type 0
IsSoundMaster m = IsMastering (mastering_in m)
