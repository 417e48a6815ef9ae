use Rattle.std.proofs.Common.{ℕ, Option, refl, subst, sym}
use Rattle.std.specs.Prelude.{IfSome}
use Rattle.hc_c.specs.Seats.{AreLookerEnds, AddsLooker}
use Rattle.hc_c.specs.declared.seat.ends.TaskEnd.{TaskEnd}
use Rattle.hc_c.proofs.seat.looking.open_looker.Goals as goal

pub returns-clause-opened : goal.returns-clause-opened
returns-clause-opened c done =
    let own = c.args.own.now in
    subst (λ (held : Option TaskEnd). IfSome held (AddsLooker c.args.number c.args.task own (record own { ends = c.place_looker.new.self }))) (sym c.of.ensures) (record {
      owner = c.in-Ok.owner;
      placed = c.place_looker.ensures.placed;
      seats = c.place_looker.ensures.seats;
      others = refl;
      ends = subst (λ (first : ℕ). AreLookerEnds own.core.history c.args.task first c.in-Ok.owner c.in-Ok.end.value) c.first_serial-first.ensures c.in-Ok.ensures;
    })
