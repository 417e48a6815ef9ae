use Rattle.std.proofs.Common.{ap, ◌∙◌}
use Rattle.hc_records.specs.Line.{line}
use Rattle.hc_places.specs.Table.{place_in}
use Rattle.hc_program.proofs.VariablePlaces.{variable_found}
use Rattle.hc_program.proofs.commands.place.numbered_place.Goals as goal

pub returns-in-Some : goal.returns-in-Some
returns-in-Some c =
    c.place.ensures
    ∙ ap (λ table. place_in table c.in-Some.variable) c.places.ensures.table
    ∙ variable_found (line c.args.plan.now) c.args.number c.in-Some.variable c.in-Some.ensures
