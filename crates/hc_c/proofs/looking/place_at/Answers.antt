use Rattle.std.proofs.Common.{◌≡◌, ◌∙◌, ap, sym, None, Some}
use Rattle.std.specs.Prelude.{option_and_then}
use Rattle.hc_records.specs.Line.{State, line}
use Rattle.hc_records.specs.Variables.{variable_of}
use Rattle.hc_events.specs.Points.{state_of}
use Rattle.hc_places.specs.Table.{Table, place_in, table_of}
use Rattle.hc_c.specs.Looks.{place_numbered}
use Rattle.hc_c.proofs.looking.place_at.Goals as goal

pub returns-in-Some : goal.returns-in-Some
unfolding place_numbered
returns-in-Some c =
    let table = c.places.ensures.table ∙ ap (λ (state : State). table_of (line state)) c.plan.ensures.state in
    let named : Some c.in-Some.variable ≡ variable_of c.args.number = sym c.in-Some.is ∙ c.new.ensures in
    c.place.ensures ∙ ap (λ (it : Table). place_in it c.in-Some.variable) table
    ∙ ap (option_and_then (place_in (table_of (line (state_of c.args.core.now.history))))) named

pub returns-in-None : goal.returns-in-None
unfolding place_numbered
returns-in-None c =
    let none : None ≡ variable_of c.args.number = sym c.in-None.is ∙ c.new.ensures in
    ap (option_and_then (place_in (table_of (line (state_of c.args.core.now.history))))) none
