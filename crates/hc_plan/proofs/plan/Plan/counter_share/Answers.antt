use Rattle.std.proofs.Common.{◌∙◌, List, ap, sym}
use Rattle.std.specs.Prelude.{option_and_then}
use Rattle.hc_records.specs.declared.records.Declared.{Declared}
use Rattle.hc_records.specs.Line.{State, line, line_from}
use Rattle.hc_places.specs.Table.{Table, datagram_in, table_of}
use Rattle.hc_plan.specs.Shares.{share_of}
use Rattle.hc_plan.proofs.plan.Plan.counter_share.Goals as goal

pub returns-in-Some-clause-value : goal.returns-in-Some-clause-value
returns-in-Some-clause-value c =
    let table = c.self.invariant.2 ∙ ap (λ (state : State). table_of (line state)) c.self.view_is in
    let row = sym (ap (λ (t : Table). datagram_in t c.args.task c.args.datagram) table) ∙ sym c.datagram.ensures.datagram ∙ c.in-Some.is in
    c.share_of.ensures.value
    ∙ ap (λ (groups : List Declared). share_of (line_from 1 groups) c.args.task c.args.datagram c.args.station) c.indexed.ensures
    ∙ sym (ap (option_and_then (λ found. share_of (line c.args.self.now) c.args.task c.args.datagram c.args.station)) row)

pub returns-in-None-clause-value : goal.returns-in-None-clause-value
returns-in-None-clause-value c =
    let table = c.self.invariant.2 ∙ ap (λ (state : State). table_of (line state)) c.self.view_is in
    let row = sym (ap (λ (t : Table). datagram_in t c.args.task c.args.datagram) table) ∙ sym c.datagram.ensures.datagram ∙ c.in-None.is in
    sym (ap (option_and_then (λ found. share_of (line c.args.self.now) c.args.task c.args.datagram c.args.station)) row)
