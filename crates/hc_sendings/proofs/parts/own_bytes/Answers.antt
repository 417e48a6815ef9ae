use Rattle.std.proofs.Common.{◌∙◌, ◌+◌, ◌<◌, ℕ, ap, arith, get_or, length}
use Rattle.hc_places.specs.declared.table.Datagram.{Datagram}
use Rattle.hc_places.specs.Table.{Table, datagrams_in}
use Rattle.hc_sendings.proofs.lemmas.Listed.{listed-count, listed-length}
use Rattle.hc_sendings.proofs.parts.own_bytes.Goals as goal

abbrev blank : Datagram
blank = record { address = 0; length = 0; expected = 0; offset = 0 }

pub bounds-datagrams-from : goal.bounds-datagrams-from
bounds-datagrams-from c =
    let task = c.args.datagram.0 in
    let listed = c.datagrams-datagrams.ensures.datagrams ∙ ap (λ (table : Table). datagrams_in table task) c.places.ensures.table in
    let count = listed-count c.args.plan.now task c.datagrams-datagrams.result.now c.places.ensures.project listed in
    omega (arith, c.requires, count, c.from.ensures)

pub returns-clause-bytes : goal.returns-clause-bytes
returns-clause-bytes c =
    let task = c.args.datagram.0 in
    let number = c.args.datagram.1 in
    let listed = c.datagrams-datagrams.ensures.datagrams ∙ ap (λ (table : Table). datagrams_in table task) c.places.ensures.table in
    let count = listed-count c.args.plan.now task c.datagrams-datagrams.result.now c.places.ensures.project listed in
    let inside : number < length c.datagrams-datagrams.result.now = omega (arith, c.requires, count) in
    let own = listed-length c.args.plan.now task number c.datagrams-datagrams.result.now blank c.places.ensures.project listed inside in
    ap (λ (n : ℕ). 12 + n) (c.from-2.ensures ∙ ap (λ (n : ℕ). (get_or c.datagrams-datagrams.result.now n blank).length) c.from.ensures ∙ own)
