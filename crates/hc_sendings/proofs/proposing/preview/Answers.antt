use Rattle.std.proofs.Common.{◌∙◌, ℕ, ap, sym, cond, Bool, get_or}
use Rattle.std.specs.Prelude.{None, Some}
use Rattle.hc_places.specs.declared.table.Datagram.{Datagram}
use Rattle.hc_places.specs.Table.{Table, datagrams_in}
use Rattle.hc_events.specs.Sendings.{frame_of_one}
use Rattle.hc_sendings.proofs.Previewed.{preview-listed}
use Rattle.hc_sendings.proofs.proposing.preview.Goals as goal

abbrev blank : Datagram
blank = record { address = 0; length = 0; expected = 0; offset = 0 }

pub returns : goal.returns
returns c =
    let listed = c.datagrams-datagrams.ensures.datagrams ∙ ap (λ (table : Table). datagrams_in table c.args.task) c.places.ensures.table in
    let all = preview-listed c.args.plan.now c.args.serial c.args.task c.args.number c.datagrams-datagrams.result.now blank c.is_sendable.result c.places.ensures.project listed c.is_sendable.ensures in
    ap Some c.of.ensures
    ∙ ap (λ (n : ℕ). Some (frame_of_one c.args.serial (c.args.task, c.args.number) (get_or c.datagrams-datagrams.result.now n blank).length)) c.from.ensures
    ∙ ap (λ (b : Bool). cond b (Some (frame_of_one c.args.serial (c.args.task, c.args.number) (get_or c.datagrams-datagrams.result.now c.args.number blank).length)) None) (sym c.if-not-is_sendable.false)
    ∙ sym all

pub returns-then-not-is_sendable : goal.returns-then-not-is_sendable
returns-then-not-is_sendable c =
    let listed = c.datagrams-datagrams.ensures.datagrams ∙ ap (λ (table : Table). datagrams_in table c.args.task) c.places.ensures.table in
    let all = preview-listed c.args.plan.now c.args.serial c.args.task c.args.number c.datagrams-datagrams.result.now blank c.is_sendable.result c.places.ensures.project listed c.is_sendable.ensures in
    ap (λ (b : Bool). cond b (Some (frame_of_one c.args.serial (c.args.task, c.args.number) (get_or c.datagrams-datagrams.result.now c.args.number blank).length)) None) (sym c.if-not-is_sendable.true)
    ∙ sym all
