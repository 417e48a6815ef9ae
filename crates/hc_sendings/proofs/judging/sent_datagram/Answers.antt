use Rattle.std.proofs.Common.{◌≡◌, ◌∙◌, Bool, ap, cond, sym}
use Rattle.std.specs.Prelude.{None, Some}
use Rattle.hc_records.specs.Line.{line}
use Rattle.hc_places.specs.Table.{Table, datagram_in, datagram_of}
use Rattle.hc_sendings.proofs.Rows.{row-back, row-is}
use Rattle.hc_sendings.proofs.judging.sent_datagram.Goals as goal

pub returns-in_err-sent : goal.returns-in_err-sent
returns-in_err-sent c =
    let row = c.datagram.ensures.datagram ∙ ap (λ (table : Table). datagram_in table c.args.datagram.0 c.args.datagram.1) c.places.ensures.table
    ∙ row-is (line c.args.plan.now) c.args.datagram c.requires.named.task c.requires.in_line in
    let never : None ≡ Some (datagram_of (line c.args.plan.now) c.args.datagram.0 c.args.datagram.1) = sym c.in_err-sent.was ∙ row in
    cc

pub returns-then-is_of : goal.returns-then-is_of
returns-then-is_of c =
    let row = c.datagram.ensures.datagram ∙ ap (λ (table : Table). datagram_in table c.args.datagram.0 c.args.datagram.1) c.places.ensures.table
    ∙ row-is (line c.args.plan.now) c.args.datagram c.requires.named.task c.requires.in_line in
    ap (λ (b : Bool). cond b (Some c.in_ok-sent.sent) None) (sym c.if-is_of.true)
    ∙ row-back (line c.args.plan.now) c.args.datagram c.args.part.now.carried c.in_ok-sent.sent c.is_of.result (sym c.in_ok-sent.was ∙ row) (c.is_of.ensures c.args.datagram)

pub returns-else-is_of : goal.returns-else-is_of
returns-else-is_of c =
    let row = c.datagram.ensures.datagram ∙ ap (λ (table : Table). datagram_in table c.args.datagram.0 c.args.datagram.1) c.places.ensures.table
    ∙ row-is (line c.args.plan.now) c.args.datagram c.requires.named.task c.requires.in_line in
    ap (λ (b : Bool). cond b (Some c.in_ok-sent.sent) None) (sym c.if-is_of.false)
    ∙ row-back (line c.args.plan.now) c.args.datagram c.args.part.now.carried c.in_ok-sent.sent c.is_of.result (sym c.in_ok-sent.was ∙ row) (c.is_of.ensures c.args.datagram)
