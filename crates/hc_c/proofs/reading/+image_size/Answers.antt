use Rattle.std.proofs.Common.{ℕ, ◌∙◌, ap, arith, length, rules, subst}
use Rattle.std.specs.Prelude.{All}
use Rattle.std.proofs.lemmas.List.Elements.{All-head, All-tail}
use Rattle.std.proofs.lemmas.List.Sums.{sum_by-cons}
use Rattle.hc_places.specs.declared.table.Datagram.{Datagram}
use Rattle.hc_places.specs.Ranges.{IsDatagram}
use Rattle.hc_c.specs.Reads.{image_size}
use Rattle.hc_c.proofs.reading.+image_size.Goals as goal

abbrev bytes_of : Datagram → ℕ
bytes_of datagram = datagram.length

pub image_size-requires : goal.image_size-requires
image_size-requires t c =
    let cut = c.in-Some.ensures.cases.0 in
    let few = ap length cut in (
      search rules,
      (omega (arith, few, c.requires.few), All-tail IsDatagram c.in-Some.first.now c.in-Some.rest.now (subst (All IsDatagram) cut c.requires.ranges)),
    )

pub overflow_add-result : goal.overflow_add-result
overflow_add-result t c =
    let cut = c.in-Some.ensures.cases.0 in
    let few = ap length cut in
    let own = (All-head IsDatagram c.in-Some.first.now c.in-Some.rest.now (subst (All IsDatagram) cut c.requires.ranges)).sendable.most in
    omega (arith, few, own, c.requires.few, c.from.ensures, c.image_size.ensures.most)

pub returns-clause-size : goal.returns-clause-size
returns-clause-size t c =
    let cut = c.in-Some.ensures.cases.0 in
    let sizes = ap image_size cut ∙ sum_by-cons bytes_of c.in-Some.first.now c.in-Some.rest.now in
    omega (arith, sizes, c.from.ensures, c.image_size.ensures.size)

pub returns-clause-most : goal.returns-clause-most
returns-clause-most t c =
    let cut = c.in-Some.ensures.cases.0 in
    let few = ap length cut in
    let own = (All-head IsDatagram c.in-Some.first.now c.in-Some.rest.now (subst (All IsDatagram) cut c.requires.ranges)).sendable.most in
    omega (arith, few, own, c.from.ensures, c.image_size.ensures.most)
