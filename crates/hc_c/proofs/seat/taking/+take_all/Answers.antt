use Rattle.std.proofs.Common.{◌≡◌, ℕ, ◌+◌, ◌*◌, false, List, ◌∷◌, Option, ap, subst, sym, ◌∙◌}
use Rattle.hc_c.specs.SeatEnds.{has_seat_from}
use Rattle.hc_c.specs.TakenPosts.{TakesAll}
use Rattle.hc_c.specs.declared.seat.ends.OwnerEnd.{OwnerEnd}
use Rattle.hc_c.proofs.SeatEnds.{takes-none}
use Rattle.hc_c.proofs.TakenBits.{byte_is}
use Rattle.hc_c.proofs.seat.taking.+take_all.Goals as goal

pub returns-clause-taken : goal.returns-clause-taken
returns-clause-taken t c =
    let others = c.take_all-others.result in
    let accepted = c.from.result + 2 * others.0 in
    let refused = c.from-2.result + 2 * others.1 in
    subst (λ (ends : List (Option OwnerEnd)). TakesAll c.args.task c.args.core.now c.take_all-others.new.core ends (c.take_end-accepted.new.end ∷ c.take_all-others.new.ends) accepted refused) (sym c.in-Some.ensures.cases.0) (
      c.take_end-accepted.new.core,
      c.take_end-accepted.result,
      (others.0, others.1),
      c.take_end-accepted.ensures,
      c.take_all-others.ensures.taken,
      ap (λ n. n + 2 * others.0) (c.from.ensures ∙ byte_is _),
      ap (λ n. n + 2 * others.1) (c.from-2.ensures ∙ byte_is _),
    )

pub returns-then-count-eq0-clause-taken : goal.returns-then-count-eq0-clause-taken
returns-then-count-eq0-clause-taken t c =
    takes-none c.args.task c.args.core.now c.args.ends.now (subst (λ (n : ℕ). has_seat_from n c.args.ends.now ≡ false) c.if-count-eq0.true c.requires.none)
