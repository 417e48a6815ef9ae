use Rattle.std.proofs.Common.{◌≡◌, ℕ, ◌/◌, ◌-◌, Option, None, length, sym, ap, subst, arith}
use Rattle.std.specs.Prelude.{MatchOption, slice_get}
use Rattle.hc_owed.specs.Holders.{IsHolder, holding_slaves}
use Rattle.hc_owed.proofs.HoldingUp.{back-holder, front-holder, no-holder}
use Rattle.hc_owed.proofs.readiness.Readiness.held_by.Goals as goal

pub returns-in_err-found : goal.returns-in_err-found
returns-in_err-found c = λ known held unplugged state is.
    subst (λ (o : Option ℕ). MatchOption o (slice_get (holding_slaves known held unplugged state c.args.task) c.args.n ≡ None) (IsHolder known held unplugged state c.args.task c.args.n)) (sym c.from_residual.ensures)
    (no-holder known held unplugged state c.args.self.now c.args.task c.requires is c.args.n c.in_err-found.ensures.value)

pub returns-then-found-slaves : goal.returns-then-found-slaves
returns-then-found-slaves c = λ known held unplugged state is.
    let own = ap length c.self.view_is in
    let items = c.self.inside.areas in
    let size : c.len-slaves.result / 8 ≡ length c.args.self.now / 8 = omega (arith, c.len-slaves.ensures, items.ok.0, own) in
    front-holder known held unplugged state c.args.self.now c.args.task c.requires is c.args.n c.in_ok-found.found c.in_ok-found.ensures.value (omega (arith, size, c.if-found-slaves.true))

pub returns : goal.returns
returns c = λ known held unplugged state is.
    let own = ap length c.self.view_is in
    let items = c.self.inside.areas in
    let size : c.len-slaves.result / 8 ≡ length c.args.self.now / 8 = omega (arith, c.len-slaves.ensures, items.ok.0, own) in
    let same : c.in_ok-found.found - length c.args.self.now / 8 ≡ c.in_ok-found.found - c.len-slaves.result / 8 = ap (λ (n : ℕ). c.in_ok-found.found - n) (sym size) in
    subst (IsHolder known held unplugged state c.args.task c.args.n) same
    (back-holder known held unplugged state c.args.self.now c.args.task c.requires is c.args.n c.in_ok-found.found c.in_ok-found.ensures.value (omega (arith, size, c.if-found-slaves.false)) c.in_ok-found.ensures.low)
