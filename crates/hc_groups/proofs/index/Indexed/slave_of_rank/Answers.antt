use Rattle.std.proofs.Common.{◌≡◌, ◌≢◌, ◌∙◌, ℕ, arith, subst, sym}
use Rattle.std.specs.Prelude.{All}
use Rattle.hc_records.specs.Line.{Member, line_from}
use Rattle.hc_groups.proofs.Indexes.{ranked-found, ranked-none, ranks-some}
use Rattle.hc_groups.proofs.index.Indexed.slave_of_rank.Goals as goal

pub returns-in_err-sum_place : goal.returns-in_err-sum_place
returns-in_err-sum_place c = c.from_residual.ensures ∙ sym (ranked-none c.args.self.now c.args.rank c.in_err-sum_place.ensures)

pub returns : goal.returns
returns c = c.slave_in.ensures ∙ ranked-found c.args.self.now c.args.rank _ _ c.in_ok-sum_place.ensures

pub returns-then-rank-eq0 : goal.returns-then-rank-eq0
returns-then-rank-eq0 c =
    let zero : c.args.rank ≡ 0 = omega (arith, c.if-rank-eq0.true) in
    sym (ranked-none c.args.self.now c.args.rank (subst (λ (r : ℕ). All (λ (m : Member). m.rank ≢ r) (line_from 1 c.args.self.now)) (sym zero) (ranks-some c.args.self.now)))
