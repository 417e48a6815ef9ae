use Rattle.std.proofs.Common.{◌<◌, ℕ, ◌^◌, subst}
use Rattle.hc_bitsum.specs.Sums.{end_from, start_at}
use Rattle.hc_bitsum.proofs.Ends.{end_from-ends_by}
use Rattle.hc_bitsum.proofs.sum.Sum.join.Goals as goal

pub ends_of_both-requires-clause-both : goal.ends_of_both-requires-clause-both
ends_of_both-requires-clause-both c p h =
    let f = λ (q : ℕ). end_from c.in-Run-later.laters (start_at c.is_turning-turns.result (end_from c.in-Run.ends q)) in
    let both = rw (c.in-Run.is, c.in-Run-later.is) at c.requires.both in
    let P : ℕ → Type 0 = λ n. n < 2 ^ 31 in
    subst P (end_from-ends_by f p h) (rw c.is_turning-turns.ensures (both p h))
