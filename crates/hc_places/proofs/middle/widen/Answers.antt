use Rattle.std.proofs.Common.{◌≡◌, ◌∙◌, ◌+◌, ◌-◌, ◌++◌, ℕ, List, ap, arith, drop, length}
use lib.Seq.{paste}
use Rattle.hc_places.specs.Table.{VariableRow}
use Rattle.hc_places.proofs.Shifted.{widened}
use Rattle.hc_places.proofs.middle.widen.Goals as goal

pub returns : goal.returns
returns c =
    let old = c.args.rows.now.items in
    let more = c.args.more.now in
    let new = c.copy_within.new.self.items in
    let high = c.args.high in
    let at = high + length more in
    let count : c.len-count.result ≡ length old = omega (arith, c.len-count.ensures, c.args.rows.now.ok.0) in
    let is : new ≡ paste (old ++ more) at (drop high (old ++ more)) (length old - high) =
    c.copy_within.ensures.items ∙ ap (λ (l : List VariableRow). paste l at (drop high l) (c.len-count.result - high)) c.append.ensures
    ∙ ap (λ (n : ℕ). paste (old ++ more) at (drop high (old ++ more)) (n - high)) count in
    let made = widened old more new high c.requires.bound is in
    record { size = made.size; front = made.front; after_it = made.after_it }
