use Rattle.std.proofs.Common.{◌≡◌, ◌+◌, ◌-◌, ◌/◌, ◌<◌, ◌∙◌, ap, arith, length, slice_index_or, subst, sym, true, ℕ}
use Rattle.std.proofs.lemmas.List.{get_or_default}
use Rattle.hc_records.specs.declared.keys.TheConstants.Key.{END, START}
use Rattle.hc_records.specs.Keys.{is_before}
use Rattle.hc_records.proofs.lemmas.KeyOrder.{within-else}
use Rattle.hc_cuts.proofs.cursor.carrier.Goals as goal

pub loop-left-preserved : goal.loop-left-preserved
loop-left-preserved c =
    let is = c.loop-left.invariant in
    let starts = c.args.starts.now in
    let begun = c.loop-left.begun in
    let left = c.loop-left.left in
    let more = c.loop-left-test.true in
    let same : begun + left / 2 + (left - left / 2) ≡ begun + left = omega arith in
    let inside : begun + left / 2 < length starts = omega (arith, more, is.inside) in
    record {
      some = omega (arith, more);
      inside = omega (arith, same, is.inside);
      first =
          within-else c.args.key (slice_index_or starts (begun + left / 2) END)
          (ap (is_before c.args.key) (get_or_default starts (begun + left / 2) END START inside) ∙ sym c.is_before.ensures ∙ c.if-is_before.false);
      next =
          subst (λ (end : ℕ). end < length starts → is_before c.args.key (slice_index_or starts end END) ≡ true)
          (sym same) is.next;
    }
