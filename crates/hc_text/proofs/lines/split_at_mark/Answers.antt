use Rattle.std.proofs.Common.{◌≡◌, suc, length, rules, arith, ap, subst}
use Rattle.std.specs.Option.{option_copied}
use Rattle.hc_text.specs.Cutting.{Skips, left_in}
use Rattle.hc_text.proofs.Sections.{skips_line}
use Rattle.hc_text.proofs.lines.split_at_mark.Goals as goal

pub loop-rest-preserved : goal.loop-rest-preserved
loop-rest-preserved c =
    let here = subst (Skips _ _ c.loop-rest.next) (ap option_copied c.in-Some.is) c.loop-rest.invariant.skipped in
    let full : left_in (option_copied c.loop-rest.rest) ≡ suc (length c.in-Some.text.now) = ap (λ o. left_in (option_copied o)) c.in-Some.is in
    record {
      skipped = skips_line _ _ _ _ _ _ here c.split_line.ensures.line (search rules);
      few = omega (arith, c.split_line.ensures.shorter);
    }
