use Rattle.std.proofs.Common.{◌∙◌, ap, arith, drop, length, subst, sym}
use Rattle.hc_images.specs.Packed.{Bytes, Carries}
use Rattle.hc_images.proofs.Carrying.{all-lent}
use Rattle.hc_images.proofs.rows.make_masks.Goals as goal

pub returns-clause-carries : goal.returns-clause-carries
returns-clause-carries c =
    let new = c.mark.new.rows in
    let same = ap (λ (r : Bytes). length r) c.as_mut_slice.ensures.value in
    let all = c.mark.ensures.all in
    let was = c.requires.blank.all in
    subst (λ (r : Bytes). Carries c.args.places.now (λ variable k. 1) r) (sym (all-lent c.args.rows.now.len new (drop (length new) c.args.rows.now.items) (omega (arith, c.as_mut_slice.ensures.len)))) c.mark.ensures.carries

pub returns-clause-all : goal.returns-clause-all
returns-clause-all c =
    let new = c.mark.new.rows in
    let same = ap (λ (r : Bytes). length r) c.as_mut_slice.ensures.value in
    let all = c.mark.ensures.all in
    let was = c.requires.blank.all in
    ap (λ (r : Bytes). length r) (all-lent c.args.rows.now.len new (drop (length new) c.args.rows.now.items) (omega (arith, c.as_mut_slice.ensures.len))) ∙ all
