use Rattle.std.proofs.Common.{ap, arith, drop, length, subst, sym}
use Rattle.hc_images.specs.Packed.{Bytes}
use Rattle.hc_images.specs.Pieces.{Posts}
use Rattle.hc_images.proofs.Carrying.{all-lent}
use Rattle.hc_images.proofs.outputs.post_all.Goals as goal

pub returns : goal.returns
returns c =
    let table = c.args.places.now in
    let task = c.args.task in
    let bytes = c.args.bytes.now in
    let new = c.post_datagrams.new.sent in
    let size = c.as_mut_slice.ensures.len in
    let same = ap (λ (r : Bytes). length r) c.as_mut_slice.ensures.value in
    let unchanged = c.post_datagrams.auto.sent in
    let all = all-lent c.args.sent.now.len new (drop (length new) c.args.sent.now.items) (omega (arith, size, same, unchanged)) in
    subst (λ (r : Bytes). Posts table c.args.sent.now.items r c.args.masks.now.items task bytes) (sym all)
    (subst (λ (r : Bytes). Posts table r new c.args.masks.now.items task bytes) c.as_mut_slice.ensures.value
    (subst (λ (r : Bytes). Posts table c.as_mut_slice.result.now new r task bytes) c.as_slice.ensures.value c.post_datagrams.ensures))
