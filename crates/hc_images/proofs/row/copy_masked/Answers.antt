use Rattle.std.proofs.Common.{◌≡◌, ◌+◌, ◌<◌, arith, length, min}
use Rattle.hc_images.proofs.Masks.{masked-copy}
use Rattle.hc_images.proofs.row.copy_masked.Goals as goal

pub returns-clause-bits : goal.returns-clause-bits
returns-clause-bits c =
    let front = c.loop-index.front in
    let bytes = c.args.bytes.now in
    let rest = length c.split_at_mut-front.result.1.now in
    let whole : length c.args.mask.now ≡ length front + rest = omega arith in
    let count : length front ≡ min (length front + rest) (length bytes) = omega arith in
    let done : length front ≡ c.loop-index.index = omega arith in
    masked-copy front bytes c.args.mask.now c.fill.new.self rest (c.fill.ensures.after (λ y same. same)) whole count
    (λ i low. let inside : i < c.loop-index.index = omega arith in c.loop-index.invariant i inside)

pub returns-clause-bytes : goal.returns-clause-bytes
returns-clause-bytes c = λ i low. (c.type_inv.own i).fits
