use Rattle.std.proofs.Common.{◌≡◌, ◌∙◌, ap, ap₂, arith}
use Rattle.hc_bits.specs.Bits.{bits_of, number_of, run_of}
use Rattle.hc_publish.proofs.shown.read_number.Goals as goal

pub returns : goal.returns
returns c =
    let bytes = c.args.bytes.now in
    let at : c.from.result ≡ c.args.place.bit = c.from.ensures ∙ ap (λ place. place.bit) c.place.view_is in
    let n : c.from-2.result ≡ c.args.place.bits = c.from-2.ensures ∙ ap (λ place. place.bits) c.place.view_is in
    (c.reading_takes_list.ensures bytes c.from.result c.from-2.result c.get_bits.result (let within = c.requires in omega (arith, at, n, within)) c.get_bits.ensures.fits).0 c.get_bits.ensures.bits
    ∙ ap₂ (λ first count. number_of (run_of (bits_of bytes) first count)) at n
