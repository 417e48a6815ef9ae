use Rattle.std.proofs.Common.{sym, ◌∙◌, ap}
use Rattle.hc_publish.proofs.Rising.{adds_moves}
use Rattle.hc_publish.proofs.publication_log.entered.Goals as goal

pub compare_exchange-found-requires : goal.compare_exchange-found-requires
compare_exchange-found-requires g c =
    let h = c.requires.head in
    let seen = c.again-seen.ensures in
    let offer = c.plain-offer.ensures in
    let pen = c.no_pen-pen.ensures in
    let named = sym (ap (λ w. w.book) h) in
    let publication_log = ap (λ s. s.book) seen ∙ named in (
      ap (λ w. w.tracked) h,
      publication_log,
      pen.0 ∙ publication_log,
      offer.0,
      rw (ap (λ w. w.key) h, seen, pen.1, offer.1, offer.3, c.requires.plain) (adds_moves c.args.seen.now.log _ c.args.count (sym c.requires.counted) c.requires.extends),
    )
