use Rattle.std.proofs.Common.{All, ◌∙◌, ap, arith, rules, subst, sum_by}
use Rattle.std.proofs.lemmas.List.Elements.{All-tail}
use Rattle.std.proofs.lemmas.List.Sums.{sum_by-cons}
use Rattle.hc_events.specs.Sendings.{sent_frame_size}
use Rattle.hc_core.specs.Filled.{CanBeFilled}
use Rattle.hc_core.proofs.arena.+fill_all.Goals as goal

pub fill_all-requires : goal.fill_all-requires
fill_all-requires t c =
    let history = c.args.core.now.history in
    let cut = c.in-Some.ensures.cases.0 in
    let sizes = ap (sum_by sent_frame_size) cut ∙ sum_by-cons sent_frame_size c.in-Some.frame.now c.in-Some.rest.now in (
      search rules,
      (All-tail (CanBeFilled history) c.in-Some.frame.now c.in-Some.rest.now (subst (All (CanBeFilled history)) cut c.requires.can), omega (arith, sizes, c.requires.exact, c.size.ensures, c.split_at_mut-first.ensures.back_len)),
    )
