use Rattle.std.proofs.Common.{◌∙◌, ap, arith, length, subst}
use Rattle.std.specs.Option.{option_copied}
use Rattle.hc_events.specs.Points.{line_of}
use Rattle.hc_c.specs.Pieces.{HaveLengths}
use Rattle.hc_c.proofs.Images.{slot-fits}
use Rattle.hc_c.proofs.reading.+put_data.Goals as goal

pub put_slot-requires : goal.put_slot-requires
put_slot-requires t c =
    let history = c.args.core.now.history in
    let cut = c.in-Some.ensures.cases.0 in
    let lengths = subst (HaveLengths (line_of history) c.args.task c.args.number) cut c.requires.lengths in
    let few = ap length cut in
    let own = c.split_at_mut-own.ensures.front_len in
    let same = c.from.ensures in
    slot-fits history c.args.task c.args.number (length c.split_at_mut-own.result.0.now) (option_copied c.steady_data.result)
    (c.steady_data.ensures.slot c.requires.task (omega (arith, few, c.requires.few))) (own ∙ same ∙ lengths.0)
