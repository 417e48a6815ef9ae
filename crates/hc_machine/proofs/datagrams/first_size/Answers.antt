use Rattle.std.proofs.Common.{◌≡◌, ◌+◌, drop, ap, ◌∙◌, arith}
use Rattle.std.specs.List.{list_all}
use Rattle.hc_frames.specs.Arrived.{data_size, datagram_tails, is_whole}
use Rattle.hc_frames.proofs.lemmas.Datagrams.{first-whole, whole-long}
use Rattle.hc_machine.proofs.Served.{size-taken, whole-short}
use Rattle.hc_machine.proofs.datagrams.first_size.Goals as goal

pub word_at-requires : goal.word_at-requires
word_at-requires c =
    let long = whole-long c.args.region.now (first-whole c.args.region.now c.requires.some c.requires.whole).0 in
    omega arith

pub returns : goal.returns
returns c =
    let region = c.args.region.now in
    let whole = first-whole region c.requires.some c.requires.whole in
    let size : 12 + c.from.result ≡ 12 + data_size region = omega arith in
    record {
      size = size;
      within = let long = whole-long region whole.0 in omega arith;
      short = whole-short region whole.0;
      first = size-taken (12 + c.from.result) region (omega arith);
      rest = ap (λ n. list_all is_whole (datagram_tails (drop n region))) size ∙ whole.1;
    }
