use Rattle.std.proofs.Common.{arith}
use Rattle.hc_machine.proofs.Framed.{all-bytes, readable-long, readable-whole}
use Rattle.hc_machine.proofs.frames.end_of_datagrams.Goals as goal

pub word_at-requires : goal.word_at-requires
word_at-requires c = let long = readable-long c.args.frame.now c.requires in omega arith

pub returns : goal.returns
returns c =
    let frame = c.args.frame.now in
    let long = readable-long frame c.requires in
    record {
      end = omega arith;
      within = omega arith;
      bytes = all-bytes frame (λ i. (c.type_inv.frame i).fits);
      whole = readable-whole frame c.requires;
    }
