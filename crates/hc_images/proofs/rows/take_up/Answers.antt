use Rattle.std.proofs.Common.{◌≡◌, ◌<◌, ◌∙◌, length, sym}
use Rattle.std.specs.Prelude.{None}
use Rattle.std.specs.Int.{bit_at}
use Rattle.std.proofs.lemmas.List.{get_or_default, length-set}
use Rattle.hc_images.specs.Pieces.{of_list}
use Rattle.hc_images.proofs.Writing.{next-fits, next-read, next-written}
use Rattle.hc_images.proofs.rows.take_up.Goals as goal

pub take-requires-clause-within : goal.take-requires-clause-within
take-requires-clause-within c =
    let places = c.args.places.now in
    let found = c.index-places-i.result in
    let low : c.loop-i.i < length places = c.loop-i-test.true in
    next-fits c.loop-i.i (length places) (of_list places) (λ i. bit_at 0) c.args.rows.now c.loop-i.rows found
    (sym (c.index-places-i.is ∙ get_or_default places c.loop-i.i found None low)) low c.requires.fit c.loop-i.invariant.writes

pub loop-i-preserved : goal.loop-i-preserved
loop-i-preserved c =
    let places = c.args.places.now in
    let n = c.loop-i.i in
    let found = c.index-places-i.result in
    let low : n < length places = c.loop-i-test.true in
    let is : of_list places n ≡ found = sym (c.index-places-i.is ∙ get_or_default places n found None low) in
    let unchanged = c.loop-i.invariant in
    record {
      writes = next-written n (length places) (of_list places) (λ i. bit_at 0) c.args.rows.now c.loop-i.rows c.take.new.rows found is low c.requires.apart unchanged.writes c.take.ensures.writes;
      reads = next-read n (length places) c.args.lacking c.take.result (of_list places) (λ i. bit_at 0) c.args.rows.now c.loop-i.rows c.take.new.rows c.loop-i.values found is low unchanged.count c.requires.apart unchanged.writes
          c.take.ensures.writes c.take.ensures.value unchanged.reads;
      count = length-set c.loop-i.values n c.take.result ∙ unchanged.count;
    }
