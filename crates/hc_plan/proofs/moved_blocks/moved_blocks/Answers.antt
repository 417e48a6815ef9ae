use Rattle.std.proofs.Common.{append-nil, rules}
use Rattle.std.specs.List.{flat_map}
use Rattle.std.proofs.Math.ListN.{drop_of_length-le}
use Rattle.hc_plan.specs.inner.MovedBlocks.{blocks_moved}
use Rattle.hc_changes.proofs.lemmas.Lists.{all-added}
use Rattle.hc_plan.proofs.MovedBlocks.{candidates-moved, writable-at}
use Rattle.hc_plan.proofs.moved_blocks.moved_blocks.Goals as goal

pub add_moved-requires : goal.add_moved-requires
add_moved-requires c = search (rules, writable-at)

pub loop-candidate-preserved : goal.loop-candidate-preserved
loop-candidate-preserved c =
    let candidates = c.args.candidates.now in
    let stored = c.args.stored.now in
    all-added (blocks_moved stored) candidates c.loop-candidate.candidate-index c.candidate-item.result c.loop-candidate.blocks.items c.add_moved.new.blocks.items (flat_map (blocks_moved stored) candidates) c.loop-candidate-test.true
    c.candidate-item.is c.in_ok-add_moved.ensures c.loop-candidate.invariant

pub returns : goal.returns
returns c = search (rules, drop_of_length-le, append-nil, candidates-moved)
