use Rattle.std.proofs.Common.{◌≡◌, refl, arith}
use Rattle.hc_records.specs.Line.{Member}
use Rattle.hc_plan.proofs.Numbered.{met-block, met-mapped, met-none}
use Rattle.hc_plan.proofs.opened_blocks.slave_block.Goals as goal

pub returns-then-from-areas : goal.returns-then-from-areas
returns-then-from-areas c =
    let member : Member = record { rank = c.args.rank; slave = c.args.slave.now } in
    met-none c.args.layout.now member c.as_slice-areas.result.now c.args.number c.from.result c.as_slice-areas.ensures c.from.ensures c.if-from-areas.true

pub area_block-requires : goal.area_block-requires
area_block-requires c =
    let member : Member = record { rank = c.args.rank; slave = c.args.slave.now } in
    met-mapped c.args.layout.now member c.as_slice-areas.result.now c.args.number c.from-2.result c.args.rank c.index-areas-from.result (record {
      own = c.as_slice-areas.ensures;
      half = c.from-2.ensures;
      inside = let same : c.from-2.result ≡ c.from.result = cc in omega (arith, same, c.if-from-areas.false);
      is = c.index-areas-from.is;
      ranked = refl;
    }) c.requires.mapped

pub returns : goal.returns
returns c =
    let member : Member = record { rank = c.args.rank; slave = c.args.slave.now } in
    met-block c.args.layout.now member c.as_slice-areas.result.now c.args.number c.from-2.result c.args.rank c.index-areas-from.result c.area_block.result (record {
      own = c.as_slice-areas.ensures;
      half = c.from-2.ensures;
      inside = let same : c.from-2.result ≡ c.from.result = cc in omega (arith, same, c.if-from-areas.false);
      is = c.index-areas-from.is;
      ranked = refl;
    }) c.area_block.ensures
