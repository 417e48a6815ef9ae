use Rattle.std.proofs.Common.{refl}
use Rattle.hc_cuts.proofs.lemmas.Inside.{inside-begins, inside-differs, set-more, set-same}
use Rattle.worked_lines.proofs.pieces.repairs.set_all.Goals as goal
use Rattle.worked_lines.proofs.pieces.repairs.set_all.Goals.{else-rank-ge1, then-rank-ge1+then-rank-slaves+then-bits-le11888}

pub loop-area-init : goal.loop-area-init
loop-area-init c = record {
  slaves = c.requires.slaves;
  holds = c.requires.holds;
  starts = refl;
  inside = inside-begins c.args.cuts.now.tree.list c.none-hulls.result c.none-hulls.ensures;
}

pub returns-clause-inside : goal.returns-clause-inside
returns-clause-inside c = inside-differs c.args.cuts.now.tree.list c.loop-area.cuts.tree.list c.loop-area.hulls c.loop-area.invariant.inside

pub loop-area-preserved : goal.loop-area-preserved
loop-area-preserved c =
    let first = c.args.cuts.now in
    let so_far = c.loop-area.invariant in
    elim c.if-rank-ge1.branch [
      | then-rank-ge1+then-rank-slaves+then-bits-le11888 w ↦
          set-same c.args.slaves first _ _ _ _ w.cuts-is w.hulls-is
          (set-more c.args.slaves first c.loop-area.cuts _ c.loop-area.hulls _ _ _ so_far w.set.ensures.areas w.set.ensures.starts w.set.ensures.holds w.add.ensures)
      | else-rank-ge1 w ↦ set-same c.args.slaves first _ _ _ _ w.cuts-is w.hulls-is so_far
    ]
