use Rattle.std.proofs.Common.{◌∙◌, ◌+◌, ap, ◌++◌, append_assoc, drop}
use Rattle.std.proofs.lemmas.List.{drop_more}
use Rattle.hc_project.specs.Repeated.{each_at}
use Rattle.hc_project.proofs.repeats.add_each.Goals as goal

pub loop-index-preserved : goal.loop-index-preserved
loop-index-preserved g c =
    let lists = g.L.Listed.lists c.args.place in
    let rest = each_at lists (c.loop-index.index + 1) (drop (c.loop-index.index + 1) c.args.items.now) in
    let left = rw (drop_more c.args.items.now c.loop-index.index c.index-items-index.result c.loop-index-test.true) at c.loop-index.invariant in
    ap (λ l. l ++ rest) c.in_ok-add.ensures
    ∙ append_assoc c.loop-index.list.items (lists c.loop-index.index c.index-items-index.result) rest
    ∙ ap (λ x. c.loop-index.list.items ++ (lists c.loop-index.index x ++ rest)) c.index-items-index.is
    ∙ left
