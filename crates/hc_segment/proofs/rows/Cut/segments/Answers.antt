use Rattle.std.proofs.Common.{◌≤◌, ℕ, List, ◌∷◌, [], ◌++◌, subst, ap, ◌∙◌, arith, All}
use Rattle.std.proofs.lemmas.List.Elements.{All-tail}
use Rattle.std.specs.Vec.Iter.{into_iter_items, into_iter_len}
use Rattle.hc_segment.proofs.Dealt.{dealt-more, fewer-left, small-more}
use Rattle.hc_segment.proofs.rows.Cut.segments.Goals as goal

pub loop-row-preserved : goal.loop-row-preserved
loop-row-preserved c =
    let i = c.loop-row.invariant in
    let size = c.self.inside.size in
    let step = c.in-Some.ensures.steps.0 in
    let count = c.in-Some.ensures.steps.1 in
    let pushed = c.push_reserved.ensures.items ∙ ap (λ (s : List (List ℕ)). c.loop-row.segments.items ++ s ∷ []) c.fill.ensures.segment in
    record {
      dealt = dealt-more c.loop-row.segments.items c.push_reserved.new.self.items (into_iter_items c.loop-row.machines) (into_iter_items c.fill.new.machines) _ size pushed c.fill.ensures.rest i.dealt;
      left = fewer-left (into_iter_items c.loop-row.machines) (into_iter_items c.fill.new.machines) (into_iter_len c.loop-row.row-iterator) (into_iter_len c.next.new.self) size c.fill.ensures.rest (omega (arith, count)) i.left;
      number = omega (arith, i.number, count, c.push_reserved.ensures.len);
      sizes = small-more c.loop-row.segments.items c.push_reserved.new.self.items (into_iter_items c.loop-row.machines) size pushed i.sizes;
      room = omega (arith, i.room, count, c.push_reserved.ensures.len, c.push_reserved.ensures.capacity);
      wide = All-tail (λ (row : ℕ). size ≤ row) c.in-Some.row (into_iter_items c.next.new.self) (subst (All (λ (row : ℕ). size ≤ row)) step i.wide);
    }
