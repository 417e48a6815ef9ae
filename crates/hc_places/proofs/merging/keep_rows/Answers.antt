use Rattle.std.proofs.Common.{◌∙◌, ℕ, ◌<◌, ◌≤◌, arith, length, subst, sym}
use Rattle.std.specs.Prelude.{IsTrue}
use Rattle.std.proofs.lemmas.List.{take_all}
use Rattle.std.proofs.lemmas.List.Elements.{All-more}
use Rattle.std.specs.List.{AllWithin}
use Rattle.hc_places.specs.Swap.{ChangedRow, keeps_row}
use Rattle.hc_places.specs.Table.{VariableRow}
use Rattle.hc_places.proofs.Reached.{lower-next}
use Rattle.hc_places.proofs.merging.keep_rows.Goals as goal

pub loop-change-preserved : goal.loop-change-preserved
loop-change-preserved c =
    let rows = c.args.rows.now in
    let changed = c.args.changed.now in
    let index = c.loop-change.change-index in
    let change : ChangedRow = c.change-item.result in
    let inside : index < length changed = omega arith in
    let stays = sym c.keeps_row.ensures ∙ c.if-not-keeps_row.false in
    record {
      within = c.count_with-front.ensures.bound;
      lower = lower-next rows c.count_with-front.result changed index change c.requires.changes inside c.change-item.is
          (subst (λ (v : ℕ). AllWithin (λ (row : VariableRow). row.0 ≤ v) rows 0 c.count_with-front.result) c.variable.ensures c.count_with-front.ensures.low);
      unchanged = All-more (λ (one : ChangedRow). IsTrue (keeps_row rows one)) changed index change inside c.loop-change.invariant.unchanged
          (subst (λ (one : ChangedRow). IsTrue (keeps_row rows one)) c.change-item.is stays);
    }

pub returns : goal.returns
returns c = grind (arith, take_all)
