use Rattle.std.proofs.Common.{◌≡◌, ◌∙◌, ℕ, ◌==◌, ap, arith, false, sym, true}
use Rattle.std.proofs.lemmas.Bool.{eq-eqb, eqb-true}
use Rattle.std.proofs.lemmas.List.{get_or_default}
use Rattle.hc_places.specs.Table.{VariableRow}
use Rattle.hc_places.proofs.Reached.{no-place, none-set, row-set}
use Rattle.hc_places.proofs.merging.overwrite_row.Goals as goal
use Rattle.hc_places.proofs.merging.overwrite_row.Goals.{else-at-len-via-then-at-len+else-eq, else-at-len-via-else-at-len}

pub returns-in_default : goal.returns-in_default
returns-in_default c = no-place c.args.changed.now c.args.rows.now.items (sym c.place.ensures ∙ c.in_default.is)

pub returns-then-eq : goal.returns-then-eq
returns-then-eq c = grind (arith, eqb-true, row-set)

pub returns-else-at-len : goal.returns-else-at-len
returns-else-at-len c =
    let rows = c.args.rows.now.items in
    let changed = c.args.changed.now in
    none-set changed rows c.args.at c.requires.ascends c.requires.below
    (elim c.else-at-len.branch [
      | else-at-len-via-then-at-len+else-eq w ↦ λ d inside same.
          let row : VariableRow = w.index.result.now in
          let here : row.0 ≡ changed.0 = ap (λ (r : VariableRow). r.0) (w.index.ensures ∙ get_or_default rows c.args.at row d inside) ∙ same in
          let never : false ≡ true = sym w.if-eq.false ∙ w.eq.ensures ∙ ap (λ (v : ℕ). row.0 == v) w.variable.ensures ∙ eq-eqb row.0 changed.0 here in
          cc
      | else-at-len-via-else-at-len w ↦ λ d inside same. omega (arith, inside, w.if-at-len.false, c.len.ensures, c.args.rows.now.ok.0)
    ])
