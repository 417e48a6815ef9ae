use Rattle.std.proofs.Common.{◌≡◌, ◌∙◌, ℕ, ap, arith, refl, sym}
use Rattle.std.specs.Prelude.{Option, Some, None, find, is_some, ◌==◌, ◌&&◌}
use Rattle.std.proofs.lemmas.Option.{gets}
use Rattle.std.proofs.lemmas.Grind.{common_steps}
use Rattle.hc_places.specs.Table.{VariableRow}
use Rattle.hc_places.proofs.Order.{find-row}
use Rattle.hc_places.proofs.Reached.{ascends-rises}
use Rattle.hc_places.proofs.merging.keeps_row.Goals as goal

pub returns-in_default : goal.returns-in_default
returns-in_default c =
    let rows = c.args.rows.now in
    let changed = c.args.changed.now in
    let found = find-row rows changed.0 c.args.at None (ascends-rises rows c.requires.ascends) c.requires.below (grind (arith, common_steps, gets)) in
    ap (λ (f : Option VariableRow). is_some f && is_some changed.1) (sym found)

pub returns-then-eq : goal.returns-then-eq
returns-then-eq c =
    let rows = c.args.rows.now in
    let changed = c.args.changed.now in
    let row = c.in-Some.row.now in
    let found = find-row rows changed.0 c.args.at (Some row) (ascends-rises rows c.requires.ascends) c.requires.below (grind (arith, common_steps, gets)) in
    let same = ap (λ (v : ℕ). row.0 == v) (sym c.variable.ensures) ∙ sym c.eq.ensures ∙ c.if-eq.true in
    let own : find (λ (r : VariableRow). r.0 == changed.0) rows ≡ Some row = found ∙ rw same refl in
    c.is_some.ensures ∙ ap is_some c.place.ensures ∙ ap (λ (f : Option VariableRow). is_some f && is_some changed.1) (sym own)

pub returns-else-eq : goal.returns-else-eq
returns-else-eq c =
    let rows = c.args.rows.now in
    let changed = c.args.changed.now in
    let row = c.in-Some.row.now in
    let found = find-row rows changed.0 c.args.at (Some row) (ascends-rises rows c.requires.ascends) c.requires.below (grind (arith, common_steps, gets)) in
    let same = ap (λ (v : ℕ). row.0 == v) (sym c.variable.ensures) ∙ sym c.eq.ensures ∙ c.if-eq.false in
    let none : find (λ (r : VariableRow). r.0 == changed.0) rows ≡ None = found ∙ rw same refl in
    c.if-eq.false ∙ ap (λ (f : Option VariableRow). is_some f && is_some changed.1) (sym none)
