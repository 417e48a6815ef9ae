use Rattle.std.proofs.Common.{◌∙◌, append-nil, sym}
use Rattle.std.proofs.lemmas.List.{drop_all}
use Rattle.hc_changes.specs.Rows.{area_variables_of, assigned_variables}
use Rattle.hc_changes.proofs.lemmas.Lists.{all-added}
use Rattle.hc_changes.proofs.rows.slave_variables.Goals as goal

pub loop-area-preserved : goal.loop-area-preserved
loop-area-preserved c =
    let l = c.loop-area in
    let areas = c.args.areas.now in
    all-added area_variables_of areas l.area-index c.area-item.result l.variables.items c.add_area_variables.new.variables.items (assigned_variables areas)
    c.loop-area-test.true c.area-item.is c.in_ok-add_area_variables.ensures l.invariant

pub returns : goal.returns
returns c = sym (append-nil c.loop-area.variables.items) ∙ rw (drop_all c.loop-area.area-index c.args.areas.now c.loop-area-test.false) at c.loop-area.invariant
