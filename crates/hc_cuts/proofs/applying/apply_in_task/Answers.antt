use Rattle.std.proofs.Common.{arith, sym, ◌∙◌, ap}
use Rattle.hc_cuts.specs.Starts.{TaskCuts}
use Rattle.hc_cuts.specs.TaskCuts.{starts_by, tree_by}
use Rattle.hc_cuts.proofs.WidthsApplied.{are-of_before, crowds-by, cut-unchanged, fits-by, unchanged-is, lists-same, one-touched, recut-none, recut-some, some-touched, unturned, unturned-fits}
use Rattle.hc_cuts.proofs.WidthsApply.{set-applied}
use Rattle.hc_cuts.proofs.lemmas.Applying.{answer_given-back}
use Rattle.hc_cuts.proofs.applying.apply_in_task.Goals as goal

pub returns-then-are_none-clause-applied : goal.returns-then-are_none-clause-applied
returns-then-are_none-clause-applied g c = λ old new apply_widths.
    let is_placed = ap (λ (k : TaskCuts). k.tree) apply_widths.of_old in
    let is = set-applied c.args.task c.args.change.now old new c.args.cuts.now c.set_widths.new.cuts apply_widths.lines is_placed c.set_widths.ensures in
    let same = lists-same c.args.task old new c.touched_hulls-hulls.result apply_widths.lines.old_line apply_widths.lines.new_line (c.touched_hulls-hulls.ensures old new apply_widths.lines) (sym c.are_none.ensures ∙ c.if-are_none.true) in
    unturned c.args.task old new c.set_widths.new.cuts is ((c.set_widths.ensures old new apply_widths.lines is_placed).starts ∙ ap (λ (k : TaskCuts). k.starts) apply_widths.of_old) same

pub returns-then-are_none-clause-fits : goal.returns-then-are_none-clause-fits
returns-then-are_none-clause-fits g c = λ old new apply_widths.
    unturned-fits c.args.task old new
    (lists-same c.args.task old new c.touched_hulls-hulls.result apply_widths.lines.old_line apply_widths.lines.new_line (c.touched_hulls-hulls.ensures old new apply_widths.lines) (sym c.are_none.ensures ∙ c.if-are_none.true))
    apply_widths.fits

pub returns-then-are_none-clause-recut : goal.returns-then-are_none-clause-recut
returns-then-are_none-clause-recut g c = λ old new apply_widths.
    recut-none c.args.task old new c.touched_hulls-hulls.result (c.touched_hulls-hulls.ensures old new apply_widths.lines) (sym c.are_none.ensures ∙ c.if-are_none.true)

pub repair-requires : goal.repair-requires
repair-requires g c =
    let r = c.requires in
    let is_placed = ap (λ (k : TaskCuts). k.tree) r.apply_widths.of_old in
    let is = set-applied c.args.task c.args.change.now r.old r.new c.args.cuts.now c.set_widths.new.cuts r.apply_widths.lines is_placed c.set_widths.ensures in
    are-of_before c.args.task r.old r.new c.touched_hulls-hulls.result c.args.cuts.now c.set_widths.new.cuts r.apply_widths.lines.old_line
    (c.touched_hulls-hulls.ensures r.old r.new r.apply_widths.lines) r.apply_widths.of_old (c.set_widths.ensures r.old r.new r.apply_widths.lines is_placed).starts is

pub set_widths-requires-in-Err : goal.set_widths-requires-in-Err
set_widths-requires-in-Err g c =
    let r = c.requires in
    let is_placed = ap (λ (k : TaskCuts). k.tree) r.apply_widths.of_old in
    let is = set-applied c.args.task c.args.change.now r.old r.new c.args.cuts.now c.set_widths.new.cuts r.apply_widths.lines is_placed c.set_widths.ensures in
    record {
      old = r.new;
      new = r.old;
      lines = answer_given-back c.args.change.now c.back-back.result r.old r.new c.back-back.ensures r.apply_widths.lines;
      holds = c.repair.ensures.areas ∙ is;
    }

pub returns-in-Ok-clause-applied : goal.returns-in-Ok-clause-applied
returns-in-Ok-clause-applied g c = λ old new apply_widths.
    let is_placed = ap (λ (k : TaskCuts). k.tree) apply_widths.of_old in
    let is = set-applied c.args.task c.args.change.now old new c.args.cuts.now c.set_widths.new.cuts apply_widths.lines is_placed c.set_widths.ensures in
    cut-unchanged c.args.task new c.set_widths.new.cuts c.repair.new.self is c.repair.ensures.areas c.in-Ok.ensures.starts

pub returns-in-Ok-clause-fits : goal.returns-in-Ok-clause-fits
returns-in-Ok-clause-fits g c = λ old new apply_widths.
    let is_placed = ap (λ (k : TaskCuts). k.tree) apply_widths.of_old in
    let is = set-applied c.args.task c.args.change.now old new c.args.cuts.now c.set_widths.new.cuts apply_widths.lines is_placed c.set_widths.ensures in
    fits-by c.args.task new c.set_widths.new.cuts.tree is c.in-Ok.ensures.few

pub returns-in-Ok-clause-recut : goal.returns-in-Ok-clause-recut
returns-in-Ok-clause-recut g c = λ old new apply_widths.
    let is_placed = ap (λ (k : TaskCuts). k.tree) apply_widths.of_old in
    let is = set-applied c.args.task c.args.change.now old new c.args.cuts.now c.set_widths.new.cuts apply_widths.lines is_placed c.set_widths.ensures in
    let some = sym c.are_none.ensures ∙ c.if-are_none.false in
    recut-some c.args.task c.in-Ok.recut old new c.touched_hulls-hulls.result c.args.cuts.now c.set_widths.new.cuts (c.touched_hulls-hulls.ensures old new apply_widths.lines) some
    apply_widths.of_old (c.set_widths.ensures old new apply_widths.lines is_placed).starts is
    (λ list keys differ. c.in-Ok.ensures.count list (record { keys = keys; differ = differ }))

pub returns-in-Ok-clause-steps : goal.returns-in-Ok-clause-steps
returns-in-Ok-clause-steps g c = λ old new apply_widths.
    let some = some-touched c.args.task old new c.touched_hulls-hulls.result (c.touched_hulls-hulls.ensures old new apply_widths.lines) (sym c.are_none.ensures ∙ c.if-are_none.false) in
    let one = one-touched c.args.task old new some in
    let bound = c.repair.ensures.bound in
    omega (arith, one, bound)

pub returns-in-Err-clause-refused : goal.returns-in-Err-clause-refused
returns-in-Err-clause-refused g c = λ old new apply_widths.
    let is_placed = ap (λ (k : TaskCuts). k.tree) apply_widths.of_old in
    let is = set-applied c.args.task c.args.change.now old new c.args.cuts.now c.set_widths.new.cuts apply_widths.lines is_placed c.set_widths.ensures in
    crowds-by c.args.task new c.set_widths.new.cuts.tree is c.in-Err.ensures.refused

pub returns-in-Err-clause-unchanged : goal.returns-in-Err-clause-unchanged
returns-in-Err-clause-unchanged g c =
    let r = c.requires in
    let is_placed = ap (λ (k : TaskCuts). k.tree) r.apply_widths.of_old in
    let is = set-applied c.args.task c.args.change.now r.old r.new c.args.cuts.now c.set_widths.new.cuts r.apply_widths.lines is_placed c.set_widths.ensures in
    let lines = answer_given-back c.args.change.now c.back-back.result r.old r.new c.back-back.ensures r.apply_widths.lines in
    let applied = c.repair.ensures.areas ∙ is in
    let tree = set-applied c.args.task c.back-back.result r.new r.old c.repair.new.self c.set_widths-in-Err.new.cuts lines applied c.set_widths-in-Err.ensures in
    unchanged-is c.set_widths-in-Err.new.cuts (tree_by c.args.task r.old) (starts_by c.args.task r.old) tree
    ((c.set_widths-in-Err.ensures r.new r.old lines applied).starts ∙ c.in-Err.ensures.stay
    ∙ (c.set_widths.ensures r.old r.new r.apply_widths.lines is_placed).starts ∙ ap (λ (k : TaskCuts). k.starts) r.apply_widths.of_old)
    ∙ sym r.apply_widths.of_old

pub returns-in-Err-clause-steps : goal.returns-in-Err-clause-steps
returns-in-Err-clause-steps g c = λ old new apply_widths.
    let some = some-touched c.args.task old new c.touched_hulls-hulls.result (c.touched_hulls-hulls.ensures old new apply_widths.lines) (sym c.are_none.ensures ∙ c.if-are_none.false) in
    let one = one-touched c.args.task old new some in
    let bound = c.repair.ensures.bound in
    omega (arith, one, bound)
