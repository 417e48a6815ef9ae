use Rattle.std.proofs.Common.{◌/◌, List, sym, ap, ◌∙◌}
use Rattle.std.specs.Prelude.{slice_get}
use Rattle.hc_records.specs.Lists.{changed_at}
use Rattle.hc_owed.specs.declared.area.JudgedArea.{JudgedArea}
use Rattle.hc_owed.specs.Areas.{fmmu_confirmed, sync_manager_confirmed}
use Rattle.hc_owed.proofs.ReadyWriting.{confirmed-fmmu-right, confirmed-sync_manager-right}
use Rattle.hc_owed.proofs.readiness.Readiness.confirmed.Goals as goal

pub returns-then-place-eq1 : goal.returns-then-place-eq1
returns-then-place-eq1 c = λ known held unplugged state block is.
    let n = c.args.place / 2 in
    let area = c.area-area.result in
    c.confirm_fmmu.ensures
    ∙ ap (λ (l : List JudgedArea). changed_at n (λ _. fmmu_confirmed area) l) is.right
    ∙ confirmed-fmmu-right known held unplugged state c.args.place block area is.project is.is_placed c.if-place-eq1.true
    (ap (λ (l : List JudgedArea). slice_get l n) (sym is.right) ∙ c.area-area.ensures)

pub returns-else-place-eq1 : goal.returns-else-place-eq1
returns-else-place-eq1 c = λ known held unplugged state block is.
    let n = c.args.place / 2 in
    let area = c.area-area.result in
    c.confirm_sync_manager.ensures
    ∙ ap (λ (l : List JudgedArea). changed_at n (λ _. sync_manager_confirmed area) l) is.right
    ∙ confirmed-sync_manager-right known held unplugged state c.args.place block area is.project is.is_placed c.if-place-eq1.false
    (ap (λ (l : List JudgedArea). slice_get l n) (sym is.right) ∙ c.area-area.ensures)
