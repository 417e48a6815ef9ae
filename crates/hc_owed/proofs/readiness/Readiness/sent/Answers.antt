use Rattle.std.proofs.Common.{◌/◌, List, sym, ap, ◌∙◌}
use Rattle.std.specs.Prelude.{slice_get}
use Rattle.hc_records.specs.Lists.{changed_at}
use Rattle.hc_owed.specs.declared.area.JudgedArea.{JudgedArea}
use Rattle.hc_owed.specs.Areas.{area_written}
use Rattle.hc_owed.proofs.ReadyWriting.{sent-fmmu, sent-sync_manager}
use Rattle.hc_owed.proofs.readiness.Readiness.sent.Goals as goal

pub returns-then-place-eq1 : goal.returns-then-place-eq1
returns-then-place-eq1 c = λ known held unplugged state block is lacking.
    let n = c.args.place / 2 in
    let area = c.area-area.result in
    c.write_area.ensures
    ∙ ap (λ (l : List JudgedArea). changed_at n (λ _. area_written area) l) is.right
    ∙ sent-fmmu known held unplugged state c.args.place block area is.project is.is_placed lacking c.if-place-eq1.true
    (ap (λ (l : List JudgedArea). slice_get l n) (sym is.right) ∙ c.area-area.ensures)

pub returns-else-place-eq1 : goal.returns-else-place-eq1
returns-else-place-eq1 c = λ known held unplugged state block is lacking.
    is.right ∙ sent-sync_manager known held unplugged state c.args.place block is.project is.is_placed lacking c.if-place-eq1.false
