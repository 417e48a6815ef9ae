use Rattle.std.proofs.Common.{ℕ, ap, subst, ◌∙◌}
use Rattle.std.specs.Int.{bit_at}
use Rattle.hc_bits.specs.Bits.{ReplacesRun}
use Rattle.hc_records.specs.Image.{VariablePlace}
use Rattle.hc_publish.specs.ChangesSince.{table_shown}
use Rattle.hc_images.specs.Values.{table_image_bit}
use Rattle.hc_conductor.specs.Views.{answered_to}
use Rattle.hc_conductor.proofs.Made.{value-set}
use Rattle.hc_conductor.proofs.one_thread.settings.put_setting.Goals as goal

pub returns-clause-bits : goal.returns-clause-bits
returns-clause-bits c =
    let table = table_shown (answered_to c.args.view.now) in
    let old = c.args.bytes.now in
    let new = c.put_bits.new.bytes in
    let place = c.in_ok-place.place in
    let run = bit_at c.args.setting.now.value in
    value-set table old new place c.args.setting.now c.in_ok-place.ensures.place
    (subst (λ (n : ℕ). ReplacesRun old new (table_image_bit table place 0) n run) (c.from.ensures ∙ ap (λ (p : VariablePlace). p.bits) c.place.view_is)
    (subst (λ (at : ℕ). ReplacesRun old new at c.from.result run) c.first_bit.ensures c.put_bits.ensures))
