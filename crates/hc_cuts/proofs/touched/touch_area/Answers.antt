use Rattle.std.proofs.Common.{◌≡◌, ◌∙◌, false, refl, rules, sym}
use Rattle.hc_records.specs.declared.keys.Key.{Key}
use Rattle.hc_records.specs.declared.records.Dir.TheVariants.{In, Out}
use Rattle.hc_cuts.specs.Areas.{slave_width}
use Rattle.hc_cuts.proofs.Taking.{area-taken, key-unset}
use Rattle.hc_cuts.proofs.touched.touch_area.Goals as goal

pub returns-then-not-is_in_task-2 : goal.returns-then-not-is_in_task-2
returns-then-not-is_in_task-2 c =
    let task = c.args.task in
    let old = c.args.old.now in
    let new = c.args.new.now in
    let hulls = c.args.hulls.now in
    let was : c.is_in_task.result ≡ false = search rules in
    let is : c.is_in_task-then-not-is_in_task.result ≡ false = search rules in
    let output : Key = record { dir = Out; rank = c.args.rank; area = c.args.area } in
    let input : Key = record { dir = In; rank = c.args.rank; area = c.args.area } in
    let same : (key : Key) → key.area ≡ c.args.area → slave_width task old key ≡ slave_width task new key =
    λ key at. c.is_in_task.ensures was key at ∙ sym (c.is_in_task-then-not-is_in_task.ensures is key at) in
    area-taken task c.args.rank c.args.area old new hulls hulls hulls
    (key-unset task old new output hulls (same output refl)) (key-unset task old new input hulls (same input refl))

pub returns : goal.returns
returns c =
    area-taken c.args.task c.args.rank c.args.area c.args.old.now c.args.new.now c.args.hulls.now c.touch_key.new.hulls c.touch_key-2.new.hulls
    c.touch_key.ensures c.touch_key-2.ensures
