use Rattle.std.proofs.Common.{ℕ, sym, ap, ◌∙◌, ◌==◌}
use Rattle.std.proofs.lemmas.Bool.{ne_eqb}
use Rattle.hc_cuts.specs.Areas.{slave_width}
use Rattle.hc_cuts.proofs.Taking.{key-taken, key-unset}
use Rattle.hc_cuts.proofs.touched.touch_key.Goals as goal

pub returns-then-slave_width : goal.returns-then-slave_width
returns-then-slave_width c =
    key-unset c.args.task c.args.old.now c.args.new.now c.args.key c.args.hulls.now
    (sym c.slave_width.ensures.value ∙ c.if-slave_width.true ∙ c.slave_width-2.ensures.value)

pub returns : goal.returns
returns c =
    key-taken c.args.task c.args.old.now c.args.new.now c.args.key c.args.hulls.now c.add.new.self
    (ap (λ (bits : ℕ). bits == slave_width c.args.task c.args.new.now c.args.key) (sym c.slave_width.ensures.value)
    ∙ ap (λ (bits : ℕ). c.slave_width.result == bits) (sym c.slave_width-2.ensures.value)
    ∙ ne_eqb c.slave_width.result c.slave_width-2.result c.if-slave_width.false) c.add.ensures
