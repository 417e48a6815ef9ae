use Rattle.std.proofs.Common.{◌∙◌, ap, sym, append-nil}
use Rattle.std.proofs.lemmas.List.{drop_all}
use Rattle.hc_records.specs.declared.keys.Key.{Key}
use Rattle.hc_cuts.specs.Areas.{area_in}
use Rattle.hc_places.proofs.Founds.{found-meets}
use Rattle.hc_places.proofs.variables.add_found.Goals as goal

pub add_area-requires-clause-few : goal.add_area-requires-clause-few
add_area-requires-clause-few c =
    (found-meets c.args.slaves.now c.args.places.now c.loop-placed.placed-index c.placed-item.result c.in-Some.area.now c.requires.sendable c.requires.suit c.loop-placed-test.true c.placed-item.is
    (ap (λ (k : Key). area_in c.args.slaves.now k) (sym c.key.ensures) ∙ c.in-Some.ensures)).few

pub add_area-requires-clause-offers : goal.add_area-requires-clause-offers
add_area-requires-clause-offers c =
    (found-meets c.args.slaves.now c.args.places.now c.loop-placed.placed-index c.placed-item.result c.in-Some.area.now c.requires.sendable c.requires.suit c.loop-placed-test.true c.placed-item.is
    (ap (λ (k : Key). area_in c.args.slaves.now k) (sym c.key.ensures) ∙ c.in-Some.ensures)).offers

pub returns : goal.returns
returns c = sym (append-nil c.loop-placed.rows.items) ∙ rw (drop_all c.loop-placed.placed-index c.args.places.now c.loop-placed-test.false) at c.loop-placed.invariant
