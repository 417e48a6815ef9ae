use Rattle.std.proofs.Common.{◌≡◌, ◌∙◌, false, sym, rules}
use Rattle.hc_records.specs.Line.{line_from}
use Rattle.hc_cuts.specs.LineChange.{changes}
use Rattle.hc_changes.specs.MaybeMovedAreas.{line_area_place}
use Rattle.hc_changes.specs.inner.Found.{IsMaybeMovedTest, area_by}
use Rattle.hc_changes.proofs.lemmas.Finding.{changed-area, unchanged-area, place-below, place-is, recut-area, untouched-area}
use Rattle.hc_changes.proofs.finding.MaybeMovedTest.judge.Goals as goal

pub returns-then-not-is_touched-clause-found : goal.returns-then-not-is_touched-clause-found
returns-then-not-is_touched-clause-found c =
    let it = c.args.self.now in
    let test : IsMaybeMovedTest it c.self.inside.before.now c.self.inside.cuts.now = search rules in
    let unchanged : changes it.change c.args.rank ≡ false = search rules in
    sym (untouched-area it c.self.inside.before.now c.self.inside.cuts.now test c.args.station c.args.rank c.args.index c.args.area.now unchanged
    c.is_touched.result c.if-not-is_touched.true c.is_touched.ensures)

pub returns-then-not-is_recut-clause-found : goal.returns-then-not-is_recut-clause-found
returns-then-not-is_recut-clause-found c =
    let it = c.args.self.now in
    let unchanged : changes it.change c.args.rank ≡ false = search rules in
    sym (unchanged-area it c.args.station c.args.rank c.args.index c.args.area.now c.place-place.result
    (place-is it c.args.places.now c.requires.places c.args.station c.args.rank c.args.index c.args.area.now c.key_of.result c.place-place.result c.key_of.ensures c.place-place.ensures.place)
    unchanged (sym c.is_recut.ensures ∙ c.if-not-is_recut.true))

pub returns-clause-found : goal.returns-clause-found
returns-clause-found c =
    let it = c.args.self.now in
    let is_placed : c.place-place.result ≡ line_area_place (line_from 1 it.new) (area_by c.args.station c.args.rank c.args.index c.args.area.now) = search (rules, place-is) in
    let tested : changes it.change c.args.rank ≡ c.is_changed-changed.result = search rules in
    search (rules, recut-area, changed-area)

pub is_recut-requires : goal.is_recut-requires
is_recut-requires c =
    let it = c.args.self.now in
    let test : IsMaybeMovedTest it c.self.inside.before.now c.self.inside.cuts.now = search rules in
    place-below it c.args.station c.args.rank c.args.index c.args.area.now c.place-place.result test.is.is_project
    (place-is it c.args.places.now c.requires.places c.args.station c.args.rank c.args.index c.args.area.now c.key_of.result c.place-place.result c.key_of.ensures c.place-place.ensures.place)
