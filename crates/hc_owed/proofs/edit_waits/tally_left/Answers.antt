use Rattle.std.proofs.Common.{◌≡◌, ◌-◌, List, length, refl, ap, subst, ◌∙◌, arith}
use Rattle.std.specs.Prelude.{slice_index_or}
use Rattle.std.proofs.lemmas.Option.{slice_get-get_or}
use Rattle.hc_records.specs.Lists.{changed_at}
use Rattle.hc_owed.specs.declared.area.JudgedArea.{JudgedArea}
use Rattle.hc_owed.specs.declared.area.Turn.TheVariants.{Left}
use Rattle.hc_owed.specs.Areas.{area_after}
use Rattle.hc_owed.specs.ReadinessSteps.{changed_from}
use Rattle.hc_owed.specs.Tally.{Tallies}
use Rattle.hc_owed.proofs.AreaChanges.{length-changed-from, turn-more}
use Rattle.hc_owed.proofs.Counting.{area-put, can-put}
use Rattle.hc_owed.proofs.TallyingMoved.{left-at}
use Rattle.hc_owed.proofs.edit_waits.tally_left.Goals as goal

pub replace-requires : goal.replace-requires
replace-requires c =
    let areas = c.args.areas.now in
    let n = c.loop-n.n in
    let from = c.args.from in
    let present = changed_from (area_after Left) from (n - from) areas in
    let size : length present ≡ length areas = length-changed-from (area_after Left) from (n - from) areas in
    let few = c.requires.few in
    let inside = c.requires.inside in
    let low = c.loop-n-test.true in
    can-put present c.loop-n.tally n (slice_index_or areas n _) (omega (arith, size, few)) (left-at areas from n (slice_index_or areas n _) c.loop-n.auto.n (slice_get-get_or areas n _ (omega (arith, low, inside)))) c.loop-n.invariant

pub loop-n-preserved : goal.loop-n-preserved
loop-n-preserved c =
    let areas = c.args.areas.now in
    let n = c.loop-n.n in
    let from = c.args.from in
    let present = changed_from (area_after Left) from (n - from) areas in
    let inside = c.requires.inside in
    let low = c.loop-n-test.true in
    let at = left-at areas from n (slice_index_or areas n _) c.loop-n.auto.n (slice_get-get_or areas n _ (omega (arith, low, inside))) in
    subst (λ (l : List JudgedArea). Tallies l c.replace.new.self)
    (ap (λ (a : JudgedArea). changed_at n (λ _. a) present) c.after.ensures ∙ turn-more Left from n areas present (slice_index_or areas n _) c.loop-n.auto.n refl at)
    (area-put present c.loop-n.tally c.replace.new.self n (slice_index_or areas n _) c.after.result at c.loop-n.invariant c.replace.ensures)
