use Rattle.std.proofs.Common.{◌≡◌, ℕ, ◌*◌, List, Bool, length, map, ap, ◌∙◌, arith, rules}
use Rattle.std.specs.Prelude.{None, Option, option_map, replicate}
use Rattle.std.proofs.lemmas.List.{length-map}
use Rattle.hc_records.specs.declared.records.Declared.{Declared}
use Rattle.hc_records.specs.Line.{groups_of}
use Rattle.hc_records.specs.Project.{slaves_of}
use Rattle.hc_records.proofs.lemmas.Projects.{project-few}
use Rattle.hc_registers.specs.Blocks.{RegisterBlock}
use Rattle.hc_registers.specs.RankPlaces.{stations}
use Rattle.hc_registers.proofs.lemmas.RanksStanding.{length-places}
use Rattle.hc_owed.specs.Opening.{declared_flags}
use Rattle.hc_owed.proofs.Opened.{register_state_from, length-copies, length-declared, none-bytes, opened-right}
use Rattle.hc_owed.proofs.owed.Owed.new.Goals as goal

named : (c : goal.In_ok-owed) → c.in_ok-stations.stations.items ≡ stations c.args.plan.now
named c = c.in_ok-stations.ensures ∙ ap (λ (groups : List Declared). map (λ slave. slave.station) (slaves_of (groups_of groups))) c.groups.ensures.value

counted : (c : goal.In_ok-owed) → length c.in_ok-stations.stations.items ≡ length (slaves_of (groups_of c.args.plan.now.groups))
counted c = ap (λ (list : List ℕ). length list) (named c) ∙ length-map (slaves_of (groups_of c.args.plan.now.groups)) (λ slave. slave.station)

flagged : (c : goal.In_ok-owed) → c.in_ok-owed.owed.list ≡ declared_flags c.args.plan.now.groups
flagged c = c.in_ok-owed.ensures ∙ ap declared_flags c.groups-2.ensures.value

pub invariant_of-result : goal.invariant_of-result
invariant_of-result c = search (rules, counted, length-copies, flagged, length-declared, project-few)

pub returns : goal.returns
returns c =
    let plan = c.args.plan.now in
    let bytes : List (Option RegisterBlock) → List (Option (List ℕ)) = λ known. map (λ one. option_map (λ block. block.bytes) one) known in
    let n = 16 * c.len-places.result in
    let count = counted c in
    let size = length-places plan in
    ap (λ (k : List (Option (List ℕ))). register_state_from k c.in_ok-owed.owed.list c.in_ok-stations.stations.items) (ap bytes c.in_ok-known.ensures ∙ none-bytes n)
    ∙ ap (λ (o : List Bool). register_state_from (replicate n None) o c.in_ok-stations.stations.items) (flagged c)
    ∙ ap (register_state_from (replicate n None) (declared_flags plan.groups)) (named c)
    ∙ opened-right plan n (omega (arith, count, size, c.len-places.ensures))

pub overflow_mul-places : goal.overflow_mul-places
overflow_mul-places c =
    let count = ap length c.in_ok-stations.ensures ∙ length-map (slaves_of (groups_of c.groups.result.now)) (λ slave. slave.station)
    ∙ ap (λ (groups : List Declared). length (slaves_of (groups_of groups))) c.groups.ensures.value in
    let few = project-few (groups_of c.args.plan.now.groups) c.groups.ensures.project in
    omega (arith, count, few, c.len-places.ensures)

pub declared_flags-requires-clause-places : goal.declared_flags-requires-clause-places
declared_flags-requires-clause-places c =
    let count = ap length c.in_ok-stations.ensures ∙ length-map (slaves_of (groups_of c.groups.result.now)) (λ slave. slave.station)
    ∙ ap (λ (groups : List Declared). length (slaves_of (groups_of groups))) c.groups.ensures.value in
    let again = ap (λ (groups : List Declared). length (slaves_of (groups_of groups))) c.groups-2.ensures.value in
    omega (arith, count, again, c.len-places.ensures)

pub declared_flags-requires-clause-low : goal.declared_flags-requires-clause-low
declared_flags-requires-clause-low c =
    let count = ap length c.in_ok-stations.ensures ∙ length-map (slaves_of (groups_of c.groups.result.now)) (λ slave. slave.station)
    ∙ ap (λ (groups : List Declared). length (slaves_of (groups_of groups))) c.groups.ensures.value in
    let few = project-few (groups_of c.args.plan.now.groups) c.groups.ensures.project in
    omega (arith, count, few, c.len-places.ensures)
