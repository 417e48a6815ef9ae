use Rattle.std.proofs.Common.{ℕ, ◌*◌, ◌++◌, ◌∷◌, [], List, length, replicate, sym, ap, subst, ◌∙◌, length-append, arith}
use Rattle.std.proofs.lemmas.List.{length-map}
use Rattle.hc_records.specs.declared.records.Slave.{Slave}
use Rattle.hc_records.specs.Edits.{absent}
use Rattle.hc_records.specs.Line.{groups_of}
use Rattle.hc_records.specs.Project.{slaves_of}
use Rattle.hc_records.proofs.lemmas.Projects.{project-few}
use Rattle.hc_registers.specs.RankPlaces.{stations}
use Rattle.hc_registers.proofs.lemmas.RanksDeclared.{declared-stations}
use Rattle.hc_owed.specs.declared.area.JudgedArea.{JudgedArea}
use Rattle.hc_owed.specs.Readiness.{judged_at, no_area}
use Rattle.hc_owed.specs.Tally.{Tallies}
use Rattle.hc_owed.proofs.AreaPlaces.{length-range}
use Rattle.hc_owed.proofs.Counting.{areas-more}
use Rattle.hc_owed.proofs.Opened.{length-copies}
use Rattle.hc_owed.proofs.ReadyEntering.{entered}
use Rattle.hc_owed.proofs.readiness.Readiness.admit.Goals as goal

pub returns : goal.returns
returns c can =
    let more = ap (λ (k : ℕ). 8 * k) can.fits.slaves_are in
    c.add_areas.ensures ∙ ap (λ (l : List JudgedArea). l ++ replicate (8 * c.args.room.slaves) no_area) c.self.view_is
    ∙ ap (λ (k : ℕ). c.args.self.now ++ replicate k no_area) more ∙ entered c.args.self.now c.args.room can

pub invariant_of-self : goal.invariant_of-self
invariant_of-self c =
    let items = c.self.inside.areas.items in
    let can = c.requires in
    let count = 8 * c.args.room.slaves in
    let all = sym c.add_areas.ensures in
    let size = ap length c.add_areas.ensures ∙ length-append items (replicate count no_area) in
    let copies = length-copies count no_area in
    let own = ap length c.self.view_is ∙ ap length can.right.right ∙ length-range (judged_at can.known can.held can.unplugged can.old) (8 * length (stations can.old)) in
    let named = ap length (declared-stations can.old can.group) ∙ length-append (stations can.old) _ in
    let each = length-map can.group.slaves (λ (slave : Slave). slave.station) in
    let declared = length-map (slaves_of (groups_of (can.old.groups ++ absent can.group ∷ []))) (λ (slave : Slave). slave.station) in
    let few = project-few (groups_of (can.old.groups ++ absent can.group ∷ [])) can.project in (
      subst (λ (l : List JudgedArea). Tallies l c.self.inside.tally) all (areas-more items count c.self.inside.tally c.self.invariant.0),
      omega (arith, size, copies, own, named, each, declared, few, can.fits.slaves_are),
    )
