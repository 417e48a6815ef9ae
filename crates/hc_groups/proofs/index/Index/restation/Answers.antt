use Rattle.std.proofs.Common.{◌∙◌, ◌≤◌, List, Some, ap, arith, length, subst, sym, ℕ}
use Rattle.std.specs.Vec.{with_items}
use Rattle.std.proofs.lemmas.List.{with_items_is}
use Rattle.std.proofs.lemmas.Option.{slice_get-get_or}
use Rattle.hc_records.specs.declared.records.Slave.{Slave}
use Rattle.hc_groups.specs.Changes.{changed_groups}
use Rattle.hc_groups.specs.declared.prepared.Prepared.TheVariants.{Presence}
use Rattle.hc_groups.specs.Index.{BeginsWithLine, Index, stations}
use Rattle.hc_groups.specs.inner.Line.{IsReplaced}
use Rattle.hc_groups.proofs.LineLists.{begins-replaced, stretch-inside, stretch-most, stretch-room}
use Rattle.hc_groups.proofs.index.Index.restation.Goals as goal

pub replace-requires-clause-inside : goal.replace-requires-clause-inside
replace-requires-clause-inside c =
    let here = slice_get-get_or c.args.groups.now c.args.change.now.group c.index-groups-change.result c.requires.inside in
    stretch-inside c.args.groups.now c.args.change.now.group _ c.args.change.now.present c.args.stretch here c.requires.stretch

pub replace-requires-clause-most : goal.replace-requires-clause-most
replace-requires-clause-most c =
    let here = slice_get-get_or c.args.groups.now c.args.change.now.group c.index-groups-change.result c.requires.inside in
    let list = c.as_mut_slice.ensures.value ∙ ap (λ (index : Index). index.line) c.self.view_is in
    subst (λ (l : List ℕ). c.args.stretch.line ≤ length l) (sym list)
    (stretch-most c.args.groups.now c.args.change.now.group _ c.args.change.now.present c.args.stretch here c.requires.stretch c.args.self.now.line c.requires.line)

pub replace-requires-clause-room : goal.replace-requires-clause-room
replace-requires-clause-room c =
    let here = slice_get-get_or c.args.groups.now c.args.change.now.group c.index-groups-change.result c.requires.inside ∙ ap Some (sym c.index-groups-change.is) in
    let list = ap length (c.as_mut_slice.ensures.value ∙ ap (λ (index : Index). index.line) c.self.view_is) in
    let own = ap length c.slaves_if-slaves.ensures in
    let room = stretch-room c.args.groups.now c.args.change.now.group c.index-groups-change.result c.args.change.now.present c.args.stretch here c.requires.stretch c.args.self.now.line c.requires.line in
    omega (arith, list, own, room)

pub returns-clause-rest : goal.returns-clause-rest
returns-clause-rest c = ap (λ (index : Index). record index { line = (with_items c.self.inside.line c.replace.new.list).items }) c.self.view_is

pub returns-clause-line : goal.returns-clause-line
returns-clause-line c =
    let groups = c.args.groups.now in
    let change = c.args.change.now in
    let here = slice_get-get_or groups change.group c.index-groups-change.result c.requires.inside ∙ ap Some (sym c.index-groups-change.is) in
    let list = c.as_mut_slice.ensures.value ∙ ap (λ (index : Index). index.line) c.self.view_is in
    let long = ap length c.as_mut_slice.ensures.value in
    let unchanged = with_items_is c.self.inside.line c.replace.new.list (omega (arith, c.replace.ensures.long, c.self.inside.line.ok.0, long)) in
    let replaced = subst (λ (l : List ℕ). IsReplaced c.args.stretch (stations c.slaves_if-slaves.result.now) l c.replace.new.list) list c.replace.ensures in
    subst (BeginsWithLine (changed_groups (Presence change) groups)) (sym unchanged)
    (begins-replaced groups change.group c.index-groups-change.result change.present c.args.stretch here c.requires.stretch c.args.self.now.line c.replace.new.list c.requires.line
    (subst (λ (slaves : List Slave). IsReplaced c.args.stretch (stations slaves) c.args.self.now.line c.replace.new.list) c.slaves_if-slaves.ensures replaced))
