use Rattle.std.proofs.Common.{◌≡◌, ◌∙◌, None, ap, subst, sym}
use Rattle.hc_records.specs.Line.{groups_of}
use Rattle.hc_records.specs.Project.{lowest_fault}
use Rattle.hc_groups.specs.declared.prepared.Prepared.{Prepared}
use Rattle.hc_groups.specs.declared.prepared.Prepared.TheVariants.{Presence}
use Rattle.hc_groups.specs.Changes.{IsMade, changed_groups}
use Rattle.hc_groups.specs.Index.{BeginsWithLine, Index, IsIndexOf}
use Rattle.hc_groups.proofs.Summed.{some-at}
use Rattle.hc_groups.proofs.Turned.{areas-unchanged, made-inside, turned-unchanged}
use Rattle.hc_groups.proofs.index.Index.follow.Goals as goal

pub turn-requires-clause-inside : goal.turn-requires-clause-inside
turn-requires-clause-inside c = made-inside c.args.groups.now c.in-Presence.change (subst (IsMade c.args.groups.now) c.in-Presence.is c.requires.made)

pub stretch-stretch-requires-clause-inside : goal.stretch-stretch-requires-clause-inside
stretch-stretch-requires-clause-inside c = made-inside c.args.groups.now c.in-Presence.change (subst (IsMade c.args.groups.now) c.in-Presence.is c.requires.made)

pub restation-requires-clause-line : goal.restation-requires-clause-line
restation-requires-clause-line c = subst (λ (index : Index). BeginsWithLine c.args.groups.now index.line) (sym c.turn.ensures) c.requires.index.line

pub restation-requires-clause-inside : goal.restation-requires-clause-inside
restation-requires-clause-inside c = made-inside c.args.groups.now c.in-Presence.change (subst (IsMade c.args.groups.now) c.in-Presence.is c.requires.made)

pub returns-in-Presence : goal.returns-in-Presence
returns-in-Presence c =
    let groups = c.args.groups.now in
    let change = c.in-Presence.change in
    let made = subst (IsMade groups) c.in-Presence.is c.requires.made in
    let own = some-at groups change.group (made-inside groups change made) in
    let project = subst (λ (p : Prepared). lowest_fault (groups_of (changed_groups p groups)) ≡ None) c.in-Presence.is c.requires.project in
    let line = c.restation.new.self.line in
    let same = c.restation.ensures.rest ∙ ap (λ (index : Index). record index { line = line }) c.turn.ensures in
    subst (λ (p : Prepared). IsIndexOf (changed_groups p groups) c.restation.new.self) (sym c.in-Presence.is)
    (subst (IsIndexOf (changed_groups (Presence change) groups)) (sym same) (turned-unchanged groups change c.args.self.now own.0 line c.requires.index made project own.1 c.restation.ensures.line))

pub returns-in-Areas : goal.returns-in-Areas
returns-in-Areas c =
    let groups = c.args.groups.now in
    let project = subst (λ (p : Prepared). lowest_fault (groups_of (changed_groups p groups)) ≡ None) c.in-Areas.is c.requires.project in
    subst (λ (p : Prepared). IsIndexOf (changed_groups p groups) c.args.self.now) (sym c.in-Areas.is)
    (areas-unchanged groups _ c.args.self.now c.requires.index (subst (IsMade groups) c.in-Areas.is c.requires.made) project)
