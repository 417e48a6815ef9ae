-- The work of an edit, its report and its moved blocks make a prepared edit.
use Rattle.std.proofs.Common.{◌≡◌, ◌∙◌, ◌+◌, false, List, [], ◌∷◌, ◌++◌, None, ap, refl, sym, subst, rules}
use Rattle.std.specs.Prelude.{◌==◌, Ok, Some}
use Rattle.hc_records.specs.declared.edit.Edit.{Edit}
use Rattle.hc_records.specs.declared.records.Declared.{Declared}
use Rattle.hc_records.specs.declared.edit.Edit.TheVariants.{Connect, Disconnect, Remap, Move, Declare}
use Rattle.hc_records.specs.declared.limits.TheConstants.{LAST_EPOCH}
use Rattle.hc_records.specs.Edits.{absent, changed, over_limit_task, declares, declaring_faults, edited, groups_after}
use Rattle.hc_records.specs.Lists.{lowest}
use Rattle.hc_records.proofs.lemmas.Declaring.{declared-keep, line-absent}
use Rattle.hc_records.specs.Line.{State, groups_of, line, line_from}
use Rattle.hc_records.specs.Project.{lowest_fault}
use Rattle.hc_registers.specs.Ranked.{RankedBlock, moved_ranked}
use Rattle.hc_registers.specs.RankDifferences.{Differ}
use Rattle.hc_registers.specs.RankPlaces.{places}
use Rattle.hc_registers.proofs.lemmas.RanksDeclared.{declared-differ}
use Rattle.hc_cuts.specs.Areas.{areas_by_rank}
use Rattle.hc_cuts.specs.ApplyWidths.{AreStartsOf}
use Rattle.hc_groups.specs.declared.prepared.Prepared.{Prepared}
use Rattle.hc_groups.specs.Changes.{change_by, changed_groups}
use Rattle.hc_groups.specs.Edits.{own_fault}
use Rattle.hc_groups.specs.Rows.{ChangesRow}
use Rattle.hc_places.specs.Room.{IsRowRoomFor}
use Rattle.hc_places.specs.Table.{Table, table_of}
use Rattle.hc_changes.specs.EditedLine.{EditedLine, IsEditedLine, edited_line_of}
use Rattle.hc_plan.specs.declared.report.Report.{Report}
use Rattle.hc_plan.specs.Gone.{gone_of}
use Rattle.hc_plan.specs.inner.Applied.{Makes}
use Rattle.hc_plan.specs.declared.declaring.Declaration.{Declaration}
use Rattle.hc_plan.specs.declared.work.LineWork.{LineWork}
use Rattle.hc_plan.specs.declared.work.Work.TheVariants.{NewGroup, NewLine, NewTask}
use Rattle.hc_plan.specs.inner.Declaring.{CanDeclare, ShowsNothing}
use Rattle.hc_plan.specs.inner.Prepared.{AreConfiguredAlike, IsWorkReady, MovesNoBits, prepared_of}
use Rattle.hc_plan.specs.Prepared.{IsPrepared}
use Rattle.hc_plan.proofs.Declared.{line-alike, none-ranked}
use Rattle.hc_plan.proofs.Editing.{declared-accepted, made-accepted}
use Rattle.hc_plan.specs.Reports.{ReportsEdit}
use Rattle.hc_plan.proofs.lemmas.Differing.{edits-differ}

-- a change makes this of a plan's line
pub makes : (it : EditedLine) (change : Prepared) (edit : Edit) (table : Table) (groups : List Declared) → declares edit ≡ false → IsEditedLine it → it ≡ edited_line_of change groups
    → own_fault groups edit ≡ None → changed_groups change groups ≡ groups_after groups edit → over_limit_task (line_from 1 groups) ≡ None → table ≡ table_of (line_from 1 groups)
    → Makes edit table it
makes it change edit table groups changes is same own leads fits is_placed = search rules

-- what is said of it, by the states
pub is-prepared : (old : State) (work : LineWork) (it : EditedLine) (edit : Edit) (report : Report) (blocks : List RankedBlock)
    → lowest_fault (groups_of old.groups) ≡ None → over_limit_task (line old) ≡ None → change_by old.groups edit ≡ Some work.change → it ≡ edited_line_of work.change old.groups
    → ReportsEdit (record { groups = it.old; epoch = old.epoch }) edit (record { groups = it.new; epoch = old.epoch + 1 }) report
    → edited (record { groups = it.old; epoch = old.epoch }) edit ≡ Ok (record { groups = it.new; epoch = old.epoch + 1 })
    → over_limit_task (line_from 1 it.new) ≡ None → blocks ≡ moved_ranked (line_from 1 it.old) (line_from 1 it.new)
    → IsPrepared (prepared_of old (NewLine work) report blocks)
is-prepared old work it edit report blocks project fits changes same =
    let change = work.change in
    let new : State = record { groups = changed_groups change old.groups; epoch = old.epoch + 1 } in
    subst
    (λ (o : EditedLine).
    ReportsEdit (record { groups = o.old; epoch = old.epoch }) edit (record { groups = o.new; epoch = old.epoch + 1 }) report
    → edited (record { groups = o.old; epoch = old.epoch }) edit ≡ Ok (record { groups = o.new; epoch = old.epoch + 1 })
    → over_limit_task (line_from 1 o.new) ≡ None → blocks ≡ moved_ranked (line_from 1 o.old) (line_from 1 o.new)
    → IsPrepared (prepared_of old (NewLine work) report blocks)) (sym same)
    (λ answer_given accepted uncrowded moved. record {
      project = project;
      accepted = subst (λ (e : Edit). edited old e ≡ Ok new) (sym answer_given.named) accepted;
      reported = subst (λ (e : Edit). ReportsEdit old e new report) (sym answer_given.named) answer_given;
      crowds = (fits, uncrowded);
      blocks = moved;
      differ = subst (Differ (places old) (places new) (gone_of change)) (sym moved) (edits-differ old new edit change project accepted changes);
    })

-- and what is kept for carrying it out
pub is-ready : (old : State) (work : LineWork) (it : EditedLine) (edit : Edit) (report : Report) (table : Table)
    → report.swap.edit ≡ edit → declares edit ≡ false → change_by old.groups edit ≡ Some work.change → changed_groups work.change old.groups ≡ groups_after old.groups edit → lowest_fault (groups_of (changed_groups work.change old.groups)) ≡ None
    → ChangesRow work.change old.groups
    → it ≡ edited_line_of work.change old.groups → AreStartsOf (areas_by_rank it.new) work.starts
    → table ≡ table_of (line old) → IsRowRoomFor report.swap.change table work.rows
    → IsWorkReady old report (NewLine work)
is-ready old work it edit report table named changes made leads project row same known is_placed space = search rules

-- a declared group changes no block of the line
pub declared-prepared : (old : State) (edit : Edit) (declaration : Declaration) (report : Report) → lowest_fault (groups_of old.groups) ≡ None → over_limit_task (line old) ≡ None
    → (old.epoch == LAST_EPOCH) ≡ false → edit ≡ Declare declaration.group → report.swap.edit ≡ edit → lowest (declaring_faults old.groups declaration.group) ≡ None → ShowsNothing old edit report
    → IsPrepared (prepared_of old (NewGroup declaration) report [])
declared-prepared old edit declaration report project fits more is named free nothing =
    let group = declaration.group in
    let new = changed old (Declare group) in
    let same = line-absent 1 old.groups group in
    let alike = line-alike (line old) (line new) same in
    let asked = named ∙ is in
    record {
      project = project;
      accepted = ap (edited old) asked ∙ declared-accepted old group fits more free;
      reported = subst (λ (e : Edit). ReportsEdit old e new report) (sym named) (nothing new alike refl);
      crowds = (fits, ap over_limit_task same ∙ fits);
      blocks = sym (none-ranked (line old) (line new) alike);
      differ = declared-differ old group;
    }

pub moving-declares : (groups : List Declared) (edit : Edit) → MovesNoBits groups edit → declares edit ≡ false
moving-declares groups (Connect alias) moves = refl
moving-declares groups (Disconnect alias) moves = refl
moving-declares groups (Remap station area pdos) moves = refl
moving-declares groups (Move station area task) moves = refl
moving-declares groups (Declare group) moves = absurd moves

-- nor does an area without bits that is in another task
pub task-prepared : (old : State) (edit : Edit) (change : Prepared) (report : Report) → lowest_fault (groups_of old.groups) ≡ None → over_limit_task (line old) ≡ None
    → (old.epoch == LAST_EPOCH) ≡ false → declares edit ≡ false → own_fault old.groups edit ≡ None → change_by old.groups edit ≡ Some change
    → changed_groups change old.groups ≡ groups_after old.groups edit → AreConfiguredAlike old.groups (changed_groups change old.groups)
    → report.swap.edit ≡ edit → ShowsNothing old edit report → IsPrepared (prepared_of old (NewTask change) report [])
task-prepared old edit change report project fits more changes own made leads same named nothing =
    let groups = changed_groups change old.groups in
    let new : State = record { groups = groups; epoch = old.epoch + 1 } in
    let uncrowded = same.crowds ∙ fits in
    let accepted = made-accepted old.groups groups old.epoch edit changes own leads uncrowded more in
    let none = sym (none-ranked (line old) (line new) same.alike) in
    record {
      project = project;
      accepted = subst (λ (e : Edit). edited old e ≡ Ok new) (sym named) accepted;
      reported = subst (λ (e : Edit). ReportsEdit old e new report) (sym named) (nothing new same.alike refl);
      crowds = (fits, uncrowded);
      blocks = none;
      differ = subst (Differ (places old) (places new) (gone_of change)) (sym none) (edits-differ old new edit change project accepted made);
    }

-- what a report of the same line gives, it says of the edit
pub nothing-named : (old : State) (edit : Edit) (report : Report) → ShowsNothing old edit report → report.swap.edit ≡ edit
nothing-named old edit report nothing = (nothing (record { groups = old.groups; epoch = old.epoch + 1 }) (line-alike (line old) (line old) refl) refl).named

-- the groups with the declared one, and their line
pub record IsDeclared (groups : List Declared) (table : Table) : Type 0 where
  pub project : lowest_fault (groups_of groups) ≡ None
  pub fits : over_limit_task (line_from 1 groups) ≡ None
  pub is_placed : table ≡ table_of (line_from 1 groups)

pub declared-line : (groups new : List Declared) (declaration : Declaration) → CanDeclare groups declaration → new ≡ groups ++ absent declaration.group ∷ [] → (table : Table)
    → over_limit_task (line_from 1 groups) ≡ None → table ≡ table_of (line_from 1 groups) → IsDeclared new table
declared-line groups new declaration can is table fits is_placed =
    let same : line_from 1 new ≡ line_from 1 groups = ap (line_from 1) is ∙ line-absent 1 groups declaration.group in
    record {
      project = ap (λ (g : List Declared). lowest_fault (groups_of g)) is ∙ declared-keep groups declaration.group can.project can.free;
      fits = ap over_limit_task same ∙ fits;
      is_placed = is_placed ∙ ap table_of (sym same);
    }
