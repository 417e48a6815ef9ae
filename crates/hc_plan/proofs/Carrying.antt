-- The stored register blocks of a plan that carries an edit out: the prepared edit says how the line after it differs.
use Rattle.std.proofs.Common.{◌≡◌, ◌+◌, List, Option, subst, sym}
use Rattle.hc_records.specs.Line.{State}
use Rattle.hc_registers.specs.Blocks.{RegisterBlock}
use Rattle.hc_registers.specs.declared.ranked.Gone.{Gone}
use Rattle.hc_registers.specs.Ranked.{RankedBlock}
use Rattle.hc_registers.specs.RankDifferences.{Differ}
use Rattle.hc_registers.specs.RankPlaces.{places}
use Rattle.hc_groups.specs.declared.prepared.Prepared.{Prepared}
use Rattle.hc_groups.specs.Changes.{changed_groups}
use Rattle.hc_plan.specs.declared.report.Report.{Report}
use Rattle.hc_plan.specs.declared.work.LineWork.{LineWork}
use Rattle.hc_plan.specs.declared.work.Work.TheVariants.{NewLine, NewTask}
use Rattle.hc_plan.specs.Gone.{gone_of}
use Rattle.hc_plan.specs.RegisterBlocks.{blocks_by_rank}
use Rattle.hc_plan.specs.inner.Prepared.{CanCarry}
use Rattle.hc_plan.specs.inner.RegisterBlocks.{BlocksAreEdited}
use Rattle.hc_plan.proofs.BlocksEdited.{same-places}

-- the state that a change makes of another
abbrev pub next_by : Prepared → State → State
next_by change old = record { groups = changed_groups change old.groups; epoch = old.epoch + 1 }

abbrev pub line-stored : (old : State) (report : Report) (work : LineWork) (moved : List RankedBlock) (blocks : List (Option RegisterBlock)) (gone : Gone) → CanCarry old report (NewLine work) moved
    → blocks ≡ blocks_by_rank old.groups → gone ≡ gone_of work.change → BlocksAreEdited blocks gone moved
line-stored old report work moved blocks gone can are is = record {
  old = places old;
  new = places (next_by work.change old);
  are = are;
  size = same-places old (next_by work.change old) report.swap.edit can.ready.changes can.prepared.accepted;
  differ = subst (λ (g : Gone). Differ (places old) (places (next_by work.change old)) g moved) (sym is) can.prepared.differ;
}

abbrev pub task-stored : (old : State) (report : Report) (change : Prepared) (moved : List RankedBlock) (blocks : List (Option RegisterBlock)) (gone : Gone) → CanCarry old report (NewTask change) moved
    → blocks ≡ blocks_by_rank old.groups → gone ≡ gone_of change → BlocksAreEdited blocks gone moved
task-stored old report change moved blocks gone can are is = record {
  old = places old;
  new = places (next_by change old);
  are = are;
  size = same-places old (next_by change old) report.swap.edit can.ready.changes can.prepared.accepted;
  differ = subst (λ (g : Gone). Differ (places old) (places (next_by change old)) g moved) (sym is) can.prepared.differ;
}
