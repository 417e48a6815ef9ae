-- The groups read so far, with what is left, are what all are read as, and their slaves took their room.
use Rattle.std.proofs.Common.{◌≡◌, ◌++◌, drop}
use Rattle.toml.specs.View.{items_view}
use Rattle.hc_project.specs.Levels.{groups}
use Rattle.hc_project.specs.Reading.{both}
use Rattle.hc_project.proofs.levels.read_each_group.Given as goal

abbrev pub invariant-loop-index : goal.invariant-loop-index
invariant-loop-index l = record {
  items : l.items ++ (groups l.left l.index (items_view (drop l.index l.values))).value ≡ (groups l.room 0 (items_view l.values)).value;
  faults : both l.syntax_faults (groups l.left l.index (items_view (drop l.index l.values))).syntax_faults ≡ (groups l.room 0 (items_view l.values)).syntax_faults;
}
