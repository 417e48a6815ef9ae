-- What was read so far, with what is left, is what the whole array reads as.
use Rattle.std.proofs.Common.{◌≡◌, ◌++◌, drop}
use Rattle.toml.specs.View.{items_view}
use Rattle.hc_project.specs.Arrays.{each}
use Rattle.hc_project.specs.Reading.{both}
use Rattle.hc_project.proofs.arrays.read_each.Given as goal

abbrev pub invariant-loop-index : goal.invariant-loop-index
invariant-loop-index g l = record {
  items : l.items ++ (each (g.T.Readable.reads l.most l.place) l.index (items_view (drop l.index l.values))).value ≡ (each (g.T.Readable.reads l.most l.place) 0 (items_view l.values)).value;
  faults : both l.syntax_faults (each (g.T.Readable.reads l.most l.place) l.index (items_view (drop l.index l.values))).syntax_faults ≡ (each (g.T.Readable.reads l.most l.place) 0 (items_view l.values)).syntax_faults;
}
