use Rattle.std.proofs.Common.{◌≡◌, map, take}
use Rattle.hc_segment.specs.Setup.{data_in}
use Rattle.hc_segment.proofs.setup.words_of.Given as goal

abbrev pub invariant-loop-frame : goal.invariant-loop-frame
invariant-loop-frame l = l.words.items ≡ map data_in (take l.frame-index l.frames)
