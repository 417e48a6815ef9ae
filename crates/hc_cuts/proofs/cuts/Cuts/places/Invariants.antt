use Rattle.std.proofs.Common.{◌≡◌, ◌++◌, [], ◌∷◌}
use Rattle.hc_records.specs.declared.keys.TheConstants.Key.{END}
use Rattle.hc_records.specs.Packing.{empty_front, packed}
use Rattle.hc_cuts.proofs.Whole.{places_from}
use Rattle.hc_cuts.proofs.cuts.Cuts.places.Given as goal

-- the places so far, and those of the areas from the next boundary on, are all
abbrev pub invariant-loop-i : goal.invariant-loop-i
invariant-loop-i l = l.places.items ++ places_from l.i (l.starts ++ END ∷ []) l.self-inside.tree.list ≡ packed empty_front l.self-inside.tree.list
