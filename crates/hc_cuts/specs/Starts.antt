-- The boundaries of a task by searches in its tree of sums.
use Rattle.std.specs.Prelude.{ℕ, List, [], ◌∷◌, slice_index_or}
use Rattle.hc_records.specs.declared.keys.Key.{Key}
use Rattle.hc_records.specs.declared.keys.TheConstants.Key.{START, END}
use Rattle.hc_records.specs.TaskList.{Keyed}
use Rattle.hc_records.specs.Boundaries.{later_keys}
use Rattle.hc_records.specs.SpanLaws.{areas_from}
use Rattle.hc_bitsum.specs.Tree.{Tree}

-- the key at which the second datagram begins if the areas from a key on are packed by themselves; END if one holds them all
abbrev pub next_boundary : Key → List Keyed → Key
next_boundary from list = slice_index_or (later_keys (areas_from from list)) 0 END

-- the most nodes and areas that a search reads
abbrev pub most_read : ℕ
most_read = 104

-- the areas of a task, and the boundaries that were last computed for them, without END
pub record TaskCuts : Type 0 where
  pub tree : Tree
  pub starts : List Key

-- a task of this many slaves without areas
abbrev pub empty_task_cuts : ℕ → TaskCuts
empty_task_cuts slaves = record { tree = record { slaves = slaves; list = [] }; starts = START ∷ [] }

-- the same areas and boundaries, with this many slaves
abbrev pub cuts_with_slaves : ℕ → TaskCuts → TaskCuts
cuts_with_slaves slaves cuts = record { tree = record { slaves = slaves; list = cuts.tree.list }; starts = cuts.starts }
