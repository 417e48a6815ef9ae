-- The index of declared groups after a change.
use Rattle.std.specs.Prelude.{ℕ, zero, suc, ◌+◌, ◌-◌, if◌then◌else◌, List, [], ◌∷◌, get_or, length, map}
use Rattle.hc_records.specs.declared.records.Declared.{Declared}
use Rattle.hc_groups.specs.declared.changes.PresenceChange.{PresenceChange}
use Rattle.hc_groups.specs.Changes.{slaves_at}
use Rattle.hc_groups.specs.Index.{Index, block_sum}

-- prefix sums of a list in which the element with an index has another weight: those after it follow
abbrev pub recounted : ℕ → ℕ → List ℕ → List ℕ
recounted index count [] = []
recounted zero count (sum ∷ sums) = sum ∷ map (λ other. other + count - (get_or sums 0 0 - sum)) sums
recounted (suc index) count (sum ∷ sums) = sum ∷ recounted index count sums

-- an index in which a group is present or not
abbrev pub turned_index : List Declared → PresenceChange → Index → Index
turned_index groups change index =
    record index {
      slaves = recounted change.group (length (if change.present then slaves_at groups change.group else [])) index.slaves;
      blocks = recounted change.group (block_sum (if change.present then slaves_at groups change.group else [])) index.blocks;
    }
