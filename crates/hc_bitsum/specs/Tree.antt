-- The model of a tree of sums.
use Rattle.std.specs.Prelude.{◌≡◌, ℕ, ◌^◌, ◌<◌, ◌≤◌, ◌==◌, ◌⊎◌, nat_lt, Bool, if◌then◌else◌, All, List, [], ◌∷◌, ◌++◌, filter}
use Rattle.hc_records.specs.declared.keys.Key.{Key}
use Rattle.hc_records.specs.declared.keys.TheConstants.Key.{START}
use Rattle.hc_records.specs.declared.limits.TheConstants.{MOST_AREAS}
use Rattle.hc_records.specs.Keys.{is_before}
use Rattle.hc_records.specs.SpanLaws.{IsTaskList}
use Rattle.hc_records.specs.TaskList.{Keyed}

-- the number of slaves that it has places for, and the areas with a width, in key order
pub record Tree : Type 0 where
  pub slaves : ℕ
  pub list : List Keyed

-- there is a place for an area with the key
pub record HasPlace (slaves : ℕ) (key : Key) : Type 0 where
  pub first : 1 ≤ key.rank
  pub last : key.rank ≤ slaves
  pub area : key.area < MOST_AREAS

-- a tree with places for so many slaves has room for others too: each power of two that is not below the first number is not
-- below the second
abbrev pub HasRoom : ℕ → ℕ → Type 0
HasRoom slaves others = (levels : ℕ) → slaves ≤ 2 ^ levels → others ≤ 2 ^ levels

-- the invariant of a tree: the list of a task, and a place for each of its areas
pub record HoldsTaskList (tree : Tree) : Type 0 where
  pub list : IsTaskList tree.list
  pub places : All (λ area. HasPlace tree.slaves area.0) tree.list

-- a search begins at the front of the list, or at a key that has a place
abbrev pub CanBegin : ℕ → Key → Type 0
CanBegin slaves key = (key ≡ START) ⊎ HasPlace slaves key

-- an area has a width of at least 1 bit
abbrev pub has_width : Keyed → Bool
has_width area = nat_lt 0 area.1

-- the list with the width of a key set: between those of lower and of higher keys, and not at all if it has no bits
abbrev pub with_width : Key → ℕ → List Keyed → List Keyed
with_width key bits list =
    filter (λ area. is_before area.0 key) list
    ++ (if bits == 0 then [] else (key, bits) ∷ [])
    ++ filter (λ area. is_before key area.0) list
