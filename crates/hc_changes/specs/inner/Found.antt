-- The candidates of a line as they are found: by the ranks of the declared slaves, and of each slave by the indexes of its areas.
use Rattle.std.specs.Prelude.{◌≡◌, ℕ, zero, suc, ◌+◌, ◌<◌, ◌≤◌, true, List, [], ◌∷◌, ◌++◌, filter, length, map, slice_index_or, Bool, false}
use Rattle.std.specs.List.{flat_map}
use Rattle.hc_records.specs.declared.records.Area.{Area}
use Rattle.hc_records.specs.declared.records.Declared.{Declared}
use Rattle.hc_records.specs.Line.{line_from}
use Rattle.hc_cuts.specs.Starts.{TaskCuts}
use Rattle.hc_cuts.specs.Areas.{areas_of_rank, areas_by_rank}
use Rattle.hc_cuts.specs.LineKeeping.{Before, IsKnownBefore}
use Rattle.hc_cuts.specs.TaskCuts.{line_cuts}
use Rattle.hc_changes.specs.MaybeMovedAreas.{MaybeMoved, LineArea, maybe_moved_of, is_maybe_moved, is_recut}
use Rattle.hc_cuts.specs.LineChange.{changes}
use Rattle.hc_cuts.specs.Keeping.{is_unchanged_up_to}
use Rattle.hc_changes.specs.EditedLine.{EditedLine, IsEditedLine}
use Rattle.hc_records.specs.declared.keys.Key.{Key}
use Rattle.hc_records.specs.declared.records.Dir.TheVariants.{Out}
use Rattle.hc_records.specs.TaskList.{task_list}
use Rattle.hc_records.specs.Packing.{Placed}
use Rattle.hc_records.specs.Keys.{is_within, is_before}

-- the state of a line's tasks before they are turned, and the turned tasks
pub record IsMaybeMovedTest (edited_line : EditedLine) (before : Before) (cuts : List TaskCuts) : Type 0 where
  pub is : IsEditedLine edited_line
  pub known : IsKnownBefore (areas_by_rank edited_line.old) (areas_by_rank edited_line.new) before
  pub applied : cuts ≡ line_cuts (areas_by_rank edited_line.new)

-- the areas of a task's datagram have the same places as before, up to a place in it
abbrev pub is_unchanged_at : EditedLine → ℕ → Placed → Bool
is_unchanged_at edited_line task placed =
    is_unchanged_up_to (task_list task (line_from 1 edited_line.old)) (task_list task (line_from 1 edited_line.new)) placed.datagram placed.key

-- the candidates among some areas of the new line
unfoldable pub found_among : EditedLine → List LineArea → List MaybeMoved
found_among edited_line areas =
    map (maybe_moved_of (line_from 1 edited_line.new))
    (filter (is_maybe_moved (changes edited_line.change) (line_from 1 edited_line.old) (line_from 1 edited_line.new)) areas)

-- an area by the station address and the rank of its slave, and by its index there; the slave's other areas do not decide if it
-- is a candidate
abbrev pub area_by : ℕ → ℕ → ℕ → Area → LineArea
area_by station rank index area = record {
  member = record { rank = rank; slave = record { station = station; areas = [] } };
  index = index;
  area = area;
}

-- the candidate for such an area (`area_by`) in the new line, with its place, as a list of one; an empty list if it is none
abbrev pub area_found : EditedLine → ℕ → ℕ → ℕ → Area → List MaybeMoved
area_found edited_line station rank index area = found_among edited_line (area_by station rank index area ∷ [])

-- the candidates among a slave's areas, from an index on
unfoldable pub areas_found : EditedLine → ℕ → ℕ → ℕ → List Area → List MaybeMoved
areas_found edited_line station rank index [] = []
areas_found edited_line station rank index (area ∷ areas) =
    area_found edited_line station rank index area ++ areas_found edited_line station rank (index + 1) areas

-- the station addresses of all declared slaves, present or not, by rank
abbrev pub declared_stations : List Declared → List ℕ
declared_stations groups = flat_map (λ declared. map (λ slave. slave.station) declared.group.slaves) groups

-- the station address of the declared slave, present or not, with the rank, counted from 1; 0 if there is no such slave
abbrev pub ranked_station : List Declared → ℕ → ℕ
ranked_station groups rank = slice_index_or (0 ∷ declared_stations groups) rank 0

-- the candidates among the areas of the slave with a rank
unfoldable pub rank_found : EditedLine → ℕ → List MaybeMoved
rank_found edited_line rank = areas_found edited_line (ranked_station edited_line.old rank) rank 0 (areas_of_rank (areas_by_rank edited_line.new) rank)

-- the candidates of the slaves with lower ranks
unfoldable pub found_below : EditedLine → ℕ → List MaybeMoved
found_below edited_line zero = []
found_below edited_line (suc rank) = found_below edited_line rank ++ rank_found edited_line rank

-- a declared group, the first of whose slaves has a rank
pub record IsGroupAt (groups : List Declared) (first : ℕ) (declared : Declared) : Type 0 where
  pub front : List Declared
  pub after_it : List Declared
  pub split : groups ≡ front ++ (declared ∷ after_it)
  pub rank : first ≡ length (areas_by_rank front) + 1

-- each slave with candidates has a rank from one up to another
abbrev pub LieWithin : EditedLine → ℕ → ℕ → Type 0
LieWithin edited_line low high = (rank : ℕ) → (low ≤ rank → rank ≤ high → ⊥) → rank_found edited_line rank ≡ []

-- the ranks from one up to another include others
abbrev pub HoldRanks : ℕ → ℕ → ℕ → ℕ → Type 0
HoldRanks low high own_low own_high = (low ≤ own_low) × (own_high ≤ high)

-- an area of a task may have this key from one key on and before another; a task without inputs has keys of outputs alone
pub record LiesBetween (from to : Key) (inputs : Bool) (key : Key) : Type 0 where
  pub rank : key.rank < 65536
  pub outputs : inputs ≡ false → key.dir ≡ Out
  pub from_on : is_within from key ≡ true
  pub before : is_before key to ≡ true

-- the ranks from one up to another include those of the slaves that the edit concerns
abbrev pub HoldChanged : EditedLine → ℕ → ℕ → Type 0
HoldChanged edited_line low high = (rank : ℕ) → changes edited_line.change rank ≡ true → (low ≤ rank) × (rank ≤ high)

-- the ranks from one up to another include those of the slaves that have areas of a task in datagrams that were not kept up to
-- them
abbrev pub HoldRecut : EditedLine → ℕ → ℕ → ℕ → Type 0
HoldRecut edited_line task low high =
    (found : LineArea) → found.area.task ≡ task → found.member.rank < 65536
    → is_recut (line_from 1 edited_line.old) (line_from 1 edited_line.new) found ≡ true → (low ≤ found.member.rank) × (found.member.rank ≤ high)
