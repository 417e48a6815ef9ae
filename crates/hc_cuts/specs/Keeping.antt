-- The datagrams of a task that an edit leaves as they are.
use Rattle.std.specs.Prelude.{ℕ, ◌+◌, ◌&&◌, not, Bool, false, List, [], ◌∷◌, ◌++◌, slice_get, slice_index_or, ◌≡◌, true}
use Rattle.std.specs.Option.{option_map_or}
use Rattle.hc_records.specs.declared.keys.Key.{Key}
use Rattle.hc_records.specs.declared.keys.TheConstants.Key.{END}
use Rattle.hc_records.specs.Keys.{same_key, is_before}
use Rattle.hc_records.specs.TaskList.{Keyed}
use Rattle.hc_records.specs.Boundaries.{Interval, boundaries, is_settled, spans, is_touched}
use Rattle.hc_records.specs.SpanLaws.{IsTaskList}
use Rattle.hc_cuts.specs.declared.hulls.Hulls.{Hulls}
use Rattle.hc_cuts.specs.Repair.{meets_either}
use Rattle.hc_cuts.specs.Hulls.{AreHulls}

-- the datagram of a task's list with a number begins at a key
abbrev pub begins_at : List Keyed → ℕ → Key → Bool
begins_at list datagram key = option_map_or (same_key key) (slice_get (boundaries list) datagram) false

-- a datagram of the new list stays: its span is settled, and the old list's datagram with its number began at the same key
abbrev pub is_unchanged : List Keyed → List Keyed → ℕ → Bool
is_unchanged old new datagram =
    option_map_or (λ span. is_settled old new span && begins_at old datagram span.0) (slice_get (spans (boundaries new)) datagram) false

-- the areas of a datagram stay at their places up to a key, the key's own included: the old list's datagram with its number
-- began at the same key, and the keys from there up to this one are settled
abbrev pub is_unchanged_up_to : List Keyed → List Keyed → ℕ → Key → Bool
is_unchanged_up_to old new datagram key =
    option_map_or (λ span. is_settled old new (span.0, key) && begins_at old datagram span.0) (slice_get (spans (boundaries new)) datagram) false

-- the datagrams that stay, by the keys at which datagrams begin and by hulls

-- two lists of a task: the boundaries of each without END, and the hulls of the keys whose widths differ
pub record AreKnownOfTask (old new : List Keyed) (old_starts new_starts : List Key) (hulls : Hulls) : Type 0 where
  pub list : IsTaskList new
  pub old_boundaries : old_starts ++ END ∷ [] ≡ boundaries old
  pub new_boundaries : new_starts ++ END ∷ [] ≡ boundaries new
  pub differ : AreHulls (is_touched old new) hulls

-- exactly the keys before a limit, among those before END, pass a test
abbrev pub HoldsBefore : Key → (Key → Bool) → Type 0
HoldsBefore limit holds = (key : Key) → is_before key END ≡ true → is_before key limit ≡ holds key

-- the interval from a key to the one at which, by these keys, the datagram after a number, from 0, begins; to END if there is
-- none
abbrev pub span_from : List Key → ℕ → Key → Interval
span_from starts datagram start = (start, slice_index_or (starts ++ END ∷ []) (datagram + 1) END)

-- by both lists of keys the datagram with this number, from 0, begins at the same key, and the span from there to the next new
-- key, or END, meets neither hull; false if a list ends before
abbrev pub is_unchanged_by : Hulls → List Key → List Key → ℕ → Bool
is_unchanged_by hulls old_starts new_starts datagram =
    option_map_or
    (λ start. option_map_or (same_key start) (slice_get old_starts datagram) false && not (meets_either hulls (span_from new_starts datagram start)))
    (slice_get new_starts datagram)
    false

-- by both lists of keys the datagram with this number, from 0, begins at the same key, and the interval from there up to this
-- key, both included, meets neither hull; false if a list ends before
abbrev pub is_unchanged_up_to_by : Hulls → List Key → List Key → ℕ → Key → Bool
is_unchanged_up_to_by hulls old_starts new_starts datagram key =
    option_map_or
    (λ start. option_map_or (same_key start) (slice_get old_starts datagram) false && not (meets_either hulls (start, key)))
    (slice_get new_starts datagram)
    false
