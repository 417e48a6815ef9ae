-- The repair of a task's boundaries: its premises on the areas before, and its count.
use Rattle.std.specs.Prelude.{◌≡◌, ℕ, ◌||◌, Bool, false, if◌then◌else◌, List, [], ◌∷◌, ◌++◌, drop, Option, Some, None, slice_index_or}
use Rattle.hc_records.specs.declared.keys.Key.{Key}
use Rattle.hc_records.specs.declared.keys.TheConstants.Key.{START, END}
use Rattle.hc_records.specs.Keys.{same_key}
use Rattle.hc_records.specs.TaskList.{Keyed}
use Rattle.hc_records.specs.Boundaries.{Interval, boundaries, meets_hull, unsettled_spans, width_in, is_touched}
use Rattle.hc_records.specs.SpanLaws.{IsTaskList}
use Rattle.hc_cuts.specs.declared.hulls.Hulls.{Hulls}
use Rattle.hc_cuts.specs.Spans.{unsettled_by}
use Rattle.hc_cuts.specs.Hulls.{AreHulls}

-- a span has a key in common with the hull of the outputs or of the inputs
abbrev pub meets_either : Hulls → Interval → Bool
meets_either hulls span = meets_hull hulls.outputs span || meets_hull hulls.inputs span

-- two lists of a task give each key outside the hulls the same width
abbrev pub DifferInside : Hulls → List Keyed → List Keyed → Type 0
DifferInside hulls old new = (key : Key) → meets_either hulls (key, key) ≡ false → width_in old key ≡ width_in new key

-- boundaries, without END, of a task's areas before; the present ones differ from them inside the hulls alone
pub record AreOfBefore (starts : List Key) (hulls : Hulls) (present : List Keyed) : Type 0 where
  pub before : List Keyed
  pub list : IsTaskList before
  pub keys : starts ++ END ∷ [] ≡ boundaries before
  pub inside : DifferInside hulls before present

-- boundaries without END are those of a list before, and the hulls those of the keys whose widths differ since
pub record IsBefore (starts : List Key) (hulls : Hulls) (present before : List Keyed) : Type 0 where
  pub keys : starts ++ END ∷ [] ≡ boundaries before
  pub differ : AreHulls (is_touched before present) hulls

-- the spans between new boundaries that are not settled, by the old boundaries and by these hulls
abbrev pub unsettled_between : Hulls → List Key → List Key → ℕ
unsettled_between hulls old new = unsettled_by (drop 1 old) hulls.outputs hulls.inputs START (drop 1 new)

-- the boundary after a key, among the keys at which datagrams begin and END; none if no datagram begins at the key
abbrev pub following : Key → List Key → Option Key
following from [] = None
following from (key ∷ keys) = if same_key from key then Some (slice_index_or keys 0 END) else following from keys

-- by the hulls of the keys whose widths differ between two lists, these differ only inside the hulls, and the spans that are
-- not settled are those that the edit leaves unsettled
pub record HoldTheTouched (hulls : Hulls) (old new : List Keyed) : Type 0 where
  pub differ : DifferInside hulls old new
  pub count :
      (old_starts new_starts : List Key) → old_starts ++ END ∷ [] ≡ boundaries old → new_starts ++ END ∷ [] ≡ boundaries new
      → unsettled_between hulls old_starts new_starts ≡ unsettled_spans old new
