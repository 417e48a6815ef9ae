-- The spans of a task that are not settled, by the keys at which its later datagrams begin.
use Rattle.std.specs.Prelude.{ℕ, ◌&&◌, ◌||◌, not, Bool, List, [], ◌∷◌, ◌++◌, length, filter, Option}
use Rattle.std.specs.List.{list_any}
use Rattle.hc_records.specs.declared.keys.Key.{Key}
use Rattle.hc_records.specs.declared.keys.TheConstants.Key.{START, END}
use Rattle.hc_records.specs.Keys.{same_key}
use Rattle.hc_records.specs.Boundaries.{Interval, meets_hull, spans}

-- a span begins at an old boundary and meets the hull neither of the outputs nor of the inputs
abbrev pub is_settled_by : List Key → Option Interval → Option Interval → Interval → Bool
is_settled_by old_later outputs inputs span =
    list_any (same_key span.0) (START ∷ (old_later ++ END ∷ [])) && not (meets_hull outputs span || meets_hull inputs span)

-- the spans from a key on, by the later keys and END, that are not settled
abbrev pub unsettled_by : List Key → Option Interval → Option Interval → Key → List Key → ℕ
unsettled_by old_later outputs inputs first later =
    length (filter (λ span. not (is_settled_by old_later outputs inputs span)) (spans (first ∷ (later ++ END ∷ []))))
