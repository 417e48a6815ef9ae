-- The keys at which the datagrams of a task begin, and the datagrams that an edit leaves as they were.
use Rattle.std.specs.Prelude.{ℕ, ◌==◌, ◌&&◌, ◌||◌, not, nat_lt, Bool, false, if◌then◌else◌, List, [], ◌∷◌, ◌++◌, length, drop, map, filter, find, fold, sum_by, Option, Some, None}
use Rattle.std.specs.Option.{option_map_or}
use Rattle.std.specs.List.{list_any, zip}
use Rattle.hc_records.specs.declared.records.Dir.{Dir}
use Rattle.hc_records.specs.declared.records.Dir.TheVariants.{Out, In}
use Rattle.hc_records.specs.declared.keys.Key.{Key}
use Rattle.hc_records.specs.declared.keys.TheConstants.Key.{START, END}
use Rattle.hc_records.specs.Keys.{same_dir, same_key, is_before, is_within}
use Rattle.hc_records.specs.Line.{Member}
use Rattle.hc_records.specs.TaskList.{Keyed, task_list}
use Rattle.hc_records.specs.Packing.{Placed, empty_front, packed}
use Rattle.hc_records.specs.Image.{tasks}

-- an area with which a second or later datagram begins
abbrev pub begins_later : Placed → Bool
begins_later area = (area.bit == 0) && nat_lt 0 area.datagram

-- the keys of those areas of a list that packing puts at bit 0 of a second or later datagram, in the list's order
abbrev pub later_keys : List Keyed → List Key
later_keys list = map (λ area. area.key) (filter begins_later (packed empty_front list))

-- the boundaries of a task: START, the keys with which a second or later datagram begins, and END
abbrev pub boundaries : List Keyed → List Key
boundaries list = START ∷ (later_keys list ++ END ∷ [])

-- the width of a key in a task's list, 0 if the list does not have it
abbrev pub width_in : List Keyed → Key → ℕ
width_in list key = option_map_or (λ area. area.1) (find (λ area. same_key area.0 key) list) 0

-- the keys whose width differs between two lists of a task
abbrev pub is_touched : List Keyed → List Keyed → Key → Bool
is_touched old new key = not (width_in old key == width_in new key)

-- the touched keys of two lists: those of the old list in its order, then those of the new one
abbrev pub touched : List Keyed → List Keyed → List Key
touched old new = filter (is_touched old new) (map (λ area. area.0) (old ++ new))

-- a closed interval of keys
abbrev pub Interval : Type 0
Interval = Key × Key

-- the least interval that holds a key and an interval, if there is one
abbrev pub widened : Option Interval → Key → Option Interval
widened None key = Some (key, key)
widened (Some interval) key =
    Some ((if is_before key interval.0 then key else interval.0), (if is_before interval.1 key then key else interval.1))

-- the hull of a direction: the interval from the least to the greatest touched key of that direction
abbrev pub hull : Dir → List Key → Option Interval
hull dir keys = fold widened None (filter (λ key. same_dir key.dir dir) keys)

-- two intervals have a key in common
abbrev pub meets : Interval → Interval → Bool
meets span other = is_within other.0 span.1 && is_within span.0 other.1

-- the span and the hull have a key in common, ends included; false if there is no hull
abbrev pub meets_hull : Option Interval → Interval → Bool
meets_hull None span = false
meets_hull (Some hull) span = meets span hull

-- the spans of a task: from each boundary to the next one
abbrev pub spans : List Key → List Interval
spans keys = zip keys (drop 1 keys)

-- a span of the new list is settled if it begins at a boundary of the old list and meets no hull of the touched keys
abbrev pub is_settled : List Keyed → List Keyed → Interval → Bool
is_settled old new span =
    list_any (same_key span.0) (boundaries old)
    && not (meets_hull (hull Out (touched old new)) span || meets_hull (hull In (touched old new)) span)

-- the number of spans of a task that an edit does not leave settled
abbrev pub unsettled_spans : List Keyed → List Keyed → ℕ
unsettled_spans old new = length (filter (λ span. not (is_settled old new span)) (spans (boundaries new)))

-- a task is touched if a key's width differs
abbrev pub is_touched_task : List Member → List Member → ℕ → Bool
is_touched_task old new task = nat_lt 0 (length (touched (task_list task old) (task_list task new)))

-- the number of spans of touched tasks of the new line that are not settled
abbrev pub recut : List Member → List Member → ℕ
recut old new =
    sum_by (λ task. unsettled_spans (task_list task old) (task_list task new)) (filter (is_touched_task old new) tasks)
