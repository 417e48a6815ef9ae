-- The meaning of a refusal for a task's list. It is the contract of a function of `laws`.
use Rattle.std.specs.Prelude.{◌≡◌, ◌<◌, All, List, length}
use Rattle.std.specs.List.{flat_map}
use Rattle.hc_records.specs.declared.limits.TheConstants.{MOST_DATAGRAMS}
use Rattle.hc_records.specs.TaskList.{Keyed}
use Rattle.hc_records.specs.Laws.{FitsOneDatagram}
use Rattle.hc_cuts.specs.Firsts.{IsOverLimit}

-- a list that is over its limit has no cut in its order into at most 16 parts that fit a datagram each
abbrev pub OverLimitHasNoCut : Type 0
OverLimitHasNoCut =
    (list : List Keyed) (parts : List (List Keyed)) → IsOverLimit list → flat_map (λ part. part) parts ≡ list
    → All FitsOneDatagram parts → MOST_DATAGRAMS < length parts
