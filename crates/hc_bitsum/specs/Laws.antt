-- Laws that follow from the definition of a sum. Each is the contract of a function of `laws`.
use Rattle.std.specs.Prelude.{◌≡◌, ℕ, ◌≤◌, List}
use Rattle.hc_records.specs.declared.records.Dir.{Dir}
use Rattle.hc_records.specs.TaskList.{Keyed}
use Rattle.hc_bitsum.specs.declared.filled.Filled.{Filled}
use Rattle.hc_bitsum.specs.declared.sum.Sum.{Sum}
use Rattle.hc_bitsum.specs.declared.sum.Sum.TheVariants.{Empty}
use Rattle.hc_bitsum.specs.Filling.{filled_with_area, filled_with_areas}
use Rattle.hc_bitsum.specs.Sums.{filled_by_run, sums_joined, sum_of, sum_of_area}

-- three sums in a row join to the same, whichever two are joined first
abbrev pub JoiningIsAssociative : Type 0
JoiningIsAssociative = (a b c : Sum) → sums_joined (sums_joined a b) c ≡ sums_joined a (sums_joined b c)

-- this sum, joined before any sum or after it, leaves that sum as it was
pub record IsNeutral (empty : Sum) : Type 0 where
  pub before : (sum : Sum) → sums_joined empty sum ≡ sum
  pub after_it : (sum : Sum) → sums_joined sum empty ≡ sum

-- the empty sum is neutral
abbrev pub EmptyIsNeutral : Type 0
EmptyIsNeutral = IsNeutral Empty

-- an end never falls when an area is appended: from any start, a run with an area appended ends no earlier
abbrev pub EndsNeverFall : Type 0
EndsNeverFall = (sum : Sum) (dir : Dir) (bits : ℕ) (filled : Filled) → (filled_by_run sum filled).bit ≤ (filled_by_run (sums_joined sum (sum_of_area dir bits)) filled).bit

-- an area that is added to a datagram never takes bits back
abbrev pub AreasTakeNothingBack : Type 0
AreasTakeNothingBack = (filled : Filled) (area : Keyed) → filled.bit ≤ (filled_with_area filled area).bit

-- the sum of a list of areas fills a datagram as these areas do by the rules of packing
abbrev pub SumsFillAsTheirAreas : Type 0
SumsFillAsTheirAreas = (list : List Keyed) (filled : Filled) → filled_by_run (sum_of list) filled ≡ filled_with_areas filled list
