-- The lowest fault of two lists, one after the other.
use Rattle.std.proofs.Common.{◌≡◌, Bool, true, false, List, [], ◌∷◌, ◌++◌, refl, Some, None}
use Rattle.hc_records.specs.Lists.{lowest}

pub lowest-front : {F : Type 0} (faults more : List (Bool × F)) (fault : F) → lowest faults ≡ Some fault → lowest (faults ++ more) ≡ Some fault
lowest-front [] more fault is = cc
lowest-front ((true, own) ∷ faults) more fault is = is
lowest-front ((false, own) ∷ faults) more fault is = lowest-front faults more fault is

pub lowest-none : {F : Type 0} (faults more : List (Bool × F)) → lowest (faults ++ more) ≡ None → lowest faults ≡ None
lowest-none [] more none = refl
lowest-none ((true, own) ∷ faults) more none = cc
lowest-none ((false, own) ∷ faults) more none = lowest-none faults more none

pub lowest-after_it : {F : Type 0} (faults others : List (Bool × F)) → lowest faults ≡ None → lowest (faults ++ others) ≡ lowest others
lowest-after_it [] others none = refl
lowest-after_it ((true, fault) ∷ faults) others none = cc
lowest-after_it ((false, fault) ∷ faults) others none = lowest-after_it faults others none
