-- What a repair asks of a caller: hulls outside which the widths of two lists are the same.
use Rattle.std.proofs.Common.{arith}
use Rattle.std.specs.Prelude.{◌==◌, drop, not}
use Rattle.std.proofs.Common.{◌≡◌, Bool, false, List, [], ◌∷◌, ◌++◌, refl, ap}
use Rattle.std.proofs.lemmas.List.{append_cancel_right}
use Rattle.hc_records.specs.declared.keys.Key.{Key}
use Rattle.hc_records.specs.declared.keys.TheConstants.Key.{START, END}
use Rattle.hc_records.specs.TaskList.{Keyed}
use Rattle.hc_records.specs.Boundaries.{boundaries, is_touched, later_keys, width_in}
use Rattle.hc_cuts.specs.declared.hulls.Hulls.{Hulls}
use Rattle.hc_cuts.specs.Hulls.{AreHulls}
use Rattle.hc_cuts.specs.Repair.{DifferInside, HoldTheTouched}
use Rattle.hc_cuts.proofs.lemmas.HullKeys.{hulls-are}

-- a key outside the hull of its direction doesn't pass the test

-- where the widths of each key that doesn't pass are the same, lists differ inside the hulls of a test alone
pub differ-inside : (test : Key → Bool) (hulls : Hulls) (old new : List Keyed) → AreHulls test hulls → ((key : Key) → test key ≡ false → width_in old key ≡ width_in new key)
    → DifferInside hulls old new
differ-inside test hulls old new are same key clear = grind arith

-- the hulls of the touched keys are such ones

untouched-by : (same : Bool) (old new : List Keyed) (key : Key) → (width_in old key == width_in new key) ≡ same → not same ≡ false → width_in old key ≡ width_in new key
untouched-by same old new key is unchanged = grind arith

later : (list : List Keyed) (starts : List Key) → starts ++ END ∷ [] ≡ boundaries list → drop 1 starts ≡ later_keys list
later list starts all = ap (drop 1) (append_cancel_right starts (START ∷ later_keys list) (END ∷ []) all)

pub hulls-hold : (hulls : Hulls) (old new : List Keyed) → AreHulls (is_touched old new) hulls → HoldTheTouched hulls old new
hulls-hold hulls old new are =
    let own = hulls-are old new hulls are in
    record {
      differ = differ-inside (is_touched old new) hulls old new are (λ key none. untouched-by (width_in old key == width_in new key) old new key refl none);
      count = λ old_starts new_starts first second. rw (own.0, own.1, later old old_starts first, later new new_starts second) refl;
    }
