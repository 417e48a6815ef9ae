-- The result of a scan of a list, and of two lists in a row.
use Rattle.std.proofs.Common.{◌≡◌, ℕ, ◌<◌, ◌≤◌, Bool, true, false, List, [], ◌∷◌, ◌++◌, length, drop, refl, sym, ap, subst, ◌∙◌, arith, nat_le, if◌then◌else◌}
use Rattle.std.proofs.lemmas.Bool.Decides.{nat_tests}
use Rattle.std.proofs.lemmas.List.{drop-append-le}
use Rattle.hc_records.specs.declared.keys.Key.{Key}
use Rattle.hc_records.specs.TaskList.{Keyed}
use Rattle.hc_bitsum.specs.declared.filled.Filled.{Filled}
use Rattle.hc_bitsum.specs.declared.sum.Sum.{Sum}
use Rattle.hc_bitsum.specs.declared.row.Fit.{Fit}
use Rattle.hc_bitsum.specs.declared.row.Fit.TheVariants.{Found, Through}
use Rattle.hc_bitsum.specs.Filling.{filled_with_area, filled_with_areas}
use Rattle.hc_bitsum.specs.Sums.{filled_by_run, sum_of}
use Rattle.hc_bitsum.specs.Search.{IsInRoom, scan}
use Rattle.hc_bitsum.proofs.Ends.{ended-sum_of, with_area-le}

pub le-yes : (a b : ℕ) → a ≤ b → nat_le a b ≡ true
le-yes a b h = grind (arith, nat_tests)

pub le-no : (a b : ℕ) → b < a → nat_le a b ≡ false
le-no a b h = grind (arith, nat_tests)

pub with_areas-le : (areas : List Keyed) (filled : Filled) → filled.bit ≤ (filled_with_areas filled areas).bit
with_areas-le [] filled = omega arith
with_areas-le (area ∷ areas) filled =
    grind (arith, with_area-le, with_areas-le areas (filled_with_area filled area))

-- if all areas end within the room, the scan goes through
pub scan-all : (room : ℕ) (filled : Filled) (areas : List Keyed) → (filled_with_areas filled areas).bit ≤ room → scan room filled areas ≡ Through (filled_with_areas filled areas)
scan-all room filled [] h = refl
scan-all room filled (area ∷ areas) h =
    grind (arith, with_areas-le, le-yes, scan-all room (filled_with_area filled area) areas h)

-- the next area ends within the room, and the rest goes through
record Step (room : ℕ) (filled : Filled) (area : Keyed) (areas : List Keyed) (end : Filled) : Type 0 where
  pub fits : (filled_with_area filled area).bit ≤ room
  pub rest : scan room (filled_with_area filled area) areas ≡ Through end

step-by : (fits : Bool) (room : ℕ) (filled : Filled) (area : Keyed) (areas : List Keyed) (end : Filled) → nat_le (filled_with_area filled area).bit room ≡ fits
    → (if fits then scan room (filled_with_area filled area) areas else Found area.0) ≡ Through end → Step room filled area areas end
step-by fits room filled area areas end e h = grind arith

-- if the scan goes through, all areas are in the datagram
scan-through : (room : ℕ) (filled : Filled) (areas : List Keyed) (end : Filled) → filled.bit ≤ room → scan room filled areas ≡ Through end
    → (end ≡ filled_with_areas filled areas) × (end.bit ≤ room)
scan-through room filled [] end h e = let same : filled ≡ end = cc in (sym same, subst (λ (r : Filled). r.bit ≤ room) same h)
scan-through room filled (area ∷ areas) end h e =
    let step = step-by (nat_le (filled_with_area filled area).bit room) room filled area areas end refl e in
    scan-through room (filled_with_area filled area) areas end step.fits step.rest

-- what is found in the first list is found in both
scan-append-found : (room : ℕ) (filled : Filled) (xs ys : List Keyed) (key : Key) → scan room filled xs ≡ Found key → scan room filled (xs ++ ys) ≡ Found key
scan-append-found room filled [] ys key h = cc
scan-append-found room filled (x ∷ xs) ys key h =
    grind (arith, scan-append-found room (filled_with_area filled x) xs ys key)

-- if the scan goes through the first list, the second is scanned from there
pub scan-append-through : (room : ℕ) (filled : Filled) (xs ys : List Keyed) (end : Filled) → scan room filled xs ≡ Through end → scan room filled (xs ++ ys) ≡ scan room end ys
scan-append-through room filled [] ys end h = let same : filled ≡ end = cc in rw same refl
scan-append-through room filled (x ∷ xs) ys end h =
    let step = step-by (nat_le (filled_with_area filled x).bit room) room filled x xs end refl h in
    rw (le-yes _ _ step.fits) (scan-append-through room (filled_with_area filled x) xs ys end step.rest)

-- the part of two lists from a place in the first, or in the second
drop-left : (xs ys : List Keyed) (n : ℕ) → n < length xs → drop n (xs ++ ys) ≡ drop n xs ++ ys
drop-left xs ys n h = drop-append-le n xs ys (omega arith)

pub found-left : (xs ys : List Keyed) (skip room : ℕ) (filled : Filled) (key : Key) → skip < length xs
    → Found key ≡ scan room filled (drop skip xs) → Found key ≡ scan room filled (drop skip (xs ++ ys))
found-left xs ys skip room filled key h f = rw (drop-left xs ys skip h) (sym (scan-append-found room filled (drop skip xs) ys key (sym f)))

pub through-left : (xs ys : List Keyed) (skip room : ℕ) (filled end : Filled) (answer : Fit) → skip < length xs
    → Through end ≡ scan room filled (drop skip xs) → answer ≡ scan room end ys → answer ≡ scan room filled (drop skip (xs ++ ys))
through-left xs ys skip room filled end answer h f g =
    rw (drop-left xs ys skip h) (g ∙ sym (scan-append-through room filled (drop skip xs) ys end (sym f)))

-- an area was found that has no room
abbrev pub IsFound : Fit → Type 0
IsFound (Found key) = Unit {0}
IsFound (Through end) = ⊥

pub not-through : (room : ℕ) (filled : Filled) (areas : List Keyed) (answer : Fit) → filled.bit ≤ room → room < (filled_with_areas filled areas).bit
    → answer ≡ scan room filled areas → IsFound answer
not-through room filled areas answer h more e = grind (arith, scan-through)

-- what the kept sum says of the end
pub unchanged-end : (sum : Sum) (areas : List Keyed) (filled : Filled) → sum ≡ sum_of areas → filled_by_run sum filled ≡ filled_with_areas filled areas
unchanged-end sum areas filled h = ap (λ (x : Sum). filled_by_run x filled) h ∙ ended-sum_of areas filled

-- an area that is found leaves no question of room
pub found-in : (room : ℕ) (answer : Fit) → IsFound answer → IsInRoom room answer
found-in room answer found = grind arith

-- what is found in the first part of two is found in both
pub found-both : (room : ℕ) (filled : Filled) (xs ys : List Keyed) (answer : Fit) → IsFound answer → answer ≡ scan room filled xs → answer ≡ scan room filled (xs ++ ys)
found-both room filled xs ys answer found is = grind (arith, scan-append-found)
