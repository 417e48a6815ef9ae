-- Numbers that are read, and their ranges.
use Rattle.std.specs.Prelude.{◌≡◌, ℕ, pos, negsuc, ◌≤◌, ◌||◌, nat_le, is_some, Bool, true, false, if◌then◌else◌, Some, None, refl}
use Rattle.std.proofs.Common.{arith}
use Rattle.std.proofs.lemmas.Bool.Decides.{nat_tests}
use Rattle.hc_records.specs.Project.{is_outside}
use Rattle.hc_project.specs.declared.places.Place.{Place}
use Rattle.hc_project.specs.Places.{place_alone}
use Rattle.hc_project.specs.Laws.{RangesAreJudgedWhole}

-- an integer in its range is one that its record holds
pub inside-held : (most low high n : ℕ) → high ≤ most → is_outside low high n ≡ false → nat_le n most ≡ true
inside-held most low high n within inside = grind (arith, nat_tests)

judged-whole : (outside : Bool) (most low high : ℕ) (place : Place) (n : ℕ) → high ≤ most → is_outside low high n ≡ outside
    → (is_some (if outside then Some (place_alone place) else None) || is_outside low high (if nat_le n most then n else 0)) ≡ outside
judged-whole true most low high place n within is = refl
judged-whole false most low high place n within is = rw (inside-held most low high n within is) is

pub ranges-whole : RangesAreJudgedWhole
ranges-whole most low high place (pos n) within = judged-whole (is_outside low high n) most low high place n within refl
ranges-whole most low high place (negsuc n) within = refl
