-- The faults of several values: however they are grouped, the first place of each.
use Rattle.std.proofs.Common.{◌≡◌, ap, Option, Some, None, refl}
use Rattle.hc_project.specs.declared.places.Location.{Location}
use Rattle.hc_project.specs.declared.reading.SyntaxFaults.{SyntaxFaults}
use Rattle.hc_project.specs.declared.reading.Reading.{Reading}
use Rattle.hc_project.specs.Places.{first_some}
use Rattle.hc_project.specs.Reading.{both, no_syntax_faults}
use Rattle.hc_project.proofs.Searched.{none_left, none_right}

-- a place and no other
first_alone : {P : Type 0} (a : Option P) → first_some a None ≡ a
unfolding first_some
first_alone None = refl
first_alone (Some x) = refl

-- of three places the first, however they are grouped
first_grouped : {P : Type 0} (a b c : Option P) → first_some (first_some a b) c ≡ first_some a (first_some b c)
unfolding first_some
first_grouped None b c = refl
first_grouped (Some x) b c = refl

pub both_first : (a : SyntaxFaults) → both no_syntax_faults a ≡ a
unfolding both first_some
both_first a = refl

pub both_alone : (a : SyntaxFaults) → both a no_syntax_faults ≡ a
unfolding both
both_alone a = rw (first_alone a.missing, first_alone a.outside) refl

pub both_grouped : (a b c : SyntaxFaults) → both (both a b) c ≡ both a (both b c)
unfolding both
both_grouped a b c = rw (first_grouped a.missing b.missing c.missing, first_grouped a.outside b.outside c.outside) refl

-- a reading is its value and what is wrong with it
pub same_reading : {X : Type 0} (reading : Reading X) (value : X) (syntax_faults : SyntaxFaults) → value ≡ reading.value → syntax_faults ≡ reading.syntax_faults
    → record { value = value; syntax_faults = syntax_faults } ≡ reading
same_reading reading value syntax_faults same same_faults = rw (same, same_faults) refl

-- a search that finds nothing in two values finds nothing in either
bare : (missing outside : Option Location) → missing ≡ None → outside ≡ None → record { missing = missing; outside = outside } ≡ no_syntax_faults
bare missing outside no_missing no_outside = rw (no_missing, no_outside) refl

pub without : (a : SyntaxFaults) → a.missing ≡ None → a.outside ≡ None → a ≡ no_syntax_faults
without a no_missing no_outside = bare a.missing a.outside no_missing no_outside

pub both_none : (a b : SyntaxFaults) → both a b ≡ no_syntax_faults → (a ≡ no_syntax_faults) × (b ≡ no_syntax_faults)
unfolding both
both_none a b none =
    let missing : first_some a.missing b.missing ≡ None = ap (λ faults. faults.missing) none in
    let outside : first_some a.outside b.outside ≡ None = ap (λ faults. faults.outside) none in (
      without a (none_left _ _ missing) (none_left _ _ outside),
      without b (none_right _ _ missing) (none_right _ _ outside),
    )
