-- Readings: a value with the first place of each fault in it or inside it.
use Rattle.std.specs.Prelude.{Bool, true, if◌then◌else◌, List, [], ◌∷◌, Some, None}
use Rattle.hc_project.specs.declared.places.Place.{Place}
use Rattle.hc_project.specs.declared.reading.SyntaxFaults.{SyntaxFaults}
use Rattle.hc_project.specs.declared.reading.Reading.{Reading}
use Rattle.hc_project.specs.Places.{first_some, place_alone}

-- neither of the two faults: nothing is missing, nothing outside
abbrev pub no_syntax_faults : SyntaxFaults
no_syntax_faults = record { missing = None; outside = None }

-- the faults of two values in the order of the text: the first place of each fault
unfoldable pub both : SyntaxFaults → SyntaxFaults → SyntaxFaults
both a b = record { missing = first_some a.missing b.missing; outside = first_some a.outside b.outside }

-- the faults of several values in the order of the text
abbrev pub faults_joined : List SyntaxFaults → SyntaxFaults
faults_joined [] = no_syntax_faults
faults_joined (syntax_faults ∷ rest) = both syntax_faults (faults_joined rest)

-- the place of a value outside its range, if a test holds
abbrev pub outside_if : Bool → Place → SyntaxFaults
outside_if is_outside place = record { missing = None; outside = if is_outside then Some (place_alone place) else None }

-- the place of a missing value, if a test holds
abbrev pub missing_if : Bool → Place → SyntaxFaults
missing_if is_missing place = record { missing = if is_missing then Some (place_alone place) else None; outside = None }

-- a value without faults
abbrev pub right : {X : Type 0} → X → Reading X
right x = record { value = x; syntax_faults = no_syntax_faults }

-- the substitute for a value that is absent or of another kind
abbrev pub missing : {X : Type 0} → Place → X → Reading X
missing place x = record { value = x; syntax_faults = missing_if true place }
