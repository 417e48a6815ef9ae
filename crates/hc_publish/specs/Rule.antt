-- The published copy, as the seats and the publisher know it.
use Rattle.std.specs.Prelude.{◌≡◌, ℕ, ◌≤◌, suc, Bool, true, false, List, [], ◌∷◌, ◌++◌, length, map}
use mathlib.Core.Option.{some}
use lib.ListN.{get_elem?}
use Rattle.logbook.specs.Pages.{Book}
use Rattle.hc_events.specs.declared.change.Change.{Change}
use Rattle.hc_publish.specs.ChangesSince.{IsLegal, ChangesSince, with_change}
use Rattle.hc_publish.specs.declared.absorb.Step.{Step}
use Rattle.hc_publish.specs.declared.absorb.Step.TheVariants.{Changed, Sealed}
use Rattle.hc_publish.specs.PublicationLog.{TheSeen, top}
use Rattle.hc_publish.specs.Stories.{Story}

-- a copy after a step
abbrev pub copy_after : Story → Step → Story
copy_after s (Changed c) = record s { shown = with_change s.shown c }
copy_after s (Sealed f) = record s { token = f }

-- the changes among the steps
abbrev pub changes_in : List Step → List Change
changes_in [] = []
changes_in (Changed c ∷ steps) = c ∷ changes_in steps
changes_in (Sealed f ∷ steps) = changes_in steps

-- the number of seals among the steps
abbrev pub seals_in : List Step → ℕ
seals_in [] = 0
seals_in (Changed c ∷ steps) = seals_in steps
seals_in (Sealed f ∷ steps) = suc (seals_in steps)

-- there are at most as many seals as changes, and one more if a refused publishing left a seal after them
abbrev pub AreFew : Bool → List Step → Type 0
AreFew true steps = seals_in steps ≤ suc (length (changes_in steps))
AreFew false steps = seals_in steps ≤ length (changes_in steps)

-- the content of a copy after some steps
abbrev pub after_steps : ChangesSince → List Step → ChangesSince
after_steps s steps = record { groups = s.groups; changes = s.changes ++ changes_in steps }

-- the publication logs of some tokens
abbrev pub publication_logs : List TheSeen → List Book
publication_logs v = map (λ t. t.book) v

-- each token is of the publication log of the copy
abbrev pub Bound : List TheSeen → Story → Type 0
Bound [] x = Unit {0}
Bound (t ∷ v) x = (t.book ≡ x.token.book) × Bound v x

-- the content of the copy is the last entry that its token has seen, and is legal
abbrev pub IsSealed : Story → Type 0
IsSealed x = (top x.token.log ≡ x.shown) × IsLegal x.shown

-- the published copy is sealed, and each thread knows its publication log
abbrev pub CopyIsSealed : Story → List (List TheSeen) → Type 0
CopyIsSealed x views = IsSealed x × ((seat : ℕ) (v : List TheSeen) → get_elem? views seat ≡ some v → Bound v x)

-- the result of a step: a sealed copy, of the publication log that was known
abbrev pub Sees : List TheSeen → Story → Story → List TheSeen → Type 0
Sees v x y w = (w ≡ y.token ∷ []) × Bound v y × IsSealed y
