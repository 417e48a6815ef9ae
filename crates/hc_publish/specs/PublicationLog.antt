-- The publication log: its entries are the lists that were about to be shown, and each extends the ones before.
use Rattle.std.specs.Prelude.{ℕ, ◌≡◌, ◌<◌, ◌==◌, true, List, [], ◌∷◌, ◌++◌, length, MatchBool}
use mathlib.Core.List.{IsPrefix}
use Rattle.logbook.specs.Pages.{Cell, Step, View, Book, Named}
use Rattle.logbook.specs.declared.tokens.Seen.{Seen}
use Rattle.hc_publish.specs.declared.publication_log.Law.{Law}
use Rattle.hc_publish.specs.ChangesSince.{ChangesSince}

-- the entries of the publication log that a thread has seen
abbrev pub TheSeen : Type 0
TheSeen = Seen ChangesSince ℕ Law

-- the new list has the same groups, and its changes begin with those of the old one
pub record Extends (old new : ChangesSince) : Type 0 where
  pub groups : new.groups ≡ old.groups
  pub changes : IsPrefix old.changes new.changes

-- the last of some entries after an entry
abbrev pub last_of : ChangesSince → List ChangesSince → ChangesSince
last_of x [] = x
last_of x (y ∷ ys) = last_of y ys

-- the entry is the last one, if there is one
abbrev pub top : List ChangesSince → ChangesSince
top log = last_of (record { groups = []; changes = [] }) log

-- a later entry extends an earlier one
abbrev pub Rises : List ChangesSince → Type 0
Rises log = (a b : List ChangesSince) → 0 < length a → IsPrefix a b → IsPrefix b log → Extends (top a) (top b)

-- the first word counts the entries. A publication log has two words; this one leaves the second at
-- 0
pub record IsUnchanged (cells : List Cell) (log : List ChangesSince) : Type 0 where
  pub words : cells ≡ (length log, true) ∷ (0, true) ∷ []
  pub rises : Rises log

-- the word that counts the entries of a publication log
abbrev pub log_end_of : Book → Named
log_end_of b = record { tracked = true; key = 0; book = b }

-- if the word was as expected, the entry was added to all that had been seen
abbrev pub Adds : Step ChangesSince → View ChangesSince ℕ → ℕ → View ChangesSince ℕ → Type 0
Adds s v found w = MatchBool (found == s.old) (w.0 ≡ v.0 ++ s.ask ∷ []) (Unit {0})
