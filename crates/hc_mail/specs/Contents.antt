-- The contents that a mailbox carries, all of one kind.
use Rattle.std.specs.Prelude.{ℕ, ◌≡◌, ◌%◌, ◌^◌, List, [], ◌∷◌, ◌++◌, length}
use Rattle.hc_mail.specs.declared.letter.Letter.{Letter}

-- the capacity of a content: the most bytes and the most datagrams
abbrev pub Room : Type 0
Room = ℕ × ℕ

-- a kind of contents: the capacity of each, and the blank one with a capacity
pub record Kind (X : Type 0) : Type 0 where
  pub room : X → Room
  pub blank : Room → X

-- so many, counted in 64 bits
abbrev pub counted : ℕ → ℕ
counted n = n % 2 ^ 64

-- the last of some contents after one
abbrev pub last_after : {X : Type 0} → X → List X → X
last_after content [] = content
last_after content (next ∷ rest) = last_after next rest

-- a list begins with another
abbrev pub StartsWith : {X : Type 0} → List X → List X → Type 0
StartsWith {X} whole front = (rest : List X) × (whole ≡ front ++ rest)

-- the newest of the contents that were sent; a blank one before the first
abbrev pub newest : {X : Type 0} → Kind X → Room → List X → X
newest kind room sent = last_after (kind.blank room) sent

-- the newest content with its number, which is the count of the sent ones
abbrev pub newest_letter : {X : Type 0} → Kind X → Room → List X → Letter X
newest_letter kind room sent = record { number = counted (length sent); content = newest kind room sent }
