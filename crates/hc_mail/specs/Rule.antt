-- The rule of the table, and the result of each step.
use Rattle.std.specs.Prelude.{◌≡◌, ◌≢◌, ℕ, ◌+◌, ◌*◌, ◌%◌, ◌<◌, ◌≤◌, List, [], ◌∷◌, ◌++◌, length, slice_index}
use mathlib.Core.Option.{some}
use mathlib.Core.Option as maybe
use lib.ListN.{get_elem?}
use Rattle.atomic_table.specs.Table.{State, Me, Step}
use Rattle.atomic_table.specs.Seated.{TableId}
use Rattle.hc_mail.specs.declared.letter.Letter.{Letter}
use Rattle.hc_mail.specs.declared.table.Insight.{Insight}
use Rattle.hc_mail.specs.declared.table.Role.{Role}
use Rattle.hc_mail.specs.declared.table.Role.TheVariants.{Rests, Opens, Enters, Sends, Waits, Looks, Takes}
use Rattle.hc_mail.specs.Contents.{Kind, Room, StartsWith, counted, newest, newest_letter}

-- the knowledge of a seat
abbrev pub insight : {X : Type 0} → Role → List X → List X → Insight X
insight role seen reported = record { role = role; marker = record {}; seen = seen; reported = reported }

-- the knowledge of the first seat
abbrev pub opener : {X : Type 0} → Insight X
opener = insight Opens [] []

-- the slots; those at home, with their letters
abbrev pub HomeSlots : Type 0 → Type 0
HomeSlots X = List (maybe.Option (Letter X))

-- the state of the table: all contents that were sent, the seats of the two ends, the slots of the sender, of the middle and of
-- the receiver, 1 if a letter was sent since the last look, and the letter in the middle
pub record Layout (X : Type 0) : Type 0 where
  pub all : List X
  pub sender : ℕ
  pub receiver : ℕ
  pub own : ℕ
  pub middle : ℕ
  pub shown : ℕ
  pub newer : ℕ
  pub letter : Letter X

module _ {X : Type 0} (p : Layout X) (slots : HomeSlots X) (seat : ℕ) where
  -- the seat is the sender's: it sent all contents
  abbrev pub SentAll : List X → Type 0
  SentAll seen = (seat ≡ p.sender) × (seen ≡ p.all)

  -- the seat is the receiver's: it saw all contents, or fewer if the middle letter is newer
  abbrev pub SawAll : List X → Type 0
  SawAll seen = (seat ≡ p.receiver) × (p.newer ≡ 0 → seen ≡ p.all) × (p.newer ≡ 1 → length seen < length p.all)

  -- the slot is at home, with some letter
  abbrev pub IsHome : ℕ → Type 0
  IsHome slot = (letter : Letter X) × (get_elem? slots slot ≡ some (some letter))

  -- the invariant of a seat in its role
  abbrev pub Plays : Role → List X → Type 0
  Plays Rests seen = Unit {0}
  Plays Opens seen = SentAll seen × SawAll seen × IsHome 0 × IsHome 2 × (p.own ≡ 0) × (p.shown ≡ 2)
  Plays Enters seen = SentAll seen × IsHome 0 × (p.own ≡ 0)
  Plays (Sends slot) seen = SentAll seen × (slot ≡ p.own)
  Plays Waits seen = SawAll seen × IsHome 2 × (p.shown ≡ 2)
  Plays (Looks slot) seen = SawAll seen × (slot ≡ p.shown)
  Plays (Takes slot) seen = SawAll seen × (slot ≡ p.shown) × (p.newer ≡ 1)

-- a content has the capacity of the mailbox's blank one
abbrev pub IsRoomy : {X : Type 0} → Kind X → Room → X → Type 0
IsRoomy kind room content = kind.room content ≡ kind.room (kind.blank room)

-- the three slots differ, and the word gives the middle one; its letter has the mailbox's capacity, and is the newest with its
-- number if it was sent since the last look; the list that each seat saw, or a note named to it, begins the list of all
-- contents
pub record IsMail {X : Type 0} (kind : Kind X) (room : Room) (s : State (Letter X) (Insight X)) : Type 0 where
  pub layout : Layout X
  pub one_word : length s.words ≡ 1
  pub three_slots : length s.homes ≡ 3
  pub small : (layout.own < 3) × (layout.middle < 3) × (layout.shown < 3) × (layout.newer < 2)
  pub apart : (layout.own ≢ layout.middle) × (layout.own ≢ layout.shown) × (layout.middle ≢ layout.shown)
  pub word_is : slice_index s.words 0 ≡ layout.middle + 4 * layout.newer
  pub at_middle : get_elem? s.homes layout.middle ≡ some (some layout.letter)
  pub as_roomy : IsRoomy kind room layout.letter.content
  pub is_newest : layout.newer ≡ 1 → layout.letter ≡ newest_letter kind room layout.all
  pub each_seat : (j : ℕ) (i : Insight X) → get_elem? s.views j ≡ some i → Plays layout s.homes j i.role i.seen × StartsWith layout.all i.seen × StartsWith layout.all i.reported

-- a table of one word and three slots
abbrev pub IsSized : TableId → Type 0
IsSized table = (table.words ≡ 1) × (table.slots ≡ 3)

-- the knowledge of a seat, and the slots in its hand
abbrev pub Seated : Type 0 → Type 0
Seated X = Me (Letter X) (Insight X)

-- a step at the table
abbrev pub Stepped : Type 0 → Type 0
Stepped X = Step (Letter X)

-- the letter in hand; a blank one of number 0 if there is none
abbrev pub in_hand : {X : Type 0} → Kind X → List (ℕ × Letter X) → Letter X
in_hand kind [] = newest_letter kind (0, 0) []
in_hand kind (first ∷ _) = first.1

-- the slot in hand
abbrev pub slot_in : {X : Type 0} → List (ℕ × Letter X) → ℕ
slot_in [] = 0
slot_in (first ∷ _) = first.0

-- the sender takes its slot with its letter
abbrev pub entered : {X : Type 0} → Stepped X → Seated X → ℕ → Seated X → Type 0
entered {X} _ old _ new = (letter : Letter X) × (new ≡ (insight (Sends 0) old.0.seen old.0.reported, (0, letter) ∷ []))

-- the receiver takes its slot with its letter
abbrev pub waited : {X : Type 0} → Stepped X → Seated X → ℕ → Seated X → Type 0
waited {X} _ old _ new = (letter : Letter X) × (new ≡ (insight (Looks 2) old.0.seen old.0.reported, (2, letter) ∷ []))

-- either the middle letter is no newer, and all that was sent was seen; or it is to be taken
abbrev pub found : {X : Type 0} → Stepped X → Seated X → ℕ → Seated X → Type 0
found _ old word new = (word < 4 → (new ≡ old) × StartsWith old.0.seen old.0.reported) × (4 ≤ word → new ≡ (insight (Takes (slot_in old.1)) old.0.seen old.0.reported, old.1))

-- the list that a note named to the sender begins the list that it sent
abbrev pub confirmed : {X : Type 0} → Stepped X → Seated X → ℕ → Seated X → Type 0
confirmed _ old _ new = (new ≡ old) × StartsWith old.0.seen old.0.reported

module _ {X : Type 0} (kind : Kind X) where
  -- the letter in hand was sent; the middle slot is now the sender's, with a content of the same capacity
  abbrev pub letter_sent : Stepped X → Seated X → ℕ → Seated X → Type 0
  letter_sent _ old word new = (letter : Letter X) × (kind.room letter.content ≡ kind.room (in_hand kind old.1).content)
      × (new ≡ (insight (Sends (word % 4)) (old.0.seen ++ (in_hand kind old.1).content ∷ []) old.0.reported, (word % 4, letter) ∷ []))

  -- the newest letter was taken, and more was seen than before; the middle slot is now the receiver's
  abbrev pub letter_taken : Stepped X → Seated X → ℕ → Seated X → Type 0
  letter_taken _ old word new = (room : Room) × (seen : List X) × (letter : Letter X) × StartsWith seen old.0.seen × StartsWith seen old.0.reported × (length old.0.seen < length seen)
      × (letter ≡ newest_letter kind room seen) × (kind.room letter.content ≡ kind.room (in_hand kind old.1).content)
      × (new ≡ (insight (Looks (word % 4)) seen old.0.reported, (word % 4, letter) ∷ []))
