-- The two ends of a mailbox and their notes, as contracts see them.
use Rattle.std.specs.Prelude.{ℕ, ◌<◌, List, [], ◌∷◌, ◌≡◌}
use Rattle.atomic_table.specs.Seated.{TableId}
use Rattle.atomic_table.specs.declared.shared.Seat.{Seat}
use Rattle.hc_mail.specs.declared.letter.Letter.{Letter}
use Rattle.hc_mail.specs.declared.table.Insight.{Insight}
use Rattle.hc_mail.specs.declared.table.Role.{Role}
use Rattle.hc_mail.specs.declared.table.Role.TheVariants.{Sends, Looks}
use Rattle.hc_mail.specs.Contents.{Kind, Room, counted}
use Rattle.hc_mail.specs.Rule.{IsRoomy, IsSized, in_hand, insight}
use Rattle.std.specs.Prelude.{length}

-- an end's place at the table
abbrev pub Place : Type 0 → Type 0
Place X = Seat (Letter X) (Insight X)

-- the contents that an end sent, or that had been sent when it looked
abbrev pub seen : {X : Type 0} → Place X → List X
seen place = place.me.0.seen

-- the contents that a note of the other end named
abbrev pub reported : {X : Type 0} → Place X → List X
reported place = place.me.0.reported

-- an end stays at its table, and knows what was reported to it
abbrev pub StaysAtTable : {X : Type 0} → Place X → Place X → Type 0
StaysAtTable place place' = (place'.table_id ≡ place.table_id) × (reported place' ≡ reported place)

module _ {X : Type 0} (kind : Kind X) where
  -- the place in a role, with one slot in hand and its letter
  abbrev pub posed : Place X → Role → ℕ → Place X
  posed place role slot = record place { me = (insight role (seen place) (reported place), (slot, in_hand kind place.me.1) ∷ []) }

  -- the end is at this table, with its own slot in hand, which holds a letter of this capacity; it counts the letters that it
  -- sent
  pub record IsSender (place : Place X) (slot count : ℕ) (table : TableId) (room : Room) : Type 0 where
    pub seated : place.table_id ≡ table
    pub sized : IsSized table
    pub roomy : IsRoomy kind room (in_hand kind place.me.1).content
    pub small : slot < 4
    pub counts : count ≡ counted (length (seen place))
    pub sends : place ≡ posed place (Sends slot) slot

  -- the end is at this table, with its own slot in hand; its number counts the contents that it saw
  pub record IsReceiver (place : Place X) (slot number : ℕ) (table : TableId) : Type 0 where
    pub seated : place.table_id ≡ table
    pub sized : IsSized table
    pub small : slot < 4
    pub counts : number ≡ counted (length (seen place))
    pub looks : place ≡ posed place (Looks slot) slot

-- the place without the slot in hand
abbrev pub with_nothing : {X : Type 0} → Place X → Place X
with_nothing place = record place { me = (place.me.0, []) }

-- the sender: its place at the table, without the slot in hand, and the content in that slot
pub record SenderEnd (X : Type 0) : Type 0 where
  pub place : Place X
  pub own : X

-- the receiver: its place at the table, without the slot in hand, and the mailbox's capacity
pub record ReceiverEnd (X : Type 0) : Type 0 where
  pub place : Place X
  pub room : Room
