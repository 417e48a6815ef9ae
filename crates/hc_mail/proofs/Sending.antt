-- The sender stays one while it writes the content in its slot.
use Rattle.std.proofs.Common.{◌≡◌, ℕ, ◌∷◌, ap}
use Rattle.atomic_table.specs.Lent.{seat_with}
use Rattle.atomic_table.specs.Seated.{TableId}
use Rattle.atomic_table.specs.Table.{rest}
use Rattle.hc_mail.specs.declared.letter.Letter.{Letter}
use Rattle.hc_mail.specs.declared.table.Role.TheVariants.{Sends}
use Rattle.hc_mail.specs.Contents.{Kind, Room}
use Rattle.hc_mail.specs.Ends.{IsSender, Place}
use Rattle.hc_mail.specs.Rule.{IsRoomy}
use Rattle.hc_mail.proofs.Moves.{is_posed}

pub still_sends : {X : Type 0} (kind : Kind X) (place : Place X) (slot count : ℕ) (table : TableId) (room : Room) (letter : Letter X)
    → IsSender kind place slot count table room → IsRoomy kind room letter.content → IsSender kind (seat_with place slot letter) slot count table room
still_sends {X} kind place slot count table room letter it roomy = record {
  seated = it.seated;
  sized = it.sized;
  roomy = roomy;
  small = it.small;
  counts = it.counts;
  sends = is_posed kind (seat_with place slot letter) (Sends slot) slot letter (ap (λ (s : Place X). s.me.0.role) it.sends) (ap (λ (s : Place X). (slot, letter) ∷ rest s.me.1) it.sends);
}
