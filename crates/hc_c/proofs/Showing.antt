-- How the image that a seat is shown comes of a task's datagrams, one after another.
use Rattle.std.proofs.Common.{◌≡◌, ℕ, zero, suc, ◌+◌, ◌-◌, ◌*◌, ◌≤◌, ◌∙◌, List, [], ◌∷◌, ◌++◌, length, take, Option, Some, None, append_assoc, ap, sym, arith}
use Rattle.std.specs.Prelude.{All, IfSome}
use Rattle.std.proofs.lemmas.List.{length-append, length-replicate}
use Rattle.std.proofs.lemmas.List.Elements.{All-head, All-tail}
use Rattle.std.proofs.lemmas.List.Sums.{sum_by-cons}
use Rattle.hc_places.specs.declared.table.Datagram.{Datagram}
use Rattle.hc_places.specs.Ranges.{IsDatagram}
use Rattle.hc_events.specs.Entries.{History}
use Rattle.hc_mail.specs.Contents.{Room}
use Rattle.hc_mail.specs.Images.{Image, begun, with_outputs}
use Rattle.hc_mail.specs.declared.image.ImageHead.{ImageHead}
use Rattle.hc_c.specs.Looks.{task_part_bytes}
use Rattle.hc_c.specs.Reads.{data_or_zeros, datagrams_of, image_from, image_size}
use Rattle.hc_c.specs.SeatImages.{image_shown, sent_from, serial_shown, serials_shown, with_slot, with_slots}
use Rattle.hc_c.specs.SeatRoom.{image_room}

-- the bytes of datagrams, one after another
pub sizes-cons : (datagrams rest : List Datagram) (first : Datagram) → datagrams ≡ first ∷ rest → image_size datagrams ≡ first.length + image_size rest
sizes-cons datagrams rest first cut = ap image_size cut ∙ sum_by-cons (λ (datagram : Datagram). datagram.length) first rest

-- none has more than 1,486
pub sizes-most : (datagrams : List Datagram) → All IsDatagram datagrams → image_size datagrams ≤ 1486 * length datagrams
sizes-most [] ranges = omega arith
sizes-most (first ∷ rest) ranges =
    let own = (All-head IsDatagram first rest ranges).sendable.most in
    let others = sizes-most rest (All-tail IsDatagram first rest ranges) in
    let all = sizes-cons (first ∷ rest) rest first (λ _. first ∷ rest) in
    omega (arith, own, others, all)

slot_long : (size : ℕ) (slot : Option (List ℕ)) → IfSome slot (λ bytes. length bytes ≡ size) → length (data_or_zeros size slot) ≡ size
slot_long size None fits = length-replicate size 0
slot_long size (Some bytes) fits = fits

-- what an image has after one datagram more
pub slot_added : (size : ℕ) (slot : Option (List ℕ)) (serial : Option ℕ) (before after : Image) → IfSome slot (λ bytes. length bytes ≡ size) → after ≡ with_slot size slot serial before
    → (length after.bytes ≡ length before.bytes + size) × (length after.serials ≡ length before.serials + 1) × (after.room ≡ before.room)
slot_added size slot serial before after fits same = (
  ap (λ (image : Image). length image.bytes) same ∙ (length-append before.bytes (data_or_zeros size slot) ∙ ap (λ (n : ℕ). length before.bytes + n) (slot_long size slot fits)),
  ap (λ (image : Image). length image.serials) same ∙ length-append before.serials (serial_shown slot serial ∷ []),
  ap (λ (image : Image). image.room) same,
)

-- the first of a list's elements are no more than all
pub take_short : (size : ℕ) (bytes : List ℕ) → length (take size bytes) ≤ length bytes
take_short zero bytes = omega arith
take_short (suc n) [] = omega arith
take_short (suc n) (byte ∷ bytes) = let less = take_short n bytes in omega (arith, less)

-- the first of two lists' elements are the first of the one, and then those of the other
pub take_joined : (size : ℕ) (first rest : List ℕ) → take size first ++ take (size - length first) rest ≡ take size (first ++ rest)
take_joined zero first rest = let none : zero - length first ≡ 0 = omega arith in ap (λ (n : ℕ). take n rest) none
take_joined (suc n) [] rest = let all : suc n - 0 ≡ suc n = omega arith in ap (λ (m : ℕ). take m rest) all
take_joined (suc n) (x ∷ first) rest =
    let less : suc n - suc (length first) ≡ n - length first = omega arith in
    ap (λ (l : List ℕ). x ∷ l) (ap (λ (m : ℕ). take n first ++ take m rest) less ∙ take_joined n first rest)

-- an image that gets the first of a datagram's outputs, and then the first of the others', has the first of all
pub outputs_joined : (size left : ℕ) (sent front rest all : List ℕ) (image : Image) → front ≡ take size sent → left ≡ size - length sent → all ≡ sent ++ rest
    → with_outputs (take left rest) (with_outputs front image) ≡ with_outputs (take size all) image
outputs_joined size left sent front rest all image is_front is_left are =
    let whole : front ++ take left rest ≡ take size all = (λ t. is_front t ++ take (is_left t) rest) ∙ (take_joined size sent rest ∙ ap (take size) (sym are)) in
    let joined = append_assoc image.outputs front (take left rest) ∙ ap (λ (l : List ℕ). image.outputs ++ l) whole in
    λ t. record image { outputs = joined t }

-- an image that is begun with a head and has all datagrams of a task, and then its outputs, is an image of the task with this head
pub shown_image : (history : History) (task outputs : ℕ) (head : ImageHead) (datagrams : List Datagram) (room : Room) (first second third : Image) → first ≡ begun head room → second ≡ with_slots history task 0 datagrams first
    → third ≡ with_outputs (take outputs (sent_from history task 0 datagrams)) second → datagrams ≡ datagrams_of history task → outputs ≡ (task_part_bytes history task).0 → room ≡ image_room
    → third ≡ image_shown history task head
shown_image history task outputs head datagrams room first second third is_first is_second is_third are part is_room =
    is_third ∙ (ap (with_outputs (take outputs (sent_from history task 0 datagrams))) is_second ∙ (ap (λ (image : Image). with_outputs (take outputs (sent_from history task 0 datagrams)) (with_slots history task 0 datagrams image)) is_first
    ∙ (λ t. record {
      head = head;
      bytes = image_from history task 0 (are t);
      serials = serials_shown history task 0 (length (are t));
      outputs = take (part t) (sent_from history task 0 (are t));
      room = is_room t;
    })))
