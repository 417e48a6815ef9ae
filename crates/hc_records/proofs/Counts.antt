-- A list has as many datagrams as the last one's number says.
use Rattle.std.proofs.Common.{◌≡◌, ℕ, ◌+◌, Bool, true, false, List, [], ◌∷◌, refl, ap, ◌∙◌, arith}
use Rattle.std.specs.Prelude.{max}
use Rattle.hc_records.specs.TaskList.{Keyed}
use Rattle.hc_records.specs.Packing.{Front, Placed, empty_front, fits, placed_at, front_with, packed}
use Rattle.hc_records.specs.Image.{datagram_count}
use Rattle.hc_records.specs.Laws.{front_after}
use Rattle.hc_records.proofs.lemmas.Greatest.{greatest}
use Rattle.hc_records.proofs.lemmas.Packed.{place}

-- after a datagram's number
abbrev number_after : Placed → ℕ
number_after area = area.datagram + 1

counted-place : (fitting : Bool) (front : Front) (area : Keyed) → max (front.datagram + 1) (number_after (place fitting front area)) ≡ number_after (place fitting front area)
counted-place true front area = omega arith
counted-place false front area = omega arith

counted-packed : (front : Front) (list : List Keyed) → greatest number_after (front.datagram + 1) (packed front list) ≡ (front_after front list).datagram + 1
counted-packed front [] = refl
counted-packed front (area ∷ areas) =
    let front' = front_with (placed_at front area) in
    ap (λ count. greatest number_after count (packed front' areas)) (counted-place (fits front area) front area) ∙ counted-packed front' areas

pub count-front_after : (area : Keyed) (areas : List Keyed) → datagram_count (packed empty_front (area ∷ areas)) ≡ (front_after empty_front (area ∷ areas)).datagram + 1
count-front_after area areas =
    let front' = front_with (placed_at empty_front area) in
    let first : max 0 (number_after (placed_at empty_front area)) ≡ front'.datagram + 1 = omega arith in
    ap (λ count. greatest number_after count (packed front' areas)) first ∙ counted-packed front' areas
