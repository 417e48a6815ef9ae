-- When two places, or two answers for a variable, are the same.
use Rattle.std.proofs.Common.{◌≡◌, true, refl}
use Rattle.std.specs.Prelude.{Option, Some, None, ◌==◌, ◌&&◌}
use Rattle.std.proofs.lemmas.Bool.{and_from, eq-eqb}
use Rattle.hc_records.specs.Keys.{same_dir}
use Rattle.hc_records.specs.Image.{VariablePlace}
use Rattle.hc_records.proofs.lemmas.KeyOrder.{same_dir-refl}
use Rattle.hc_records.proofs.lemmas.VariablePlaces.{same_dir-same}
use Rattle.hc_places.specs.Swap.{same_found, same_place}

place-same : (a : VariablePlace) → same_place a a ≡ true
place-same a =
    and_from ((a.task == a.task) && (a.datagram == a.datagram) && (a.bit == a.bit) && (a.bits == a.bits)) (same_dir a.dir a.dir)
    (and_from ((a.task == a.task) && (a.datagram == a.datagram) && (a.bit == a.bit)) (a.bits == a.bits)
    (and_from ((a.task == a.task) && (a.datagram == a.datagram)) (a.bit == a.bit)
    (and_from (a.task == a.task) (a.datagram == a.datagram) (eq-eqb a.task a.task refl) (eq-eqb a.datagram a.datagram refl)) (eq-eqb a.bit a.bit refl))
    (eq-eqb a.bits a.bits refl)) (same_dir-refl a.dir)

found-itself : (a : Option VariablePlace) → same_found a a ≡ true
found-itself None = refl
found-itself (Some a) = place-same a

pub found-same : (a b : Option VariablePlace) → a ≡ b → same_found a b ≡ true
found-same a b same = rw (← same) (found-itself a)
