use Rattle.std.proofs.Common.{◌+◌, ◌/◌, ◌≤◌, ◌∙◌, sym, arith}
use Rattle.hc_records.specs.Image.{inside}
use Rattle.hc_records.specs.Keys.{same_dir}
use Rattle.hc_records.specs.declared.records.Dir.TheVariants.{In}
use Rattle.hc_records.proofs.lemmas.Greatest.{greatest-all}
use Rattle.hc_records.proofs.lemmas.Lengths.{bit_after}
use Rattle.hc_places.specs.DatagramUses.{datagram_use_length}
use Rattle.hc_places.proofs.lemmas.Found.{find-holds}
use Rattle.hc_places.proofs.datagram_uses.DatagramUse.of.Goals as goal

-- the first input begins within the datagram's bytes
pub returns-in-Some-clause-low : goal.returns-in-Some-clause-low
returns-in-Some-clause-low c =
    let areas = inside c.args.number c.args.areas.now in
    let ends = find-holds (λ area. (bit_after area + 7) / 8 ≤ datagram_use_length areas) (λ area. same_dir area.key.dir In) areas c.in-Some.area (sym c.first_input.ensures ∙ c.in-Some.is)
    (λ k d within. let end = greatest-all bit_after 0 areas k d within in omega arith) in
    let within = ends.0 in
    let bit = c.bit.ensures.value in
    let length = c.datagram_length-length.ensures.value in
    record { most = c.datagram_length-length.ensures.low; part = omega arith }
