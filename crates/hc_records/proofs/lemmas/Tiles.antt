-- The datagrams of a task lie end to end in its image.
use Rattle.std.proofs.Common.{◌≡◌, ℕ, ◌+◌, ◌*◌, ◌<◌, ◌≤◌, zero, suc, List, Option, Some, None, get_or, refl, arith}
use Rattle.std.specs.Prelude.{All, find}
use Rattle.std.specs.Option.{option_map_or}
use Rattle.hc_records.specs.declared.limits.TheConstants.{MOST_DATAGRAM_BYTES, MOST_DATAGRAMS}
use Rattle.hc_records.specs.declared.records.Dir.TheVariants.{In}
use Rattle.hc_records.specs.Keys.{same_dir}
use Rattle.hc_records.specs.TaskList.{Keyed}
use Rattle.hc_records.specs.Packing.{Placed, empty_front, packed}
use Rattle.hc_records.specs.Image.{datagram_count, datagram_length, datagram_offset, first_byte, image_length, output_length}
use Rattle.hc_records.specs.Laws.{IsPackable}
use Rattle.hc_records.specs.ImageLaws.{TilesImage}
use Rattle.hc_records.proofs.lemmas.Finds.{found-all}
use Rattle.hc_records.proofs.lemmas.Greatest.{greatest-all}
use Rattle.hc_records.proofs.lemmas.Lengths.{length-sendable}
use Rattle.hc_records.proofs.lemmas.Parts.{ends-in-datagram, offset-le}

-- the offset of a datagram is the offset of the one before it and its length
offset-next : (areas : List Placed) (datagram : ℕ) → datagram_offset areas (datagram + 1) ≡ datagram_offset areas datagram + datagram_length areas datagram
offset-next areas datagram = let next : datagram + 1 ≡ suc datagram = omega arith in rw next refl

-- each area begins within the image
begins-inside : (areas : List Placed) → All (λ area. first_byte areas area ≤ image_length areas) areas
begins-inside areas k d within =
    let area = get_or areas k d in
    let end = ends-in-datagram areas k d within in
    let counted : area.datagram + 1 ≤ datagram_count areas = greatest-all (λ (other : Placed). other.datagram + 1) 0 areas k d within in
    let last : datagram_offset areas (suc area.datagram) ≤ image_length areas = offset-le areas (suc area.datagram) (datagram_count areas) (omega arith) in
    omega arith

outputs-by : (areas : List Placed) (found : Option Placed) → ((area : Placed) → found ≡ Some area → first_byte areas area ≤ image_length areas) →
    option_map_or (first_byte areas) found (image_length areas) ≤ image_length areas
outputs-by areas None begins = omega arith
outputs-by areas (Some area) begins = begins area refl

pub outputs-inside : (areas : List Placed) → output_length areas ≤ image_length areas
outputs-inside areas =
    outputs-by areas (find (λ area. same_dir area.key.dir In) areas)
    (λ area is. found-all (λ other. first_byte areas other ≤ image_length areas) (λ other. same_dir other.key.dir In) areas area (begins-inside areas) is)

pub tiles-image : (areas : List Placed) → TilesImage areas
tiles-image areas = record {
  first = refl;
  next = offset-next areas;
  last = let inside = outputs-inside areas in omega arith;
}

-- datagrams of at most so many bytes each
offset-most : (areas : List Placed) (count : ℕ) → ((datagram : ℕ) → datagram < count → datagram_length areas datagram ≤ MOST_DATAGRAM_BYTES) → datagram_offset areas count ≤ count * MOST_DATAGRAM_BYTES
offset-most areas zero short = omega arith
offset-most areas (suc datagram) short =
    let here = short datagram (omega arith) in
    let before = offset-most areas datagram (λ other low. short other (omega arith)) in
    omega arith

pub image-short : (list : List Keyed) → All IsPackable list → datagram_count (packed empty_front list) ≤ MOST_DATAGRAMS → image_length (packed empty_front list) ≤ MOST_DATAGRAMS * MOST_DATAGRAM_BYTES
image-short list all few =
    let most = offset-most (packed empty_front list) (datagram_count (packed empty_front list)) (λ datagram low. (length-sendable list datagram all low).most) in
    omega arith
