-- From an area that begins a later datagram on, a list is as a list of its own.
use Rattle.std.proofs.Common.{◌≡◌, ℕ, ◌+◌, ◌≤◌, inl, Bool, true, false, List, [], ◌∷◌, ◌++◌, refl, sym, ap, ◌∙◌, arith}
use Rattle.std.specs.Prelude.{All, map}
use Rattle.std.proofs.lemmas.List.Elements.{All-head}
use Rattle.hc_records.specs.TaskList.{Keyed}
use Rattle.hc_records.specs.Packing.{Front, Placed, empty_front, fits, placed_at, front_with, packed}
use Rattle.hc_records.specs.Image.{datagram_count}
use Rattle.hc_records.specs.Boundaries.{begins_later}
use Rattle.hc_records.specs.Laws.{IsPackable, front_after, raised}
use Rattle.hc_records.proofs.lemmas.Packed.{place, packed-append}
use Rattle.hc_records.proofs.Counts.{count-front_after}
use Rattle.hc_records.proofs.lemmas.Cuts.{IsBegun, front_after-IsBegun, fitting-begins}
use Rattle.hc_records.proofs.lemmas.Lengths.{opening-beginning, opening-fits}
use Rattle.hc_records.proofs.lemmas.Lists.{All-append_left, All-append_right}

-- a front with so many more datagrams before it
abbrev pub raised_front : ℕ → Front → Front
raised_front datagrams front = record front { datagram = front.datagram + datagrams }

pub place-raised : (fitting : Bool) (datagrams : ℕ) (front : Front) (area : Keyed) → place fitting (raised_front datagrams front) area ≡ raised datagrams (place fitting front area)
place-raised true datagrams front area = refl
place-raised false datagrams front area =
    let sum : front.datagram + datagrams + 1 ≡ front.datagram + 1 + datagrams = omega arith in
    ap (λ number. let placed : Placed = record { key = area.0; bits = area.1; datagram = number; bit = 0 } in placed) sum

packed-raised : (datagrams : ℕ) (front : Front) (list : List Keyed) → packed (raised_front datagrams front) list ≡ map (raised datagrams) (packed front list)
packed-raised datagrams front [] = refl
packed-raised datagrams front (area ∷ areas) =
    ap (λ placed. placed ∷ packed (front_with placed) areas) (place-raised (fits front area) datagrams front area)
    ∙ ap (λ rest. raised datagrams (placed_at front area) ∷ rest) (packed-raised datagrams (front_with (placed_at front area)) areas)

-- an area that begins a later datagram doesn't fit
later-other : (fitting : Bool) (front : Front) (area : Keyed) → IsBegun front → begins_later (place fitting front area) ≡ true → fitting ≡ false
later-other true front area begun later = sym later ∙ fitting-begins front area begun
later-other false front area begun later = refl

-- it is as the first area of a list, in the next datagram
pub first-raised : (datagrams : ℕ) (front : Front) (area : Keyed) → area.1 ≤ 11888 → datagrams ≡ front.datagram + 1 → fits front area ≡ false →
    placed_at front area ≡ raised datagrams (placed_at empty_front area)
first-raised datagrams front area narrow same other =
    let first : raised datagrams (placed_at empty_front area) ≡ raised datagrams (place true empty_front area) =
    ap (λ fitting. raised datagrams (place fitting empty_front area)) (opening-fits area narrow) in
    let number : front.datagram + 1 ≡ 0 + datagrams = omega arith in
    let bit = opening-beginning area in
    ap (λ fitting. place fitting front area) other
    ∙ ap (λ number. let placed : Placed = record { key = area.0; bits = area.1; datagram = number; bit = 0 } in placed) number
    ∙ ap (λ bit. let placed : Placed = record { key = area.0; bits = area.1; datagram = 0 + datagrams; bit = bit } in placed) (sym bit)
    ∙ sym first

-- the datagrams of what is before it are those up to the one being filled
pub before-count : (before : List Keyed) (area : Keyed) → area.1 ≤ 11888 → fits (front_after empty_front before) area ≡ false →
    datagram_count (packed empty_front before) ≡ (front_after empty_front before).datagram + 1
before-count [] area narrow other = let fitting = opening-fits area narrow in let none : true ≡ false = sym fitting ∙ other in cc
before-count (first ∷ before) area narrow other = count-front_after first before

pub packed-alone : (before : List Keyed) (area : Keyed) (areas : List Keyed) → All IsPackable (before ++ area ∷ areas) →
    begins_later (placed_at (front_after empty_front before) area) ≡ true →
    packed empty_front (before ++ area ∷ areas) ≡ packed empty_front before ++ map (raised (datagram_count (packed empty_front before))) (packed empty_front (area ∷ areas))
packed-alone before area areas all later =
    let front = front_after empty_front before in
    let count = datagram_count (packed empty_front before) in
    let narrow = (All-head IsPackable area areas (All-append_right IsPackable before (area ∷ areas) all)).narrow in
    let begun = front_after-IsBegun empty_front before (inl refl) (All-append_left IsPackable before (area ∷ areas) all) in
    let other : fits front area ≡ false = later-other (fits front area) front area begun later in
    let first : placed_at front area ≡ raised count (placed_at empty_front area) = first-raised count front area narrow (before-count before area narrow other) other in
    packed-append empty_front before (area ∷ areas)
    ∙ ap (λ placed. packed empty_front before ++ placed ∷ packed (front_with placed) areas) first
    ∙ ap (λ rest. packed empty_front before ++ raised count (placed_at empty_front area) ∷ rest) (packed-raised count (front_with (placed_at empty_front area)) areas)
