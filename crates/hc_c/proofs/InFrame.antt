-- The datagrams of a frame that can be read lie within its first 2,064 bytes.
use Rattle.std.proofs.Common.{◌≡◌, ℕ, zero, suc, ◌+◌, ◌%◌, ◌<◌, ◌≤◌, Bool, true, false, ◌||◌, cond, not, List, [], ◌∷◌, length, take, drop, map, refl, sym, subst, arith, length-drop, Option, Some, None}
use Rattle.std.specs.Prelude.{All, nat_lt}
use Rattle.std.specs.List.{list_all}
use Rattle.std.proofs.lemmas.Grind.{common_steps}
use Rattle.std.proofs.lemmas.Bool.{and_parts}
use Rattle.std.proofs.lemmas.List.Elements.{All-nil, All-cons}
use Rattle.hc_frames.specs.declared.limits.TheConstants.{MAX_DATAGRAMS}
use Rattle.hc_frames.specs.declared.reading.faults.FrameFault.{FrameFault}
use Rattle.hc_frames.specs.declared.reading.faults.FrameFault.TheVariants.{Short, NotEtherCat, BadType, BadLength}
use Rattle.hc_frames.specs.Arrived.{ArrivedDatagram, datagram_carried, data_size, datagram_bytes, datagram_tails, fault_in, fill_region, has_bad_length, has_bad_type, is_not_ethercat, is_short, is_whole, more_between, placed_from, reading_of, region, word_at}
use Rattle.hc_frames.proofs.lemmas.Datagrams.{carried-length, datagrams-none, first-whole, placed-some, whole-long}
use Rattle.hc_c.specs.Returned.{IsInFrame}

abbrev Within : ℕ → ArrivedDatagram → Type 0
Within limit placed = placed.start + (12 + length placed.carried.bytes) ≤ limit

here : (start size limit long : ℕ) (bytes : List ℕ) → length bytes ≡ size → 12 + size ≤ long → start + long ≤ limit → start + (12 + length bytes) ≤ limit
here start size limit long bytes is fits ends = omega (arith, is, fits, ends)

within : (n start limit : ℕ) (bytes : List ℕ) → length bytes ≤ n → list_all is_whole (datagram_tails bytes) ≡ true → start + length bytes ≤ limit → All (Within limit) (placed_from start (map datagram_carried (datagram_tails bytes)))
within n start limit [] short whole ends =
    subst (λ (ds : List (List ℕ)). All (Within limit) (placed_from start (map datagram_carried ds))) (sym (datagrams-none [] refl)) (All-nil (Within limit))
within zero start limit (b ∷ bytes) short whole ends = absurd (omega (arith, short))
within (suc n) start limit (b ∷ bytes) short whole ends =
    let some : 0 < length (b ∷ bytes) = omega arith in
    let first = first-whole (b ∷ bytes) some whole in
    let long = whole-long (b ∷ bytes) first.0 in
    let size = data_size (b ∷ bytes) in
    let after_it : List ℕ = drop (12 + size) (b ∷ bytes) in
    let left = length-drop (12 + size) (b ∷ bytes) in
    let rest = within n (start + (12 + size)) limit after_it (omega (arith, left, short)) first.1 (omega (arith, left, long, ends)) in
    subst (All (Within limit)) (sym (placed-some start (b ∷ bytes) some first.0))
    (All-cons (Within limit) (record { start = start; carried = datagram_carried (b ∷ bytes) }) (placed_from (start + (12 + size)) (map datagram_carried (datagram_tails after_it)))
    (here start size limit (length (b ∷ bytes)) (datagram_carried (b ∷ bytes)).bytes (carried-length (b ∷ bytes) first.0) long ends) rest)

-- of a frame without a fault the length is no bad one

fourth : (a b c d : Bool) (rest : Option FrameFault) → cond a (Some Short) (cond b (Some NotEtherCat) (cond c (Some BadType) (cond d (Some BadLength) rest))) ≡ None → d ≡ false
fourth true b c d rest e = cc
fourth false true c d rest e = cc
fourth false false true d rest e = cc
fourth false false false true rest e = cc
fourth false false false false rest e = refl

whole_by : (over short fill : Bool) → over || (short || not fill) ≡ false → fill ≡ true
whole_by true short fill e = cc
whole_by false true fill e = cc
whole_by false false true e = refl
whole_by false false false e = cc

filled : (bytes : List ℕ) → fault_in bytes ≡ None → list_all is_whole (datagram_tails (region bytes)) ≡ true
filled bytes none =
    let good = fourth (is_short bytes) (is_not_ethercat bytes) (has_bad_type bytes) (has_bad_length bytes) _ none in
    let fills = whole_by (nat_lt MAX_DATAGRAMS (datagram_bytes bytes)) (nat_lt (length bytes) (16 + datagram_bytes bytes)) (fill_region (datagram_tails (region bytes))) good in
    let both = and_parts (nat_lt 0 (length (datagram_tails (region bytes)))) _ fills in
    (and_parts (list_all is_whole (datagram_tails (region bytes))) (more_between (datagram_tails (region bytes))) both.1).0

short_region : (word : ℕ) (bytes : List ℕ) → 16 + length (take (word % 2048) bytes) ≤ 2064
short_region word bytes = grind (arith, common_steps)

pub in-frame : (bytes : List ℕ) → fault_in bytes ≡ None → All IsInFrame (placed_from 16 (reading_of bytes).parts)
in-frame bytes none = within (length (region bytes)) 16 2064 (region bytes) (omega arith) (filled bytes none) (short_region (word_at bytes 14) (drop 16 bytes))
