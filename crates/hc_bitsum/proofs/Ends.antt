-- Ends of runs, their joins, and what they say of a datagram.
use Rattle.std.specs.Prelude.{◌≡◌, ℕ, ◌+◌, ◌*◌, ◌/◌, ◌%◌, ◌<◌, ◌≤◌, ◌==◌, nat_le, Bool, true, false, ◌||◌, List, [], ◌∷◌, ◌++◌, slice_index, if◌then◌else◌, refl}
use Rattle.std.proofs.Common.{sym, ap, ◌∙◌, arith}
use Rattle.hc_records.specs.declared.keys.Key.{Key}
use Rattle.hc_records.specs.declared.records.Dir.{Dir}
use Rattle.hc_records.specs.Keys.{is_turn}
use Rattle.hc_records.specs.TaskList.{Keyed}
use Rattle.hc_records.specs.Packing.{next_byte}
use Rattle.hc_bitsum.specs.declared.filled.Filled.{Filled}
use Rattle.hc_bitsum.specs.declared.sum.Sum.{Sum}
use Rattle.hc_bitsum.specs.declared.sum.Sum.TheVariants.{Empty, Run}
use Rattle.hc_bitsum.specs.Filling.{filled_with_area, filled_with_areas}
use Rattle.hc_bitsum.specs.Sums.{end_from, filled_by_run, ends_by, sums_joined, start_at, sum_of, sum_of_area}

-- whole bytes before the start move the end by as much
end_from-bytes : (ends : List ℕ) (q x : ℕ) → end_from ends (8 * q + x) ≡ 8 * q + end_from ends x
end_from-bytes ends q x =
    let same : (8 * q + x) % 8 ≡ x % 8 = omega arith in
    rw same (omega arith)

start_at-bytes : (turns : Bool) (q x : ℕ) → start_at turns (8 * q + x) ≡ 8 * q + start_at turns x
start_at-bytes true q x = omega arith
start_at-bytes false q x = refl

pub ends_by-at : (end : ℕ → ℕ) (bit : ℕ) → bit < 8 → slice_index (ends_by end) bit ≡ end bit
ends_by-at end bit h = grind arith

-- a listed end is the end from that bit
pub end_from-ends_by : (end : ℕ → ℕ) (bit : ℕ) → bit < 8 → end_from (ends_by end) bit ≡ end bit
end_from-ends_by end bit h =
    let small : bit % 8 ≡ bit = omega arith in
    let none : 8 * (bit / 8) ≡ 0 = omega arith in
    let read : slice_index (ends_by end) bit ≡ end bit = ends_by-at end bit h in
    let moved : slice_index (ends_by end) (bit % 8) ≡ slice_index (ends_by end) bit = ap (slice_index (ends_by end)) small in
    omega arith

-- the ends of a join are ends of the one run from the end of the other
end_from-both : (ends laters : List ℕ) (turns : Bool) (x : ℕ)
    → end_from (ends_by (λ bit. end_from laters (start_at turns (end_from ends bit)))) x ≡ end_from laters (start_at turns (end_from ends x))
end_from-both ends laters turns x =
    let q = x / 8 in
    let r = x % 8 in
    let below : x % 8 < 8 = omega arith in
    let whole : x ≡ 8 * q + r = omega arith in
    let both = λ (bit : ℕ). end_from laters (start_at turns (end_from ends bit)) in
    let at_r : slice_index (ends_by both) r ≡ both r = ends_by-at both r below in
    let ends_x : end_from ends x ≡ 8 * q + end_from ends r = ap (end_from ends) whole ∙ end_from-bytes ends q r in
    let moved : both x ≡ 8 * q + both r =
    ap (λ y. end_from laters (start_at turns y)) ends_x
    ∙ ap (end_from laters) (start_at-bytes turns q (end_from ends r))
    ∙ end_from-bytes laters q (start_at turns (end_from ends r)) in
    ap (λ y. 8 * (x / 8) + y) at_r ∙ sym moved

ends_by-same : (f g : ℕ → ℕ) → ((bit : ℕ) → f bit ≡ g bit) → ends_by f ≡ ends_by g
ends_by-same f g h =
    let a = h 0 in let b = h 1 in let c = h 2 in let d = h 3 in let e = h 4 in let i = h 5 in let j = h 6 in let k = h 7 in
    cc

pub joined-assoc : (a b c : Sum) → sums_joined (sums_joined a b) c ≡ sums_joined a (sums_joined b c)
joined-assoc Empty b c = refl
joined-assoc (Run f l e) Empty c = refl
joined-assoc (Run f l e) (Run g m d) Empty = refl
joined-assoc (Run f l e) (Run g m d) (Run h n k) =
    ap (Run f n) (ends_by-same _ _ (λ bit.
    ap (λ y. end_from k (start_at (is_turn m h) y)) (end_from-both e d (is_turn l g) bit)
    ∙ sym (end_from-both d k (is_turn m h) (start_at (is_turn l g) (end_from e bit)))))

pub joined-Empty : (a : Sum) → sums_joined a Empty ≡ a
joined-Empty Empty = refl
joined-Empty (Run f l e) = refl

-- a join fills a datagram as the one run and then the other
ended-joined : (a b : Sum) (filled : Filled) → filled_by_run (sums_joined a b) filled ≡ filled_by_run b (filled_by_run a filled)
ended-joined Empty b filled = refl
ended-joined (Run f l e) Empty filled = refl
ended-joined (Run f l e) (Run g m d) filled =
    ap (λ y. let r : Filled = record { bit = y; last = m } in r) (end_from-both e d (is_turn l g) (start_at (is_turn filled.last f) filled.bit))

-- the end of one area, by whether it turns and whether it begins a byte
pub area-bit : (turns wide : Bool) (bits bit : ℕ)
    → end_from (ends_by (λ p. (if wide then next_byte p else p) + bits)) (start_at turns bit) ≡ (if wide || turns then next_byte bit else bit) + bits
area-bit true true bits bit = let e = ends_by-at (λ p. next_byte p + bits) (next_byte bit % 8) (omega arith) in omega arith
area-bit true false bits bit = let e = ends_by-at (λ p. p + bits) (next_byte bit % 8) (omega arith) in omega arith
area-bit false true bits bit = let e = ends_by-at (λ p. next_byte p + bits) (bit % 8) (omega arith) in omega arith
area-bit false false bits bit = let e = ends_by-at (λ p. p + bits) (bit % 8) (omega arith) in omega arith

area-by : (none turns wide : Bool) (dir : Dir) (bits : ℕ) (filled : Filled) → is_turn filled.last dir ≡ turns
    → filled_by_run (if none then Empty else Run dir dir (ends_by (λ p. (if wide then next_byte p else p) + bits))) filled
    ≡ (if none then filled else record { bit = (if wide || turns then next_byte filled.bit else filled.bit) + bits; last = dir })
area-by true turns wide dir bits filled h = refl
area-by false turns wide dir bits filled h =
    rw h (ap (λ y. let r : Filled = record { bit = y; last = dir } in r) (area-bit turns wide bits filled.bit))

ended-area : (area : Keyed) (filled : Filled) → filled_by_run (sum_of_area area.0.dir area.1) filled ≡ filled_with_area filled area
ended-area area filled = area-by (area.1 == 0) (is_turn filled.last area.0.dir) (nat_le 8 area.1) area.0.dir area.1 filled refl

pub ended-sum_of : (areas : List Keyed) (filled : Filled) → filled_by_run (sum_of areas) filled ≡ filled_with_areas filled areas
ended-sum_of [] filled = refl
ended-sum_of (area ∷ areas) filled =
    ended-joined (sum_of_area area.0.dir area.1) (sum_of areas) filled
    ∙ ap (filled_by_run (sum_of areas)) (ended-area area filled)
    ∙ ended-sum_of areas (filled_with_area filled area)

pub sum_of-append : (xs ys : List Keyed) → sum_of (xs ++ ys) ≡ sums_joined (sum_of xs) (sum_of ys)
sum_of-append [] ys = refl
sum_of-append (x ∷ xs) ys =
    ap (sums_joined (sum_of_area x.0.dir x.1)) (sum_of-append xs ys) ∙ sym (joined-assoc (sum_of_area x.0.dir x.1) (sum_of xs) (sum_of ys))

area-le : (none byte : Bool) (area : Keyed) (filled : Filled)
    → filled.bit ≤ (let r : Filled = (if none then filled else record { bit = (if byte then next_byte filled.bit else filled.bit) + area.1; last = area.0.dir }) in r.bit)
area-le true byte area filled = omega arith
area-le false true area filled = omega arith
area-le false false area filled = omega arith

-- an area takes nothing back
pub with_area-le : (filled : Filled) (area : Keyed) → filled.bit ≤ (filled_with_area filled area).bit
with_area-le filled area = area-le (area.1 == 0) (nat_le 8 area.1 || is_turn filled.last area.0.dir) area filled

-- an end never falls when an area is appended
pub ended-le : (sum : Sum) (dir : Dir) (bits : ℕ) (filled : Filled) → (filled_by_run sum filled).bit ≤ (filled_by_run (sums_joined sum (sum_of_area dir bits)) filled).bit
ended-le sum dir bits filled =
    let area : Keyed = ((let key : Key = record { dir = dir; rank = 0; area = 0 } in key), bits) in
    let more : filled_by_run (sums_joined sum (sum_of_area dir bits)) filled ≡ filled_with_area (filled_by_run sum filled) area = ended-joined sum (sum_of_area dir bits) filled ∙ ended-area area (filled_by_run sum filled) in
    rw more (with_area-le (filled_by_run sum filled) area)
