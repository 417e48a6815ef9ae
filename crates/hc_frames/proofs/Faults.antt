-- The fault that the reader answers is the first that holds.
use Rattle.std.proofs.Common.{◌≡◌, ℕ, ◌+◌, ◌%◌, ◌<◌, ◌≤◌, Bool, true, false, cond, ◌&&◌, ◌||◌, not, nat_lt, List, length, refl, ap, ◌∙◌, sym, arith, Option, Some, None}
use Rattle.std.specs.List.{list_all, list_any}
use Rattle.std.proofs.lemmas.Bool.Decides.{nat_tests}
use Rattle.std.proofs.lemmas.Bool.{le-ltb, lt-ltb}
use Rattle.hc_frames.specs.declared.limits.TheConstants.{LEAST_READ, MAX_DATAGRAMS}
use Rattle.hc_frames.specs.declared.reading.datagrams.Survey.{Survey}
use Rattle.hc_frames.specs.declared.reading.faults.FrameFault.{FrameFault}
use Rattle.hc_frames.specs.declared.reading.faults.FrameFault.TheVariants.{Short, NotEtherCat, BadType, BadLength, Circulating, MoreFollows, UnknownCommand, IndexMismatch}
use Rattle.hc_frames.specs.Arrived.{circulates, datagram_bytes, datagram_tails, fault_in, fill_region, has_other_index, has_bad_length, has_bad_type, has_unknown_command, is_circulating, is_not_ethercat, is_short, is_unknown, is_whole, mismatches, more_at_end, more_between, promises_more, region, serial_in}
use Rattle.hc_frames.specs.Regions.{ComesAfter, fault_of}
use Rattle.hc_frames.proofs.Surveys.{Found}

-- the first of eight conditions
abbrev table : Bool → Bool → Bool → Bool → Bool → Bool → Bool → Bool → Option FrameFault
table a b c d e f g h =
    cond a (Some Short) (cond b (Some NotEtherCat) (cond c (Some BadType) (cond d (Some BadLength) (cond e (Some Circulating) (cond f (Some MoreFollows) (cond g (Some UnknownCommand) (cond h (Some IndexMismatch) None)))))))

fourth : (a b c d e f g h : Bool) → a ≡ false → b ≡ false → c ≡ false → d ≡ true → table a b c d e f g h ≡ Some BadLength
fourth a b c d e f g h a' b' c' d' = rw (a', b', c', d') refl

others : (a b c d e f g h : Bool) → a ≡ false → b ≡ false → c ≡ false → d ≡ false → table a b c d e f g h ≡ table false false false false e f g h
others a b c d e f g h a' b' c' d' = rw (a', b', c', d') refl

found_fault : (e f g h : Bool) (seen : Survey) → seen.circulates ≡ e → seen.more ≡ f → seen.unknown ≡ g → seen.mismatch ≡ h → table false false false false e f g h ≡ fault_of seen
found_fault e f g h seen e' f' g' h' =
    ap (λ (x : Bool). table false false false false x f g h) (sym e')
    ∙ ap (λ (x : Bool). table false false false false seen.circulates x g h) (sym f')
    ∙ ap (λ (x : Bool). table false false false false seen.circulates seen.more x h) (sym g')
    ∙ ap (λ (x : Bool). table false false false false seen.circulates seen.more seen.unknown x) (sym h')

-- where the datagrams don't fill their bytes
pub unfilled : (bytes left : List ℕ) → ComesAfter bytes left → fill_region (datagram_tails left) ≡ false → fault_in bytes ≡ Some BadLength
unfilled bytes left there bad =
    let wrong : fill_region (datagram_tails (region bytes)) ≡ false = ap (λ (r : List ℕ). fill_region (datagram_tails r)) (sym there.found_there) ∙ bad in
    let long : has_bad_length bytes ≡ true =
    ap (λ (b : Bool). b || (nat_lt (length bytes) (16 + datagram_bytes bytes) || not (fill_region (datagram_tails (region bytes))))) (le-ltb MAX_DATAGRAMS (datagram_bytes bytes) there.within)
    ∙ ap (λ (b : Bool). b || not (fill_region (datagram_tails (region bytes)))) (le-ltb (length bytes) (16 + datagram_bytes bytes) there.there)
    ∙ ap not wrong in
    fourth (is_short bytes) (is_not_ethercat bytes) (has_bad_type bytes) (has_bad_length bytes) (is_circulating bytes) (promises_more bytes) (has_unknown_command bytes) (mismatches bytes)
    (le-ltb (length bytes) LEAST_READ there.long) there.ethercat there.type long

-- where they do, the fault is the one that the pass over them finds
pub filled : (bytes left : List ℕ) (seen : Survey) → ComesAfter bytes left → Found (serial_in bytes % 256) (datagram_tails left) seen → 0 < length (datagram_tails left) → fault_in bytes ≡ fault_of seen
filled bytes left seen there found some =
    let same : datagram_tails left ≡ datagram_tails (region bytes) = ap datagram_tails there.found_there in
    let full : fill_region (datagram_tails left) ≡ true =
    ap (λ (b : Bool). b && (list_all is_whole (datagram_tails left) && more_between (datagram_tails left))) (lt-ltb 0 (length (datagram_tails left)) some)
    ∙ ap (λ (b : Bool). b && more_between (datagram_tails left)) found.whole ∙ found.between in
    let good : fill_region (datagram_tails (region bytes)) ≡ true = sym (ap fill_region same) ∙ full in
    let long : has_bad_length bytes ≡ false =
    ap (λ (b : Bool). b || (nat_lt (length bytes) (16 + datagram_bytes bytes) || not (fill_region (datagram_tails (region bytes))))) (le-ltb MAX_DATAGRAMS (datagram_bytes bytes) there.within)
    ∙ ap (λ (b : Bool). b || not (fill_region (datagram_tails (region bytes)))) (le-ltb (length bytes) (16 + datagram_bytes bytes) there.there)
    ∙ ap not good in
    others (is_short bytes) (is_not_ethercat bytes) (has_bad_type bytes) (has_bad_length bytes) (is_circulating bytes) (promises_more bytes) (has_unknown_command bytes) (mismatches bytes)
    (le-ltb (length bytes) LEAST_READ there.long) there.ethercat there.type long
    ∙ found_fault (is_circulating bytes) (promises_more bytes) (has_unknown_command bytes) (mismatches bytes) seen
    (found.circulates ∙ ap (λ (r : List ℕ). list_any circulates (datagram_tails r)) there.found_there) (found.more some ∙ ap (λ (r : List ℕ). more_at_end (datagram_tails r)) there.found_there)
    (found.unknown ∙ ap (λ (r : List ℕ). list_any is_unknown (datagram_tails r)) there.found_there) (found.mismatch ∙ ap (λ (r : List ℕ). list_any (has_other_index (serial_in bytes % 256)) (datagram_tails r)) there.found_there)

-- where none of the eight conditions holds
pub no_fault : (bytes : List ℕ) → is_short bytes ≡ false → is_not_ethercat bytes ≡ false → has_bad_type bytes ≡ false → has_bad_length bytes ≡ false
    → is_circulating bytes ≡ false → promises_more bytes ≡ false → has_unknown_command bytes ≡ false → mismatches bytes ≡ false → fault_in bytes ≡ None
no_fault bytes a b c d e f g h = none_holds (is_short bytes) (is_not_ethercat bytes) (has_bad_type bytes) (has_bad_length bytes) (is_circulating bytes) (promises_more bytes) (has_unknown_command bytes) (mismatches bytes) a b c d e f g h
  where
    none_holds : (a b c d e f g h : Bool) → a ≡ false → b ≡ false → c ≡ false → d ≡ false → e ≡ false → f ≡ false → g ≡ false → h ≡ false → table a b c d e f g h ≡ None
    none_holds a b c d e f g h a' b' c' d' e' f' g' h' = rw (a', b', c', d', e', f', g', h') refl

fault_or_none : {fault : FrameFault} → Some fault ≡ None → ⊥
fault_or_none e = cc

-- none of the eight conditions holds
pub record Clear (bytes : List ℕ) : Type 0 where
  pub long : LEAST_READ ≤ length bytes
  pub ethercat : is_not_ethercat bytes ≡ false
  pub type : has_bad_type bytes ≡ false
  pub size : has_bad_length bytes ≡ false
  pub turn : is_circulating bytes ≡ false
  pub end : promises_more bytes ≡ false
  pub known : has_unknown_command bytes ≡ false
  pub index : mismatches bytes ≡ false

pub clear_of : (bytes : List ℕ) → fault_in bytes ≡ None → Clear bytes
clear_of bytes none =
    let all = every (is_short bytes) (is_not_ethercat bytes) (has_bad_type bytes) (has_bad_length bytes) (is_circulating bytes) (promises_more bytes) (has_unknown_command bytes) (mismatches bytes) none in
    record { long = least_of (length bytes) LEAST_READ all.0; ethercat = all.1; type = all.2; size = all.3; turn = all.4; end = all.5; known = all.6; index = all.7 }
  where
    every : (a b c d e f g h : Bool) → table a b c d e f g h ≡ None → (a ≡ false) × (b ≡ false) × (c ≡ false) × (d ≡ false) × (e ≡ false) × (f ≡ false) × (g ≡ false) × (h ≡ false)
    every true b c d e f g h none = absurd (fault_or_none none)
    every false true c d e f g h none = absurd (fault_or_none none)
    every false false true d e f g h none = absurd (fault_or_none none)
    every false false false true e f g h none = absurd (fault_or_none none)
    every false false false false true f g h none = absurd (fault_or_none none)
    every false false false false false true g h none = absurd (fault_or_none none)
    every false false false false false false true h none = absurd (fault_or_none none)
    every false false false false false false false true none = absurd (fault_or_none none)
    every false false false false false false false false none = (refl, refl, refl, refl, refl, refl, refl, refl)

    least_of : (m n : ℕ) → nat_lt m n ≡ false → n ≤ m
    least_of m n e = grind (arith, nat_tests)
