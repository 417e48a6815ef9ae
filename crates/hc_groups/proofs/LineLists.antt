-- The station addresses of a line's slaves at the front of a list, where slaves come and go.
use Rattle.std.proofs.Common.{◌≡◌, ℕ, zero, suc, ◌+◌, ◌-◌, ◌<◌, ◌≤◌, Bool, List, [], ◌∷◌, ◌++◌, length, drop, get_or, take, refl, sym, ap, ◌∙◌, append_assoc, arith, if◌then◌else◌, length-append, set, rules}
use Rattle.std.specs.Prelude.{Some, map, option_map, slice_get, sum_by}
use Rattle.std.specs.List.{copy_within}
use Rattle.std.proofs.Math.Seq.{drop-append-add, take-append-add}
use Rattle.std.proofs.lemmas.List.{drop-set-lt, drop-take, drop_more, get_or-take, get_or_default, length-drop, length-map, length-set, length-take-le, map-append, take-append-le, take-take, take_more, take_more_set}
use Rattle.std.proofs.lemmas.List.Edits.{take-paste}
use Rattle.std.proofs.lemmas.List.Sums.{sum_by-cons, sum_by-take-le, sum_by_more}
use Rattle.std.proofs.lemmas.Option.{get_or_from_slice_get, slice_get-get_or, slice_get-map, slice_get_within}
use Rattle.hc_records.specs.declared.records.Declared.{Declared}
use Rattle.hc_records.specs.declared.records.Slave.{Slave}
use Rattle.hc_records.specs.Line.{Member, line_from, members_from, present_slaves}
use Rattle.hc_records.specs.Lists.{changed_at}
use Rattle.hc_groups.specs.declared.line.Stretch.{Stretch}
use Rattle.hc_groups.specs.Changes.{with_present}
use Rattle.hc_groups.specs.Index.{BeginsWithLine, declared_count, line_stations, present_count, stations, sums_from}
use Rattle.hc_groups.specs.inner.Line.{IsReplaced, IsStretchOf}
use Rattle.hc_groups.proofs.Summed.{front-at, some-at}

stations-end : (slaves : List Slave) (slave : Slave) → stations (slaves ++ slave ∷ []) ≡ stations slaves ++ slave.station ∷ []
stations-end [] slave = refl
stations-end (first ∷ slaves) slave = ap (λ (rest : List ℕ). first.station ∷ rest) (stations-end slaves slave)

-- the station addresses of the first slaves are written, and what is after them is as it was
pub record IsWrittenUpTo (old new : List ℕ) (position : ℕ) (slaves : List Slave) (i : ℕ) : Type 0 where
  pub long : length new ≡ length old
  pub front : take (position + i) new ≡ take position old ++ stations (take i slaves)
  pub rest : drop (position + i) new ≡ drop (position + i) old

pub written-step : (old new : List ℕ) (position : ℕ) (slaves : List Slave) (i : ℕ) (slave : Slave) → position + length slaves ≤ length old → i < length slaves
    → IsWrittenUpTo old new position slaves i → IsWrittenUpTo old (set new (position + i) (get_or slaves i slave).station) position slaves (i + 1)
written-step old new position slaves i slave room inside is =
    let k = position + i in
    let station = (get_or slaves i slave).station in
    let next : position + (i + 1) ≡ k + 1 = omega arith in
    let long = is.long in
    let here : k < length new = omega (arith, long, room, inside) in
    let there : k < length old = omega (arith, room, inside) in
    record {
      long = length-set new k station ∙ is.long;
      front =
          ap (λ (n : ℕ). take n (set new k station)) next
          ∙ take_more_set new k station here
          ∙ ap (λ (front : List ℕ). front ++ station ∷ []) is.front
          ∙ append_assoc (take position old) (stations (take i slaves)) (station ∷ [])
          ∙ ap (λ (own : List ℕ). take position old ++ own) (sym (ap stations (take_more slaves i slave inside) ∙ stations-end (take i slaves) (get_or slaves i slave)));
      rest =
          ap (λ (n : ℕ). drop n (set new k station)) next
          ∙ drop-set-lt (k + 1) new k station (omega arith)
          ∙ sym (ap (drop 1) (drop_more new k 0 here))
          ∙ ap (drop 1) is.rest
          ∙ ap (drop 1) (drop_more old k 0 there)
          ∙ ap (λ (n : ℕ). drop n old) (sym next);
    }

-- a list whose elements from a position on are others
take-in : (position m : ℕ) (front names rest : List ℕ) (n : ℕ) → length front ≡ position → length names ≡ n → take (position + (n + m)) (front ++ (names ++ rest)) ≡ front ++ (names ++ take m rest)
take-in position m front names rest n at long =
    ap (λ (k : ℕ). take (k + (n + m)) (front ++ (names ++ rest))) (sym at)
    ∙ take-append-add front (names ++ rest) (n + m)
    ∙ ap (λ (k : ℕ). front ++ take (k + m) (names ++ rest)) (sym long)
    ∙ ap (λ (l : List ℕ). front ++ l) (take-append-add names rest m)

pub stretch-replaced : (stretch : Stretch) (names old moved new : List ℕ) → stretch.position + stretch.own ≤ stretch.line → stretch.line ≤ length old → stretch.line + length names ≤ length old + stretch.own
    → length moved ≡ length old → moved ≡ copy_within old (stretch.position + stretch.own) stretch.line (stretch.position + length names)
    → new ≡ take stretch.position moved ++ (names ++ drop (stretch.position + length names) moved) → IsReplaced stretch names old new
stretch-replaced stretch names old moved new inside most room same copied written =
    let position = stretch.position in
    let after_it = position + stretch.own in
    let n = length names in
    let m = stretch.line - after_it in
    let at = position + n in
    let long = length-drop after_it old in
    let fits : m ≤ length (drop after_it old) = omega (arith, long, inside, most) in
    let low : at ≤ length old = omega (arith, room, inside, most) in
    let whole : take (at + m) moved ≡ take at old ++ take m (drop after_it old) = ap (take (at + m)) copied ∙ take-paste old at (drop after_it old) m low fits in
    let head = length-take-le at old low in
    let front : take position moved ≡ take position old =
    sym (take-take position (at + m) moved (omega arith))
    ∙ ap (take position) whole
    ∙ take-append-le position (take at old) (take m (drop after_it old)) (omega (arith, head))
    ∙ take-take position at old (omega arith) in
    let rest : take m (drop at moved) ≡ drop after_it (take stretch.line old) =
    sym (drop-take at m moved)
    ∙ ap (drop at) whole
    ∙ ap (λ (k : ℕ). drop k (take at old ++ take m (drop after_it old))) (omega (arith, head))
    ∙ drop-append-add (take at old) (take m (drop after_it old)) 0
    ∙ sym (drop-take after_it m old)
    ∙ ap (λ (k : ℕ). drop after_it (take k old)) (omega (arith, inside)) in
    let short = length-take-le position moved (omega (arith, same, inside, most)) in
    let remaining = length-drop at moved in
    let both = length-append (take position moved) (names ++ drop at moved) in
    let last = length-append names (drop at moved) in
    record {
      long = ap length written ∙ omega (arith, short, remaining, both, last, same, low);
      front =
          ap (λ (k : ℕ). take k new) (omega (arith, inside))
          ∙ ap (take (position + (n + m))) written
          ∙ take-in position m (take position moved) names (drop at moved) n short refl
          ∙ ap (λ (l : List ℕ). l ++ (names ++ take m (drop at moved))) front
          ∙ ap (λ (l : List ℕ). take position old ++ (names ++ l)) rest;
    }

-- the line of groups

pub stations-length : (groups : List Declared) → length (line_stations groups) ≡ sum_by present_count groups
stations-length [] = refl
stations-length (declared ∷ groups) =
    let own = length-map (present_slaves declared) (λ (slave : Slave). slave.station) in
    let rest = stations-length groups in
    let sum = sum_by-cons present_count declared groups in
    let both = length-append (stations (present_slaves declared)) (line_stations groups) in
    omega (arith, own, rest, sum, both)

-- where one of them is present, or isn't
pub line-replaced : (groups : List Declared) (group : ℕ) (declared : Declared) (present : Bool) → slice_get groups group ≡ Some declared
    → line_stations (changed_at group (with_present present) groups)
    ≡ take (sum_by present_count (take group groups)) (line_stations groups) ++ (stations (if present then declared.group.slaves else []) ++ drop (sum_by present_count (take group groups) + present_count declared) (line_stations groups))
line-replaced [] group declared present at = cc
line-replaced (first ∷ groups) zero declared present at =
    let same : first ≡ declared = cc in
    let own = length-map (present_slaves first) (λ (slave : Slave). slave.station) in
    let count = ap present_count same in
    let cut : drop (0 + present_count declared) (stations (present_slaves first) ++ line_stations groups) ≡ line_stations groups =
    ap (λ (k : ℕ). drop k (stations (present_slaves first) ++ line_stations groups)) (omega (arith, own, count)) ∙ drop-append-add (stations (present_slaves first)) (line_stations groups) 0 in
    ap (λ (d : Declared). stations (if present then d.group.slaves else []) ++ line_stations groups) same
    ∙ ap (λ (l : List ℕ). stations (if present then declared.group.slaves else []) ++ l) (sym cut)
line-replaced (first ∷ groups) (suc group) declared present at =
    let names = stations (if present then declared.group.slaves else []) in
    let mine = stations (present_slaves first) in
    let rest = line_stations groups in
    let front = sum_by present_count (take group groups) in
    let own = length-map (present_slaves first) (λ (slave : Slave). slave.station) in
    let sum = sum_by-cons present_count first (take group groups) in
    let taken : take (sum_by present_count (first ∷ take group groups)) (mine ++ rest) ≡ mine ++ take front rest =
    ap (λ (k : ℕ). take k (mine ++ rest)) (omega (arith, own, sum)) ∙ take-append-add mine rest front in
    let dropped : drop (sum_by present_count (first ∷ take group groups) + present_count declared) (mine ++ rest) ≡ drop (front + present_count declared) rest =
    ap (λ (k : ℕ). drop k (mine ++ rest)) (omega (arith, own, sum)) ∙ drop-append-add mine rest (front + present_count declared) in
    ap (λ (l : List ℕ). mine ++ l) (line-replaced groups group declared present at)
    ∙ sym (append_assoc mine (take front rest) (names ++ drop (front + present_count declared) rest))
    ∙ ap (λ (l : List ℕ). l ++ (names ++ drop (front + present_count declared) rest)) (sym taken)
    ∙ ap (λ (l : List ℕ). take (sum_by present_count (first ∷ take group groups)) (mine ++ rest) ++ (names ++ l)) (sym dropped)

-- the station addresses are those of the line's slaves

members-stations : (rank : ℕ) (slaves : List Slave) → map (λ (member : Member). member.slave.station) (members_from rank slaves) ≡ stations slaves
members-stations rank [] = refl
members-stations rank (slave ∷ slaves) = ap (λ (rest : List ℕ). slave.station ∷ rest) (members-stations (rank + 1) slaves)

pub line-stations : (rank : ℕ) (groups : List Declared) → map (λ (member : Member). member.slave.station) (line_from rank groups) ≡ line_stations groups
line-stations rank [] = refl
line-stations rank (declared ∷ groups) =
    let next = rank + length declared.group.slaves in
    map-append (λ (member : Member). member.slave.station) (members_from rank (present_slaves declared)) (line_from next groups)
    ∙ ap (λ (own : List ℕ). own ++ map (λ (member : Member). member.slave.station) (line_from next groups)) (members-stations rank (present_slaves declared))
    ∙ ap (λ (rest : List ℕ). stations (present_slaves declared) ++ rest) (line-stations next groups)

-- the line has no more slaves than are declared
few-own : (present : Bool) (slaves : List Slave) → length (if present then slaves else []) ≤ length slaves
few-own present slaves = search rules

pub stations-few : (groups : List Declared) → length (line_stations groups) ≤ sum_by declared_count groups
stations-few [] = omega arith
stations-few (declared ∷ groups) =
    let own = length-map (present_slaves declared) (λ (slave : Slave). slave.station) in
    let few = few-own declared.present declared.group.slaves in
    let rest = stations-few groups in
    let sum = sum_by-cons declared_count declared groups in
    let both = length-append (stations (present_slaves declared)) (line_stations groups) in
    omega (arith, own, few, rest, sum, both)

-- a group is present, or isn't, whose slaves are a stretch of the line

counts-unchanged : (groups : List Declared) (group : ℕ) (present : Bool) → sum_by declared_count (changed_at group (with_present present) groups) ≡ sum_by declared_count groups
counts-unchanged [] group present = refl
counts-unchanged (first ∷ groups) zero present = sum_by-cons declared_count (with_present present first) groups ∙ sym (sum_by-cons declared_count first groups)
counts-unchanged (first ∷ groups) (suc group) present =
    let was = sum_by-cons declared_count first groups in
    let is = sum_by-cons declared_count first (changed_at group (with_present present) groups) in
    let rest = counts-unchanged groups group present in
    omega (arith, was, is, rest)

module _ (groups : List Declared) (group : ℕ) (declared : Declared) (present : Bool) (stretch : Stretch) (at : slice_get groups group ≡ Some declared) (is : IsStretchOf groups group stretch) where
  own-end : stretch.position + stretch.own ≡ sum_by present_count (take group groups) + present_count declared
  own-end =
      let more = sum_by_more present_count groups group declared (slice_get_within groups group declared at) in
      let own = ap present_count (get_or_from_slice_get groups group declared declared at) in
      is.own ∙ omega (arith, more, own)

  pub stretch-inside : stretch.position + stretch.own ≤ stretch.line
  stretch-inside =
      let few = sum_by-take-le present_count groups (group + 1) in
      let end = is.own in
      let line = is.line in
      omega (arith, few, end, line)

  changed-line : line_stations (changed_at group (with_present present) groups)
      ≡ take stretch.position (line_stations groups) ++ (stations (if present then declared.group.slaves else []) ++ drop (stretch.position + stretch.own) (line_stations groups))
  changed-line =
      let names = stations (if present then declared.group.slaves else []) in
      let line = line_stations groups in
      line-replaced groups group declared present at
      ∙ ap (λ (k : ℕ). take k line ++ (names ++ drop (sum_by present_count (take group groups) + present_count declared) line)) (sym is.position)
      ∙ ap (λ (k : ℕ). take stretch.position line ++ (names ++ drop k line)) (sym own-end)

  changed-length : length (line_stations (changed_at group (with_present present) groups)) ≡ stretch.line - stretch.own + length (stations (if present then declared.group.slaves else []))
  changed-length =
      let names = stations (if present then declared.group.slaves else []) in
      let line = line_stations groups in
      let total = stations-length groups in
      let all = is.line in
      let inside = stretch-inside in
      let front = length-take-le stretch.position line (omega (arith, total, all, inside)) in
      let rest = length-drop (stretch.position + stretch.own) line in
      let both = length-append (take stretch.position line) (names ++ drop (stretch.position + stretch.own) line) in
      let last = length-append names (drop (stretch.position + stretch.own) line) in
      ap length changed-line ∙ omega (arith, total, all, inside, front, rest, both, last)

  -- the list has room for them
  pub stretch-room : (list : List ℕ) → BeginsWithLine groups list → stretch.line + length (if present then declared.group.slaves else []) ≤ length list + stretch.own
  stretch-room list begins =
      let long = begins.long in
      let few = stations-few (changed_at group (with_present present) groups) in
      let counts = counts-unchanged groups group present in
      let many = changed-length in
      let inside = stretch-inside in
      let own = length-map (if present then declared.group.slaves else []) (λ (slave : Slave). slave.station) in
      omega (arith, long, few, counts, many, inside, own)

  pub stretch-most : (list : List ℕ) → BeginsWithLine groups list → stretch.line ≤ length list
  stretch-most list begins =
      let long = begins.long in
      let few = stations-few groups in
      let total = stations-length groups in
      let all = is.line in
      omega (arith, long, few, total, all)

  pub begins-replaced : (old new : List ℕ) → BeginsWithLine groups old → IsReplaced stretch (stations (if present then declared.group.slaves else [])) old new
      → BeginsWithLine (changed_at group (with_present present) groups) new
  begins-replaced old new begins replaced =
      let names = stations (if present then declared.group.slaves else []) in
      let line = line_stations groups in
      let total = stations-length groups in
      let all = is.line in
      let inside = stretch-inside in
      let whole : take stretch.line old ≡ line = ap (λ (k : ℕ). take k old) (omega (arith, total, all)) ∙ begins.front in
      let front : take stretch.position old ≡ take stretch.position line = sym (take-take stretch.position stretch.line old (omega (arith, inside))) ∙ ap (take stretch.position) whole in
      record {
        long = replaced.long ∙ begins.long ∙ sym (counts-unchanged groups group present);
        front =
            ap (λ (k : ℕ). take k new) changed-length
            ∙ replaced.front
            ∙ ap (λ (l : List ℕ). l ++ (names ++ drop (stretch.position + stretch.own) (take stretch.line old))) front
            ∙ ap (λ (l : List ℕ). take stretch.position line ++ (names ++ drop (stretch.position + stretch.own) l)) whole
            ∙ sym changed-line;
      }

-- the station address at a position
pub station-found : (groups : List Declared) (list : List ℕ) (position : ℕ) → BeginsWithLine groups list → position < length (line_from 1 groups)
    → option_map (λ (member : Member). member.slave.station) (slice_get (line_from 1 groups) position) ≡ Some (get_or list position 0)
station-found groups list position begins low =
    let line = line_from 1 groups in
    let station = λ (member : Member). member.slave.station in
    let long = length-map line station in
    let same = line-stations 1 groups in
    let count = ap length same in
    let inside : position < length (line_stations groups) = omega (arith, low, long, count) in
    sym (slice_get-map station line position)
    ∙ ap (λ (l : List ℕ). slice_get l position) same
    ∙ slice_get-get_or (line_stations groups) position 0 inside
    ∙ ap Some (ap (λ (l : List ℕ). get_or l position 0) (sym begins.front) ∙ get_or-take (length (line_stations groups)) list position 0 inside)

pub station-inside : (groups : List Declared) (list : List ℕ) (position : ℕ) → BeginsWithLine groups list → position < length (line_from 1 groups) → position < length list
station-inside groups list position begins low =
    let long = length-map (line_from 1 groups) (λ (member : Member). member.slave.station) in
    let count = ap length (line-stations 1 groups) in
    let few = stations-few groups in
    let all = begins.long in
    omega (arith, low, long, count, few, all)

-- how many slaves of the line are before a group, as an index has it
pub slaves-before : (groups : List Declared) (sums : List ℕ) (group own : ℕ) → sums ≡ sums_from present_count 0 groups → group ≤ length groups → own ≡ get_or sums group own
    → (group < length sums) × (own ≡ sum_by present_count (take group groups))
slaves-before groups sums group own is low at =
    let front = front-at present_count sums groups group is low in
    (front.0, at ∙ get_or_default sums group own 0 front.0 ∙ front.1)

pub sum-rises : (groups : List Declared) (group : ℕ) → group < length groups → sum_by present_count (take group groups) ≤ sum_by present_count (take (group + 1) groups)
sum-rises groups group inside =
    let own = some-at groups group inside in
    let more = sum_by_more present_count groups group own.0 inside in
    omega (arith, more)
