-- A list with a part replaced by a longer or a shorter one: what lies after it is shifted.
use Rattle.std.proofs.Common.{◌≡◌, ◌∙◌, ap, ℕ, ◌+◌, ◌-◌, ◌≤◌, List, ◌++◌, drop, length, take, sym, arith}
use lib.Seq.{paste}
use Rattle.std.proofs.lemmas.List.{drop-append-le, drop_at, length-append, length-drop, length-take, take-append-le, take-take, take_all}
use Rattle.std.proofs.lemmas.List.Edits.{length-paste, take-paste}

-- after the first so many of a longer beginning that is kept, a shorter one is kept too
front-unchanged : {X : Type 0} (low high : ℕ) (new old : List X) → low ≤ high → take high new ≡ take high old → take low new ≡ take low old
front-unchanged low high new old order same = sym (take-take low high new order) ∙ ap (take low) same ∙ take-take low high old order

-- a list with more after it, whose end is then copied up by as many

pub record Widened {X : Type 0} (old new : List X) (high count : ℕ) : Type 0 where
  pub size : length new ≡ length old + count
  pub front : take high new ≡ take high old
  pub after_it : drop (high + count) new ≡ drop high old

end-copied : {X : Type 0} (old more : List X) (high : ℕ) → high ≤ length old → take (length old - high) (drop high (old ++ more)) ≡ drop high old
end-copied old more high bound = grind (arith, length-drop, drop-append-le, take-append-le, take_all)

pub widened : {X : Type 0} (old more new : List X) (high : ℕ) → high ≤ length old → new ≡ paste (old ++ more) (high + length more) (drop high (old ++ more)) (length old - high)
    → Widened old new high (length more)
widened {X} old more new high bound is =
    let all = old ++ more in
    let at = high + length more in
    let count = length old - high in
    let size = length-append old more in
    let rest = length-drop high all in
    let held = length-take at all in
    let whole : at + count ≤ length all = omega (arith, size, bound) in
    let some : count ≤ length (drop high all) = omega (arith, size, rest, bound) in
    let own : length new ≡ length old + length more = ap length is ∙ length-paste all at (drop high all) count whole some ∙ size in
    let parts : new ≡ take at all ++ drop high old =
    sym (take_all (at + count) new (omega (arith, own, bound)))
    ∙ ap (take (at + count)) is
    ∙ take-paste all at (drop high all) count (omega (arith, size, bound)) some
    ∙ ap (λ (l : List X). take at all ++ l) (end-copied old more high bound) in
    record {
      size = own;
      front =
          ap (take high) parts
          ∙ take-append-le high (take at all) (drop high old) (omega (arith, held, size, bound))
          ∙ take-take high at all (omega arith)
          ∙ take-append-le high old more bound;
      after_it = ap (drop at) parts ∙ drop_at (take at all) (drop high old) at (omega (arith, held, size, bound));
    }

pub record Placed {X : Type 0} (old new : List X) (low high count : ℕ) : Type 0 where
  pub size : low + count ≤ length new
  pub front : take low new ≡ take low old
  pub after_it : drop (low + count) new ≡ drop high old

pub placed-wide : {X : Type 0} (old new : List X) (low high count more : ℕ) → low ≤ high → high ≤ length old → more + (high - low) ≡ count → Widened old new high more → Placed old new low high count
placed-wide old new low high count more order bound is wide = grind (arith, front-unchanged)
