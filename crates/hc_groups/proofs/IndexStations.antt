-- The ranks that are written at station addresses.
use Rattle.std.proofs.Common.{◌≡◌, ◌≢◌, ℕ, zero, suc, ◌<◌, ◌≤◌, ◌==◌, Bool, true, false, List, [], ◌∷◌, ◌++◌, length, get_or, Option, None, refl, sym, ap, subst, ◌∙◌, arith}
use Rattle.std.specs.Prelude.{All, Contains, replicate, set, slice_get, unwrap_or}
use Rattle.std.proofs.lemmas.Bool.{eqb-false, eqb-true}
use Rattle.std.proofs.lemmas.List.{append-nil, append_assoc, get_or-set_other, get_or-set_same, length-set}
use Rattle.std.proofs.lemmas.List.Elements.{All-append, All-cons, All-head, All-nil, All-tail, Contains-append_left, Contains-append_right}
use Rattle.std.proofs.lemmas.Option.{unwrap_or-slice_get}
use Rattle.std.proofs.lemmas.Grind.{common_steps}
use Rattle.hc_groups.specs.declared.addresses.Address.{Address}
use Rattle.hc_groups.specs.Index.{AreRanks, IsRankOf}

-- ranks with those of addresses written among them, one after another
abbrev pub written : List Address → List ℕ → List ℕ
written [] ranks = ranks
written (address ∷ addresses) ranks = written addresses (set ranks address.station address.rank)

-- one more

own : (seen : List Address) (address : Address) (rank : ℕ) → rank ≡ address.rank → 1 ≤ rank → IsRankOf (seen ++ address ∷ []) address.station rank
own seen address zero is some = absurd (omega arith)
own seen address (suc rank) is some =
    subst (λ (r : ℕ). Contains (seen ++ address ∷ []) (record { station = address.station; rank = r })) (sym is)
    (Contains-append_right seen (address ∷ []) address (0, omega arith, refl))

other : (seen : List Address) (address : Address) (station rank : ℕ) → address.station ≢ station → IsRankOf seen station rank → IsRankOf (seen ++ address ∷ []) station rank
other seen address station zero differs none =
    All-append (λ (a : Address). a.station ≢ station) seen (address ∷ []) none (All-cons (λ (a : Address). a.station ≢ station) address [] differs (All-nil (λ (a : Address). a.station ≢ station)))
other seen address station (suc rank) differs has = Contains-append_left seen (address ∷ []) (record { station = station; rank = suc rank }) has

by-station : (seen : List Address) (address : Address) (ranks : List ℕ) (station : ℕ) (same : Bool) → (address.station == station) ≡ same → 1 ≤ address.rank → address.station < length ranks
    → IsRankOf seen station (get_or ranks station 0) → IsRankOf (seen ++ address ∷ []) station (get_or (set ranks address.station address.rank) station 0)
by-station seen address ranks station true is some low before =
    let here : address.station ≡ station = eqb-true address.station station is in
    subst (λ (s : ℕ). IsRankOf (seen ++ address ∷ []) s (get_or (set ranks address.station address.rank) s 0)) here
    (let wrote = get_or-set_same ranks address.station address.rank 0 low in own seen address (get_or (set ranks address.station address.rank) address.station 0) wrote (omega (arith, wrote, some)))
by-station seen address ranks station false is some low before =
    let differs = eqb-false address.station station is in
    subst (IsRankOf (seen ++ address ∷ []) station) (sym (get_or-set_other ranks address.station station address.rank 0 (λ here. differs (sym here))))
    (other seen address station (get_or ranks station 0) differs before)

-- and all

pub ranks-written : (seen more : List Address) (ranks : List ℕ) → All (λ address. address.station < length ranks) more → All (λ address. 1 ≤ address.rank) more → AreRanks seen ranks
    → AreRanks (seen ++ more) (written more ranks)
ranks-written seen [] ranks room some before = subst (λ (all : List Address). AreRanks all ranks) (sym (append-nil seen)) before
ranks-written seen (address ∷ more) ranks room some before =
    let next = set ranks address.station address.rank in
    let long = length-set ranks address.station address.rank in
    subst (λ (all : List Address). AreRanks all (written more next)) (append_assoc seen (address ∷ []) more)
    (ranks-written (seen ++ address ∷ []) more next
    (subst (λ (n : ℕ). All (λ (a : Address). a.station < n) more) (sym long) (All-tail (λ (a : Address). a.station < length ranks) address more room))
    (All-tail (λ (a : Address). 1 ≤ a.rank) address more some)
    (λ station. by-station seen address ranks station (address.station == station) refl (All-head (λ (a : Address). 1 ≤ a.rank) address more some)
    (All-head (λ (a : Address). a.station < length ranks) address more room) (before station)))

-- none, and more places for them

no-rank-at : (n station : ℕ) → get_or (replicate {A = ℕ} n 0) station 0 ≡ 0
no-rank-at n station = grind (arith, common_steps)

pub no-ranks : (ranks : List ℕ) (n : ℕ) → ranks ≡ replicate n 0 → AreRanks [] ranks
no-ranks ranks n is station =
    subst (IsRankOf [] station) (sym (ap (λ (r : List ℕ). get_or r station 0) is ∙ no-rank-at n station)) (All-nil (λ (a : Address). a.station ≢ station))

longer-at : (ranks : List ℕ) (n station : ℕ) → get_or (ranks ++ replicate n 0) station 0 ≡ get_or ranks station 0
longer-at ranks n station = grind (arith, common_steps)

pub ranks-longer : (all : List Address) (ranks : List ℕ) (n : ℕ) → AreRanks all ranks → AreRanks all (ranks ++ replicate n 0)
ranks-longer all ranks n are station = subst (IsRankOf all station) (sym (longer-at ranks n station)) (are station)

-- the rank that is read

pub none-there : (ranks : List ℕ) (station : ℕ) → slice_get ranks station ≡ None → get_or ranks station 0 ≡ 0
none-there ranks station none = sym (unwrap_or-slice_get ranks station 0) ∙ ap (λ (o : Option ℕ). unwrap_or o 0) none

pub no-rank : (all : List Address) (ranks : List ℕ) (station : ℕ) → AreRanks all ranks → get_or ranks station 0 ≡ 0 → All (λ address. address.station ≢ station) all
no-rank all ranks station are none = subst (IsRankOf all station) none (are station)
