-- The set flags give the owed blocks of the line: their number, and the first one.
use Rattle.std.proofs.Common.{◌≡◌, ℕ, zero, suc, ◌+◌, ◌≤◌, Bool, true, false, cond, subst, List, [], ◌∷◌, drop, length, map, refl, sym, ap, ◌∙◌, arith, rules}
use Rattle.std.specs.Prelude.{MatchOption, None, Some, Option, filter, position, slice_get}
use Rattle.std.specs.List.{position_from}
use Rattle.std.proofs.lemmas.Iterator.Adapters.{position_from-zero}
use Rattle.std.proofs.lemmas.List.{drop-drop, drop-map}
use Rattle.hc_registers.specs.Blocks.{LineBlock}
use Rattle.hc_records.specs.Line.{State, groups_of}
use Rattle.hc_records.specs.Project.{lowest_fault}
use Rattle.hc_registers.specs.RankLaws.{standing}
use Rattle.hc_registers.specs.RankPlaces.{places}
use Rattle.hc_registers.proofs.lemmas.RanksGapless.{places-hold}
use Rattle.hc_owed.specs.RegisterState.{Knowledge, lacks, owed_in}
use Rattle.hc_owed.specs.Flags.{nth_set, one, set_count}
use Rattle.hc_owed.specs.Laws.{lacking_blocks, owed_from}

abbrev lacking : Knowledge → List (Option LineBlock) → List LineBlock
lacking known all = filter (lacks known) (standing all)

then-count : (t : Bool) (block : LineBlock) (n : ℕ) (xs : List LineBlock) → n ≡ length xs → one t + n ≡ length (cond t (block ∷ xs) xs)
then-count t block n xs same = search rules

counts : (known : Knowledge) (all : List (Option LineBlock)) → set_count (map (owed_in known) all) ≡ length (lacking known all)
counts known [] = refl
counts known (None ∷ all) = let rest = counts known all in omega (arith, rest)
counts known (Some block ∷ all) = then-count (lacks known block) block (set_count (map (owed_in known) all)) (lacking known all) (counts known all)

pub counts-owed : (known : Knowledge) (state : State) → lowest_fault (groups_of state.groups) ≡ None → set_count (map (owed_in known) (places state)) ≡ length (lacking_blocks known state)
counts-owed known state project = counts known (places state) ∙ ap (λ (blocks : List LineBlock). length (filter (lacks known) blocks)) (places-hold state project)

-- the first set flag, counted from a number on
record FirstFrom (known : Knowledge) (all : List (Option LineBlock)) (at n : ℕ) : Type 0 where
  index : ℕ
  is : n ≡ at + index
  block : LineBlock
  rest : List LineBlock
  is_placed : slice_get all index ≡ Some (Some block)
  first : lacking known all ≡ block ∷ rest

abbrev Firsts : Knowledge → List (Option LineBlock) → ℕ → Option ℕ → Type 0
Firsts known all at found = MatchOption found (lacking known all ≡ []) (FirstFrom known all at)

later : (known : Knowledge) (slot : Option LineBlock) (all : List (Option LineBlock)) (at : ℕ) (found : Option ℕ) → lacking known (slot ∷ all) ≡ lacking known all → Firsts known all (at + 1) found → Firsts known (slot ∷ all) at found
later known slot all at None same none = same ∙ none
later known slot all at (Some n) same found =
    let is = found.is in
    record { index = suc found.index; is = omega (arith, is); block = found.block; rest = found.rest; is_placed = found.is_placed; first = same ∙ found.first }

by-test : (known : Knowledge) (block : LineBlock) (all : List (Option LineBlock)) (at : ℕ) (found : Option ℕ) (t : Bool) → lacks known block ≡ t → Firsts known all (at + 1) found
    → Firsts known (Some block ∷ all) at (cond t (Some at) found)
by-test known block all at found t is after_it = search (rules, later)

firsts : (known : Knowledge) (all : List (Option LineBlock)) (at : ℕ) → Firsts known all at (position_from (λ (flag : Bool). flag) at (map (owed_in known) all))
firsts known [] at = refl
firsts known (None ∷ all) at = later known None all at (position_from (λ (flag : Bool). flag) (at + 1) (map (owed_in known) all)) refl (firsts known all (at + 1))
firsts known (Some block ∷ all) at = search (rules, by-test, firsts known all (at + 1))

-- the block at the first set place is the first owed one
pub record IsFirstAt (known : Knowledge) (state : State) (n : ℕ) : Type 0 where
  pub block : LineBlock
  pub rest : List LineBlock
  pub is_placed : slice_get (places state) n ≡ Some (Some block)
  pub first : lacking_blocks known state ≡ block ∷ rest

pub first-owed : (known : Knowledge) (state : State) (found : Option ℕ) → lowest_fault (groups_of state.groups) ≡ None → found ≡ position (λ flag. flag) (map (owed_in known) (places state))
    → MatchOption found (lacking_blocks known state ≡ []) (IsFirstAt known state)
first-owed known state found project is = from-line found (rw is (rw (position_from-zero (λ (flag : Bool). flag) (map (owed_in known) (places state))) (firsts known (places state) 0)))
  where
    from-line : (found : Option ℕ) → Firsts known (places state) 0 found → MatchOption found (lacking_blocks known state ≡ []) (IsFirstAt known state)
    from-line None none = ap (filter (lacks known)) (sym (places-hold state project)) ∙ none
    from-line (Some n) found = record {
      block = found.block;
      rest = found.rest;
      is_placed = ap (slice_get (places state)) (let is = found.is in omega (arith, is)) ∙ found.is_placed;
      first = ap (filter (lacks known)) (sym (places-hold state project)) ∙ found.first;
    }

-- the set flag with an index, counted from a number on
record NthFrom (known : Knowledge) (all : List (Option LineBlock)) (index at n : ℕ) : Type 0 where
  place : ℕ
  is_at : n ≡ at + place
  block : LineBlock
  is_placed : slice_get all place ≡ Some (Some block)
  is : slice_get (lacking known all) index ≡ Some block

abbrev Nths : Knowledge → List (Option LineBlock) → ℕ → ℕ → Option ℕ → Type 0
Nths known all index at found = MatchOption found (slice_get (lacking known all) index ≡ None) (NthFrom known all index at)

-- it lies after a place whose block is none or isn't counted
nth_later : (known : Knowledge) (slot : Option LineBlock) (all : List (Option LineBlock)) (index index' at : ℕ) (found : Option ℕ)
    → slice_get (lacking known (slot ∷ all)) index ≡ slice_get (lacking known all) index' → Nths known all index' (at + 1) found → Nths known (slot ∷ all) index at found
nth_later known slot all index index' at None same none = same ∙ none
nth_later known slot all index index' at (Some n) same found =
    let is = found.is_at in
    record { place = suc found.place; is_at = omega (arith, is); block = found.block; is_placed = found.is_placed; is = same ∙ found.is }

nth_here : (known : Knowledge) (block : LineBlock) (all : List (Option LineBlock)) (at : ℕ) → lacks known block ≡ true → NthFrom known (Some block ∷ all) 0 at at
nth_here known block all at t = record {
  place = 0;
  is_at = omega arith;
  block = block;
  is_placed = refl;
  is = ap (λ (b : Bool). slice_get (cond b (block ∷ lacking known all) (lacking known all)) 0) t;
}

unlacking : (known : Knowledge) (block : LineBlock) (all : List (Option LineBlock)) (index : ℕ) → lacks known block ≡ false → slice_get (lacking known (Some block ∷ all)) index ≡ slice_get (lacking known all) index
unlacking known block all index t = ap (λ (b : Bool). slice_get (cond b (block ∷ lacking known all) (lacking known all)) index) t

one_less : (known : Knowledge) (block : LineBlock) (all : List (Option LineBlock)) (index : ℕ) → lacks known block ≡ true → slice_get (lacking known (Some block ∷ all)) (suc index) ≡ slice_get (lacking known all) index
one_less known block all index t = ap (λ (b : Bool). slice_get (cond b (block ∷ lacking known all) (lacking known all)) (suc index)) t

nth_by : (known : Knowledge) (block : LineBlock) (all : List (Option LineBlock)) (index at : ℕ) (t : Bool) → lacks known block ≡ t
    → ((other : ℕ) → Nths known all other (at + 1) (nth_set other (at + 1) (map (owed_in known) all))) → Nths known (Some block ∷ all) index at (nth_set index at (t ∷ map (owed_in known) all))
nth_by known block all index at false is after_it =
    nth_later known (Some block) all index index at (nth_set index (at + 1) (map (owed_in known) all)) (unlacking known block all index is) (after_it index)
nth_by known block all zero at true is after_it = nth_here known block all at is
nth_by known block all (suc index) at true is after_it =
    nth_later known (Some block) all (suc index) index at (nth_set index (at + 1) (map (owed_in known) all)) (one_less known block all index is) (after_it index)

nths : (known : Knowledge) (all : List (Option LineBlock)) (index at : ℕ) → Nths known all index at (nth_set index at (map (owed_in known) all))
nths known [] index at = refl
nths known (None ∷ all) index at = nth_later known None all index index at (nth_set index (at + 1) (map (owed_in known) all)) refl (nths known all index (at + 1))
nths known (Some block ∷ all) index at = nth_by known block all index at (lacks known block) refl (λ other. nths known all other (at + 1))

-- the block at that place is the owed one with the index
pub record IsNthAt (known : Knowledge) (state : State) (index n : ℕ) : Type 0 where
  pub block : LineBlock
  pub is_placed : slice_get (places state) n ≡ Some (Some block)
  pub is : slice_get (lacking_blocks known state) index ≡ Some block

nth_of_line : (known : Knowledge) (state : State) (index : ℕ) (found : Option ℕ) → lowest_fault (groups_of state.groups) ≡ None → Nths known (places state) index 0 found
    → MatchOption found (slice_get (lacking_blocks known state) index ≡ None) (IsNthAt known state index)
nth_of_line known state index None project none = ap (λ (blocks : List LineBlock). slice_get (filter (lacks known) blocks) index) (sym (places-hold state project)) ∙ none
nth_of_line known state index (Some n) project found = record {
  block = found.block;
  is_placed = ap (slice_get (places state)) (let is = found.is_at in omega (arith, is)) ∙ found.is_placed;
  is = ap (λ (blocks : List LineBlock). slice_get (filter (lacks known) blocks) index) (sym (places-hold state project)) ∙ found.is;
}

pub nth-owed : (known : Knowledge) (state : State) (index : ℕ) (found : Option ℕ) → lowest_fault (groups_of state.groups) ≡ None → found ≡ nth_set index 0 (map (owed_in known) (places state))
    → MatchOption found (slice_get (lacking_blocks known state) index ≡ None) (IsNthAt known state index)
nth-owed known state index found project is = nth_of_line known state index found project (subst (Nths known (places state) index 0) (sym is) (nths known (places state) index 0))

-- the first set flag of those from a number on
record NextFrom (known : Knowledge) (all : List (Option LineBlock)) (at n : ℕ) : Type 0 where
  index : ℕ
  is_at : n ≡ at + index
  block : LineBlock
  is_placed : slice_get all index ≡ Some (Some block)
  next : lacking known all ≡ block ∷ lacking known (drop (suc index) all)

abbrev Nexts : Knowledge → List (Option LineBlock) → ℕ → Option ℕ → Type 0
Nexts known all at found = MatchOption found (lacking known all ≡ []) (NextFrom known all at)

next_later : (known : Knowledge) (slot : Option LineBlock) (all : List (Option LineBlock)) (at : ℕ) (found : Option ℕ) → lacking known (slot ∷ all) ≡ lacking known all → Nexts known all (at + 1) found → Nexts known (slot ∷ all) at found
next_later known slot all at None same none = same ∙ none
next_later known slot all at (Some n) same found =
    let is = found.is_at in
    record { index = suc found.index; is_at = omega (arith, is); block = found.block; is_placed = found.is_placed; next = same ∙ found.next }

next_by : (known : Knowledge) (block : LineBlock) (all : List (Option LineBlock)) (at : ℕ) (found : Option ℕ) (t : Bool) → lacks known block ≡ t → Nexts known all (at + 1) found
    → Nexts known (Some block ∷ all) at (cond t (Some at) found)
next_by known block all at found true is rest = record {
  index = 0;
  is_at = omega arith;
  block = block;
  is_placed = refl;
  next = ap (λ (b : Bool). cond b (block ∷ lacking known all) (lacking known all)) is;
}
next_by known block all at found false is rest =
    next_later known (Some block) all at found (ap (λ (b : Bool). cond b (block ∷ lacking known all) (lacking known all)) is) rest

nexts : (known : Knowledge) (all : List (Option LineBlock)) (at : ℕ) → Nexts known all at (position_from (λ (flag : Bool). flag) at (map (owed_in known) all))
nexts known [] at = refl
nexts known (None ∷ all) at = next_later known None all at (position_from (λ (flag : Bool). flag) (at + 1) (map (owed_in known) all)) refl (nexts known all (at + 1))
nexts known (Some block ∷ all) at = next_by known block all at (position_from (λ (flag : Bool). flag) (at + 1) (map (owed_in known) all)) (lacks known block) refl (nexts known all (at + 1))

-- the block at that place is the first owed one from a place on
pub record IsNextAt (known : Knowledge) (state : State) (place n : ℕ) : Type 0 where
  pub block : LineBlock
  pub from : place ≤ n
  pub is_placed : slice_get (places state) n ≡ Some (Some block)
  pub next : owed_from known state place ≡ block ∷ owed_from known state (n + 1)

slice_get-drop : {X : Type 0} (n i : ℕ) (xs : List X) → slice_get (drop n xs) i ≡ slice_get xs (n + i)
slice_get-drop zero i xs = ap (slice_get xs) (omega arith)
slice_get-drop (suc n) i [] = refl
slice_get-drop (suc n) i (x ∷ xs) = let shift : suc n + i ≡ suc (n + i) = omega arith in slice_get-drop n i xs ∙ ap (slice_get (x ∷ xs)) (sym shift)

next_of_line : (known : Knowledge) (state : State) (place : ℕ) (found : Option ℕ) → Nexts known (drop place (places state)) place found → MatchOption found (owed_from known state place ≡ []) (IsNextAt known state place)
next_of_line known state place None none = none
next_of_line known state place (Some n) found =
    let is = found.is_at in
    let after : place + suc found.index ≡ n + 1 = omega (arith, is) in
    record {
      block = found.block;
      from = omega (arith, is);
      is_placed = ap (slice_get (places state)) is ∙ sym (slice_get-drop place found.index (places state)) ∙ found.is_placed;
      next = found.next ∙ ap (λ (left : List (Option LineBlock)). found.block ∷ lacking known left) (drop-drop (suc found.index) place (places state))
          ∙ ap (λ (k : ℕ). found.block ∷ lacking known (drop k (places state))) after;
    }

pub next-owed : (known : Knowledge) (state : State) (place : ℕ) (found : Option ℕ) → found ≡ position_from (λ flag. flag) place (drop place (map (owed_in known) (places state)))
    → MatchOption found (owed_from known state place ≡ []) (IsNextAt known state place)
next-owed known state place found is =
    next_of_line known state place found
    (subst (Nexts known (drop place (places state)) place) (sym (is ∙ ap (position_from (λ (flag : Bool). flag) place) (drop-map (owed_in known) place (places state)))) (nexts known (drop place (places state)) place))

pub all-are_placed : (known : Knowledge) (state : State) → lowest_fault (groups_of state.groups) ≡ None → owed_from known state 0 ≡ lacking_blocks known state
all-are_placed known state project = ap (filter (lacks known)) (places-hold state project)
