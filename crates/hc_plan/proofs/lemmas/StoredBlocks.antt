-- The blocks at the places of a line: by rank and number, and after an edit.
use Rattle.std.proofs.Common.{◌≡◌, Bool, ℕ, zero, suc, ◌+◌, ◌-◌, ◌*◌, ◌/◌, ◌%◌, ◌==◌, ◌<◌, true, false, cond, Contains, List, [], ◌∷◌, length, map, ◌⊎◌, inl, inr, refl, sym, ap, ◌∙◌, arith}
use Rattle.std.specs.Prelude.{◌≢◌, All, None, Option, Some, find, option_and_then, option_map, slice_get, slice_index_or}
use Rattle.std.proofs.lemmas.Bool.{eq-eqb, eqb-false, eqb-true}
use Rattle.std.proofs.lemmas.List.{length-map}
use Rattle.std.proofs.lemmas.List.Elements.{All-cons, All-contains}
use Rattle.std.proofs.lemmas.Option.{same_Some, slice_get-get_or, slice_get-map, slice_get_within}
use Rattle.hc_records.specs.Line.{Member, State, line}
use Rattle.hc_records.specs.Lists.{changed_at}
use Rattle.hc_registers.specs.Blocks.{LineBlock, RegisterBlock, slave_blocks}
use Rattle.hc_registers.specs.declared.ranked.Gone.{Gone}
use Rattle.hc_registers.specs.Ranked.{RankedBlock}
use Rattle.hc_registers.specs.RankDifferences.{Differ, IsAtItsPlace, IsGone, block_place, first_gone}
use Rattle.hc_registers.specs.RankLaws.{HasPlaces}
use Rattle.hc_registers.specs.RankPlaces.{places}
use Rattle.hc_registers.proofs.lemmas.RanksStanding.{members-are_placed, standing-of}
use Rattle.hc_plan.specs.Configuration.{block_of_rank}
use Rattle.hc_plan.specs.RegisterBlocks.{block_in, blocks_by_rank, has_at, replaced_from}
use Rattle.hc_plan.proofs.lemmas.Configured.{get-own, made}
use Rattle.hc_plan.proofs.lemmas.Replaced.{get-changed, get-filled, get-other, get-unfilled, in-or-out}

-- the block at a place, by its slave's rank and its number

none-here : {X : Type 0} (test : X → Bool) (y : X) (ys : List X) (here : Bool) → cond here (Some y) (find test ys) ≡ None → (here ≡ false) × (find test ys ≡ None)
none-here test y ys true none = cc
none-here test y ys false none = (refl, none)

pub not-found : {X : Type 0} (test : X → Bool) (xs : List X) (x : X) → find test xs ≡ None → test x ≡ true → Contains xs x → ⊥
not-found test [] x none passes (k, within, is) = absurd (omega (arith, within))
not-found test (y ∷ ys) x none passes (zero, within, is) =
    let fails = (none-here test y ys (test y) none).0 in
    let clash : true ≡ false = sym passes ∙ ap test (sym is) ∙ fails in cc
not-found test (y ∷ ys) x none passes (suc k, within, is) = not-found test ys x (none-here test y ys (test y) none).1 passes (k, omega (arith, within), is)

found-by : {X : Type 0} (test : X → Bool) (x y : X) (ys : List X) (here : Bool) → test y ≡ here → cond here (Some y) (find test ys) ≡ Some x → (find test ys ≡ Some x → Contains ys x × (test x ≡ true))
    → Contains (y ∷ ys) x × (test x ≡ true)
found-by test x y ys true passes is later = let same = same_Some y x is in ((zero, omega arith, same), ap test (sym same) ∙ passes)
found-by test x y ys false passes is later =
    let rest = later is in
    let within = rest.0.1 in
    ((suc rest.0.0, omega (arith, within), rest.0.2), rest.1)

found-in : {X : Type 0} (test : X → Bool) (xs : List X) (x : X) → find test xs ≡ Some x → Contains xs x × (test x ≡ true)
found-in test [] x is = cc
found-in test (y ∷ ys) x is = found-by test x y ys (test y) refl is (found-in test ys x)

made-one : (station n : ℕ) (block : Option RegisterBlock) → made station n block ≡ option_map (λ one. record { station = station; number = n; block = one }) block
made-one station n None = refl
made-one station n (Some block) = refl

pub ranked-place : (state : State) (n : ℕ) → n < length (places state) → slice_get (places state) n ≡ Some (block_of_rank (line state) (n / 16 + 1) (n % 16))
ranked-place state n low = by (find (λ (m : Member). m.rank == n / 16 + 1) (line state)) refl
  where
    by : (found : Option Member) → find (λ (m : Member). m.rank == n / 16 + 1) (line state) ≡ found
        → slice_get (places state) n ≡ Some (option_and_then (λ (m : Member). option_map {U = LineBlock} (λ block. record { station = m.slave.station; number = n % 16; block = block }) (slice_get (slave_blocks (line state) m) (n % 16))) found)
    by (Some m) is =
        let found = found-in (λ (m : Member). m.rank == n / 16 + 1) (line state) m is in
        let rank : m.rank ≡ n / 16 + 1 = eqb-true m.rank (n / 16 + 1) found.1 in
        let at = All-contains (HasPlaces state) (line state) m (members-are_placed state) found.0 in
        let own : 16 * (m.rank - 1) + n % 16 ≡ n = omega (arith, rank) in
        let blocks = slave_blocks (line state) m in
        ap (slice_get (places state)) (sym own) ∙ at (n % 16) (omega arith)
        ∙ ap (λ (one : Option LineBlock). Some one) (get-own m.slave.station (n % 16) blocks ∙ made-one m.slave.station (n % 16) (slice_get blocks (n % 16)))
    by None is = empty (slice_index_or (places state) n None) (slice_get-get_or (places state) n None low)
      where
        empty : (z : Option LineBlock) → slice_get (places state) n ≡ Some z → slice_get (places state) n ≡ Some None
        empty None at = at
        empty (Some block) at =
            let here = standing-of state n block at in
            let place = here.is in
            let number = here.low in
            let from = here.from in
            let rank : here.member.rank ≡ n / 16 + 1 = omega (arith, place, number, from) in
            absurd (not-found (λ (m : Member). m.rank == n / 16 + 1) (line state) here.member is (eq-eqb here.member.rank (n / 16 + 1) rank) here.on)

-- the stored block at a place, if the line has one there
pub has-block : (state : State) (n : ℕ) (block : LineBlock) → slice_get (places state) n ≡ Some (Some block) → has_at (blocks_by_rank state.groups) n ≡ Some block.block
has-block state n block at = ap (option_and_then (λ (b : Option RegisterBlock). b)) (slice_get-map block_in (places state) n ∙ ap (option_map block_in) at)

-- a list that is right over the places but for those of moved blocks

abbrev pub RightUnless : {Y : Type 0} → (Option LineBlock → Y) → List (Option LineBlock) → List RankedBlock → List Y → Type 0
RightUnless g all moved list = (n : ℕ) (z : Option LineBlock) → slice_get all n ≡ Some z → All (λ m. block_place m ≢ n) moved → slice_get list n ≡ Some (g z)

pub changed-right : {Y : Type 0} (g : Option LineBlock → Y) (all : List (Option LineBlock)) (m : RankedBlock) (rest : List RankedBlock) (y : Y) (list : List Y) → length list ≡ length all → IsAtItsPlace all m → y ≡ g (Some m.found)
    → RightUnless g all (m ∷ rest) list → RightUnless g all rest (changed_at (block_place m) (λ _. y) list)
changed-right {Y} g all m rest y list size is_placed same right n z at others = by (block_place m == n) refl
  where
    by : (t : Bool) → (block_place m == n) ≡ t → slice_get (changed_at (block_place m) (λ _. y) list) n ≡ Some (g z)
    by true here =
        let place = eqb-true (block_place m) n here in
        let low = slice_get_within all n z at in
        let found : Some (Some m.found) ≡ Some z = sym is_placed ∙ ap (slice_get all) place ∙ at in
        ap (slice_get (changed_at (block_place m) (λ _. y) list)) (sym place)
        ∙ get-changed (block_place m) y list (omega (arith, low, place, size))
        ∙ ap (λ (o : Y). Some o) same
        ∙ ap (λ (o : Option LineBlock). Some (g o)) (same_Some (Some m.found) z found)
    by false other =
        let apart = eqb-false (block_place m) n other in
        get-other (block_place m) n y list apart ∙ right n z at (All-cons (λ m. block_place m ≢ n) m rest apart others)

-- a block that neither left nor moved is as it was

pub blocks-stay : (olds placed : List (Option LineBlock)) (gone : Gone) (moved : List RankedBlock) → Differ olds placed gone moved → (n : ℕ) (w z : Option LineBlock) → slice_get olds n ≡ Some w → slice_get placed n ≡ Some z
    → (IsGone gone n → ⊥) → All (λ m. block_place m ≢ n) moved → block_in w ≡ block_in z
blocks-stay olds placed gone moved differ n None None stood at out others = refl
blocks-stay olds placed gone moved differ n None (Some block) stood at out others =
    let was = differ.names.others n block at others in
    let no : Some None ≡ Some (Some was.before) = sym stood ∙ was.stood in
    let never : None ≡ Some was.before = same_Some None (Some was.before) no in cc
blocks-stay olds placed gone moved differ n (Some before) None stood at out others = absurd (out (differ.stays n before stood at))
blocks-stay olds placed gone moved differ n (Some before) (Some block) stood at out others =
    let was = differ.names.others n block at others in
    let one : Some was.before ≡ Some before = same_Some (Some was.before) (Some before) (sym was.stood ∙ stood) in
    ap (λ (b : RegisterBlock). Some b) (ap (λ (b : LineBlock). b.block) (sym (same_Some was.before before one)) ∙ was.same)

-- a list over the places of a line, with those of the slaves that left filled, at a place of the line after an edit

pub filled-at : {Y : Type 0} (olds placed : List (Option LineBlock)) (gone : Gone) (moved : List RankedBlock) → Differ olds placed gone moved → length olds ≡ length placed
    → (f g : Option LineBlock → Y) (none : Y) (n : ℕ) (z : Option LineBlock) → g None ≡ none → slice_get placed n ≡ Some z
    → ((w : Option LineBlock) → slice_get olds n ≡ Some w → (IsGone gone n → ⊥) → f w ≡ g z) → slice_get (replaced_from (first_gone gone) (16 * gone.slaves) none (map f olds)) n ≡ Some (g z)
filled-at {Y} olds placed gone moved differ same f g none n z empty at stays = by (in-or-out (first_gone gone) (16 * gone.slaves) n)
  where
    from : ℕ
    from = first_gone gone

    count : ℕ
    count = 16 * gone.slaves

    low : n < length olds
    low = let within = slice_get_within placed n z at in omega (arith, within, same)

    by : (IsGone gone n ⊎ (IsGone gone n → ⊥)) → slice_get (replaced_from from count none (map f olds)) n ≡ Some (g z)
    by (inl inside) =
        let size = length-map olds f in
        get-filled from count none (map f olds) n inside.0 inside.1 (omega (arith, low, size))
        ∙ ap (λ (y : Y). Some y) (sym empty ∙ ap g (same_Some None z (sym (differ.went n inside) ∙ at)))
    by (inr out) =
        let w = slice_index_or olds n None in
        let stood = slice_get-get_or olds n None low in
        get-unfilled from count none (map f olds) n out ∙ slice_get-map f olds n ∙ ap (option_map f) stood ∙ ap (λ (y : Y). Some y) (stays w stood out)
