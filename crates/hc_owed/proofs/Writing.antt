-- The register state stays right after the sending of a write, and after a good answer to it.
use Rattle.std.proofs.Common.{◌≡◌, ℕ, ◌==◌, ◌&&◌, Bool, true, false, cond, List, map, refl, sym, ap, ◌∙◌, arith}
use Rattle.std.specs.Prelude.{◌≢◌, None, Some, Option, not, option_map, slice_get}
use Rattle.std.specs.Str.{bytes_eq}
use Rattle.std.proofs.lemmas.Bool.{and_parts, eq-eqb, eqb-false, eqb-true}
use Rattle.std.proofs.lemmas.List.{length-map}
use Rattle.std.proofs.lemmas.Option.{same_Some, slice_get-map, slice_get_within}
use Rattle.std.proofs.lemmas.Slice.Eq.{bytes_eq-Decides}
use Rattle.hc_records.specs.Lists.{changed_at}
use Rattle.hc_records.specs.Line.{State, groups_of}
use Rattle.hc_records.specs.Project.{lowest_fault}
use Rattle.hc_registers.specs.Blocks.{LineBlock}
use Rattle.hc_registers.specs.RankPlaces.{places, stations}
use Rattle.hc_plan.specs.Reports.{found_name}
use Rattle.hc_plan.proofs.lemmas.PlaceNames.{one-place}
use Rattle.hc_owed.specs.RegisterState.{Knowledge, differs, register_state_of, known_in, lacks, owed_in}
use Rattle.hc_owed.specs.Laws.{known_with, same_name}
use Rattle.hc_owed.specs.Steps.{place_judged, learnt}
use Rattle.hc_plan.proofs.lemmas.Replaced.{changed-same, get-changed, get-other, is-map, length-changed}
use Rattle.hc_owed.proofs.Opened.{register_state_from}

-- a block has its own name, and no block at another place has

pub same-itself : (m n : ℕ) → same_name (m, n) (m, n) ≡ true
same-itself m n = ap (λ (b : Bool). b && (n == n)) (eq-eqb m m refl) ∙ eq-eqb n n refl

other-name : (state : State) (n i : ℕ) (block b : LineBlock) → lowest_fault (groups_of state.groups) ≡ None → slice_get (places state) n ≡ Some (Some block) → slice_get (places state) i ≡ Some (Some b)
    → n ≢ i → same_name (found_name block) (found_name b) ≡ false
other-name state n i block b project at other apart = by (same_name (found_name block) (found_name b)) refl
  where
    by : (same : Bool) → same_name (found_name block) (found_name b) ≡ same → same ≡ false
    by true is =
        let parts = and_parts (block.station == b.station) (block.number == b.number) is in
        absurd (apart (one-place state n i block b project at other (eqb-true block.station b.station parts.0) (eqb-true block.number b.number parts.1)))
    by false is = refl

-- with other known bytes of one block, the register state changes at the block's place alone
written : {Y : Type 0} (f g : Option LineBlock → Y) (state : State) (n : ℕ) (block : LineBlock) (y : Y) → slice_get (places state) n ≡ Some (Some block) → g (Some block) ≡ y
    → ((i : ℕ) (z : Option LineBlock) → n ≢ i → slice_get (places state) i ≡ Some z → f z ≡ g z) → changed_at n (λ _. y) (map f (places state)) ≡ map g (places state)
written {Y} f g state n block y at here others =
    let all = places state in
    let size = length-changed n (λ _. y) (map f all) ∙ length-map all f in
    is-map (changed_at n (λ _. y) (map f all)) g all size (λ i z is_placed. by i z is_placed (n == i) refl)
  where
    by : (i : ℕ) (z : Option LineBlock) → slice_get (places state) i ≡ Some z → (same : Bool) → (n == i) ≡ same → slice_get (changed_at n (λ _. y) (map f (places state))) i ≡ Some (g z)
    by i z is_placed true is =
        let same = eqb-true n i is in
        let low = slice_get_within (places state) n (Some block) at in
        let size = length-map (places state) f in
        let found : Some (Some block) ≡ Some z = sym at ∙ ap (slice_get (places state)) same ∙ is_placed in
        ap (slice_get (changed_at n (λ _. y) (map f (places state)))) (sym same)
        ∙ get-changed n y (map f (places state)) (omega (arith, low, size))
        ∙ ap (λ (x : Y). Some x) (sym here ∙ ap g (same_Some (Some block) z found))
    by i z is_placed false is =
        let apart = eqb-false n i is in
        get-other n i y (map f (places state)) apart ∙ slice_get-map f (places state) i ∙ ap (option_map f) is_placed ∙ ap (λ (x : Y). Some x) (others i z apart is_placed)

module _ (known : Knowledge) (state : State) (n : ℕ) (block : LineBlock) (bytes : Option (List ℕ)) (project : lowest_fault (groups_of state.groups) ≡ None) (at : slice_get (places state) n ≡ Some (Some block)) where
  abbrev pub after : Knowledge
  after = known_with (found_name block) bytes known

  pub here : after block.station block.number ≡ bytes
  here = ap (λ (b : Bool). cond b bytes (known block.station block.number)) (same-itself block.station block.number)

  pub elsewhere : (i : ℕ) (b : LineBlock) → n ≢ i → slice_get (places state) i ≡ Some (Some b) → known b.station b.number ≡ after b.station b.number
  elsewhere i b apart is_placed = ap (λ (t : Bool). cond t bytes (known b.station b.number)) (sym (other-name state n i block b project at is_placed apart))

  pub write-known : changed_at n (λ _. bytes) (map (known_in known) (places state)) ≡ map (known_in after) (places state)
  write-known = written (known_in known) (known_in after) state n block bytes at here others
    where
      others : (i : ℕ) (z : Option LineBlock) → n ≢ i → slice_get (places state) i ≡ Some z → known_in known z ≡ known_in after z
      others i None apart is_placed = refl
      others i (Some b) apart is_placed = elsewhere i b apart is_placed

  pub write-owed : changed_at n (λ _. differs block.block.bytes bytes) (map (owed_in known) (places state)) ≡ map (owed_in after) (places state)
  write-owed = written (owed_in known) (owed_in after) state n block (differs block.block.bytes bytes) at (ap (differs block.block.bytes) here) others
    where
      others : (i : ℕ) (z : Option LineBlock) → n ≢ i → slice_get (places state) i ≡ Some z → owed_in known z ≡ owed_in after z
      others i None apart is_placed = refl
      others i (Some b) apart is_placed = ap (differs b.block.bytes) (elsewhere i b apart is_placed)

pub sent-right : (known : Knowledge) (state : State) (n : ℕ) (block : LineBlock) → lowest_fault (groups_of state.groups) ≡ None → slice_get (places state) n ≡ Some (Some block) → lacks known block ≡ true
    → learnt n None (register_state_of known state) ≡ register_state_of (known_with (found_name block) None known) state
sent-right known state n block project at lacking =
    let owed = map (owed_in known) (places state) in
    let after = known_with (found_name block) None known in
    let was : slice_get owed n ≡ Some true = slice_get-map (owed_in known) (places state) n ∙ ap (option_map (owed_in known)) at ∙ ap Some lacking in
    ap (λ (k : List (Option (List ℕ))). register_state_from k owed (stations state)) (write-known known state n block None project at)
    ∙ ap (λ (o : List Bool). register_state_from (map (known_in after) (places state)) o (stations state)) (sym (changed-same n true owed was) ∙ write-owed known state n block None project at)

pub confirmed-right : (known : Knowledge) (state : State) (n : ℕ) (block : LineBlock) (bytes : List ℕ) → lowest_fault (groups_of state.groups) ≡ None → slice_get (places state) n ≡ Some (Some block) → bytes ≡ block.block.bytes
    → place_judged n false (learnt n (Some bytes) (register_state_of known state)) ≡ register_state_of (known_with (found_name block) (Some bytes) known) state
confirmed-right known state n block bytes project at same =
    let owed = map (owed_in known) (places state) in
    let after = known_with (found_name block) (Some bytes) known in
    let equal : bytes_eq block.block.bytes bytes ≡ true = (bytes_eq-Decides block.block.bytes bytes).1 (sym same) in
    ap (λ (k : List (Option (List ℕ))). register_state_from k (changed_at n (λ _. false) owed) (stations state)) (write-known known state n block (Some bytes) project at)
    ∙ ap (λ (o : List Bool). register_state_from (map (known_in after) (places state)) o (stations state))
    (ap (λ (t : Bool). changed_at n (λ _. not t) owed) (sym equal) ∙ write-owed known state n block (Some bytes) project at)
