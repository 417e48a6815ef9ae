-- A group that is declared after the others, absent: its slaves' places are empty, and are after those of the others; nothing else of the line differs.
use Rattle.std.proofs.Common.{◌≡◌, ℕ, zero, suc, ◌+◌, ◌*◌, ◌≤◌, false, List, [], ◌∷◌, ◌++◌, length, map, refl, sym, ap, ◌∙◌, append_assoc, arith, length-append}
use Rattle.std.specs.Prelude.{Some, None, Option, replicate, slice_get}
use Rattle.std.specs.List.{flat_map}
use Rattle.std.proofs.lemmas.List.{append-nil, map-append}
use Rattle.std.proofs.lemmas.List.Elements.{All-nil}
use Rattle.std.proofs.lemmas.Option.{same_Some, slice_get_within}
use Rattle.hc_records.specs.declared.edit.Edit.TheVariants.{Declare}
use Rattle.hc_records.specs.declared.records.Declared.{Declared}
use Rattle.hc_records.specs.declared.records.Group.{Group}
use Rattle.hc_records.specs.declared.records.Slave.{Slave}
use Rattle.hc_records.specs.Edits.{absent, changed}
use Rattle.hc_records.specs.Line.{Member, State, groups_of, line, members_from}
use Rattle.hc_records.specs.Project.{slaves_of}
use Rattle.hc_records.proofs.lemmas.Declaring.{line-absent}
use Rattle.hc_records.proofs.lemmas.Lists.{get-front}
use Rattle.hc_registers.specs.Blocks.{LineBlock}
use Rattle.hc_registers.specs.RankDifferences.{Differ, IsAtItsPlace}
use Rattle.hc_registers.specs.RankPlaces.{numbers, places, places_from, slave_places, stations}

abbrev Places : Type 0
Places = List (Option LineBlock)

-- empty places
abbrev pub empty_places : ℕ → List (Option LineBlock)
empty_places count = replicate count None

empty-sum : (a b : ℕ) → empty_places a ++ empty_places b ≡ empty_places (a + b)
empty-sum zero b = let same : b ≡ 0 + b = omega arith in ap empty_places same
empty-sum (suc a) b =
    let same : suc (a + b) ≡ suc a + b = omega arith in
    ap (λ (rest : Places). None ∷ rest) (empty-sum a b) ∙ ap empty_places same

slave-empty : (line : List Member) (member : Member) → slave_places line false member ≡ empty_places 16
unfolding numbers
slave-empty line member = refl

slaves-empty : (line : List Member) (rank : ℕ) (slaves : List Slave) → flat_map (slave_places line false) (members_from rank slaves) ≡ empty_places (16 * length slaves)
slaves-empty line rank [] = refl
slaves-empty line rank (slave ∷ slaves) =
    let member : Member = record { rank = rank; slave = slave } in
    let rest = flat_map (slave_places line false) (members_from (rank + 1) slaves) in
    let more : 16 + 16 * length slaves ≡ 16 * length (slave ∷ slaves) = omega arith in
    ap (λ (own : Places). own ++ rest) (slave-empty line member)
    ∙ ap (λ (after_it : Places). empty_places 16 ++ after_it) (slaves-empty line (rank + 1) slaves)
    ∙ empty-sum 16 (16 * length slaves)
    ∙ ap empty_places more

places-more : (line : List Member) (rank : ℕ) (groups : List Declared) (group : Group)
    → places_from line rank (groups ++ absent group ∷ []) ≡ places_from line rank groups ++ empty_places (16 * length group.slaves)
places-more line rank [] group = append-nil (flat_map (slave_places line false) (members_from rank group.slaves)) ∙ slaves-empty line rank group.slaves
places-more line rank (declared ∷ groups) group =
    let slaves = declared.group.slaves in
    let own = flat_map (slave_places line declared.present) (members_from rank slaves) in
    let next = rank + length slaves in
    ap (λ (after_it : Places). own ++ after_it) (places-more line next groups group)
    ∙ sym (append_assoc own (places_from line next groups) (empty_places (16 * length group.slaves)))

declared-line : (state : State) (group : Group) → line (changed state (Declare group)) ≡ line state
declared-line state group = line-absent 1 state.groups group

pub declared-places : (state : State) (group : Group) → places (changed state (Declare group)) ≡ places state ++ empty_places (16 * length group.slaves)
declared-places state group =
    ap (λ (line : List Member). places_from line 1 (state.groups ++ absent group ∷ [])) (declared-line state group)
    ∙ places-more (line state) 1 state.groups group

slaves-more : (groups : List Declared) (group : Group) → slaves_of (groups_of (groups ++ absent group ∷ [])) ≡ slaves_of (groups_of groups) ++ group.slaves
slaves-more [] group = append-nil group.slaves
slaves-more (declared ∷ groups) group =
    ap (λ (rest : List Slave). declared.group.slaves ++ rest) (slaves-more groups group) ∙ sym (append_assoc declared.group.slaves (slaves_of (groups_of groups)) group.slaves)

pub declared-stations : (state : State) (group : Group) → stations (changed state (Declare group)) ≡ stations state ++ map (λ slave. slave.station) group.slaves
declared-stations state group =
    let station : Slave → ℕ = λ slave. slave.station in
    ap (map station) (slaves-more state.groups group) ∙ map-append station (slaves_of (groups_of state.groups)) group.slaves

-- a block that is among these was at its place

empty-at : (count n : ℕ) (block : LineBlock) → slice_get (empty_places count) n ≡ Some (Some block) → ⊥
empty-at zero n block is = cc
empty-at (suc count) zero block is = cc
empty-at (suc count) (suc n) block is = empty-at count n block is

unchanged-at : (all : Places) (count n : ℕ) (block : LineBlock) → slice_get (all ++ empty_places count) n ≡ Some (Some block) → slice_get all n ≡ Some (Some block)
unchanged-at [] count n block is = absurd (empty-at count n block is)
unchanged-at (first ∷ all) count zero block is = is
unchanged-at (first ∷ all) count (suc n) block is = unchanged-at all count n block is

more-differ : (old new : Places) (count : ℕ) → new ≡ old ++ empty_places count → Differ old new (record { rank = 1; slaves = 0 }) []
more-differ old new count is =
    let size = ap length is ∙ length-append old (empty_places count) in
    record {
      size = omega (arith, size);
      rank = omega arith;
      inside = omega arith;
      went = λ n gone. absurd (omega (arith, gone));
      stays = λ n before stood empty. absurd (never n before stood empty);
      names = record {
        ranks = All-nil (λ block. 1 ≤ block.rank);
        are_placed = All-nil (IsAtItsPlace new);
        others = λ n block at others. record { before = block; stood = unchanged-at old count n block (ap (λ (l : Places). slice_get l n) (sym is) ∙ at); same = refl };
      };
    }
  where
    never : (n : ℕ) (before : LineBlock) → slice_get old n ≡ Some (Some before) → slice_get new n ≡ Some None → ⊥
    never n before stood empty =
        let low = slice_get_within old n (Some before) stood in
        let same = sym empty ∙ ap (λ (l : Places). slice_get l n) is ∙ get-front old (empty_places count) n low ∙ stood in
        let none : None ≡ Some before = same_Some None (Some before) same in cc

pub declared-differ : (state : State) (group : Group) → Differ (places state) (places (changed state (Declare group))) (record { rank = 1; slaves = 0 }) []
declared-differ state group = more-differ (places state) (places (changed state (Declare group))) (16 * length group.slaves) (declared-places state group)
