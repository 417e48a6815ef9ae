-- Under which names blocks are at places: in one line, and before and after an accepted edit.
use Rattle.std.proofs.Common.{◌≡◌, ℕ, zero, suc, ◌+◌, ◌/◌, ◌%◌, ◌≤◌, Bool, true, false, cond, Contains, List, [], ◌∷◌, ◌++◌, append-nil, map, refl, sym, ap, subst, ◌∙◌, arith, rules}
use Rattle.std.specs.Prelude.{None, Some, Ok, Option, find, is_some, slice_get}
use Rattle.std.proofs.lemmas.Bool.{eq-eqb, eqb-true}
use Rattle.std.proofs.lemmas.List.Elements.{All-contains}
use Rattle.std.proofs.lemmas.Option.{same_Some, slice_get-map, slice_get_within}
use Rattle.hc_records.specs.declared.records.Area.{Area}
use Rattle.hc_records.specs.declared.records.Declared.{Declared}
use Rattle.hc_records.specs.declared.records.Slave.{Slave}
use Rattle.hc_records.specs.declared.edit.Edit.{Edit}
use Rattle.hc_records.specs.declared.edit.Edit.TheVariants.{Connect, Disconnect, Remap, Move, Declare}
use Rattle.hc_records.specs.Edits.{declares, edited, slave_at}
use Rattle.hc_records.specs.Line.{Member, State, groups_of, is_at, line, line_from}
use Rattle.hc_records.specs.Project.{lowest_fault}
use Rattle.hc_records.proofs.lemmas.Lines.{declared_slaves}
use Rattle.hc_records.proofs.lemmas.Limits.{project-inside}
use Rattle.hc_registers.specs.Blocks.{LineBlock, member_blocks, slave_blocks}
use Rattle.hc_registers.specs.RankLaws.{HasPlaces}
use Rattle.hc_registers.specs.RankPlaces.{places, stations}
use Rattle.hc_registers.proofs.lemmas.RanksGapless.{length-member}
use Rattle.hc_registers.proofs.lemmas.RanksStanding.{members-are_placed, standing-of}
use Rattle.hc_records.proofs.lemmas.Lists.{get-front}
use Rattle.hc_registers.proofs.lemmas.RanksDeclared.{declared-stations}
use Rattle.hc_groups.proofs.lemmas.Accepted.{accepted-groups, accepted-state}
use Rattle.hc_changes.proofs.lemmas.Bare.{bare_slave, edit-stays}
use Rattle.hc_changes.proofs.lemmas.Lists.{found-among}
use Rattle.hc_changes.proofs.lemmas.OneProject.{AreOfOneProject, edit-one-project, line-declared, one-index}
use Rattle.hc_plan.proofs.lemmas.Configured.{at-contained, contained-own}
use Rattle.hc_plan.proofs.lemmas.Differing.{bare-count, number-is, there}

-- a block's name by its place

record NamedBy (state : State) (n : ℕ) (block : LineBlock) : Type 0 where
  member : Member
  on : Contains (line state) member
  from : 1 ≤ member.rank
  index : member.rank ≡ 1 + n / 16
  station : block.station ≡ member.slave.station
  number : block.number ≡ n % 16
  is_placed : slice_get (member_blocks (line state) member) (n % 16) ≡ Some block

named-by : (state : State) (n : ℕ) (block : LineBlock) → slice_get (places state) n ≡ Some (Some block) → NamedBy state n block
named-by state n block at =
    let here = standing-of state n block at in
    let member = here.member in
    let from = here.from in
    let number = number-is member.slave.station 0 here.number (slave_blocks (line state) member) block here.is_placed in
    let own = contained-own member.slave.station (slave_blocks (line state) member) block (at-contained (member_blocks (line state) member) here.number block here.is_placed) in
    search rules

-- the station address is at the rank, and the number is the place's
pub record IsNameAt (state : State) (n : ℕ) (block : LineBlock) : Type 0 where
  pub station : slice_get (stations state) (n / 16) ≡ Some block.station
  pub number : block.number ≡ n % 16

pub name-at : (state : State) (n : ℕ) (block : LineBlock) → slice_get (places state) n ≡ Some (Some block) → IsNameAt state n block
name-at state n block at =
    let here = named-by state n block at in
    let declared = line-declared 1 state.groups here.member here.on in
    search (rules, slice_get-map)

-- one name is at one place of a project's line
pub one-place : (state : State) (i n : ℕ) (a b : LineBlock) → lowest_fault (groups_of state.groups) ≡ None → slice_get (places state) i ≡ Some (Some a) → slice_get (places state) n ≡ Some (Some b)
    → a.station ≡ b.station → a.number ≡ b.number → i ≡ n
one-place state i n a b project at other station number =
    let one = named-by state i a at in
    let two = named-by state n b other in
    let first = line-declared 1 state.groups one.member one.on in
    let second = line-declared 1 state.groups two.member two.on in
    let same = one-index (λ (slave : Slave). slave.station) (declared_slaves state.groups) first.index second.index one.member.slave two.member.slave
    (project-inside (groups_of state.groups) project).stations first.is_placed second.is_placed (sym one.station ∙ station ∙ two.station) in
    omega (arith, same, number)

-- a block of the line is one of a slave that the line has
some-by : {X : Type 0} (here : Bool) (y : X) (found : Option X) → is_some found ≡ true → is_some (cond here (Some y) found) ≡ true
some-by here y found later = search rules

find-some : {X : Type 0} (test : X → Bool) (xs : List X) (x : X) → Contains xs x → test x ≡ true → is_some (find test xs) ≡ true
find-some test [] x (k, within, is) passes = absurd (omega arith)
find-some test (y ∷ ys) x (zero, within, is) passes = ap (λ (b : Bool). is_some (cond b (Some y) (find test ys))) (ap test is ∙ passes)
find-some test (y ∷ ys) x (suc k, within, is) passes = some-by (test y) y (find test ys) (find-some test ys x (k, omega arith, is) passes)

pub is_placed-on : (state : State) (n : ℕ) (block : LineBlock) → slice_get (places state) n ≡ Some (Some block) → is_some (slave_at state block.station) ≡ true
is_placed-on state n block at =
    let here = named-by state n block at in
    find-some (is_at block.station) (line state) here.member here.on (eq-eqb here.member.slave.station block.station (sym here.station))

-- over an accepted edit

one-project : (old new : State) (edit : Edit) → lowest_fault (groups_of old.groups) ≡ None → edited old edit ≡ Ok new → AreOfOneProject (line old) (line new)
one-project old new edit project accepted =
    subst (λ (g : List Declared). AreOfOneProject (line old) (line_from 1 g)) (sym (accepted-groups old new edit accepted)) (edit-one-project old.groups edit project)

-- the declared slaves keep their station addresses, and none comes after them if no group is declared
pub same-stations : (old new : State) (edit : Edit) → declares edit ≡ false → edited old edit ≡ Ok new → stations old ≡ stations new
same-stations old new edit changes accepted =
    bare-stations (declared_slaves old.groups)
    ∙ ap (map (λ (s : ℕ × List Area). s.0)) (sym (ap (λ (g : List Declared). map bare_slave (declared_slaves g)) (accepted-groups old new edit accepted) ∙ edit-stays old.groups edit changes))
    ∙ sym (bare-stations (declared_slaves new.groups))
  where
    bare-stations : (slaves : List Slave) → map (λ slave. slave.station) slaves ≡ map (λ (s : ℕ × List Area). s.0) (map bare_slave slaves)
    bare-stations [] = refl
    bare-stations (slave ∷ slaves) = ap (λ (rest : List ℕ). slave.station ∷ rest) (bare-stations slaves)

unmore : (old new : State) (edit : Edit) → declares edit ≡ false → edited old edit ≡ Ok new → (more : List ℕ) × (stations new ≡ stations old ++ more)
unmore old new edit changes accepted = ([], sym (append-nil (stations old) ∙ same-stations old new edit changes accepted))

more-stations : (old new : State) (edit : Edit) → edited old edit ≡ Ok new → (more : List ℕ) × (stations new ≡ stations old ++ more)
more-stations old new (Connect alias) accepted = unmore old new (Connect alias) refl accepted
more-stations old new (Disconnect alias) accepted = unmore old new (Disconnect alias) refl accepted
more-stations old new (Remap station area pdos) accepted = unmore old new (Remap station area pdos) refl accepted
more-stations old new (Move station area task) accepted = unmore old new (Move station area task) refl accepted
more-stations old new (Declare group) accepted =
    (map (λ slave. slave.station) group.slaves, ap stations (accepted-state old new (Declare group) accepted) ∙ declared-stations old group)

-- a place keeps its name
pub same-name : (old new : State) (edit : Edit) (n : ℕ) (before block : LineBlock) → edited old edit ≡ Ok new
    → slice_get (places old) n ≡ Some (Some before) → slice_get (places new) n ≡ Some (Some block) → (before.station ≡ block.station) × (before.number ≡ block.number)
same-name old new edit n before block accepted stood at =
    let first = name-at old n before stood in
    let second = name-at new n block at in
    let more = more-stations old new edit accepted in
    let front = get-front (stations old) more.0 (n / 16) (slice_get_within (stations old) (n / 16) before.station first.station) in (
      same_Some before.station block.station (sym first.station ∙ sym front ∙ ap (λ (all : List ℕ). slice_get all (n / 16)) (sym more.1) ∙ second.station),
      first.number ∙ sym second.number,
    )

-- a block that comes is of a slave that the old line hadn't
pub came : (old new : State) (edit : Edit) (n : ℕ) (block : LineBlock) → lowest_fault (groups_of old.groups) ≡ None → edited old edit ≡ Ok new
    → slice_get (places old) n ≡ Some None → slice_get (places new) n ≡ Some (Some block) → is_some (slave_at old block.station) ≡ false
came old new edit n block project accepted none at = by (slave_at old block.station) refl
  where
    here : NamedBy new n block
    here = named-by new n block at

    by : (found : Option Member) → slave_at old block.station ≡ found → is_some found ≡ false
    by None is = refl
    by (Some m) is =
        let found = found-among (is_at block.station) (line old) m is in
        let one = one-project old new edit project accepted in
        let rank = one.ranks m here.member found.among here.on (eqb-true m.slave.station block.station found.passes ∙ here.station) in
        let alike = one.alike m here.member found.among here.on rank in
        let index = here.index in
        let stood : Some (slice_get (member_blocks (line old) m) (n % 16)) ≡ Some None =
        sym (All-contains (HasPlaces old) (line old) m (members-are_placed old) found.among (n % 16) (omega arith)) ∙ ap (slice_get (places old)) (omega (arith, rank, index)) ∙ none in
        let low = slice_get_within (member_blocks (line new) here.member) (n % 16) block here.is_placed in
        let before = length-member (line old) m in
        let after_it = length-member (line new) here.member in
        let many = bare-count m.slave here.member.slave alike in
        let own = there (member_blocks (line old) m) (n % 16) (omega (arith, low, before, after_it, many)) in
        cc
