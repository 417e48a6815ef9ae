-- The keys of a task's list ascend between START and END.
use Rattle.std.proofs.Common.{◌≡◌, ℕ, ◌+◌, ◌<◌, ◌≤◌, true, List, length, refl, arith}
use Rattle.std.specs.Prelude.{All, AllPairs, IsTrue, filter, nat_lt, ◌&&◌, ◌==◌}
use Rattle.std.specs.List.{enumerate_from, flat_map}
use Rattle.std.proofs.lemmas.Bool.{lt-ltb, eq-eqb, or_left, or_right}
use Rattle.std.proofs.lemmas.List.Elements.{All-weaker}
use Rattle.std.proofs.lemmas.List.Kept.{AllPairs-filter}
use Rattle.hc_records.specs.declared.limits.TheConstants.{MOST_SLAVES}
use Rattle.hc_records.specs.declared.records.Dir.{Dir}
use Rattle.hc_records.specs.declared.records.Dir.TheVariants.{Out, In}
use Rattle.hc_records.specs.declared.keys.TheConstants.Key.{START, END}
use Rattle.hc_records.specs.Keys.{is_before}
use Rattle.hc_records.specs.Line.{Member, State, line}
use Rattle.hc_records.specs.TaskList.{Listed, belongs, keyed, slave_areas, task_areas, task_list}
use Rattle.hc_records.proofs.lemmas.Lists.{All-flat_map, AllPairs-append, AllPairs-map, AllPairs-flat_map, AllPairs-numbers, AllPairs-weaker}
use Rattle.hc_records.proofs.lemmas.Lines.{RankWithin, RanksBelow, declared_slaves, line-within, line-ascends}
use Rattle.hc_records.proofs.lemmas.Tasks.{listed, slave-areas-all, task-list-all}

-- what holds wherever an area is
pub every : {X : Type 0} (P : X → Type 0) (xs : List X) → ((x : X) → P x) → All P xs
every P xs holds k d within = holds _

start-before : (dir : Dir) (rank area : ℕ) → 0 < rank → IsTrue (is_before START (record { dir = dir; rank = rank; area = area }))
start-before Out rank area some = or_left (nat_lt 0 rank) ((0 == rank) && nat_lt 0 area) (lt-ltb 0 rank some)
start-before In rank area some = refl

pub keys-above-start : (state : State) (task : ℕ) → All (λ area. IsTrue (is_before START area.0)) (task_list task (line state))
keys-above-start state task =
    task-list-all (λ area. IsTrue (is_before START area.0)) task (line state)
    (λ dir. All-weaker (RankWithin 1 (1 + _)) (λ member. All (λ e. belongs task dir e.1 ≡ true → IsTrue (is_before START (listed dir member.rank e).key)) (enumerate_from 0 member.slave.areas))
    (λ member within. every (λ e. belongs task dir e.1 ≡ true → IsTrue (is_before START (listed dir member.rank e).key)) (enumerate_from 0 member.slave.areas)
    (λ e belonging. start-before dir member.rank e.0 (omega arith)))
    (line state) (line-within 1 state.groups))

pub before-end : (dir : Dir) (rank area : ℕ) → rank < 65535 → IsTrue (is_before (record { dir = dir; rank = rank; area = area }) END)
before-end Out rank area low = refl
before-end In rank area low = or_left (nat_lt rank 65535) ((rank == 65535) && nat_lt area 255) (lt-ltb rank 65535 low)

pub keys-below-end : (state : State) (task : ℕ) → length (declared_slaves state.groups) ≤ MOST_SLAVES → All (λ area. IsTrue (is_before area.0 END)) (task_list task (line state))
keys-below-end state task few =
    task-list-all (λ area. IsTrue (is_before area.0 END)) task (line state)
    (λ dir. All-weaker (RankWithin 1 (1 + length (declared_slaves state.groups)))
    (λ member. All (λ e. belongs task dir e.1 ≡ true → IsTrue (is_before (listed dir member.rank e).key END)) (enumerate_from 0 member.slave.areas))
    (λ member within. every (λ e. belongs task dir e.1 ≡ true → IsTrue (is_before (listed dir member.rank e).key END)) (enumerate_from 0 member.slave.areas)
    (λ e belonging. before-end dir member.rank e.0 (omega arith)))
    (line state) (line-within 1 state.groups))

-- one listed area comes before another
abbrev Precedes : Listed → Listed → Type 0
Precedes a b = IsTrue (is_before a.key b.key)

same-slave : (dir : Dir) (rank a b : ℕ) → a < b → IsTrue (is_before (record { dir = dir; rank = rank; area = a }) (record { dir = dir; rank = rank; area = b }))
same-slave Out rank a b low = rw (eq-eqb rank rank refl, lt-ltb a b low) (or_right (nat_lt rank rank) true refl)
same-slave In rank a b low = rw (eq-eqb rank rank refl, lt-ltb a b low) (or_right (nat_lt rank rank) true refl)

lower-rank : (dir : Dir) (a b first second : ℕ) → a < b → IsTrue (is_before (record { dir = dir; rank = a; area = first }) (record { dir = dir; rank = b; area = second }))
lower-rank Out a b first second low = or_left (nat_lt a b) ((a == b) && nat_lt first second) (lt-ltb a b low)
lower-rank In a b first second low = or_left (nat_lt a b) ((a == b) && nat_lt first second) (lt-ltb a b low)

-- the areas of one slave ascend
slave-ascends : (task : ℕ) (dir : Dir) (member : Member) → AllPairs Precedes (slave_areas task dir member)
slave-ascends task dir member =
    AllPairs-map Precedes (listed dir member.rank) (filter (λ e. belongs task dir e.1) (enumerate_from 0 member.slave.areas))
    (AllPairs-weaker (λ a b. a.0 < b.0) (λ a b. Precedes (listed dir member.rank a) (listed dir member.rank b)) (λ a b low. same-slave dir member.rank a.0 b.0 low)
    (filter (λ e. belongs task dir e.1) (enumerate_from 0 member.slave.areas))
    (AllPairs-filter (λ a b. a.0 < b.0) (λ e. belongs task dir e.1) (enumerate_from 0 member.slave.areas) (AllPairs-numbers 0 member.slave.areas)))

-- the areas of a slave come before those of a slave with a higher rank
slaves-ascend : (task : ℕ) (dir : Dir) (low high : Member) → RanksBelow low high → All (λ a. All (Precedes a) (slave_areas task dir high)) (slave_areas task dir low)
slaves-ascend task dir low high below =
    slave-areas-all (λ a. All (Precedes a) (slave_areas task dir high)) task dir low
    (every (λ e. belongs task dir e.1 ≡ true → All (Precedes (listed dir low.rank e)) (slave_areas task dir high)) (enumerate_from 0 low.slave.areas)
    (λ e belonging. slave-areas-all (Precedes (listed dir low.rank e)) task dir high
    (every (λ f. belongs task dir f.1 ≡ true → Precedes (listed dir low.rank e) (listed dir high.rank f)) (enumerate_from 0 high.slave.areas)
    (λ f belongs. lower-rank dir low.rank high.rank e.0 f.0 below))))

-- the areas of one direction ascend
direction-ascends : (task : ℕ) (dir : Dir) (line : List Member) → AllPairs RanksBelow line → AllPairs Precedes (flat_map (slave_areas task dir) line)
direction-ascends task dir line ranks = AllPairs-flat_map Precedes RanksBelow (slave_areas task dir) (slave-ascends task dir) (slaves-ascend task dir) line ranks

-- an output comes before each input
output-first : (task : ℕ) (line : List Member) (output : Member) → All (λ a. All (Precedes a) (flat_map (slave_areas task In) line)) (slave_areas task Out output)
output-first task line output =
    slave-areas-all (λ a. All (Precedes a) (flat_map (slave_areas task In) line)) task Out output
    (every (λ e. belongs task Out e.1 ≡ true → All (Precedes (listed Out output.rank e)) (flat_map (slave_areas task In) line)) (enumerate_from 0 output.slave.areas)
    (λ e belonging. All-flat_map (Precedes (listed Out output.rank e)) (slave_areas task In) line
    (every (λ input. All (Precedes (listed Out output.rank e)) (slave_areas task In input)) line
    (λ input. slave-areas-all (Precedes (listed Out output.rank e)) task In input
    (every (λ f. belongs task In f.1 ≡ true → Precedes (listed Out output.rank e) (listed In input.rank f)) (enumerate_from 0 input.slave.areas)
    (λ f belongs. refl))))))

pub keys-ascend : (state : State) (task : ℕ) → AllPairs (λ a b. IsTrue (is_before a.0 b.0)) (task_list task (line state))
keys-ascend state task =
    let members = line state in
    let ranks = line-ascends 1 state.groups in
    AllPairs-map (λ a b. IsTrue (is_before a.0 b.0)) keyed (task_areas task members)
    (AllPairs-append Precedes (flat_map (slave_areas task Out) members) (flat_map (slave_areas task In) members)
    (direction-ascends task Out members ranks) (direction-ascends task In members ranks)
    (All-flat_map (λ a. All (Precedes a) (flat_map (slave_areas task In) members)) (slave_areas task Out) members
    (every (λ output. All (λ a. All (Precedes a) (flat_map (slave_areas task In) members)) (slave_areas task Out output)) members (output-first task members))))
