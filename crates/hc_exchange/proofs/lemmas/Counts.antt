-- What machines that carry a task add to the working counter of one of its datagrams.
use Rattle.std.proofs.Common.{◌≡◌, ℕ, ◌+◌, ◌*◌, ◌<◌, ◌≤◌, ◌⊎◌, ◌∙◌, inl, inr, Bool, true, List, [], ◌∷◌, refl, sym, ap, ap₂, subst, arith}
use Rattle.std.specs.Prelude.{Contains, map, sum_by, ◌==◌, if◌then◌else◌}
use Rattle.std.specs.List.{AllZip, list_any}
use Rattle.std.proofs.lemmas.Bool.{eqb-true, and_from, and_parts, eq-eqb}
use Rattle.std.proofs.lemmas.List.Elements.{All-contains}
use Rattle.std.proofs.lemmas.List.Sums.{sum_by-cons}
use Rattle.std.proofs.lemmas.Grind.{common_steps}
use Rattle.hc_records.specs.AddressLaws.{LineHasDatagram}
use Rattle.hc_records.specs.declared.keys.Key.{Key}
use Rattle.hc_records.specs.declared.limits.TheConstants.{TASKS}
use Rattle.hc_records.specs.declared.records.Area.{Area}
use Rattle.hc_records.specs.declared.records.Dir.{Dir}
use Rattle.hc_records.specs.declared.records.Dir.TheVariants.{Out, In}
use Rattle.hc_records.specs.Area.{width}
use Rattle.hc_records.specs.Image.{counter_share, datagram_length, inside, area_is_of, logical_address, task_places}
use Rattle.hc_records.specs.Keys.{same_dir}
use Rattle.hc_records.specs.Line.{Member, State, line}
use Rattle.hc_records.specs.Packing.{Placed}
use Rattle.hc_records.specs.TaskList.{task_list}
use Rattle.hc_records.proofs.lemmas.Addresses.{uncrowded-few}
use Rattle.hc_records.proofs.lemmas.KeyOrder.{same_dir-refl}
use Rattle.hc_records.proofs.lemmas.Lengths.{length-sendable}
use Rattle.hc_records.proofs.lemmas.Packable.{project-packable}
use Rattle.hc_records.proofs.lemmas.Packed.{area_of}
use Rattle.hc_records.proofs.lemmas.Parts.{EndsInDatagram, ends-in-datagram}
use Rattle.hc_records.proofs.lemmas.VariablePlaces.{same_dir-same}
use Rattle.hc_registers.specs.declared.fmmu.Mapping.{Mapping}
use Rattle.hc_registers.specs.Blocks.{mapping_at}
use Rattle.hc_machine.specs.Laws.{IsRead, IsPairedForWriting}
use Rattle.hc_machine.specs.Logical.{logical_count}
use Rattle.hc_machine.proofs.lemmas.Logical.{counts-say}
use Rattle.hc_exchange.specs.PairLaws.{IsConfigurable}
use Rattle.hc_exchange.specs.Pairs.{member_area_key}
use Rattle.hc_plan.proofs.lemmas.AreaKeys.{HasArea, one-key, one-rank, placed-areas}
use Rattle.hc_plan.proofs.lemmas.Elements.{contains-unchanged, contains-mapped, contains-unkept, contains-unmapped, some-passes, which-passes}
use Rattle.hc_exchange.proofs.lemmas.Listed.{areas-mapped}
use Rattle.hc_exchange.proofs.lemmas.Members.{IsGoodPlace, area-inside, stays-line, one-station}
use Rattle.hc_exchange.proofs.lemmas.Places.{logical-answer_given, mapped-place, place-widths}
use Rattle.hc_exchange.specs.AskedLaws.{TaskCountersAreExpected}
use Rattle.hc_exchange.specs.Carrying.{CarriesAsked, LinePairsIn, IsBitOfTask, count_through}
use Rattle.hc_exchange.specs.FrameLaws.{CountersAreExpected}
use Rattle.hc_exchange.proofs.lemmas.Asked.{programmed-carry}
use Rattle.hc_exchange.proofs.lemmas.Lines.{IsCarrier, all-carriers}
use Rattle.hc_exchange.proofs.lemmas.Slaves.{carried-reads, carried-writes, reads-carried, writes-carried}

-- an area of the line that has a bit in the datagram says that its slave counts there

in-datagram : (state : State) (task datagram : ℕ) (member : Member) (dir : Dir) (bit m : ℕ) → IsConfigurable state → LineHasDatagram (line state) task datagram → Contains (line state) member
    → bit < 8 * datagram_length (task_places task (line state)) datagram → LinePairsIn (line state) dir member.slave.station (8 * logical_address task datagram + bit) m
    → list_any (area_is_of member.rank dir) (map (λ (area : Placed). area.key) (inside datagram (task_places task (line state)))) ≡ true
in-datagram state task datagram member dir bit m can is has low carries =
    let members = line state in
    let stays = stays-line state can in
    let pairs = carries.areas in
    let own = pairs.is_mapped in
    let place = mapped-place members pairs.member pairs.index pairs.area pairs.mapping stays own.in_line own.in_record own.mapped in
    let p = place.placed in
    let count = uncrowded-few members task can.uncrowded is.in_task in
    let counted = is.counted in
    let early : datagram < 16 = omega (arith, count, counted) in
    let most = (length-sendable (task_list task members) datagram (project-packable state task can.project) counted).most in
    let short : 0 + 11888 ≤ 11888 = omega arith in
    let few : bit < 11888 = omega (arith, low, most) in
    let few' : pairs.pair.k < p.bits = omega (arith, pairs.pair.below, place.bits) in
    let logical : 8 * logical_address task datagram + bit ≡ 8 * (16777216 * (pairs.area.task + 1) + 2048 * p.datagram) + p.bit + pairs.pair.k =
    subst (λ (mapping : Mapping). 8 * logical_address task datagram + bit ≡ 8 * mapping.address + mapping.bit + pairs.pair.k) (sym place.is) pairs.pair.logical in
    let answer_given =
    logical-answer_given task datagram 0 11888 bit pairs.area.task p.datagram p.bit p.bits pairs.pair.k early place.good.early short place.good.inside few few' (first-bit (8 * logical_address task datagram) bit _ logical) in
    let there : Contains (task_places task members) p = subst (λ (t : ℕ). Contains (task_places t members) p) (sym answer_given.0) place.in_task in
    let unchanged = contains-unchanged (λ (area : Placed). area.datagram == datagram) (task_places task members) p there (eq-eqb p.datagram datagram (sym answer_given.1)) in
    let keyed = contains-mapped (λ (area : Placed). area.key) (inside datagram (task_places task members)) p unchanged in
    let one : pairs.member ≡ member = one-station members pairs.member member stays own.in_line has pairs.station_is in
    let rank : p.key.rank ≡ member.rank = ap (λ (key : Key). key.rank) place.key ∙ ap (λ (slave : Member). slave.rank) one in
    let way : same_dir p.key.dir dir ≡ true = ap₂ same_dir (ap (λ (key : Key). key.dir) place.key ∙ carries.direction) refl ∙ same_dir-refl dir in
    some-passes (area_is_of member.rank dir) (map (λ (area : Placed). area.key) (inside datagram (task_places task members))) p.key keyed
    (and_from (p.key.rank == member.rank) (same_dir p.key.dir dir) (eq-eqb p.key.rank member.rank rank) way)
  where
    first-bit : (a bit b : ℕ) → a + bit ≡ b → a + 0 + bit ≡ b
    first-bit a bit b same = omega arith

-- and a slave that counts there has an area with a bit in the datagram

-- such a bit, and the memory bit that it is paired with
record HasBit (line : List Member) (dir : Dir) (station from bits : ℕ) : Type 0 where
  bit : ℕ
  m : ℕ
  below : bit < bits
  carries : LinePairsIn line dir station (from + bit) m

has-bit : (state : State) (task datagram : ℕ) (member : Member) (dir : Dir) → IsConfigurable state → Contains (line state) member
    → list_any (area_is_of member.rank dir) (map (λ (area : Placed). area.key) (inside datagram (task_places task (line state)))) ≡ true
    → HasBit (line state) dir member.slave.station (8 * logical_address task datagram) (8 * datagram_length (task_places task (line state)) datagram)
has-bit state task datagram member dir can has some =
    let members = line state in
    let stays = stays-line state can in
    let places = task_places task members in
    let key = which-passes (area_is_of member.rank dir) (map (λ (area : Placed). area.key) (inside datagram places)) some in
    let placed = contains-unmapped (λ (area : Placed). area.key) (inside datagram places) key.0 key.1 in
    let p = placed.0 in
    let unchanged = contains-unkept (λ (area : Placed). area.datagram == datagram) places p placed.1 in
    let tests = and_parts (key.0.rank == member.rank) (same_dir key.0.dir dir) key.2 in
    let source : HasArea members task (area_of p) = All-contains (λ (x : Placed). HasArea members task (area_of x)) places p (placed-areas members task) unchanged.0 in
    let area = source.area in
    let own_key : member_area_key source.member source.index area ≡ key.0 = sym source.key ∙ placed.2 in
    let one : source.member ≡ member = one-rank members source.member member stays.ranks source.in_line has (ap (λ (k : Key). k.rank) own_key ∙ eqb-true key.0.rank member.rank tests.0) in
    let way : area.dir ≡ dir = ap (λ (k : Key). k.dir) own_key ∙ same_dir-same key.0.dir dir tests.1 in
    elim (areas-mapped state source.member source.index area can source.in_line source.found) [
      | inl mapped ↦
          let in_place = mapped.1 in
          let q = in_place.placed in
          let there : Contains places q = subst (λ (t : ℕ). Contains (task_places t members) q) source.task_is in_place.in_task in
          let equal : p ≡ q = one-key state task p q unchanged.0 there (source.key ∙ sym in_place.key) in
          let datagram_is : q.datagram ≡ datagram = ap (λ (x : Placed). x.datagram) (sym equal) ∙ eqb-true p.datagram datagram unchanged.1 in
          let bits : q.bits ≡ width area = in_place.bits in
          let some_bits = mapped.0 in
          let ends : q.bit + q.bits ≤ 8 * datagram_length places q.datagram = All-contains (EndsInDatagram places) places q (ends-in-datagram places) there in
          let ends_here : q.bit + q.bits ≤ 8 * datagram_length places datagram = subst (λ (d : ℕ). q.bit + q.bits ≤ 8 * datagram_length places d) datagram_is ends in
          record {
            bit = q.bit;
            m = 8 * area.phys + 0;
            below = omega arith;
            carries = record {
              areas = record {
                member = source.member;
                index = source.index;
                area = area;
                mapping = mapping_at area.task q;
                station_is = ap (λ (slave : Member). slave.slave.station) one;
                is_mapped = record { in_line = source.in_line; in_record = source.found; mapped = in_place.mapped };
                pair = record { k = 0; below = some_bits; logical = address-bit area.task task q.datagram datagram q.bit source.task_is datagram_is; memory = refl };
              };
              direction = way;
            };
          }
      | inr none ↦
          let good = All-contains IsGoodPlace places p (stays.places task (subst (λ (t : ℕ). t < TASKS) source.task_is (area-inside members source.member source.index area stays source.in_line source.found).task)) unchanged.0 in
          absurd (place-no members source.member source.index area p task none.0 (All-contains (λ (x : Placed). x.key ≡ member_area_key source.member source.index area → x.bits ≡ width area) places p (place-widths members source.member source.index area task stays source.in_line source.found) unchanged.0 source.key) good)
    ]
  where
    address-bit : (t task d datagram bit : ℕ) → t ≡ task → d ≡ datagram → 8 * logical_address task datagram + bit ≡ 8 * logical_address t d + bit + 0
    address-bit t task d datagram bit same same' = omega arith

    place-no : (members : List Member) (member : Member) (index : ℕ) (area : Area) (p : Placed) (task : ℕ) → width area ≡ 0 → p.bits ≡ width area → IsGoodPlace p → ⊥
    place-no members member index area p task none bits good = let some = good.some in omega arith

-- so each slave counts as its areas in the datagram give

share-by : (one r : ℕ) (b : Bool) (P : Type 0) → ((r ≡ one) × P) ⊎ ((r ≡ 0) × (¬ P)) → (P → b ≡ true) → (b ≡ true → P) → r ≡ (if b then one else 0)
share-by one r b P h4 to from = grind (arith, common_steps)

slave-counts : (state : State) (task datagram : ℕ) (member : Member) (memory : List ℕ) → IsConfigurable state → LineHasDatagram (line state) task datagram → Contains (line state) member
    → CarriesAsked (IsBitOfTask (line state) task) (line state) member memory
    → logical_count memory (8 * logical_address task datagram) (datagram_length (task_places task (line state)) datagram)
    ≡ counter_share (map (λ (area : Placed). area.key) (inside datagram (task_places task (line state)))) member.rank
slave-counts state task datagram member memory can is has carrying =
    let members = line state in
    let stays = stays-line state can in
    let from = 8 * logical_address task datagram in
    let n = datagram_length (task_places task members) datagram in
    let keys = map (λ (area : Placed). area.key) (inside datagram (task_places task members)) in
    let asked : (bit : ℕ) → bit < 8 * n → IsBitOfTask members task (from + bit) = λ bit below. record { datagram = datagram; bit = bit; there = is; below = below; at = refl } in
    let answer_given = counts-say memory from n in
    let read : answer_given.0 ≡ (if list_any (area_is_of member.rank In) keys then 1 else 0) =
    share-by 1 answer_given.0 (list_any (area_is_of member.rank In) keys) (IsRead memory from n) answer_given.3
    (λ reads. in-datagram state task datagram member In reads.1 reads.2 can is has reads.4 (reads-carried members member memory reads.0 (from + reads.1) reads.2 stays has carrying reads.3 (asked reads.1 reads.4) reads.5))
    (λ some.
    let bit = has-bit state task datagram member In can has some in
    let serves = carried-reads members member memory (from + bit.bit) bit.m stays has carrying (asked bit.bit bit.below) bit.carries in
    (serves.fmmu, bit.bit, bit.m, serves.below, bit.below, (serves.turned, serves.pair))) in
    let written : answer_given.1 ≡ (if list_any (area_is_of member.rank Out) keys then 2 else 0) =
    share-by 2 answer_given.1 (list_any (area_is_of member.rank Out) keys) (IsPairedForWriting memory from n) answer_given.4
    (λ writes. in-datagram state task datagram member Out writes.1 writes.2 can is has writes.4 (writes-carried members member memory writes.0 (from + writes.1) writes.2 stays has carrying writes.3 (asked writes.1 writes.4) writes.5))
    (λ some.
    let bit = has-bit state task datagram member Out can has some in
    let serves = carried-writes members member memory (from + bit.bit) bit.m stays has carrying (asked bit.bit bit.below) bit.carries in
    (serves.fmmu, bit.bit, bit.m, serves.below, bit.below, (serves.turned, serves.pair))) in
    answer_given.2 ∙ ap₂ (λ (a b : ℕ). a + b) read written ∙ turned (if list_any (area_is_of member.rank In) keys then 1 else 0) (if list_any (area_is_of member.rank Out) keys then 2 else 0)
  where
    turned : (a b : ℕ) → a + b ≡ b + a
    turned a b = omega arith

all-count : (Asked : ℕ → Type 0) (line members : List Member) (machines : List (List ℕ)) (from n : ℕ) (keys : List Key)
    → ((member : Member) (memory : List ℕ) → IsCarrier Asked line member memory → logical_count memory from n ≡ counter_share keys member.rank)
    → AllZip (IsCarrier Asked line) members machines → count_through machines from n ≡ sum_by (counter_share keys) (map (λ (member : Member). member.rank) members)
all-count Asked line [] [] from n keys each are_placed = refl
all-count Asked line [] (memory ∷ machines) from n keys each are_placed = absurd are_placed
all-count Asked line (member ∷ members) [] from n keys each are_placed = absurd are_placed
all-count Asked line (member ∷ members) (memory ∷ machines) from n keys each are_placed =
    ap₂ (λ (a b : ℕ). a + b) (each member memory are_placed.0) (all-count Asked line members machines from n keys each are_placed.1)
    ∙ sym (sum_by-cons (counter_share keys) member.rank (map (λ (m : Member). m.rank) members))

pub task-counts : TaskCountersAreExpected
task-counts state machines task datagram can are is =
    let members = line state in
    let Asked = IsBitOfTask members task in
    all-count Asked members members machines (8 * logical_address task datagram) (datagram_length (task_places task members) datagram)
    (map (λ (area : Placed). area.key) (inside datagram (task_places task members)))
    (λ member memory is_placed. slave-counts state task datagram member memory can is is_placed.in_line is_placed.own)
    (all-carriers Asked members machines are)

pub counts-expected : CountersAreExpected
counts-expected state machines task datagram can are is = task-counts state machines task datagram can (programmed-carry (IsBitOfTask (line state) task) state machines can are) is
