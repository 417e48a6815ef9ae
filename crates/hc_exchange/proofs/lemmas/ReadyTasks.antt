-- Machines that hold what a record says carry each task that is ready.
use Rattle.std.proofs.Common.{◌≡◌, ℕ, ◌+◌, ◌*◌, ◌/◌, ◌<◌, ◌≤◌, ◌==◌, not, ◌⊎◌, ◌∙◌, inl, inr, true, false, List, length, get_or, refl, sym, ap, ap₂, subst, arith, Option, Some, None}
use Rattle.std.specs.Prelude.{All, Contains, find, option_and_then, slice_get, slice_range}
use Rattle.std.specs.Option.{option_map_or}
use Rattle.std.specs.List.{range_with_len}
use Rattle.std.specs.Str.{bytes_eq}
use Rattle.std.proofs.lemmas.Bool.{and_from, and_parts, eq-eqb, eqb-true, or_left, or_right, cases_lt}
use Rattle.std.proofs.lemmas.Bool.Decides.{nat_tests}
use Rattle.std.proofs.lemmas.List.Elements.{All-contains, All-contains_itself, All-weaker}
use Rattle.std.proofs.lemmas.List.FromFn.{get_or-range_with_len, length-range_with_len}
use Rattle.std.proofs.lemmas.Option.{get_or_from_slice_get, slice_get_cases, slice_get_within}
use Rattle.std.proofs.lemmas.Slice.Eq.{bytes_eq-Decides}
use Rattle.hc_records.specs.declared.records.Area.{Area}
use Rattle.hc_records.specs.declared.records.Slave.{Slave}
use Rattle.hc_records.specs.Area.{width}
use Rattle.hc_records.specs.Edits.{slave_at}
use Rattle.hc_records.specs.Line.{Member, State, is_at, line}
use Rattle.hc_records.proofs.lemmas.Choices.{by_bool}
use Rattle.hc_records.proofs.lemmas.Finds.{found-all, found-none}
use Rattle.hc_registers.specs.Blocks.{LineBlock, fmmu_bytes, line_blocks, mapping_of}
use Rattle.hc_events.specs.Entries.{History}
use Rattle.hc_events.specs.Holding.{MayHold, is_unplugged, may_hold}
use Rattle.hc_events.specs.Owed.{is_owed, known_bytes, owed_blocks}
use Rattle.hc_events.specs.Points.{line_of, state_of}
use Rattle.hc_events.specs.Ready.{concerns, concerns_outside, fmmu_registers, is_fmmu, is_in_task, is_ready, may_name, names_among, names_task, registers_outside, serves_task, slaves_outside, waited_for, waited_for_outside}
use Rattle.hc_machine.specs.Fmmus.{fmmu_block_at}
use Rattle.hc_machine.specs.Laws.{IsPair}
use Rattle.hc_plan.proofs.lemmas.Elements.{contains-joined, contains-mapped, contains-unchanged, some-passes}
use Rattle.hc_exchange.specs.Holding.{HoldsContents, HoldsRegisters, IsOutsider, IsPlugged, IsRecord, ReadyTasksAreCarried}
use Rattle.hc_exchange.specs.PairLaws.{IsConfigurable}
use Rattle.hc_exchange.specs.Pairs.{member_area_key}
use Rattle.hc_exchange.specs.Carrying.{IsBitOfTask}
use Rattle.hc_exchange.specs.TaskBlocks.{HasTaskBlocks, IsTaskArea}
use Rattle.hc_exchange.specs.Wire.{PassesAsked, line_machines, outside_machines}
use Rattle.hc_exchange.proofs.lemmas.BlockNumbers.{fmmu-in-line, fmmu-of_member, fmmu_line_block}
use Rattle.hc_exchange.proofs.lemmas.Contents.{IsAreaContent, IsSound, content-names, record-sound}
use Rattle.hc_exchange.proofs.lemmas.Members.{KeepsLine, one-station, stays-line}
use Rattle.hc_exchange.proofs.lemmas.Places.{found-passes}
use Rattle.hc_exchange.proofs.lemmas.Programmed.{none-zero}
use Rattle.hc_exchange.proofs.lemmas.Shared.{length-fmmu}
use Rattle.hc_exchange.proofs.lemmas.Sources.{area-pair}
use Rattle.hc_exchange.proofs.lemmas.TaskBlocks.{blocks-carry, pair-in_task}

-- a list without an element has length 0

none-there : {X : Type 0} (xs : List X) (x : X) → (length xs == 0) ≡ true → ¬ Contains xs x
none-there xs x none has = let zero_long = eqb-true (length xs) 0 none in let within = has.1 in absurd (omega arith)

record IsWaitedForByNone (history : History) (task : ℕ) : Type 0 where
  blocks : (length (waited_for history task) == 0) ≡ true
  outside : (length (waited_for_outside history task) == 0) ≡ true

none-waits : (history : History) (task : ℕ) → is_ready history task ≡ true → IsWaitedForByNone history task
none-waits history task ready =
    let parts = and_parts (length (waited_for history task) == 0) (length (waited_for_outside history task) == 0) ready in
    record { blocks = parts.0; outside = parts.1 }

-- an owed block of the line doesn't concern the task
pub not-concerned : (history : History) (task : ℕ) (block : LineBlock) → is_ready history task ≡ true → Contains (line_blocks (line_of history)) block → is_owed history block ≡ true → concerns history task block ≡ true → ⊥
not-concerned history task block ready has owed concerned =
    let there = contains-unchanged (is_owed history) (line_blocks (line_of history)) block has owed in
    none-there (waited_for history task) block (none-waits history task ready).blocks (contains-unchanged (concerns history task) (owed_blocks history) block there concerned)

-- a block that isn't owed is known as it is configured

known-if : (bytes : List ℕ) (known : Option (List ℕ)) → not (option_map_or (bytes_eq bytes) known false) ≡ false → known ≡ Some bytes
known-if bytes None free = cc
known-if bytes (Some own) free = by_bool (bytes_eq bytes own)
    (λ t. ap (λ (b : List ℕ). Some b) (sym ((bytes_eq-Decides bytes own).0 t)))
    (λ t. let never : true ≡ false = sym (ap not t) ∙ free in cc)

-- the area of a block's number, by its slave's station address

slave-found : (line : List Member) (member : Member) (found : Option Member) → KeepsLine line → Contains line member → find (is_at member.slave.station) line ≡ found → found ≡ Some member
slave-found line member None stays has is =
    let missed = All-contains (λ (m : Member). is_at member.slave.station m ≡ false) line member (found-none (is_at member.slave.station) line is) has in
    let never : true ≡ false = sym (eq-eqb member.slave.station member.slave.station refl) ∙ missed in
    cc
slave-found line member (Some other) stays has is =
    let there = found-all (Contains line) (is_at member.slave.station) line other (All-contains_itself line) is in
    let same = eqb-true other.slave.station member.slave.station (found-passes (is_at member.slave.station) line other is) in
    ap (λ (m : Member). Some m) (one-station line other member stays there has same)

pub slave-at : (state : State) (member : Member) → IsConfigurable state → Contains (line state) member → slave_at state member.slave.station ≡ Some member
slave-at state member can has = slave-found (line state) member (find (is_at member.slave.station) (line state)) (stays-line state can) has refl

index-of : (i : ℕ) → (2 * i + 1) / 2 ≡ i
index-of i = omega arith

pub odd-is : (i : ℕ) → is_fmmu (2 * i + 1) ≡ true
odd-is i = grind (arith, nat_tests)

in-task : (task : ℕ) (area : Area) → area.task ≡ task → 0 < width area → is_in_task task area ≡ true
in-task task area same some = and_from (area.task == task) _ (eq-eqb area.task task same) (grind (arith, nat_tests))

serves : (state : State) (task : ℕ) (member : Member) (i : ℕ) (area : Area) → IsConfigurable state → Contains (line state) member → IsTaskArea task member i area
    → serves_task state task (fmmu_line_block (line state) member i area) ≡ true
serves state task member i area can has own =
    ap₂ (λ (m : Option Member) (k : ℕ). option_map_or (is_in_task task) (option_and_then (λ (slave : Member). slice_get slave.slave.areas k) m) false) (slave-at state member can has) (index-of i)
    ∙ ap (λ (found : Option Area). option_map_or (is_in_task task) found false) own.in_record ∙ in-task task area own.in_task own.some_bits

-- so the block of an area in a ready task isn't owed, and it is at its register

own-free : (history : History) (task : ℕ) (member : Member) (i : ℕ) (area : Area) → IsConfigurable (state_of history) → is_ready history task ≡ true → Contains (line_of history) member → IsTaskArea task member i area
    → is_owed history (fmmu_line_block (line_of history) member i area) ≡ false
own-free history task member i area can ready has own =
    let block = fmmu_line_block (line_of history) member i area in
    by_bool (is_owed history block)
    (λ t. absurd (not-concerned history task block ready (fmmu-in-line (line_of history) member i area has own.in_record) t
    (or_left (serves_task (state_of history) task block) _ (serves (state_of history) task member i area can has own))))
    (λ t. t)

free-holds : (history : History) (member : Member) (memory : List ℕ) (i : ℕ) (area : Area) → Contains (line_of history) member → slice_get member.slave.areas i ≡ Some area → HoldsRegisters history member memory
    → is_owed history (fmmu_line_block (line_of history) member i area) ≡ false
    → fmmu_block_at memory i ≡ fmmu_bytes area (mapping_of (line_of history) area.task (member_area_key member i area))
free-holds history member memory i area has found holds free =
    let block = fmmu_line_block (line_of history) member i area in
    let at = 1536 + 16 * i in
    ap (λ (n : ℕ). slice_range memory at (at + n)) (sym (length-fmmu area (mapping_of (line_of history) area.task (member_area_key member i area))))
    ∙ holds.known block block.block.bytes (fmmu-of_member (line_of history) member i area has found) (known-if block.block.bytes (known_bytes history block.station block.number) free)

-- bytes that an FMMU holds and that pair a bit of a task: one of its contents names the task
names-it : (state : State) (task : ℕ) (held : MayHold) (bytes : List ℕ) (x m : ℕ) → IsConfigurable state → IsBitOfTask (line state) task x → All IsAreaContent held.contents → HoldsContents held bytes
    → IsPair bytes x m → names_among task held ≡ true
names-it state task held bytes x m can asked contents (inl zeros) pair = absurd (none-zero x m (subst (λ (block : List ℕ). IsPair block x m) zeros pair))
names-it state task held bytes x m can asked contents (inr has) pair =
    some-passes (names_task task) held.contents bytes has (content-names state task bytes x m can asked (All-contains IsAreaContent held.contents bytes contents has) pair)

-- a slave of the line

line-task : (history : History) (task : ℕ) (member : Member) (memory : List ℕ) → IsRecord history → is_ready history task ≡ true → Contains (line_of history) member → HoldsRegisters history member memory
    → HasTaskBlocks (line_of history) task member memory
line-task history task member memory of_record ready has holds = record {
  size = holds.machine.size;
  blocks = λ i area own.
      free-holds history member memory i area has own.in_record holds (own-free history task member i area sound.can ready has own)
      ∙ ap (λ (t : ℕ). fmmu_bytes area (mapping_of (line_of history) t (member_area_key member i area))) own.in_task;
  others = λ i x m low asked pair. other i x m low asked pair (slice_get_cases member.slave.areas i).1;
  all_bytes = holds.all_bytes;
}
  where
    sound : IsSound history
    sound = record-sound history of_record

    free : (i x m : ℕ) (area : Area) → slice_get member.slave.areas i ≡ Some area → IsBitOfTask (line_of history) task x
        → IsPair (fmmu_bytes area (mapping_of (line_of history) area.task (member_area_key member i area))) x m → (area : Area) × IsTaskArea task member i area
    free i x m area found asked pair =
        let answer_given = area-pair (line_of history) member i area x m (stays-line (state_of history) sound.can) has found pair in
        (area, pair-in_task (state_of history) task member i x m area answer_given.0 sound.can asked (record { in_line = has; in_record = found; mapped = answer_given.1 }) answer_given.2)

    owed : (i x m : ℕ) (area : Area) → slice_get member.slave.areas i ≡ Some area → IsBitOfTask (line_of history) task x → IsPair (fmmu_block_at memory i) x m
        → is_owed history (fmmu_line_block (line_of history) member i area) ≡ true → ⊥
    owed i x m area found asked pair is =
        let block = fmmu_line_block (line_of history) member i area in
        let held = may_hold history member.slave.station (2 * i + 1) in
        let within = slice_get_within member.slave.areas i area found in
        not-concerned history task block ready (fmmu-in-line (line_of history) member i area has found) is
        (or_right (serves_task (state_of history) task block) (may_name task (2 * i + 1) held)
        (and_from (is_fmmu (2 * i + 1)) _ (odd-is i)
        (by_bool held.unknown
        (λ t. or_left held.unknown (names_among task held) t)
        (λ t. or_right held.unknown (names_among task held)
        (names-it (state_of history) task held (fmmu_block_at memory i) x m sound.can asked (sound.contents member.slave.station i) (holds.held i within t) pair)))))

    other : (i x m : ℕ) → i < 16 → IsBitOfTask (line_of history) task x → IsPair (fmmu_block_at memory i) x m
        → ((area : Area) × (i < length member.slave.areas) × (slice_get member.slave.areas i ≡ Some area) × (get_or member.slave.areas i area ≡ area)) ⊎ ((length member.slave.areas ≤ i) × (slice_get member.slave.areas i ≡ None))
        → (area : Area) × IsTaskArea task member i area
    other i x m low asked pair (inl found) =
        let area = found.0 in
        by_bool (is_owed history (fmmu_line_block (line_of history) member i area))
        (λ t. absurd (owed i x m area found.2 asked pair t))
        (λ t. free i x m area found.2 asked (subst (λ (block : List ℕ). IsPair block x m) (free-holds history member memory i area has found.2 holds t) pair))
    other i x m low asked pair (inr outer) = absurd (none-zero x m (subst (λ (block : List ℕ). IsPair block x m) (holds.machine.programmable.unused i outer.0 low) pair))

-- a machine outside the line

in-registers : (slave : Slave) (index : ℕ) → index < length slave.areas → Contains (fmmu_registers slave) (slave.station, 2 * index + 1)
in-registers slave index low =
    let n = length slave.areas in
    let there : Contains (range_with_len 0 n) index = (index, omega (arith, length-range_with_len 0 n), omega (arith, get_or-range_with_len 0 n index index low)) in
    contains-mapped (λ (i : ℕ). (slave.station, 2 * i + 1)) (range_with_len 0 n) index there

not-plugged : (history : History) (task : ℕ) (memory : List ℕ) (i x m : ℕ) → IsRecord history → is_ready history task ≡ true → IsPlugged history memory → i < 16 → IsBitOfTask (line_of history) task x
    → IsPair (fmmu_block_at memory i) x m → ⊥
not-plugged history task memory i x m of_record ready own low asked pair =
    let sound = record-sound history of_record in
    let slave = own.slave in
    let held = may_hold history slave.station (2 * i + 1) in
    elim (cases_lt i (length slave.areas)) [
      | inl within ↦
          let register : ℕ × ℕ = (slave.station, 2 * i + 1) in
          let there = contains-joined fmmu_registers (slaves_outside (state_of history)) slave register own.outside (in-registers slave i within) in
          let names = names-it (state_of history) task held (fmmu_block_at memory i) x m sound.can asked (sound.contents slave.station i) (own.areas i within) pair in
          none-there (waited_for_outside history task) register (none-waits history task ready).outside
          (contains-unchanged (concerns_outside history task) (registers_outside (state_of history)) register there
          (and_from (not (is_unplugged history slave.station)) (names_among task held) (ap not own.plugged) names))
      | inr outer ↦ none-zero x m (subst (λ (block : List ℕ). IsPair block x m) (own.others i outer low) pair)
    ]

outside-passes : (history : History) (task : ℕ) (memory : List ℕ) → IsRecord history → is_ready history task ≡ true → IsOutsider history memory → PassesAsked (IsBitOfTask (line_of history) task) memory
outside-passes history task memory of_record ready own = record {
  size = own.size;
  idle = λ i x m low asked pair. elim own.pairs [
    | inl nothing ↦ nothing i x m low pair
    | inr plugged ↦ not-plugged history task memory i x m of_record ready plugged low asked pair
  ];
  all_bytes = own.all_bytes;
}

pub ready-carried : ReadyTasksAreCarried
ready-carried history wire task of_record holds ready = record {
  carrying = blocks-carry (state_of history) task (line_machines wire) (record-sound history of_record).can
      (record {
        count = holds.count;
        each = λ k member memory is is'.
            line-task history task member memory of_record ready (k, slice_get_within (line_of history) k member is, get_or_from_slice_get (line_of history) k member member is) (holds.each k member memory is is');
      });
  passing = All-weaker (IsOutsider history) (PassesAsked (IsBitOfTask (line_of history) task)) (λ memory own. outside-passes history task memory of_record ready own) (outside_machines wire) holds.outside;
}
