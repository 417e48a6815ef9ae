-- What is sent for a task by the packed output values.
use Rattle.std.proofs.Common.{◌≡◌, ℕ, zero, suc, ◌+◌, ◌*◌, ◌<◌, ◌≤◌, ◌∙◌, Bool, cond, List, [], ◌∷◌, length, length-append, refl, sym, ap, subst, arith}
use Rattle.std.specs.Prelude.{None, Some, sum_by, ◌==◌}
use Rattle.std.specs.Option.{option_map_or}
use Rattle.std.proofs.lemmas.List.FromFn.{length-map-range_with_len}
use Rattle.std.proofs.lemmas.List.Sums.{sum_by-cons}
use Rattle.std.proofs.lemmas.Bool.{eq-eqb}
use Rattle.hc_bits.specs.Bits.{AreBytes, bit_of}
use Rattle.hc_records.specs.declared.limits.TheConstants.{TASKS}
use Rattle.hc_records.specs.declared.records.Declared.{Declared}
use Rattle.hc_records.specs.AddressLaws.{LineHasDatagram}
use Rattle.hc_records.specs.Edits.{over_limit_task}
use Rattle.hc_records.specs.Image.{VariablePlace, datagram_count, datagram_length, datagram_offset, expected_counter, task_places}
use Rattle.hc_records.specs.Laws.{IsDatagramLength}
use Rattle.hc_records.specs.Line.{Member, State, groups_of, line}
use Rattle.hc_records.specs.Project.{lowest_fault, slaves_of}
use Rattle.hc_records.specs.TaskList.{task_list}
use Rattle.hc_records.proofs.lemmas.Addresses.{uncrowded-few}
use Rattle.hc_records.proofs.lemmas.Lengths.{length-sendable}
use Rattle.hc_records.proofs.lemmas.Packable.{project-packable}
use Rattle.hc_records.proofs.lemmas.Projects.{project-few}
use Rattle.hc_records.proofs.lemmas.Walks.{length-line}
use Rattle.hc_places.specs.Table.{Table, TaskTable, datagram_of, table_of}
use Rattle.hc_places.proofs.lemmas.DatagramUses.{table-at}
use Rattle.hc_places.proofs.lemmas.Ranks.{expected-low}
use Rattle.hc_images.specs.Packed.{HoldsOutputValues, Packed, offset_in, sent_bytes, slot_bytes}
use Rattle.hc_images.specs.Values.{table_image_bit, posted_values}
use Rattle.hc_images.proofs.lemmas.Bits.{sent-there}
use Rattle.hc_images.proofs.lemmas.LaidOut.{length-of_line, offset-of_line, place-of_line}
use Rattle.hc_exchange.specs.PairLaws.{IsConfigurable}
use Rattle.hc_exchange.specs.Sent.{IsPacked, task_datagram_count}

-- the datagrams of a task

count-task : (line : List Member) (task d : ℕ) → d < task_datagram_count line task → task < TASKS
count-task line zero d low = omega arith
count-task line (suc zero) d low = omega arith
count-task line (suc (suc zero)) d low = omega arith
count-task line (suc (suc (suc zero))) d low = omega arith
count-task line (suc (suc (suc (suc zero)))) d low = omega arith
count-task line (suc (suc (suc (suc (suc zero))))) d low = omega arith
count-task line (suc (suc (suc (suc (suc (suc zero)))))) d low = omega arith
count-task line (suc (suc (suc (suc (suc (suc (suc zero))))))) d low = omega arith
count-task line (suc (suc (suc (suc (suc (suc (suc (suc task)))))))) d low = absurd (omega arith)

pub count-listed : (line : List Member) (task : ℕ) → task < TASKS → task_datagram_count line task ≡ datagram_count (task_places task line)
count-listed line task low =
    ap (λ found. length (option_map_or (λ (t : TaskTable). t.datagrams) found [])) (table-at line task low)
    ∙ length-map-range_with_len (datagram_of line task) 0 (datagram_count (task_places task line))

pub datagram-there : (line : List Member) (task d : ℕ) → d < task_datagram_count line task → LineHasDatagram line task d
datagram-there line task d low =
    let known = count-task line task d low in
    record { in_task = known; counted = omega (arith, count-listed line task known) }

pub datagram-early : (state : State) (task d : ℕ) → IsConfigurable state → LineHasDatagram (line state) task d → d < 16
datagram-early state task d can is =
    let few = uncrowded-few (line state) task can.uncrowded is.in_task in
    let counted = is.counted in
    omega arith

pub length-there : (state : State) (task d : ℕ) → IsConfigurable state → LineHasDatagram (line state) task d → IsDatagramLength (datagram_length (task_places task (line state)) d)
length-there state task d can is = length-sendable (task_list task (line state)) d (project-packable state task can.project) is.counted

-- its counter

slaves-counted : (groups : List Declared) → length (slaves_of (groups_of groups)) ≡ sum_by (λ (d : Declared). length d.group.slaves) groups
slaves-counted [] = refl
slaves-counted (declared ∷ groups) =
    length-append declared.group.slaves (slaves_of (groups_of groups)) ∙ ap (λ (n : ℕ). length declared.group.slaves + n) (slaves-counted groups)
    ∙ sym (sum_by-cons (λ (d : Declared). length d.group.slaves) declared groups)

pub counter-low : (state : State) (task d : ℕ) → IsConfigurable state → expected_counter task d (line state) < 65536
counter-low state task d can =
    let few : length (slaves_of (groups_of state.groups)) ≤ 2048 = project-few (groups_of state.groups) can.project in
    let long = length-line 1 state.groups in
    omega (arith, expected-low task d (line state), long, few, slaves-counted state.groups)

-- its data

abbrev pub HoldsPost : State → ℕ → List ℕ → Packed → Type 0
HoldsPost state task image packed = task < TASKS → HoldsOutputValues (table_of (line state)) (posted_values (table_of (line state)) task image (λ variable k. 0)) packed

-- packed output values by the table of the plan that was read
abbrev pub can-configure : (state : State) → lowest_fault (groups_of state.groups) ≡ None → over_limit_task (line state) ≡ None → IsConfigurable state
can-configure state project uncrowded = record { project = project; uncrowded = uncrowded }

pub holds-in : (state : State) (task : ℕ) (image : List ℕ) (packed : Packed) (table : Table) → table ≡ table_of (line state) → (task < TASKS → HoldsOutputValues table (posted_values table task image (λ variable k. 0)) packed)
    → HoldsPost state task image packed
holds-in state task image packed table is holds known = subst (λ (t : Table). HoldsOutputValues t (posted_values t task image (λ variable k. 0)) packed) is (holds known)

size-sent : (state : State) (task d : ℕ) (image : List ℕ) (packed : Packed) → IsConfigurable state → HoldsPost state task image packed → LineHasDatagram (line state) task d
    → length (sent_bytes packed task d) ≡ datagram_length (task_places task (line state)) d
size-sent state task d image packed can holds is =
    let early = datagram-early state task d can is in
    ap length (sent-there packed task d is.in_task early) ∙ (holds is.in_task).sent.sizes task d is.in_task early ∙ length-of_line (line state) task d is.in_task is.counted

pub lengths-sent : (state : State) (task d : ℕ) (image : List ℕ) (packed : Packed) → IsConfigurable state → HoldsPost state task image packed → d < task_datagram_count (line state) task
    → IsDatagramLength (length (sent_bytes packed task d))
lengths-sent state task d image packed can holds low =
    let is = datagram-there (line state) task d low in
    subst IsDatagramLength (sym (size-sent state task d image packed can holds is)) (length-there state task d can is)

-- a posted bit of a variable of the task
posted-own : (table : Table) (task : ℕ) (image : List ℕ) (variable k : ℕ) (place : VariablePlace) → place.task ≡ task
    → option_map_or (λ (found : VariablePlace). cond (found.task == task) (bit_of image (table_image_bit table found k)) 0) (Some place) 0 ≡ bit_of image (table_image_bit table place k)
posted-own table task image variable k place same =
    let own = eq-eqb place.task task same in
    ap (λ (b : Bool). cond b (bit_of image (table_image_bit table place k)) 0) own

pub packed-data : (state : State) (task d : ℕ) (image : List ℕ) (packed : Packed) → IsConfigurable state → HoldsPost state task image packed → d < task_datagram_count (line state) task
    → IsPacked (line state) task image d (sent_bytes packed task d)
packed-data state task d image packed can holds low =
    let members = line state in
    let table = table_of members in
    let is = datagram-there members task d low in
    let early = datagram-early state task d can is in
    let there = sent-there packed task d is.in_task early in
    let carries = (holds is.in_task).sent in
    record {
      size = size-sent state task d image packed can holds is;
      all_bytes = subst AreBytes (sym there) (carries.all_bytes task d is.in_task early);
      values = λ variable k place own at below.
          let found = place-of_line members variable ∙ own.there in
          let value = carries.values variable k place (record { there = found; output = own.direction }) below in
          let posts : posted_values table task image (λ v j. 0) variable k ≡ bit_of image (table_image_bit table place k) =
          ap (λ o. option_map_or (λ (p : VariablePlace). cond (p.task == task) (bit_of image (table_image_bit table p k)) 0) o 0) found ∙ posted-own table task image variable k place own.in_task in
          let offset : offset_in table place.task place.datagram ≡ datagram_offset (task_places place.task members) place.datagram =
          offset-of_line members place.task place.datagram (subst (λ (t : ℕ). t < TASKS) (sym own.in_task) is.in_task)
          (subst (λ (t : ℕ). place.datagram < datagram_count (task_places t members)) (sym own.in_task) (subst (λ (n : ℕ). n < datagram_count (task_places task members)) (sym at) is.counted)) in
          ap (λ (bytes : List ℕ). bit_of bytes (place.bit + k)) (there ∙ ap (slot_bytes packed.sent task) (sym at) ∙ ap (λ (t : ℕ). slot_bytes packed.sent t place.datagram) (sym own.in_task))
          ∙ value ∙ posts ∙ ap (λ (n : ℕ). bit_of image (8 * n + place.bit + k)) offset;
      others = λ k none.
          ap (λ (bytes : List ℕ). bit_of bytes k) there
          ∙ carries.others task d k is.in_task early
          (λ variable place output lies. none variable place (record { there = sym (place-of_line members variable) ∙ output.there; in_task = lies.task_is; direction = output.output }) lies);
    }
