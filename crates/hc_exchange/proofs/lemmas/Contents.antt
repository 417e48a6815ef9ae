-- Each record's line can be configured, and each content that an FMMU may have is the block of an area of such a line: it pairs process memory alone, and logical bits of the task that it names alone.
use Rattle.std.proofs.Common.{◌≡◌, ℕ, ◌+◌, ◌*◌, ◌/◌, ◌<◌, ◌≤◌, ◌==◌, ◌∙◌, Bool, true, false, cond, List, [], ◌∷◌, refl, sym, ap, subst, arith, Option, Some, None}
use Rattle.std.specs.Prelude.{All, Contains, find, is_some, option_map, slice_get, unwrap_or, Ok, Result}
use Rattle.std.specs.Option.{option_or}
use Rattle.std.specs.Result.{result_unwrap_or}
use Rattle.std.specs.List.{list_any}
use Rattle.std.proofs.lemmas.Bool.{eq-eqb}
use Rattle.std.proofs.lemmas.List.Elements.{All-cons, All-contains_itself, All-nil}
use Rattle.hc_records.specs.declared.limits.TheConstants.{LAST_EPOCH}
use Rattle.hc_records.specs.declared.records.Area.{Area}
use Rattle.hc_records.specs.declared.records.Group.{Group}
use Rattle.hc_records.specs.declared.edit.Edit.{Edit}
use Rattle.hc_records.specs.declared.faults.EditFault.{EditFault}
use Rattle.hc_records.specs.declared.faults.EditFault.TheVariants.{EpochsSpent, TooManyDatagrams}
use Rattle.hc_records.specs.Edits.{changed, edit_faults, edited, late_faults, over_limit_task, own_faults, refused_by, state_after}
use Rattle.hc_records.specs.Image.{logical_address}
use Rattle.hc_records.specs.Line.{Member, State, is_at, line, opened}
use Rattle.hc_records.specs.Lists.{lowest}
use Rattle.hc_records.proofs.lemmas.Finds.{found-all}
use Rattle.hc_records.proofs.lemmas.Stations.{project-distinct}
use Rattle.hc_registers.specs.declared.fmmu.Mapping.{Mapping}
use Rattle.hc_registers.specs.Blocks.{LineBlock, RegisterBlock, fmmu_bytes, line_blocks, mapped_bytes, mapping_of, slave_blocks}
use Rattle.hc_registers.specs.Fields.{long_at}
use Rattle.hc_groups.proofs.lemmas.Accepted.{accepted-project}
use Rattle.hc_groups.proofs.lemmas.CarriedOut.{joined-some}
use Rattle.hc_events.specs.Accepted.{IsWrite, just_opened}
use Rattle.hc_events.specs.Answering.{judged_by}
use Rattle.hc_events.specs.Entries.{History, Opened, Edited, Posted, Sent, Wrote, Came, Forgot, Cleared, Unplugged}
use Rattle.hc_events.specs.Heads.{Block, block_item, same_item}
use Rattle.hc_events.specs.Holding.{MayHold, cleared_register, held_after_answer, held_after_write, may_hold}
use Rattle.hc_events.specs.Owed.{block_among, confirms, is_in_line, last_write, owed_blocks, write_of}
use Rattle.hc_events.specs.Points.{line_of, next_serial, opened_with, state_of}
use Rattle.hc_events.specs.Ready.{names_task}
use Rattle.hc_events.proofs.lemmas.Accepted.{StaysTrue, held-of_accepted, passed}
use Rattle.hc_events.proofs.lemmas.Answers.{written-inside}
use Rattle.hc_events.proofs.lemmas.Live.{find-is}
use Rattle.hc_events.proofs.lemmas.Views.{none_after}
use Rattle.hc_machine.specs.Laws.{IsPair}
use Rattle.hc_plan.proofs.lemmas.Configured.{configured-block}
use Rattle.hc_exchange.specs.Holding.{IsRecord, RecordsAreConfigurable}
use Rattle.hc_exchange.specs.PairLaws.{IsConfigurable}
use Rattle.hc_exchange.specs.Pairs.{IsAreaPair, member_area_key}
use Rattle.hc_exchange.specs.Carrying.{IsBitOfTask}
use Rattle.hc_exchange.proofs.Packing.{datagram-early, length-there}
use Rattle.hc_exchange.proofs.lemmas.BlockNumbers.{odd-block}
use Rattle.hc_exchange.proofs.lemmas.Chosen.{same_name}
use Rattle.hc_exchange.proofs.lemmas.Decoded.{fields}
use Rattle.hc_exchange.proofs.lemmas.Members.{area-inside, stays-line}
use Rattle.hc_exchange.proofs.lemmas.Places.{logical-answer_given, mapped-place, place-mappable}
use Rattle.hc_exchange.proofs.lemmas.Sources.{area-pair}

-- bytes are the FMMU block of an area of a line that can be configured
pub record IsAreaContent (bytes : List ℕ) : Type 0 where
  pub state : State
  pub can : IsConfigurable state
  pub member : Member
  pub index : ℕ
  pub area : Area
  pub in_line : Contains (line state) member
  pub in_record : slice_get member.slave.areas index ≡ Some area
  pub is : bytes ≡ fmmu_bytes area (mapping_of (line state) area.task (member_area_key member index area))

-- what such bytes pair

record ContentPair (content : List ℕ) (area : Area) (line : List Member) (member : Member) (index x m : ℕ) : Type 0 where
  mapping : Mapping
  mapped : mapping_of line area.task (member_area_key member index area) ≡ Some mapping
  pair : IsAreaPair area mapping x m

pair-of : (bytes : List ℕ) (x m : ℕ) → (content : IsAreaContent bytes) → IsPair bytes x m → ContentPair bytes content.area (line content.state) content.member content.index x m
pair-of bytes x m content pair =
    let members = line content.state in
    let answer_given = area-pair members content.member content.index content.area x m (stays-line content.state content.can) content.in_line content.in_record
    (subst (λ (block : List ℕ). IsPair block x m) content.is pair) in
    record { mapping = answer_given.0; mapped = answer_given.1; pair = answer_given.2 }

-- they pair process memory alone
pub content-high : (bytes : List ℕ) (x m : ℕ) → IsAreaContent bytes → IsPair bytes x m → 32768 ≤ m
content-high bytes x m content pair =
    let own = pair-of bytes x m content pair in
    let start : 4096 ≤ content.area.phys = (area-inside (line content.state) content.member content.index content.area (stays-line content.state content.can) content.in_line content.in_record).start in
    let memory = own.pair.memory in
    omega arith

-- and they name the task of each task's bit that they pair

task-of : (address bit k task d : ℕ) → address ≡ 16777216 * (task + 1) + 2048 * d → d < 16 → bit ≤ 11888 → (address + bit / 8) / 16777216 ≡ task + 1
task-of address bit k task d is early low = omega arith

named-by : (area : Area) (mapping : Mapping) (task : ℕ) → (long_at (mapped_bytes area mapping) 0 / 16777216 == task + 1) ≡ true → names_task task (mapped_bytes area mapping) ≡ true
named-by area mapping task is = is

pub content-names : (state : State) (task : ℕ) (bytes : List ℕ) (x m : ℕ) → IsConfigurable state → IsBitOfTask (line state) task x → IsAreaContent bytes → IsPair bytes x m
    → names_task task bytes ≡ true
content-names state task bytes x m can asked content pair =
    let members = line content.state in
    let stays = stays-line content.state content.can in
    let area = content.area in
    let own = pair-of bytes x m content pair in
    let mapping = own.mapping in
    let inside = area-inside members content.member content.index area stays content.in_line content.in_record in
    let place = mapped-place members content.member content.index area mapping stays content.in_line content.in_record own.mapped in
    let q = place.placed in
    let d = asked.datagram in
    let early = datagram-early state task d can asked.there in
    let most = (length-there state task d can asked.there).most in
    let low = asked.below in
    let few : asked.bit < 11888 = omega arith in
    let few' : own.pair.k < q.bits = omega (arith, own.pair.below, place.bits) in
    let short : 0 + 11888 ≤ 11888 = omega arith in
    let logical : 8 * logical_address task d + asked.bit ≡ 8 * (16777216 * (area.task + 1) + 2048 * q.datagram) + q.bit + own.pair.k =
    sym asked.at ∙ subst (λ (at : Mapping). x ≡ 8 * at.address + at.bit + own.pair.k) (sym place.is) own.pair.logical in
    let one = logical-answer_given task d 0 11888 asked.bit area.task q.datagram q.bit q.bits own.pair.k early place.good.early short place.good.inside few few'
    (first-bit (8 * logical_address task d) asked.bit (8 * (16777216 * (area.task + 1) + 2048 * q.datagram) + q.bit + own.pair.k) logical) in
    let fits = place-mappable members content.member content.index area mapping inside.task place in
    let begins = inside.begins in
    let read = fields area mapping (omega arith) fits in
    let good = place.good.inside in
    let address : mapping.address ≡ 16777216 * (area.task + 1) + 2048 * q.datagram = ap (λ (at : Mapping). at.address) (sym place.is) in
    let bit : mapping.bit ≡ q.bit = ap (λ (at : Mapping). at.bit) (sym place.is) in
    let names : long_at (mapped_bytes area mapping) 0 / 16777216 ≡ task + 1 =
    ap (λ (n : ℕ). n / 16777216) read.logical_start_address
    ∙ task-of mapping.address mapping.bit own.pair.k area.task q.datagram address place.good.early (omega (arith, bit, good)) ∙ ap (λ (t : ℕ). t + 1) (sym one.0) in
    ap (names_task task) (content.is ∙ ap (fmmu_bytes area) own.mapped)
    ∙ named-by area mapping task (eq-eqb (long_at (mapped_bytes area mapping) 0 / 16777216) (task + 1) names)
  where
    first-bit : (a bit b : ℕ) → a + bit ≡ b → a + 0 + bit ≡ b
    first-bit a bit b same = omega arith

-- the block of the line with an FMMU's number is such a content

pub block-content : (state : State) (block : LineBlock) (index : ℕ) → IsConfigurable state → Contains (line_blocks (line state)) block → block.number ≡ 2 * index + 1 → IsAreaContent block.block.bytes
block-content state block index can has number =
    let members = line state in
    let found =
    joined-some (λ (m : Member). slice_get (slave_blocks members m) block.number) (find (is_at block.station) members) block.block
    (configured-block members members block (project-distinct state.groups can.project) has) in
    let member = found.0 in
    let own = odd-block members member index block.block (ap (slice_get (slave_blocks members member)) (sym number) ∙ found.2) in
    record {
      state = state;
      can = can;
      member = member;
      index = index;
      area = own.0;
      in_line = found-all (Contains members) (is_at block.station) members member (All-contains_itself members) found.1;
      in_record = own.1;
      is = ap (λ (b : RegisterBlock). b.bytes) own.2;
    }

-- an accepted edit leaves a line that can be configured

none-if : (found : Option ℕ) → is_some found ≡ false → found ≡ None
none-if None none = refl
none-if (Some n) none = cc

pub edited-configurable : (state : State) (edit : Edit) → IsConfigurable state → lowest (edit_faults state edit) ≡ None → IsConfigurable (state_after state edit)
edited-configurable state edit can none =
    let next = changed state edit in
    let accepted : edited state edit ≡ Ok next = ap (λ (fault : Option EditFault). refused_by fault next) none in
    let over_limit = over_limit_task (line next) in
    let last : List (Bool × EditFault) = (state.epoch == LAST_EPOCH, EpochsSpent) ∷ late_faults state edit in
    let free =
    passed (is_some over_limit) (TooManyDatagrams (unwrap_or over_limit 0)) last
    (none_after (own_faults state edit) ((is_some over_limit, TooManyDatagrams (unwrap_or over_limit 0)) ∷ last) none) in
    let can_next : IsConfigurable next = record { project = accepted-project state next edit can.project accepted; uncrowded = none-if over_limit free.0 } in
    subst IsConfigurable (sym (ap after_by accepted)) can_next
  where
    after_by : Result State EditFault → State
    after_by result = result_unwrap_or result state

-- each record

pub record IsSound (history : History) : Type 0 where
  pub can : IsConfigurable (state_of history)
  pub contents : (station index : ℕ) → All IsAreaContent (may_hold history station (2 * index + 1)).contents
  pub writes : (station index : ℕ) (write : ℕ × List ℕ) → last_write history station (2 * index + 1) ≡ Some write → IsAreaContent write.1

abbrev Sound : History → Type 0
Sound history = IsConfigurable (opened (opened_with history)) → IsSound history

among-content : (history : History) (blocks : List LineBlock) (station index : ℕ) (block : LineBlock) → IsConfigurable (state_of history) → IsWrite history blocks
    → block_among station (2 * index + 1) blocks ≡ Some block → IsAreaContent block.block.bytes
among-content history blocks station index block can accepted among =
    let own = find-is (Contains (line_blocks (line_of history))) (λ (other : LineBlock). same_item (Block station (2 * index + 1)) (block_item other)) blocks block (written-inside history blocks accepted) among in
    block-content (state_of history) block index can own.0 (sym (same_name station (2 * index + 1) block own.1).1)

wrote-held : (found : Option LineBlock) (held : MayHold) → ((block : LineBlock) → found ≡ Some block → IsAreaContent block.block.bytes) → All IsAreaContent held.contents
    → All IsAreaContent (held_after_write found held).contents
wrote-held None held own before = before
wrote-held (Some block) held own before = All-cons IsAreaContent block.block.bytes held.contents (own block refl) before

wrote-last : (serial : ℕ) (found : Option LineBlock) (last : Option (ℕ × List ℕ)) (write : ℕ × List ℕ) → ((block : LineBlock) → found ≡ Some block → IsAreaContent block.block.bytes)
    → (last ≡ Some write → IsAreaContent write.1) → option_or (option_map (write_of serial) found) last ≡ Some write → IsAreaContent write.1
wrote-last serial None last write own before is = before is
wrote-last serial (Some block) last write own before is =
    let same : write_of serial block ≡ write = cc in
    subst IsAreaContent (ap (λ (w : ℕ × List ℕ). w.1) same) (own block refl)

answered-held : (good : Bool) (write : Option (ℕ × List ℕ)) (held : MayHold) → ((found : ℕ × List ℕ) → write ≡ Some found → IsAreaContent found.1) → All IsAreaContent held.contents
    → All IsAreaContent (held_after_answer good write held).contents
answered-held true None held own before = All-nil IsAreaContent
answered-held true (Some found) held own before = All-cons IsAreaContent found.1 [] (own found refl) (All-nil IsAreaContent)
answered-held false write held own before = before

cleared-held : (own : Bool) (held : MayHold) → All IsAreaContent held.contents → All IsAreaContent (cond own cleared_register held).contents
cleared-held true held before = All-nil IsAreaContent
cleared-held false held before = before

kept-if : (here : Bool) (last : Option (ℕ × List ℕ)) (write : ℕ × List ℕ) → (last ≡ Some write → IsAreaContent write.1) → cond here last None ≡ Some write → IsAreaContent write.1
kept-if true last write before is = before is
kept-if false last write before is = cc

kept-unless : (own : Bool) (last : Option (ℕ × List ℕ)) (write : ℕ × List ℕ) → (last ≡ Some write → IsAreaContent write.1) → cond own None last ≡ Some write → IsAreaContent write.1
kept-unless true last write before is = cc
kept-unless false last write before is = before is

sound-stays : StaysTrue Sound
sound-stays history (Opened groups) accepted before = absurd accepted
sound-stays history (Edited edit) accepted before = λ can.
    let b = before can in
    record {
      can = edited-configurable (state_of history) edit b.can accepted;
      contents = b.contents;
      writes = λ station index write is. kept-if (is_in_line history station) (last_write history station (2 * index + 1)) write (b.writes station index write) is;
    }
sound-stays history (Posted task bytes) accepted before = λ can. let b = before can in record { can = b.can; contents = b.contents; writes = b.writes }
sound-stays history (Sent frame) accepted before = λ can. let b = before can in record { can = b.can; contents = b.contents; writes = b.writes }
sound-stays history (Wrote blocks) accepted before = λ can.
    let b = before can in
    record {
      can = b.can;
      contents = λ station index.
          wrote-held (block_among station (2 * index + 1) blocks) (may_hold history station (2 * index + 1)) (λ block among. among-content history blocks station index block b.can accepted among) (b.contents station index);
      writes = λ station index write is.
          wrote-last (next_serial history) (block_among station (2 * index + 1) blocks) (last_write history station (2 * index + 1)) write
          (λ block among. among-content history blocks station index block b.can accepted among) (b.writes station index write) is;
    }
sound-stays history (Came arrival) accepted before = λ can.
    let b = before can in
    record {
      can = b.can;
      contents = λ station index.
          answered-held (list_any (confirms (Block station (2 * index + 1))) (judged_by history arrival)) (last_write history station (2 * index + 1)) (may_hold history station (2 * index + 1))
          (λ found is. b.writes station index found is) (b.contents station index);
      writes = b.writes;
    }
sound-stays history (Forgot other) accepted before = λ can.
    let b = before can in
    record {
      can = b.can;
      contents = b.contents;
      writes = λ station index write is. kept-unless (station == other) (last_write history station (2 * index + 1)) write (b.writes station index write) is;
    }
sound-stays history (Cleared other) accepted before = λ can.
    let b = before can in
    record {
      can = b.can;
      contents = λ station index. cleared-held (station == other) (may_hold history station (2 * index + 1)) (b.contents station index);
      writes = b.writes;
    }
sound-stays history (Unplugged other) accepted before = λ can. let b = before can in record { can = b.can; contents = b.contents; writes = b.writes }

just-sound : (groups : List Group) → Sound (just_opened groups)
just-sound groups can = record { can = can; contents = λ station index. All-nil IsAreaContent; writes = λ station index write is. cc }

pub record-sound : (history : History) → IsRecord history → IsSound history
record-sound history is = held-of_accepted Sound sound-stays just-sound history is.reachable.accepted is.opening

pub record-configurable : RecordsAreConfigurable
record-configurable history is = (record-sound history is).can
