-- The parts of a core stay right after each arrival.
use Rattle.std.proofs.Common.{◌≡◌, ℕ, ◌<◌, ◌≤◌, arith, ◌==◌, true, false, cond, Option, List, [], ◌∷◌, ◌++◌, find, map, refl, sym, ap, ◌∙◌, subst, Some, None, rules}
use Rattle.std.specs.Prelude.{All, fold, option_map}
use Rattle.std.specs.List.{list_any, zip}
use Rattle.std.specs.Option.{option_map_or, option_or}
use Rattle.std.proofs.lemmas.Bool.{not-true}
use Rattle.std.proofs.lemmas.List.Elements.{All-head, All-tail, All-weaker}
use Rattle.std.proofs.lemmas.Option.{same_Some}
use Rattle.hc_records.specs.declared.limits.TheConstants.{MOST_DATAGRAMS, MOST_DATAGRAM_BYTES}
use Rattle.hc_records.specs.Edits.{over_limit_task}
use Rattle.hc_records.specs.TaskList.{task_list}
use Rattle.hc_records.proofs.lemmas.Addresses.{uncrowded-few}
use Rattle.hc_records.proofs.lemmas.Lengths.{length-sendable}
use Rattle.hc_records.proofs.lemmas.Packable.{project-packable}
use Rattle.hc_records.specs.Line.{Member, groups_of, line}
use Rattle.hc_records.proofs.lemmas.Choices.{by_bool}
use Rattle.hc_records.specs.Project.{lowest_fault}
use Rattle.hc_events.specs.Arrivals.{Arrival}
use Rattle.hc_events.specs.Accepted.{AreAccepted, IsInLine}
use Rattle.hc_events.specs.Entries.{HistoryEntry, History, Opened, Sent, Came}
use Rattle.hc_events.specs.Heads.{Block, Head, is_block}
use Rattle.hc_events.specs.Points.{epoch_of, line_of, state_of}
use Rattle.hc_events.specs.Steady.{SteadyData, steady_slot}
use Rattle.hc_events.specs.Answering.{Sending, is_stale_to, judge, judged_by}
use Rattle.hc_events.specs.Awaited.{awaited, is_write_sending}
use Rattle.hc_events.specs.Images.{FitsImage, NewAnswer, new_answer_by, renewed}
use Rattle.hc_events.specs.Holding.{held_after_answer, is_unplugged, may_hold}
use Rattle.hc_events.specs.Owed.{confirms, known_bytes, last_write, write_of}
use Rattle.hc_events.specs.declared.answer.Outcome.{Outcome}
use Rattle.hc_events.proofs.lemmas.SameAfter.{same-says, same-stale}
use Rattle.hc_events.proofs.lemmas.Slots.{AllSent, FitsNewAnswer, new_answer-fits}
use Rattle.hc_sendings.proofs.lemmas.Listed.{standing-task}
use Rattle.hc_events.proofs.lemmas.WithoutStale.{good_answers-of_updates}
use Rattle.hc_events.proofs.lemmas.Confirmed.{confirmed-last}
use Rattle.hc_events.proofs.lemmas.LastWrites.{awaited-last, known-framed, not-frame}
use Rattle.hc_sendings.specs.declared.writes.AwaitedBlock.{AwaitedBlock}
use Rattle.hc_sendings.specs.Judging.{Due, block_due, blocks_with, due_of, found_frame, found_write, frame_due, write_due, written_head}
use Rattle.hc_sendings.specs.History.{KeepsAwaited, dues_of}
use Rattle.hc_sendings.proofs.lemmas.Dues.{heads-back}
use Rattle.hc_sendings.specs.Waiting.{all_writes, AwaitedDatagram, AwaitedFrame, AwaitedWrite, ended, Waiting}
use Rattle.hc_images.specs.Image.{DatagramImage, data_of}
use Rattle.hc_owed.specs.declared.area.JudgedArea.{JudgedArea}
use Rattle.hc_owed.specs.Readiness.{readiness_of}
use Rattle.hc_owed.specs.RegisterState.{RegisterState, register_state_of}
use Rattle.hc_core.proofs.AreasKept.{areas-alike, areas-written, same-hold}
use Rattle.hc_core.proofs.Awaits.{waits-ended, waits-stale}
use Rattle.hc_core.proofs.Posts.{values-came}
use Rattle.hc_core.proofs.Known.{unchanged-alike, known-written}
use Rattle.hc_core.proofs.Update.{updates-came, updates-none}
use Rattle.hc_core.proofs.AnswerGiven.{ShowsInputs, ShowsWrites, answer_given-writes}
use Rattle.hc_core.specs.Agreement.{Agree, CoreParts}
use Rattle.hc_core.specs.GoodAnswers.{change_of, good_answers_in}
use Rattle.hc_core.proofs.SteadyReads.{ages-after, none-steadied, slots-after}
use Rattle.hc_core.specs.Ages.{Ages, age_of, aged, data_age, steady_age}
use Rattle.hc_core.specs.Chosen.{AreWriteOutcomes, CanConfirm, IsAwaitedAt, known_done}
use Rattle.hc_core.specs.Held.{CanConfirmAreas, held_done}
use Rattle.hc_core.specs.Waits.{Waits}

-- a stale arrival

pub none-new_answer : (history : History) (arrival : Arrival) → is_stale_to history arrival ≡ true → new_answer_by history arrival ≡ []
none-new_answer history arrival stale = search (rules, good_answers-of_updates, not-true)

pub agree-stale : (unchanged : CoreParts) (history taken : History) (arrival : Arrival) → is_stale_to history arrival ≡ true → Agree unchanged history taken → Agree unchanged (Came arrival ∷ history) taken
agree-stale unchanged history taken arrival stale agree =
    let says = same-says (Came arrival ∷ history) history (same-stale history arrival stale) in
    record {
      accepted = (tt, agree.accepted);
      state = agree.state;
      project = agree.project;
      uncrowded = agree.uncrowded;
      serial = agree.serial;
      left = agree.left;
      waits = waits-stale history unchanged.awaited arrival stale agree.waits;
      slots = λ task d low below. agree.slots task d low below ∙ sym (ap (option_map (λ (found : SteadyData). found.bytes)) (says.steady task d));
      dates = λ task d low below. agree.dates task d low below ∙ sym (ap (option_map data_age) (says.steady task d));
      epochs = λ task low. agree.epochs task low ∙ sym (says.epochs task);
      values = values-came history arrival unchanged.outputs agree.values;
      known = agree.known ∙ unchanged-alike (known_bytes history) (known_bytes (Came arrival ∷ history)) (state_of history) (λ station number. sym (says.known station number));
      ready = areas-alike unchanged.readiness (known_bytes history) (may_hold history) (is_unplugged history) (Came arrival ∷ history) agree.ready (λ station number. sym (says.known station number))
          (λ station number. same-hold (may_hold history station number) (may_hold (Came arrival ∷ history) station number) (sym (says.held station number))) (λ station. sym (says.unplugged station));
      shows = updates-none taken history arrival unchanged.changes (none-new_answer history arrival stale) agree.shows;
    }

all_sent : (history : History) → AreAccepted history → AllSent IsInLine history
all_sent [] all = absurd all
all_sent (Opened groups ∷ history) all = tt
all_sent (Sent frame ∷ history) all = (all.0.in_line, all_sent history all.1)
all_sent (other ∷ history) all = all_sent history all.1

-- an arrival that answers a frame of tasks

held_framed : (history : History) (arrival : Arrival) (sending : Sending) → awaited history arrival.serial ≡ Some sending → is_write_sending sending ≡ false
    → (station number : ℕ) → may_hold history station number ≡ may_hold (Came arrival ∷ history) station number
held_framed history arrival sending there frame station number =
    by_bool (list_any (confirms (Block station number)) (judged_by history arrival))
    (λ t. let never : false ≡ true = sym frame ∙ not-frame sending station number (awaited-last history station number (write_of arrival.serial (confirmed-last history arrival station number t).block) sending (confirmed-last history arrival station number t).last there) in cc)
    (λ t. sym (ap (λ b. held_after_answer b (last_write history station number) (may_hold history station number)) t))

pub agree-inputs : (unchanged : CoreParts) (history taken : History) (arrival : Arrival) (outcomes : List Outcome) (inputs : DatagramImage) (ages : Ages) (epoch : ℕ) → ShowsInputs history arrival outcomes → epoch ≡ epoch_of history
    → ((task d : ℕ) → d < MOST_DATAGRAMS → data_of inputs task d ≡ fold (renewed task d) (data_of unchanged.inputs task d) (good_answers_in outcomes arrival.parts))
    → ((task d : ℕ) → d < MOST_DATAGRAMS → age_of ages task d ≡ fold (aged (record { serial = arrival.serial; epoch = epoch }) task d) (age_of unchanged.ages task d) (good_answers_in outcomes arrival.parts)) → Agree unchanged history taken
    → Agree (record unchanged { awaited = ended arrival.serial unchanged.awaited; inputs = inputs; ages = ages; changes = unchanged.changes ++ map change_of (good_answers_in outcomes arrival.parts) }) (Came arrival ∷ history) taken
agree-inputs unchanged history taken arrival outcomes inputs ages epoch shows now puts dates agree = record {
  accepted = (tt, agree.accepted);
  state = agree.state;
  project = agree.project;
  uncrowded = agree.uncrowded;
  serial = agree.serial;
  left = agree.left;
  waits = waits-ended history unchanged.awaited arrival agree.waits shows.updates;
  slots = λ task d low below.
      puts task d below ∙ ap (λ start. fold (renewed task d) start (good_answers_in outcomes arrival.parts)) (agree.slots task d low below)
      ∙ ap (fold (renewed task d) (steady_slot history task d)) (sym shows.good_answers) ∙ sym (slots-after history arrival task d);
  dates = λ task d low below.
      dates task d below ∙ ap (λ start. fold (aged (record { serial = arrival.serial; epoch = epoch }) task d) start (good_answers_in outcomes arrival.parts)) (agree.dates task d low below)
      ∙ ap (fold (aged (record { serial = arrival.serial; epoch = epoch }) task d) (steady_age history task d)) (sym shows.good_answers) ∙ sym (ages-after history arrival epoch task d now);
  epochs = agree.epochs;
  values = values-came history arrival unchanged.outputs agree.values;
  known = search (rules, unchanged-alike, known-framed);
  ready = areas-alike unchanged.readiness (known_bytes history) (may_hold history) (is_unplugged history) (Came arrival ∷ history) agree.ready
      (λ station number. sym (known-framed history arrival shows.sending shows.there shows.frame station number))
      (λ station number. same-hold (may_hold history station number) (may_hold (Came arrival ∷ history) station number) (held_framed history arrival shows.sending shows.there shows.frame station number)) (λ station. refl);
  shows = updates-came taken history arrival unchanged.changes (good_answers_in outcomes arrival.parts) shows.good_answers (new_answer-fits IsInLine history arrival (all_sent history agree.accepted)) agree.shows;
}

-- an arrival that answers a frame of register writes

-- the stored write with the arrival's serial is the one that is awaited

pub record IsUnchangedWith (history : History) (unchanged : Waiting) (arrival : Arrival) : Type 0 where
  pub write : AwaitedWrite
  pub found : found_write arrival.serial unchanged ≡ Some write
  pub since : List HistoryEntry
  pub judged_as : judged_by history arrival ≡ map (judge since) (zip (map written_head write.blocks) arrival.parts)

heads_of : (blocks : List AwaitedBlock) → map (λ (due : Due). due.head) (map block_due blocks) ≡ map written_head blocks
heads_of [] = refl
heads_of (block ∷ blocks) = ap (λ (heads : List Head). written_head block ∷ heads) (heads_of blocks)

data_plain : (members : List Member) (carried : List AwaitedDatagram) → list_any (λ (head : Head). is_block head.item) (map (λ (due : Due). due.head) (map (due_of members) carried)) ≡ false
data_plain members [] = refl
data_plain members (one ∷ carried) = data_plain members carried

same_due : (a b : List Due) → Some a ≡ Some b → a ≡ b
same_due a b e = same_Some a b e

unchanged_by : (history : History) (unchanged : Waiting) (arrival : Arrival) (shows : ShowsWrites history arrival) (found : Option AwaitedWrite) → found_write arrival.serial unchanged ≡ found
    → option_or (option_map write_due found) (option_map (frame_due (line_of history)) (found_frame arrival.serial unchanged)) ≡ Some (dues_of shows.is.awaits.sending) → IsUnchangedWith history unchanged arrival
unchanged_by history unchanged arrival shows None is due = absurd (no_frame (found_frame arrival.serial unchanged) due)
  where
    no_frame : (frame : Option AwaitedFrame) → option_map (frame_due (line_of history)) frame ≡ Some (dues_of shows.is.awaits.sending) → ⊥
    no_frame None e = cc
    no_frame (Some frame) e =
        let same = same_due (frame_due (line_of history) frame) (dues_of shows.is.awaits.sending) e in
        let heads : map (λ (due : Due). due.head) (frame_due (line_of history) frame) ≡ shows.is.awaits.sending.heads =
        ap (map (λ (due : Due). due.head)) same ∙ heads-back shows.is.awaits.sending.since shows.is.awaits.sending.heads in
        let never : false ≡ true = sym (data_plain (line_of history) frame.datagrams) ∙ ap (list_any (λ (head : Head). is_block head.item)) heads ∙ shows.writes in
        cc
unchanged_by history unchanged arrival shows (Some write) is due =
    let sending = shows.is.awaits.sending in
    let heads : map written_head write.blocks ≡ sending.heads =
    sym (heads_of write.blocks) ∙ ap (map (λ (due : Due). due.head)) (same_due (write_due write) (dues_of sending) due) ∙ heads-back sending.since sending.heads in
    record {
      write = write;
      found = is;
      since = sending.since;
      judged_as = shows.is.judged_as ∙ ap (λ all. map (judge sending.since) (zip all arrival.parts)) (sym heads);
    }

pub unchanged-with : (history : History) (unchanged : Waiting) (arrival : Arrival) → KeepsAwaited history unchanged → ShowsWrites history arrival → IsUnchangedWith history unchanged arrival
unchanged-with history unchanged arrival waits shows =
    unchanged_by history unchanged arrival shows (found_write arrival.serial unchanged) refl (waits.due arrival.serial ∙ ap (option_map dues_of) shows.is.awaits.there)

-- its blocks are the line's

among_writes : (P : AwaitedWrite → Type 0) (serial : ℕ) (writes : List AwaitedWrite) (write : AwaitedWrite) → All P writes → find (λ (one : AwaitedWrite). one.serial == serial) writes ≡ Some write → P write
among_writes P serial [] write all e = cc
among_writes P serial (one ∷ writes) write all e =
    by_bool (one.serial == serial)
    (λ t. subst P (same_Some one write (sym (ap (λ b. cond b (Some one) (find (λ (one : AwaitedWrite). one.serial == serial) writes)) t) ∙ e)) (All-head P one writes all))
    (λ t. among_writes P serial writes write (All-tail P one writes all) (sym (ap (λ b. cond b (Some one) (find (λ (one : AwaitedWrite). one.serial == serial) writes)) t) ∙ e))

pub placed-with : (history : History) (unchanged : Waiting) (arrival : Arrival) → Waits history unchanged → (with : IsUnchangedWith history unchanged arrival) → All (IsAwaitedAt (state_of history)) with.write.blocks
placed-with history unchanged arrival waits with =
    among_writes (λ write. All (IsAwaitedAt (state_of history)) write.blocks) arrival.serial (all_writes unchanged) with.write waits.placed with.found

pub blocks-with : (history : History) (unchanged : Waiting) (arrival : Arrival) (with : IsUnchangedWith history unchanged arrival) → blocks_with arrival.serial unchanged ≡ with.write.blocks
blocks-with history unchanged arrival with = ap (λ found. option_map_or (λ (write : AwaitedWrite). write.blocks) found []) with.found

-- the blocks of the awaited write can be confirmed
abbrev pub can-confirm : (unchanged : CoreParts) (history taken : History) (arrival : Arrival) (shown : List AwaitedBlock) (with : IsUnchangedWith history unchanged.awaited arrival) → shown ≡ with.write.blocks → Agree unchanged history taken → CanConfirm unchanged.owed unchanged.plan shown
can-confirm unchanged history taken arrival shown with same agree = record {
  known = known_bytes history;
  state = state_of history;
  planned = agree.state;
  project = agree.project;
  right = agree.known;
  placed = subst (All (IsAwaitedAt (state_of history))) (sym same) (placed-with history unchanged.awaited arrival agree.waits with);
}

-- the areas of the awaited write's blocks can be confirmed
abbrev pub can-confirm_areas : (unchanged : CoreParts) (history taken : History) (arrival : Arrival) (shown : List AwaitedBlock) (with : IsUnchangedWith history unchanged.awaited arrival) → shown ≡ with.write.blocks → Agree unchanged history taken
    → CanConfirmAreas unchanged.readiness shown
can-confirm_areas unchanged history taken arrival shown with same agree = record {
  known = known_bytes history;
  held = may_hold history;
  unplugged = is_unplugged history;
  state = state_of history;
  project = agree.project;
  right = agree.ready;
  placed = subst (All (IsAwaitedAt (state_of history))) (sym same) (placed-with history unchanged.awaited arrival agree.waits with);
}

pub agree-written : (unchanged : CoreParts) (history taken : History) (arrival : Arrival) (outcomes : List Outcome) (owed : RegisterState) (readiness : List JudgedArea) → AreWriteOutcomes (judged_by history arrival) outcomes
    → (with : IsUnchangedWith history unchanged.awaited arrival) → owed ≡ register_state_of (known_done (state_of history) with.write.blocks outcomes (known_bytes history)) (state_of history)
    → readiness ≡ readiness_of (known_done (state_of history) with.write.blocks outcomes (known_bytes history)) (held_done (state_of history) with.write.blocks outcomes (may_hold history)) (is_unplugged history) (state_of history)
    → Agree unchanged history taken → Agree (record unchanged { awaited = ended arrival.serial unchanged.awaited; owed = owed; readiness = readiness }) (Came arrival ∷ history) taken
agree-written unchanged history taken arrival outcomes owed readiness written with confirmed ready agree =
    let shows = answer_given-writes history arrival outcomes written in
    let blocks = with.write.blocks in
    record {
      accepted = (tt, agree.accepted);
      state = agree.state;
      project = agree.project;
      uncrowded = agree.uncrowded;
      serial = agree.serial;
      left = agree.left;
      waits = waits-ended history unchanged.awaited arrival agree.waits shows.is.new_answer;
      slots = λ task d low below. agree.slots task d low below ∙ sym (ap (option_map (λ (found : SteadyData). found.bytes)) (none-steadied history arrival task d shows.none));
      dates = λ task d low below. agree.dates task d low below ∙ sym (ap (option_map data_age) (none-steadied history arrival task d shows.none));
      epochs = agree.epochs;
      values = values-came history arrival unchanged.outputs agree.values;
      known = confirmed
          ∙ unchanged-alike (known_done (state_of history) blocks outcomes (known_bytes history)) (known_bytes (Came arrival ∷ history)) (state_of history)
          (λ station number. sym (known-written history arrival with.since blocks outcomes agree.project agree.accepted with.judged_as written.exact station number));
      ready = areas-written readiness history arrival with.since blocks outcomes agree.project agree.accepted with.judged_as written.exact ready;
      shows = updates-none taken history arrival unchanged.changes shows.none agree.shows;
    }

-- good answers are of datagrams that tasks can have

image_fits : (history : History) → lowest_fault (groups_of (state_of history).groups) ≡ None → over_limit_task (line_of history) ≡ None → (good : NewAnswer) → FitsNewAnswer IsInLine (line_of history) good → FitsImage good
image_fits history project uncrowded good fit =
    let state = state_of history in
    let task = standing-task state good.task good.datagram project fit.1 in
    let few = uncrowded-few (line state) good.task uncrowded task in
    let most = (length-sendable (task_list good.task (line state)) good.datagram (project-packable state good.task project) fit.1).most in
    record { task = task; datagram = omega (arith, few, fit.1); few = subst (λ n. n ≤ MOST_DATAGRAM_BYTES) (sym fit.0) most }

pub good_answers-fit : (unchanged : CoreParts) (history taken : History) (arrival : Arrival) (good_answers : List NewAnswer) → Agree unchanged history taken → new_answer_by history arrival ≡ good_answers → All FitsImage good_answers
good_answers-fit unchanged history taken arrival good_answers agree same =
    subst (All FitsImage) same
    (All-weaker (FitsNewAnswer IsInLine (line_of history)) FitsImage (image_fits history agree.project agree.uncrowded) (new_answer_by history arrival) (new_answer-fits IsInLine history arrival (all_sent history agree.accepted)))
