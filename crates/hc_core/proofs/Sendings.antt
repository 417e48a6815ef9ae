-- The parts of a core stay right after frames of tasks and register writes.
use Rattle.std.proofs.Common.{◌≡◌, ℕ, suc, ◌+◌, ◌<◌, ◌≤◌, ◌⊎◌, inl, inr, List, [], ◌∷◌, length, map, refl, sym, ap, ◌∙◌, subst, arith, None}
use Rattle.std.specs.Prelude.{All}
use Rattle.hc_records.specs.Edits.{over_limit_task}
use Rattle.hc_records.specs.Line.{groups_of, line}
use Rattle.hc_records.specs.Project.{lowest_fault}
use Rattle.hc_records.specs.Lists.{lowest}
use Rattle.hc_frames.specs.declared.limits.TheConstants.{SETUP_SERIAL}
use Rattle.hc_events.specs.Accepted.{AreAccepted, IsFirstWrite, IsWrite}
use Rattle.hc_events.specs.Changes.{updates_of}
use Rattle.hc_events.specs.Entries.{History, Sent, Wrote}
use Rattle.hc_events.specs.Holding.{is_unplugged, may_hold}
use Rattle.hc_events.specs.Steady.{steady_slot, task_epoch}
use Rattle.hc_events.specs.Owed.{known_bytes, owed_blocks}
use Rattle.hc_events.specs.Points.{next_serial, state_of}
use Rattle.hc_events.specs.Sendings.{Frame, Named}
use Rattle.hc_events.specs.Steps.{SendsReady, SendsTasks, unless_fault, proposal, ready_faults, task_faults, with_sent}
use Rattle.hc_events.proofs.lemmas.Accepted.{accepted-more, unchanged-after}
use Rattle.hc_sendings.specs.Waiting.{Waiting, all_sent, awaited_block, wrote, wrote_further}
use Rattle.hc_sendings.specs.declared.write_frames.PlacedBlock.{PlacedBlock}
use Rattle.hc_sendings.specs.WriteFrames.{block_of}
use Rattle.hc_owed.specs.declared.area.JudgedArea.{JudgedArea}
use Rattle.hc_owed.specs.Readiness.{readiness_of}
use Rattle.hc_owed.specs.RegisterState.{RegisterState, register_state_of}
use Rattle.hc_core.proofs.AreasKept.{areas-alike, areas-wrote, same-hold}
use Rattle.hc_core.proofs.Awaits.{waits-wrote, waits-wrote_further}
use Rattle.hc_core.proofs.Posts.{values-sent, values-wrote}
use Rattle.hc_core.proofs.Known.{unchanged-alike, known-wrote}
use Rattle.hc_core.proofs.SentAll.{waits-all_sent}
use Rattle.hc_core.specs.Ages.{steady_age}
use Rattle.hc_core.specs.Agreement.{Agree, CoreParts}
use Rattle.hc_core.specs.Chosen.{IsLineBlock, known_sent}
use Rattle.hc_core.specs.Held.{held_sent}
use Rattle.hc_core.proofs.Rooms.{same-length}
use Rattle.hc_core.specs.Waits.{Waits}

-- frames say nothing of most that a record says

sent_alike : {X : Type 0} (of : History → X) → ((history : History) (frame : List Named) → of (Sent frame ∷ history) ≡ of history) → (frames : List Frame) (history : History) → of (with_sent history frames) ≡ of history
sent_alike of same [] history = refl
sent_alike of same (frame ∷ frames) history = sent_alike of same frames (Sent frame.datagrams ∷ history) ∙ same history frame.datagrams

one_more : (n count : ℕ) → (n + 1) + count ≡ n + suc count
one_more n count = omega arith

none_more : (n : ℕ) → n ≡ n + 0
none_more n = omega arith

serial_sent : (frames : List Frame) (history : History) → next_serial (with_sent history frames) ≡ next_serial history + length frames
serial_sent [] history = none_more (next_serial history)
serial_sent (frame ∷ frames) history = serial_sent frames (Sent frame.datagrams ∷ history) ∙ one_more (next_serial history) (length frames)

-- nothing refuses to send the tasks, or to send them as ready tasks
abbrev pub NothingRefuses : History → List ℕ → Type 0
NothingRefuses history tasks = (lowest (task_faults history tasks) ≡ None) ⊎ (lowest (ready_faults history tasks) ≡ None)

accepted_sent : (history : History) (tasks : List ℕ) → NothingRefuses history tasks → AreAccepted history → AreAccepted (with_sent history (proposal history tasks))
accepted_sent history tasks (inl none) all =
    subst AreAccepted (ap (λ refused. unless_fault refused history (with_sent history (proposal history tasks))) none) (unchanged-after AreAccepted accepted-more history (SendsTasks tasks) all)
accepted_sent history tasks (inr none) all =
    subst AreAccepted (ap (λ refused. unless_fault refused history (with_sent history (proposal history tasks))) none) (unchanged-after AreAccepted accepted-more history (SendsReady tasks) all)

pub agree-sent : (unchanged : CoreParts) (history taken : History) (tasks : List ℕ) → NothingRefuses history tasks → unchanged.serial + length (proposal history tasks) ≤ SETUP_SERIAL → Agree unchanged history taken
    → Agree (record unchanged { awaited = all_sent unchanged.awaited (proposal history tasks); serial = unchanged.serial + length (proposal history tasks) }) (with_sent history (proposal history tasks)) taken
agree-sent unchanged history taken tasks none left agree =
    let frames = proposal history tasks in
    let same : state_of (with_sent history frames) ≡ state_of history = sent_alike state_of (λ before frame. refl) frames history in
    let accepted = accepted_sent history tasks none agree.accepted in
    record {
      accepted = accepted;
      state = agree.state ∙ sym same;
      project = ap (λ state. lowest_fault (groups_of state.groups)) same ∙ agree.project;
      uncrowded = ap (λ state. over_limit_task (line state)) same ∙ agree.uncrowded;
      serial = ap (λ n. n + length frames) agree.serial ∙ sym (serial_sent frames history);
      left = left;
      waits = waits-all_sent history unchanged.awaited tasks agree.waits;
      slots = λ task d low below. agree.slots task d low below ∙ sym (sent_alike (λ before. steady_slot before task d) (λ before frame. refl) frames history);
      dates = λ task d low below. agree.dates task d low below ∙ sym (sent_alike (λ before. steady_age before task d) (λ before frame. refl) frames history);
      epochs = λ task low. agree.epochs task low ∙ sym (sent_alike (λ before. task_epoch before task) (λ before frame. refl) frames history);
      values = values-sent frames history unchanged.outputs agree.values;
      known = agree.known
          ∙ unchanged-alike (known_bytes history) (known_bytes (with_sent history frames)) (state_of history) (λ station number. sym (sent_alike (λ before. known_bytes before station number) (λ before frame. refl) frames history))
          ∙ ap (register_state_of (known_bytes (with_sent history frames))) (sym same);
      ready = areas-alike unchanged.readiness (known_bytes history) (may_hold history) (is_unplugged history) (with_sent history frames)
          (agree.ready ∙ ap (readiness_of (known_bytes history) (may_hold history) (is_unplugged history)) (sym same))
          (λ station number. sym (sent_alike (λ before. known_bytes before station number) (λ before frame. refl) frames history))
          (λ station number. same-hold (may_hold history station number) (may_hold (with_sent history frames) station number) (sym (sent_alike (λ before. may_hold before station number) (λ before frame. refl) frames history)))
          (λ station. sym (sent_alike (λ before. is_unplugged before station) (λ before frame. refl) frames history));
      shows = record {
        updates = sent_alike updates_of (λ before frame. refl) frames history ∙ agree.shows.updates;
        legal = agree.shows.legal;
        exact = agree.shows.exact;
        after_it = agree.shows.after_it ∙ sym same;
      };
    }

-- a frame of register writes

one_left : (n most : ℕ) → n < most → n + 1 ≤ most
one_left n most less = omega (arith, less)

agree_after : (unchanged : CoreParts) (history taken : History) (placed : List PlacedBlock) (waiting : Waiting) (owed : RegisterState) (readiness : List JudgedArea) → IsWrite history (map block_of placed) → All (IsLineBlock (state_of history)) placed
    → unchanged.serial < SETUP_SERIAL → Waits (Wrote (map block_of placed) ∷ history) waiting → owed ≡ register_state_of (known_sent placed (known_bytes history)) (state_of history)
    → readiness ≡ readiness_of (known_sent placed (known_bytes history)) (held_sent placed (may_hold history)) (is_unplugged history) (state_of history) → Agree unchanged history taken
    → Agree (record unchanged { awaited = waiting; owed = owed; readiness = readiness; serial = unchanged.serial + 1 }) (Wrote (map block_of placed) ∷ history) taken
agree_after unchanged history taken placed waiting owed readiness write at left waits sent ready agree = record {
  accepted = (write, agree.accepted);
  state = agree.state;
  project = agree.project;
  uncrowded = agree.uncrowded;
  serial = ap (λ m. m + 1) agree.serial;
  left = one_left unchanged.serial SETUP_SERIAL left;
  waits = waits;
  slots = agree.slots;
  dates = agree.dates;
  epochs = agree.epochs;
  values = values-wrote history (map block_of placed) unchanged.outputs agree.values;
  known = sent ∙ unchanged-alike (known_sent placed (known_bytes history)) (known_bytes (Wrote (map block_of placed) ∷ history)) (state_of history) (λ station number. sym (known-wrote history placed station number));
  ready = areas-wrote readiness history placed agree.project at ready;
  shows = record { updates = agree.shows.updates; legal = agree.shows.legal; exact = agree.shows.exact; after_it = agree.shows.after_it };
}

-- of the first owed blocks
pub agree-wrote : (unchanged : CoreParts) (history taken : History) (placed : List PlacedBlock) (owed : RegisterState) (readiness : List JudgedArea) → IsWrite history (map block_of placed) → IsFirstWrite (owed_blocks history) (map block_of placed)
    → All (IsLineBlock (state_of history)) placed → unchanged.serial < SETUP_SERIAL
    → owed ≡ register_state_of (known_sent placed (known_bytes history)) (state_of history)
    → readiness ≡ readiness_of (known_sent placed (known_bytes history)) (held_sent placed (may_hold history)) (is_unplugged history) (state_of history) → Agree unchanged history taken
    → Agree (record unchanged { awaited = wrote unchanged.serial (map awaited_block placed) unchanged.awaited; owed = owed; readiness = readiness; serial = unchanged.serial + 1 }) (Wrote (map block_of placed) ∷ history) taken
agree-wrote unchanged history taken placed owed readiness write first at left sent ready agree =
    agree_after unchanged history taken placed (wrote unchanged.serial (map awaited_block placed) unchanged.awaited) owed readiness write at left
    (subst (λ m. Waits (Wrote (map block_of placed) ∷ history) (wrote m (map awaited_block placed) unchanged.awaited)) (sym agree.serial)
    (waits-wrote history unchanged.awaited placed (subst (λ n. 0 < n) (same-length placed) write.some) first at agree.waits)) sent ready agree

-- of further ones
pub agree-wrote_further : (unchanged : CoreParts) (history taken : History) (placed : List PlacedBlock) (owed : RegisterState) (readiness : List JudgedArea) → IsWrite history (map block_of placed)
    → All (IsLineBlock (state_of history)) placed → unchanged.serial < SETUP_SERIAL
    → owed ≡ register_state_of (known_sent placed (known_bytes history)) (state_of history)
    → readiness ≡ readiness_of (known_sent placed (known_bytes history)) (held_sent placed (may_hold history)) (is_unplugged history) (state_of history) → Agree unchanged history taken
    → Agree (record unchanged { awaited = wrote_further unchanged.serial (map awaited_block placed) unchanged.awaited; owed = owed; readiness = readiness; serial = unchanged.serial + 1 }) (Wrote (map block_of placed) ∷ history) taken
agree-wrote_further unchanged history taken placed owed readiness write at left sent ready agree =
    agree_after unchanged history taken placed (wrote_further unchanged.serial (map awaited_block placed) unchanged.awaited) owed readiness write at left
    (subst (λ m. Waits (Wrote (map block_of placed) ∷ history) (wrote_further m (map awaited_block placed) unchanged.awaited)) (sym agree.serial)
    (waits-wrote_further history unchanged.awaited placed (subst (λ n. 0 < n) (same-length placed) write.some) at agree.waits)) sent ready agree
