-- Beside an awaited register write no frame of tasks is awaited, as long as no slave was forgotten: something is owed where a write is awaited, and nothing where a frame of tasks is.
use Rattle.std.proofs.Common.{◌≡◌, ℕ, suc, ◌<◌, ◌≤◌, ◌==◌, nat_lt, true, false, List, [], ◌∷◌, ◌++◌, length, refl, sym, ap, ◌∙◌, subst, arith, Some}
use Rattle.std.specs.Prelude.{All}
use Rattle.std.specs.List.{list_all, list_any}
use Rattle.std.proofs.lemmas.Bool.Decides.{nat_tests}
use Rattle.std.proofs.lemmas.Bool.{and_parts, eqb-true}
use Rattle.std.proofs.lemmas.List.{length-map}
use Rattle.std.proofs.lemmas.List.Elements.{All-head, All-nil}
use Rattle.std.proofs.lemmas.Option.{none-some}
use Rattle.hc_records.specs.declared.records.Group.{Group}
use Rattle.hc_records.proofs.lemmas.Choices.{by_bool}
use Rattle.hc_registers.specs.Blocks.{LineBlock, line_blocks}
use Rattle.hc_events.specs.declared.sending.TheConstants.{FRAME_BLOCKS}
use Rattle.hc_events.specs.Entries.{HistoryEntry, History, Opened, Edited, Posted, Sent, Wrote, Came, Forgot, Cleared, Unplugged}
use Rattle.hc_events.specs.Points.{line_of, next_serial}
use Rattle.hc_events.specs.Heads.{block_item, is_block, write_head, write_heads}
use Rattle.hc_events.specs.Answering.{Sending, ends, is_forgetting, sending_of}
use Rattle.hc_events.specs.Awaited.{all_outdated, awaited, is_write_sending}
use Rattle.hc_events.specs.Owed.{is_owed, owed_blocks}
use Rattle.hc_events.specs.Accepted.{AreAccepted, IsWrite, carries_first, just_opened}
use Rattle.hc_events.specs.AnswerLaws.{HasOwnNames, sent_programmed}
use Rattle.hc_events.specs.Forgetting.{writes_one}
use Rattle.hc_events.proofs.lemmas.Accepted.{StaysTrue, held-of_accepted}
use Rattle.hc_events.proofs.lemmas.Answers.{accepted-at, still_awaited-is, written-inside}
use Rattle.hc_events.proofs.lemmas.Awaited.{awaited_edited}
use Rattle.hc_events.proofs.lemmas.BlockSizes.{write-few}
use Rattle.hc_events.proofs.lemmas.Fronts.{is_named, written-all}
use Rattle.hc_events.proofs.lemmas.Live.{live-owed}
use Rattle.hc_events.proofs.lemmas.OneWrite.{NotAgain, filter_none, new_wrote, not-owed_stays, older_wrote, still_came, still_other, write_was}
use Rattle.hc_events.proofs.lemmas.TwoWrites.{InLine, line-stays, named-passing, some-live, two-writes, wrote-at}

-- a frame of writes that is awaited has a block that is owed

pub record IsOwedOne (history : History) : Type 0 where
  pub block : LineBlock
  pub inside : InLine (line_of history) block
  pub owed : is_owed history block ≡ true

pub awaited-owes : (history : History) (serial : ℕ) (write : Sending) → AreAccepted history → awaited history serial ≡ Some write → is_write_sending write ≡ true → IsOwedOne history
awaited-owes history serial write all e w =
    let still_awaited = still_awaited-is serial (sending_of history serial) write e in
    let made = still_awaited.made in
    let at = wrote-at history serial made still_awaited.there (ap (λ (s : Sending). list_any (λ head. is_block head.item) s.heads) still_awaited.same ∙ w) in
    let accepted : IsWrite at.before at.blocks = accepted-at made.since at.before (Wrote at.blocks) at.running refl (subst AreAccepted at.split all) in
    let going : list_any (ends serial (write_heads at.blocks)) made.since ≡ false = ap (λ heads. list_any (ends serial heads) made.since) (sym at.heads) ∙ still_awaited.goes_on in
    let line : line_of history ≡ line_of at.before = ap line_of at.split ∙ line-stays made.since (Wrote at.blocks ∷ at.before) serial (write_heads at.blocks) at.running going in
    let live = some-live (InLine (line_of at.before)) made.since at.blocks (written-inside at.before at.blocks accepted) (ap (all_outdated made.since) (sym at.heads) ∙ still_awaited.updates) in
    record {
      block = live.block;
      inside = subst (λ members. InLine members live.block) (sym line) live.known;
      owed = ap (λ entries. is_owed entries live.block) at.split
          ∙ live-owed made.since at.before at.blocks live.block live.sent at.running (ap (λ n. list_any (ends n (write_heads at.blocks)) made.since) at.serial_is ∙ going) live.live;
    }

none_named : (history : History) (one : IsOwedOne history) → owed_blocks history ≡ [] → ⊥
none_named history one none =
    let named = named-passing (is_owed history) one.block one.owed (line_blocks (line_of history)) one.inside in
    let never : true ≡ false = sym named ∙ ap (is_named (block_item one.block)) none in cc

-- where a frame of tasks is awaited nothing is owed

record TasksOweNothing (history : History) : Type 0 where
  holds : (serial : ℕ) (now : Sending) → awaited history serial ≡ Some now → is_write_sending now ≡ false → list_any is_forgetting history ≡ false → sent_programmed history ≡ true → owed_blocks history ≡ []

older_tasks : (history : History) (entry : HistoryEntry) (serial : ℕ) (now : Sending) → TasksOweNothing history → owed_blocks (entry ∷ history) ≡ owed_blocks history → NotAgain history serial entry now → is_write_sending now ≡ false
    → list_any is_forgetting history ≡ false → sent_programmed history ≡ true → owed_blocks (entry ∷ history) ≡ []
older_tasks history entry serial now before same still w none programmed =
    same ∙ before.holds serial still.was.before still.was.there (write_was now still.was.before still.was.heads ∙ w) none programmed

below-true : (a b : ℕ) → nat_lt a b ≡ true → a < b
below-true a b t = grind (arith, nat_tests)

neither : (a b : ℕ) → nat_lt a b ≡ false → nat_lt b a ≡ false → b ≡ a
neither a b t u = grind (arith, nat_tests)

never_some : (blocks : List LineBlock) → 0 < length blocks → All (λ (block : LineBlock). ⊥) blocks → ⊥
never_some [] some none = omega arith
never_some (block ∷ blocks) some none = All-head (λ (one : LineBlock). ⊥) block blocks none

nothing_written : (history : History) (blocks : List LineBlock) → IsWrite history blocks → owed_blocks history ≡ [] → ⊥
nothing_written history blocks write none =
    never_some blocks write.some (written-all (λ (block : LineBlock). ⊥) history blocks write (subst (All (λ (block : LineBlock). ⊥)) (sym none) (All-nil (λ (block : LineBlock). ⊥))))

heads_are : (blocks : List LineBlock) → 0 < length blocks → list_any (λ head. is_block head.item) (write_heads blocks) ≡ true
heads_are [] some = absurd (omega arith)
heads_are (block ∷ blocks) some = refl

wrote_tasks : (history : History) (blocks : List LineBlock) (serial : ℕ) (now : Sending) → TasksOweNothing history → IsWrite history blocks → awaited (Wrote blocks ∷ history) serial ≡ Some now → is_write_sending now ≡ false
    → list_any is_forgetting history ≡ false → sent_programmed history ≡ true → ⊥
wrote_tasks history blocks serial now before write e w none programmed =
    by_bool (next_serial history == serial)
    (λ t. let never : true ≡ false = sym (heads_are blocks write.some) ∙ sym (ap (list_any (λ head. is_block head.item)) (new_wrote history blocks serial now e t)) ∙ w in cc)
    (λ t. let was = (older_wrote history blocks serial now e t).was in
    nothing_written history blocks write (before.holds serial was.before was.there (write_was now was.before was.heads ∙ w) none programmed))

none_left : (blocks : List LineBlock) → (length blocks == 0) ≡ true → blocks ≡ []
none_left [] e = refl
none_left (block ∷ blocks) e = let never : suc (length blocks) ≡ 0 = eqb-true (suc (length blocks)) 0 e in cc

tasks-grow : StaysTrue TasksOweNothing
tasks-grow history (Opened groups) accepted before = absurd accepted
tasks-grow history (Edited edit) accepted before = record { holds = λ serial now e w none programmed. absurd (none-some now (sym (awaited_edited serial edit (sending_of history serial)) ∙ e)) }
tasks-grow history (Posted task bytes) accepted before =
    record { holds = λ serial now e w none programmed. older_tasks history (Posted task bytes) serial now before refl (still_other history serial (Posted task bytes) now (λ heads. refl) refl e) w none programmed }
tasks-grow history (Sent frame) accepted before = record { holds = λ serial now e w none programmed. none_left (owed_blocks history) (and_parts (length (owed_blocks history) == 0) (sent_programmed history) programmed).0 }
tasks-grow history (Wrote blocks) accepted before = record { holds = λ serial now e w none programmed. absurd (wrote_tasks history blocks serial now before accepted e w none programmed) }
tasks-grow history (Came arrival) accepted before = record {
  holds = λ serial now e w none programmed.
      let was = (still_came history serial arrival now e).was in
      filter_none (is_owed history) (is_owed (Came arrival ∷ history)) (not-owed_stays history arrival) (line_blocks (line_of history)) (before.holds serial was.before was.there (write_was now was.before was.heads ∙ w) none programmed);
}
tasks-grow history (Forgot station) accepted before = record { holds = λ serial now e w none programmed. let never : true ≡ false = none in cc }
tasks-grow history (Cleared other) accepted before =
    record { holds = λ serial now e w none programmed. older_tasks history (Cleared other) serial now before refl (still_other history serial (Cleared other) now (λ heads. refl) refl e) w none programmed }
tasks-grow history (Unplugged other) accepted before =
    record { holds = λ serial now e w none programmed. older_tasks history (Unplugged other) serial now before refl (still_other history serial (Unplugged other) now (λ heads. refl) refl e) w none programmed }

just_tasks : (groups : List Group) → TasksOweNothing (just_opened groups)
just_tasks groups = record { holds = λ serial now e w none programmed. absurd (none-some now e) }

pub tasks-owe_nothing : (history : History) (serial : ℕ) (now : Sending) → AreAccepted history → awaited history serial ≡ Some now → is_write_sending now ≡ false → list_any is_forgetting history ≡ false → sent_programmed history ≡ true → owed_blocks history ≡ []
tasks-owe_nothing history serial now all e w none programmed = (held-of_accepted TasksOweNothing tasks-grow just_tasks history all).holds serial now e w none programmed

pub writes-alone : (history : History) (serial other : ℕ) (write sending : Sending) → AreAccepted history → list_any is_forgetting history ≡ false → sent_programmed history ≡ true → awaited history serial ≡ Some write → is_write_sending write ≡ true
    → awaited history other ≡ Some sending → is_write_sending sending ≡ true
writes-alone history serial other write sending all none programmed there w e =
    by_bool (is_write_sending sending)
    (λ t. t)
    (λ t. absurd (none_named history (awaited-owes history serial write all there w) (tasks-owe_nothing history other sending all e t none programmed)))

-- the blocks of a frame of writes

pub write-blocks : (history : History) (serial : ℕ) (sending : Sending) → AreAccepted history → sending_of history serial ≡ Some sending → is_write_sending sending ≡ true → length sending.heads ≤ FRAME_BLOCKS
write-blocks history serial sending all e w =
    let at = wrote-at history serial sending e w in
    let accepted : IsWrite at.before at.blocks = accepted-at sending.since at.before (Wrote at.blocks) at.running refl (subst AreAccepted at.split all) in
    subst (λ n. n ≤ FRAME_BLOCKS) (sym (ap length at.heads ∙ length-map at.blocks write_head)) (write-few at.before at.blocks accepted)

-- where each write has a frame of its own, one is awaited at most

one_block : (since : List HistoryEntry) (blocks : List LineBlock) (before : History) → list_all writes_one (since ++ Wrote blocks ∷ before) ≡ true → length blocks ≡ 1
one_block [] blocks before all = eqb-true (length blocks) 1 (and_parts (length blocks == 1) (list_all writes_one before) all).0
one_block (entry ∷ since) blocks before all = one_block since blocks before (and_parts (writes_one entry) _ all).1

never_more : (older : Sending) (history : History) (serial : ℕ) → list_all writes_one history ≡ true → awaited history serial ≡ Some older → is_write_sending older ≡ true → 1 < length older.heads → ⊥
never_more older history serial ones e w more =
    let still_awaited = still_awaited-is serial (sending_of history serial) older e in
    let heads : still_awaited.made.heads ≡ older.heads = ap (λ (s : Sending). s.heads) still_awaited.same in
    let at = wrote-at history serial still_awaited.made still_awaited.there (ap (list_any (λ head. is_block head.item)) heads ∙ w) in
    let one = one_block still_awaited.made.since at.blocks at.before (subst (λ entries. list_all writes_one entries ≡ true) at.split ones) in
    let single : length older.heads ≡ 1 = ap length (sym heads ∙ at.heads) ∙ length-map at.blocks write_head ∙ one in
    omega arith

pub one-write : (history : History) (serial other : ℕ) (write sending : Sending) → AreAccepted history → HasOwnNames (line_of history) → carries_first history serial → carries_first history other → list_all writes_one history ≡ true → awaited history serial ≡ Some write → is_write_sending write ≡ true
    → awaited history other ≡ Some sending → is_write_sending sending ≡ true → other ≡ serial
one-write history serial other write sending all names carries others ones e w f v =
    by_bool (nat_lt serial other)
    (λ t. absurd (never_more write history serial ones e w (two-writes history serial other write sending all names carries others (below-true serial other t) e w f v).more))
    (λ t. by_bool (nat_lt other serial)
    (λ u. absurd (never_more sending history other ones f v (two-writes history other serial sending write all names others carries (below-true other serial u) f v e w).more))
    (λ u. neither serial other t u))
