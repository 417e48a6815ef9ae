use Rattle.std.proofs.Common.{◌≡◌, ◌∷◌, ◌∙◌, ◌+◌, ◌<◌, ℕ, List, None, ap, length, map, sym, subst}
use Rattle.hc_records.specs.Lists.{lowest}
use Rattle.hc_registers.specs.Blocks.{LineBlock}
use Rattle.hc_frames.specs.declared.limits.TheConstants.{SETUP_SERIAL}
use Rattle.hc_events.specs.Accepted.{IsFirstWrite, IsWrite}
use Rattle.hc_events.specs.Entries.{History, Wrote}
use Rattle.hc_events.specs.Holding.{is_unplugged, may_hold}
use Rattle.hc_events.specs.Owed.{known_bytes, owed_blocks}
use Rattle.hc_events.specs.Points.{next_serial, state_of}
use Rattle.hc_events.specs.Steps.{write_faults}
use Rattle.hc_events.specs.WriteFrames.{writes_text}
use Rattle.hc_owed.specs.Readiness.{readiness_of}
use Rattle.hc_owed.specs.RegisterState.{register_state_of}
use Rattle.hc_sendings.specs.declared.awaited.TheConstants.{AWAITED_WRITES}
use Rattle.hc_sendings.specs.declared.write_frames.PlacedBlock.{PlacedBlock}
use Rattle.hc_sendings.specs.Waiting.{Waiting, awaited_block, older_writes, wrote}
use Rattle.hc_sendings.specs.WriteFrames.{block_of}
use Rattle.hc_core.proofs.FirstBlocks.{are-first, can-mark, can-mark_areas, stays-blocks, placed-text}
use Rattle.hc_core.proofs.Rooms.{older-few, same-length}
use Rattle.hc_core.proofs.Sendings.{agree-wrote}
use Rattle.hc_core.proofs.Writes.{first-kind, first-write, serial-left}
use Rattle.hc_core.specs.Agreement.{Agree, core_parts}
use Rattle.hc_core.specs.Chosen.{known_sent}
use Rattle.hc_core.specs.Held.{held_sent}
use Rattle.hc_core.specs.Records.{history_read}
use Rattle.hc_core.specs.State.{CoreState}
use Rattle.hc_core.specs.Written.{first_blocks}
use Rattle.hc_core.proofs.keeping.Core.write_text.Goals as goal

pub write-requires-clause-room : goal.write-requires-clause-room
write-requires-clause-room c =
    let inside = c.self.inside in
    let history = history_read inside.history in
    let taken = history_read inside.taken.value in
    let frame = c.choose_first.new.frame in
    let none = subst (λ (state : CoreState). lowest (write_faults state.history (owed_blocks state.history)) ≡ None) (sym c.self.view_is) c.in_ok-can_write.ensures.accepted in
    let first = are-first (core_parts inside) history taken c.args.most c.clear.new.self frame c.self.invariant c.clear.ensures (c.choose_first.ensures (stays-blocks (core_parts inside) history taken c.self.invariant)) in
    let write : IsWrite history (map block_of frame.blocks) = subst (IsWrite history) (sym first.blocks) (first-write history c.args.most c.requires none) in
    let kind : IsFirstWrite (owed_blocks history) (map block_of frame.blocks) = subst (IsFirstWrite (owed_blocks history)) (sym first.blocks) (first-kind history c.args.most c.requires) in
    subst (λ (placed : List PlacedBlock). length (older_writes (map awaited_block placed) inside.awaited) < AWAITED_WRITES) (sym c.blocks-2.ensures.blocks)
    (older-few (core_parts inside) history taken frame.blocks write kind c.self.invariant)

pub mark_sent-requires : goal.mark_sent-requires
mark_sent-requires c =
    let inside = c.self.inside in
    let history = history_read inside.history in
    let taken = history_read inside.taken.value in
    let frame = c.choose_first.new.frame in
    let none = subst (λ (state : CoreState). lowest (write_faults state.history (owed_blocks state.history)) ≡ None) (sym c.self.view_is) c.in_ok-can_write.ensures.accepted in
    let first = are-first (core_parts inside) history taken c.args.most c.clear.new.self frame c.self.invariant c.clear.ensures (c.choose_first.ensures (stays-blocks (core_parts inside) history taken c.self.invariant)) in
    let write : IsWrite history (map block_of frame.blocks) = subst (IsWrite history) (sym first.blocks) (first-write history c.args.most c.requires none) in
    can-mark (core_parts inside) history taken frame.blocks c.blocks-3.result.now c.blocks-3.ensures.blocks c.self.invariant write first.placed

pub mark_areas-requires : goal.mark_areas-requires
mark_areas-requires c =
    let inside = c.self.inside in
    let history = history_read inside.history in
    let taken = history_read inside.taken.value in
    let frame = c.choose_first.new.frame in
    let none = subst (λ (state : CoreState). lowest (write_faults state.history (owed_blocks state.history)) ≡ None) (sym c.self.view_is) c.in_ok-can_write.ensures.accepted in
    let first = are-first (core_parts inside) history taken c.args.most c.clear.new.self frame c.self.invariant c.clear.ensures (c.choose_first.ensures (stays-blocks (core_parts inside) history taken c.self.invariant)) in
    let write : IsWrite history (map block_of frame.blocks) = subst (IsWrite history) (sym first.blocks) (first-write history c.args.most c.requires none) in
    can-mark_areas (core_parts inside) history taken frame.blocks c.blocks-4.result.now c.blocks-4.ensures.blocks c.self.invariant write first.placed

pub invariant_of-self-2 : goal.invariant_of-self-2
invariant_of-self-2 c =
    let inside = c.self.inside in
    let history = history_read inside.history in
    let taken = history_read inside.taken.value in
    let unchanged = core_parts inside in
    let frame = c.choose_first.new.frame in
    let owed = c.mark_sent.new.owed in
    let serial = inside.serial + 1 in
    let none = subst (λ (state : CoreState). lowest (write_faults state.history (owed_blocks state.history)) ≡ None) (sym c.self.view_is) c.in_ok-can_write.ensures.accepted in
    let first = are-first unchanged history taken c.args.most c.clear.new.self frame c.self.invariant c.clear.ensures (c.choose_first.ensures (stays-blocks unchanged history taken c.self.invariant)) in
    let write : IsWrite history (map block_of frame.blocks) = subst (IsWrite history) (sym first.blocks) (first-write history c.args.most c.requires none) in
    let kind : IsFirstWrite (owed_blocks history) (map block_of frame.blocks) = subst (IsFirstWrite (owed_blocks history)) (sym first.blocks) (first-kind history c.args.most c.requires) in
    let left : inside.serial < SETUP_SERIAL = subst (λ (n : ℕ). n < SETUP_SERIAL) (sym c.self.invariant.serial) (serial-left history none) in
    let sent = c.mark_sent.ensures (can-mark unchanged history taken frame.blocks c.blocks-3.result.now c.blocks-3.ensures.blocks c.self.invariant write first.placed)
    ∙ ap (λ (placed : List PlacedBlock). register_state_of (known_sent placed (known_bytes history)) (state_of history)) c.blocks-3.ensures.blocks in
    let areas = c.mark_areas.ensures (can-mark_areas unchanged history taken frame.blocks c.blocks-4.result.now c.blocks-4.ensures.blocks c.self.invariant write first.placed)
    ∙ ap (λ (placed : List PlacedBlock). readiness_of (known_sent placed (known_bytes history)) (held_sent placed (may_hold history)) (is_unplugged history) (state_of history)) c.blocks-4.ensures.blocks in
    let awaited = c.write.ensures ∙ ap (λ (placed : List PlacedBlock). wrote inside.serial (map awaited_block placed) inside.awaited) c.blocks-2.ensures.blocks in
    subst (λ (grows : History). Agree (record unchanged { awaited = c.write.new.self; owed = owed; readiness = c.mark_areas.new.readiness; serial = serial }) grows taken) (sym c.wrote.ensures)
    (subst (λ (waiting : Waiting). Agree (record unchanged { awaited = waiting; owed = owed; readiness = c.mark_areas.new.readiness; serial = serial }) (Wrote (map block_of frame.blocks) ∷ history) taken) (sym awaited)
    (agree-wrote unchanged history taken frame.blocks owed c.mark_areas.new.readiness write kind first.placed left sent areas c.self.invariant))

pub returns-clause-text : goal.returns-clause-text
returns-clause-text c =
    let inside = c.self.inside in
    let history = history_read inside.history in
    let taken = history_read inside.taken.value in
    let frame = c.choose_first.new.frame in
    let first = are-first (core_parts inside) history taken c.args.most c.clear.new.self frame c.self.invariant c.clear.ensures (c.choose_first.ensures (stays-blocks (core_parts inside) history taken c.self.invariant)) in
    c.in_ok-text.ensures ∙ placed-text inside.serial frame.blocks ∙ ap (writes_text inside.serial) first.blocks
    ∙ ap (λ (n : ℕ). writes_text n (first_blocks c.args.most history)) c.self.invariant.serial
    ∙ ap (λ (state : CoreState). writes_text (next_serial state.history) (first_blocks c.args.most state.history)) c.self.view_is

pub returns-clause-count : goal.returns-clause-count
returns-clause-count c =
    let inside = c.self.inside in
    let history = history_read inside.history in
    let taken = history_read inside.taken.value in
    let frame = c.choose_first.new.frame in
    let first = are-first (core_parts inside) history taken c.args.most c.clear.new.self frame c.self.invariant c.clear.ensures (c.choose_first.ensures (stays-blocks (core_parts inside) history taken c.self.invariant)) in
    ap length c.blocks-5.ensures.blocks ∙ sym (same-length frame.blocks) ∙ ap length first.blocks
    ∙ ap (λ (state : CoreState). length (first_blocks c.args.most state.history)) c.self.view_is

pub returns-clause-entries : goal.returns-clause-entries
returns-clause-entries c =
    let inside = c.self.inside in
    let history = history_read inside.history in
    let taken = history_read inside.taken.value in
    let frame = c.choose_first.new.frame in
    let first = are-first (core_parts inside) history taken c.args.most c.clear.new.self frame c.self.invariant c.clear.ensures (c.choose_first.ensures (stays-blocks (core_parts inside) history taken c.self.invariant)) in
    ap (λ (entries : History). let next : CoreState = record { history = entries; taken = taken } in next) (c.wrote.ensures ∙ ap (λ (blocks : List LineBlock). Wrote blocks ∷ history) first.blocks)
    ∙ ap (λ (state : CoreState). let next : CoreState = record state { history = Wrote (first_blocks c.args.most state.history) ∷ state.history } in next) c.self.view_is
