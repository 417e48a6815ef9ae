use Rattle.std.proofs.Common.{◌≡◌, ◌∷◌, ◌++◌, ◌∙◌, ◌+◌, ◌<◌, ◌≤◌, ℕ, List, Option, Some, None, ap, arith, drop, length, map, refl, sym, subst}
use Rattle.std.specs.Prelude.{IfSome, Result, Ok, Err}
use Rattle.hc_records.specs.Lists.{lowest}
use Rattle.hc_registers.specs.Blocks.{LineBlock}
use Rattle.hc_frames.specs.declared.limits.TheConstants.{SETUP_SERIAL}
use Rattle.hc_frames.specs.Sizes.{frame_bytes}
use Rattle.hc_events.specs.declared.faults.CoreFault.{CoreFault}
use Rattle.hc_events.specs.declared.faults.CoreFault.TheVariants.{Room}
use Rattle.hc_events.specs.Calls.{further_into_faults}
use Rattle.hc_events.specs.Entries.{History, Wrote}
use Rattle.hc_events.specs.Holding.{is_unplugged, may_hold}
use Rattle.hc_events.specs.Owed.{known_bytes}
use Rattle.hc_events.specs.Points.{state_of}
use Rattle.hc_events.specs.Steps.{SendsFurther, entries_after, further_faults}
use Rattle.hc_events.specs.UnderWay.{further_blocks}
use Rattle.hc_events.specs.WriteFrames.{frame_blocks, writes_text}
use Rattle.hc_owed.specs.Readiness.{readiness_of}
use Rattle.hc_owed.specs.RegisterState.{register_state_of}
use Rattle.hc_sendings.specs.declared.write_frames.PlacedBlock.{PlacedBlock}
use Rattle.hc_sendings.specs.Waiting.{Waiting, awaited_block, wrote_further}
use Rattle.hc_sendings.specs.WriteFrames.{block_of}
use Rattle.hc_core.proofs.FirstBlocks.{can-mark, can-mark_areas, stays-blocks, placed-text}
use Rattle.hc_core.proofs.Further.{further-answer_given, further-enough, further-entries, further-short, is-further}
use Rattle.hc_core.proofs.Rooms.{same-length}
use Rattle.hc_core.proofs.Sendings.{agree-wrote_further}
use Rattle.hc_core.specs.Agreement.{Agree, core_parts}
use Rattle.hc_core.specs.Chosen.{known_sent}
use Rattle.hc_core.specs.Held.{held_sent}
use Rattle.hc_core.specs.Records.{history_read}
use Rattle.hc_core.specs.State.{CoreState}
use Rattle.hc_core.specs.Written.{HoldsFurther}
use Rattle.hc_core.specs.declared.writing.SentWrites.{SentWrites}
use Rattle.hc_core.proofs.keeping.Core.write_further_into.Goals as goal

pub returns-then-out-size-clause-refused : goal.returns-then-out-size-clause-refused
returns-then-out-size-clause-refused c = λ other.
    let inside = c.self.inside in
    let history = history_read inside.history in
    let taken = history_read inside.taken.value in
    let unchanged = core_parts inside in
    let frame = c.choose_further.new.frame in
    let none = subst (λ (state : CoreState). lowest (further_faults state.history) ≡ None) (sym c.self.view_is) c.in_ok-can_write_further.ensures.accepted in
    let is = is-further unchanged history taken c.clear.new.self frame c.self.invariant none c.clear.ensures (c.choose_further.ensures (stays-blocks unchanged history taken c.self.invariant)) in
    let size = c.size-size.result in
    subst (λ (state : CoreState). lowest (further_into_faults state.history (length c.args.out.now)) ≡ Some (Room size)) c.self.view_is
    (further-short history frame size (length c.args.out.now) none is.chosen c.size-size.ensures c.if-out-size.true)

pub returns-then-out-size-clause-early : goal.returns-then-out-size-clause-early
returns-then-out-size-clause-early c =
    let inside = c.self.inside in
    let history = history_read inside.history in
    let taken = history_read inside.taken.value in
    let unchanged = core_parts inside in
    let frame = c.choose_further.new.frame in
    let none = subst (λ (state : CoreState). lowest (further_faults state.history) ≡ None) (sym c.self.view_is) c.in_ok-can_write_further.ensures.accepted in
    let is = is-further unchanged history taken c.clear.new.self frame c.self.invariant none c.clear.ensures (c.choose_further.ensures (stays-blocks unchanged history taken c.self.invariant)) in
    let size = c.size-size.result in
    let result : Result SentWrites CoreFault = Err (Room size) in
    let refused = subst (λ (state : CoreState). lowest (further_into_faults state.history (length c.args.out.now)) ≡ Some (Room size)) c.self.view_is
    (further-short history frame size (length c.args.out.now) none is.chosen c.size-size.ensures c.if-out-size.true) in
    subst (λ (found : Option CoreFault). IfSome found (λ (fault : CoreFault). result ≡ Err fault)) (sym refused) refl

pub returns-in_err-write_further-clause-early : goal.returns-in_err-write_further-clause-early
returns-in_err-write_further-clause-early c =
    let inside = c.self.inside in
    let history = history_read inside.history in
    let taken = history_read inside.taken.value in
    let unchanged = core_parts inside in
    let frame = c.choose_further.new.frame in
    let none = subst (λ (state : CoreState). lowest (further_faults state.history) ≡ None) (sym c.self.view_is) c.in_ok-can_write_further.ensures.accepted in
    let is = is-further unchanged history taken c.clear.new.self frame c.self.invariant none c.clear.ensures (c.choose_further.ensures (stays-blocks unchanged history taken c.self.invariant)) in
    let size = c.size-size.result in
    let long : size ≤ length c.args.out.now = omega (arith, c.if-out-size.false) in
    let accepted = subst (λ (state : CoreState). lowest (further_into_faults state.history (length c.args.out.now)) ≡ None) c.self.view_is
    (further-enough history frame size (length c.args.out.now) none is.chosen c.size-size.ensures long) in
    subst (λ (found : Option CoreFault). IfSome found (λ (fault : CoreFault). c.from_residual-in_err-write_further.result ≡ Err fault)) (sym accepted) tt

pub mark_sent-requires : goal.mark_sent-requires
mark_sent-requires c =
    let inside = c.self.inside in
    let history = history_read inside.history in
    let taken = history_read inside.taken.value in
    let unchanged = core_parts inside in
    let frame = c.choose_further.new.frame in
    let none = subst (λ (state : CoreState). lowest (further_faults state.history) ≡ None) (sym c.self.view_is) c.in_ok-can_write_further.ensures.accepted in
    let is = is-further unchanged history taken c.clear.new.self frame c.self.invariant none c.clear.ensures (c.choose_further.ensures (stays-blocks unchanged history taken c.self.invariant)) in
    can-mark unchanged history taken frame.blocks c.blocks-3.result.now c.blocks-3.ensures.blocks c.self.invariant is.write is.chosen.placed

pub mark_areas-requires : goal.mark_areas-requires
mark_areas-requires c =
    let inside = c.self.inside in
    let history = history_read inside.history in
    let taken = history_read inside.taken.value in
    let unchanged = core_parts inside in
    let frame = c.choose_further.new.frame in
    let none = subst (λ (state : CoreState). lowest (further_faults state.history) ≡ None) (sym c.self.view_is) c.in_ok-can_write_further.ensures.accepted in
    let is = is-further unchanged history taken c.clear.new.self frame c.self.invariant none c.clear.ensures (c.choose_further.ensures (stays-blocks unchanged history taken c.self.invariant)) in
    can-mark_areas unchanged history taken frame.blocks c.blocks-4.result.now c.blocks-4.ensures.blocks c.self.invariant is.write is.chosen.placed

pub invariant_of-self-2 : goal.invariant_of-self-2
invariant_of-self-2 c =
    let inside = c.self.inside in
    let history = history_read inside.history in
    let taken = history_read inside.taken.value in
    let unchanged = core_parts inside in
    let frame = c.choose_further.new.frame in
    let none = subst (λ (state : CoreState). lowest (further_faults state.history) ≡ None) (sym c.self.view_is) c.in_ok-can_write_further.ensures.accepted in
    let is = is-further unchanged history taken c.clear.new.self frame c.self.invariant none c.clear.ensures (c.choose_further.ensures (stays-blocks unchanged history taken c.self.invariant)) in
    let owed = c.mark_sent.new.owed in
    let serial = inside.serial + 1 in
    let left : inside.serial < SETUP_SERIAL = subst (λ (n : ℕ). n < SETUP_SERIAL) (sym c.self.invariant.serial) is.left in
    let sent = c.mark_sent.ensures (can-mark unchanged history taken frame.blocks c.blocks-3.result.now c.blocks-3.ensures.blocks c.self.invariant is.write is.chosen.placed)
    ∙ ap (λ (placed : List PlacedBlock). register_state_of (known_sent placed (known_bytes history)) (state_of history)) c.blocks-3.ensures.blocks in
    let areas = c.mark_areas.ensures (can-mark_areas unchanged history taken frame.blocks c.blocks-4.result.now c.blocks-4.ensures.blocks c.self.invariant is.write is.chosen.placed)
    ∙ ap (λ (placed : List PlacedBlock). readiness_of (known_sent placed (known_bytes history)) (held_sent placed (may_hold history)) (is_unplugged history) (state_of history)) c.blocks-4.ensures.blocks in
    let awaited = c.in_ok-write_further.ensures.sent ∙ ap (λ (placed : List PlacedBlock). wrote_further inside.serial (map awaited_block placed) inside.awaited) c.blocks-2.ensures.blocks in
    subst (λ (grows : History). Agree (record unchanged { awaited = c.write_further.new.self; owed = owed; readiness = c.mark_areas.new.readiness; serial = serial }) grows taken) (sym c.wrote.ensures)
    (subst (λ (waiting : Waiting). Agree (record unchanged { awaited = waiting; owed = owed; readiness = c.mark_areas.new.readiness; serial = serial }) (Wrote (map block_of frame.blocks) ∷ history) taken) (sym awaited)
    (agree-wrote_further unchanged history taken frame.blocks owed c.mark_areas.new.readiness is.write is.chosen.placed left sent areas c.self.invariant))

pub returns-clause-written : goal.returns-clause-written
returns-clause-written c =
    let inside = c.self.inside in
    let history = history_read inside.history in
    let taken = history_read inside.taken.value in
    let unchanged = core_parts inside in
    let frame = c.choose_further.new.frame in
    let none = subst (λ (state : CoreState). lowest (further_faults state.history) ≡ None) (sym c.self.view_is) c.in_ok-can_write_further.ensures.accepted in
    let is = is-further unchanged history taken c.clear.new.self frame c.self.invariant none c.clear.ensures (c.choose_further.ensures (stays-blocks unchanged history taken c.self.invariant)) in
    let size = c.size-size.result in
    let out = c.args.out.now in
    subst (λ (state : CoreState). HoldsFurther state.history out (c.write.new.out ++ drop size out) (record { size = size; blocks = length c.blocks-5.result.now })) c.self.view_is
    (record {
      answer = further-answer_given history none;
      blocks = record {
        size = c.size-size.ensures ∙ ap frame_bytes is.chosen.bytes;
        count = ap length c.blocks-5.ensures.blocks ∙ sym (same-length frame.blocks) ∙ ap length is.chosen.blocks;
        holds = ap (λ (text : List ℕ). text ++ drop size out)
            (c.write.ensures ∙ placed-text inside.serial frame.blocks ∙ ap (writes_text inside.serial) is.chosen.blocks
            ∙ ap (λ (n : ℕ). writes_text n (frame_blocks (further_blocks history))) c.self.invariant.serial);
      };
    })

pub returns-clause-accepted : goal.returns-clause-accepted
returns-clause-accepted c =
    let inside = c.self.inside in
    let history = history_read inside.history in
    let taken = history_read inside.taken.value in
    let unchanged = core_parts inside in
    let frame = c.choose_further.new.frame in
    let none = subst (λ (state : CoreState). lowest (further_faults state.history) ≡ None) (sym c.self.view_is) c.in_ok-can_write_further.ensures.accepted in
    let is = is-further unchanged history taken c.clear.new.self frame c.self.invariant none c.clear.ensures (c.choose_further.ensures (stays-blocks unchanged history taken c.self.invariant)) in
    let size = c.size-size.result in
    let long : size ≤ length c.args.out.now = omega (arith, c.if-out-size.false) in
    subst (λ (state : CoreState). lowest (further_into_faults state.history (length c.args.out.now)) ≡ None) c.self.view_is
    (further-enough history frame size (length c.args.out.now) none is.chosen c.size-size.ensures long)

pub returns-clause-entries : goal.returns-clause-entries
returns-clause-entries c =
    let inside = c.self.inside in
    let history = history_read inside.history in
    let taken = history_read inside.taken.value in
    let unchanged = core_parts inside in
    let frame = c.choose_further.new.frame in
    let none = subst (λ (state : CoreState). lowest (further_faults state.history) ≡ None) (sym c.self.view_is) c.in_ok-can_write_further.ensures.accepted in
    let is = is-further unchanged history taken c.clear.new.self frame c.self.invariant none c.clear.ensures (c.choose_further.ensures (stays-blocks unchanged history taken c.self.invariant)) in
    ap (λ (entries : History). let next : CoreState = record { history = entries; taken = taken } in next)
    (c.wrote.ensures ∙ ap (λ (blocks : List LineBlock). Wrote blocks ∷ history) is.chosen.blocks ∙ sym (further-entries history none))
    ∙ ap (λ (state : CoreState). let next : CoreState = record state { history = entries_after state.history SendsFurther } in next) c.self.view_is

pub returns-clause-early : goal.returns-clause-early
returns-clause-early c =
    let inside = c.self.inside in
    let history = history_read inside.history in
    let taken = history_read inside.taken.value in
    let unchanged = core_parts inside in
    let frame = c.choose_further.new.frame in
    let none = subst (λ (state : CoreState). lowest (further_faults state.history) ≡ None) (sym c.self.view_is) c.in_ok-can_write_further.ensures.accepted in
    let is = is-further unchanged history taken c.clear.new.self frame c.self.invariant none c.clear.ensures (c.choose_further.ensures (stays-blocks unchanged history taken c.self.invariant)) in
    let size = c.size-size.result in
    let result : Result SentWrites CoreFault = Ok (record { size = size; blocks = length c.blocks-5.result.now }) in
    let long : size ≤ length c.args.out.now = omega (arith, c.if-out-size.false) in
    let accepted = subst (λ (state : CoreState). lowest (further_into_faults state.history (length c.args.out.now)) ≡ None) c.self.view_is
    (further-enough history frame size (length c.args.out.now) none is.chosen c.size-size.ensures long) in
    subst (λ (found : Option CoreFault). IfSome found (λ (fault : CoreFault). result ≡ Err fault)) (sym accepted) tt
