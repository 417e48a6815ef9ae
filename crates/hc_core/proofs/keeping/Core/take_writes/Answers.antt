use Rattle.std.proofs.Common.{◌≡◌, ◌∷◌, ◌∙◌, List, ap, sym, subst}
use Rattle.hc_events.specs.Answering.{judged_by}
use Rattle.hc_events.specs.Entries.{History, Came}
use Rattle.hc_events.specs.Holding.{is_unplugged, may_hold}
use Rattle.hc_events.specs.Owed.{known_bytes}
use Rattle.hc_events.specs.Points.{state_of}
use Rattle.hc_events.specs.Steps.{with_arrival}
use Rattle.hc_owed.specs.Readiness.{readiness_of}
use Rattle.hc_owed.specs.RegisterState.{register_state_of}
use Rattle.hc_sendings.specs.declared.writes.AwaitedBlock.{AwaitedBlock}
use Rattle.hc_sendings.specs.Judging.{blocks_with}
use Rattle.hc_sendings.specs.Waiting.{Waiting, ended}
use Rattle.hc_core.specs.Records.{history_read}
use Rattle.hc_core.proofs.Arrivals.{agree-written, blocks-with, can-confirm, can-confirm_areas, unchanged-with}
use Rattle.hc_core.proofs.AnswerGiven.{answer_given-writes}
use Rattle.hc_core.specs.Agreement.{Agree, core_parts}
use Rattle.hc_core.specs.Chosen.{AreWriteOutcomes, known_done}
use Rattle.hc_core.specs.Held.{held_done}
use Rattle.hc_core.specs.State.{CoreState}
use Rattle.hc_core.proofs.keeping.Core.take_writes.Goals as goal

pub confirm-requires : goal.confirm-requires
confirm-requires c =
    let inside = c.self.inside in
    let history = history_read inside.history in
    let arrival = c.args.arrival.now in
    let outcomes = c.args.outcomes.now in
    let written : AreWriteOutcomes (judged_by history arrival) outcomes = subst (λ (state : CoreState). AreWriteOutcomes (judged_by state.history arrival) outcomes) (sym c.self.view_is) c.requires.judged in
    let with = unchanged-with history inside.awaited arrival c.self.invariant.waits.awaits (answer_given-writes history arrival outcomes written) in
    let blocks : c.written-blocks.result.now ≡ with.write.blocks = c.written-blocks.ensures.blocks ∙ ap (λ serial. blocks_with serial inside.awaited) c.serial.ensures.value ∙ blocks-with history inside.awaited arrival with in
    can-confirm (core_parts inside) history (history_read inside.taken.value) arrival c.written-blocks.result.now with blocks c.self.invariant

pub confirm_areas-requires : goal.confirm_areas-requires
confirm_areas-requires c =
    let inside = c.self.inside in
    let history = history_read inside.history in
    let arrival = c.args.arrival.now in
    let outcomes = c.args.outcomes.now in
    let written : AreWriteOutcomes (judged_by history arrival) outcomes = subst (λ (state : CoreState). AreWriteOutcomes (judged_by state.history arrival) outcomes) (sym c.self.view_is) c.requires.judged in
    let with = unchanged-with history inside.awaited arrival c.self.invariant.waits.awaits (answer_given-writes history arrival outcomes written) in
    let blocks : c.written-blocks.result.now ≡ with.write.blocks = c.written-blocks.ensures.blocks ∙ ap (λ serial. blocks_with serial inside.awaited) c.serial.ensures.value ∙ blocks-with history inside.awaited arrival with in
    can-confirm_areas (core_parts inside) history (history_read inside.taken.value) arrival c.written-blocks.result.now with blocks c.self.invariant

pub invariant_of-self : goal.invariant_of-self
invariant_of-self c =
    let inside = c.self.inside in
    let history = history_read inside.history in
    let taken = history_read inside.taken.value in
    let unchanged = core_parts inside in
    let arrival = c.args.arrival.now in
    let outcomes = c.args.outcomes.now in
    let written : AreWriteOutcomes (judged_by history arrival) outcomes = subst (λ (state : CoreState). AreWriteOutcomes (judged_by state.history arrival) outcomes) (sym c.self.view_is) c.requires.judged in
    let with = unchanged-with history inside.awaited arrival c.self.invariant.waits.awaits (answer_given-writes history arrival outcomes written) in
    let blocks : c.written-blocks.result.now ≡ with.write.blocks = c.written-blocks.ensures.blocks ∙ ap (λ serial. blocks_with serial inside.awaited) c.serial.ensures.value ∙ blocks-with history inside.awaited arrival with in
    let confirmed = c.confirm.ensures (can-confirm unchanged history taken arrival c.written-blocks.result.now with blocks c.self.invariant)
    ∙ ap (λ (all : List AwaitedBlock). register_state_of (known_done (state_of history) all outcomes (known_bytes history)) (state_of history)) blocks in
    let areas = c.confirm_areas.ensures (can-confirm_areas unchanged history taken arrival c.written-blocks.result.now with blocks c.self.invariant)
    ∙ ap (λ (all : List AwaitedBlock). readiness_of (known_done (state_of history) all outcomes (known_bytes history)) (held_done (state_of history) all outcomes (may_hold history)) (is_unplugged history) (state_of history)) blocks in
    let grown = c.came.ensures ∙ ap (with_arrival history) c.requires.read in
    let over = c.end.ensures ∙ ap (λ serial. ended serial inside.awaited) c.serial-2.ensures.value in
    subst (λ (grows : History). Agree (record unchanged { awaited = c.end.new.self; owed = c.confirm.new.owed; readiness = c.confirm_areas.new.readiness }) grows taken) (sym grown)
    (subst (λ (left : Waiting). Agree (record unchanged { awaited = left; owed = c.confirm.new.owed; readiness = c.confirm_areas.new.readiness }) (Came arrival ∷ history) taken) (sym over)
    (agree-written unchanged history taken arrival outcomes c.confirm.new.owed c.confirm_areas.new.readiness written with confirmed areas c.self.invariant))
