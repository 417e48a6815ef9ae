use Rattle.std.proofs.Common.{◌∷◌, [], ◌∙◌, List, ap, sym, rules}
use Rattle.hc_events.specs.declared.answer.Outcome.{Outcome}
use Rattle.hc_owed.specs.Readiness.{readiness_of}
use Rattle.hc_core.specs.Chosen.{known_done}
use Rattle.hc_core.specs.Held.{held_done}
use Rattle.hc_core.proofs.AreaBlocks.{answered-cut, answered-one, answered-rest}
use Rattle.hc_core.proofs.ChosenBlocks.{no_items}
use Rattle.hc_core.proofs.areas.+confirm_areas.Goals as goal

pub confirm_area_if-requires : goal.confirm_area_if-requires
confirm_area_if-requires t c =
    let block = c.in-Some.block.now in
    let later = c.in-Some.later.now in
    answered-one c.args.readiness.now block later (answered-cut c.args.readiness.now c.args.blocks.now block later c.in-Some.ensures.cases.0 c.requires)

pub confirm_areas-requires : goal.confirm_areas-requires
confirm_areas-requires t c =
    let block = c.in-Some.block.now in
    let later = c.in-Some.later.now in
    let can = answered-cut c.args.readiness.now c.args.blocks.now block later c.in-Some.ensures.cases.0 c.requires in (
      search rules,
      answered-rest c.args.readiness.now c.confirm_area_if.new.readiness block later c.in-Some-split_first.outcome.now can (c.confirm_area_if.ensures (answered-one c.args.readiness.now block later can)),
    )

pub returns-in-Some-split_first : goal.returns-in-Some-split_first
returns-in-Some-split_first t c = λ can.
    let block = c.in-Some.block.now in
    let later = c.in-Some.later.now in
    let cut = c.in-Some.ensures.cases.0 in
    let outcomes = c.in-Some-split_first.ensures.cases.0 in
    let own = answered-cut c.args.readiness.now c.args.blocks.now block later cut can in
    c.confirm_areas.ensures (answered-rest c.args.readiness.now c.confirm_area_if.new.readiness block later c.in-Some-split_first.outcome.now own (c.confirm_area_if.ensures (answered-one c.args.readiness.now block later own)))
    ∙ ap (λ blocks. readiness_of (known_done can.state blocks (c.in-Some-split_first.outcome.now ∷ c.in-Some-split_first.others.now) can.known) (held_done can.state blocks (c.in-Some-split_first.outcome.now ∷ c.in-Some-split_first.others.now) can.held) can.unplugged can.state) (sym cut)
    ∙ ap (λ (all : List Outcome). readiness_of (known_done can.state c.args.blocks.now all can.known) (held_done can.state c.args.blocks.now all can.held) can.unplugged can.state) (sym outcomes)

pub returns-in_default : goal.returns-in_default
returns-in_default t c = λ can.
    can.right ∙ ap (λ blocks. readiness_of (known_done can.state blocks c.args.outcomes.now can.known) (held_done can.state blocks c.args.outcomes.now can.held) can.unplugged can.state) (sym (no_items c.args.blocks.now c.in_default.ensures.cases))

pub returns-in_default-split_first : goal.returns-in_default-split_first
returns-in_default-split_first t c = λ can.
    can.right
    ∙ ap (λ blocks. readiness_of (known_done can.state blocks [] can.known) (held_done can.state blocks [] can.held) can.unplugged can.state) (sym c.in-Some.ensures.cases.0)
    ∙ ap (λ (all : List Outcome). readiness_of (known_done can.state c.args.blocks.now all can.known) (held_done can.state c.args.blocks.now all can.held) can.unplugged can.state) (sym (no_items c.args.outcomes.now c.in_default-split_first.ensures.cases))
