use Rattle.std.proofs.Common.{◌∷◌, [], ◌∙◌, List, ap, sym, rules}
use Rattle.hc_events.specs.declared.answer.Outcome.{Outcome}
use Rattle.hc_owed.specs.RegisterState.{register_state_of}
use Rattle.hc_core.specs.Chosen.{known_done}
use Rattle.hc_core.proofs.ChosenBlocks.{confirm-cut, confirm-first, confirm-rest, no_items}
use Rattle.hc_core.proofs.choosing.+confirm.Goals as goal

pub confirm_if-requires : goal.confirm_if-requires
confirm_if-requires t c =
    let block = c.in-Some.block.now in
    let later = c.in-Some.later.now in
    confirm-first c.args.owed.now c.args.plan.now block later (confirm-cut c.args.owed.now c.args.plan.now c.args.blocks.now block later c.in-Some.ensures.cases.0 c.requires)

pub confirm-requires : goal.confirm-requires
confirm-requires t c =
    let block = c.in-Some.block.now in
    let later = c.in-Some.later.now in
    let can = confirm-cut c.args.owed.now c.args.plan.now c.args.blocks.now block later c.in-Some.ensures.cases.0 c.requires in (
      search rules,
      confirm-rest c.args.owed.now c.confirm_if.new.owed c.args.plan.now block later c.in-Some-split_first.outcome.now can (c.confirm_if.ensures (confirm-first c.args.owed.now c.args.plan.now block later can)),
    )

pub returns-in-Some-split_first : goal.returns-in-Some-split_first
returns-in-Some-split_first t c = λ can.
    let block = c.in-Some.block.now in
    let later = c.in-Some.later.now in
    let cut = c.in-Some.ensures.cases.0 in
    let outcomes = c.in-Some-split_first.ensures.cases.0 in
    let own = confirm-cut c.args.owed.now c.args.plan.now c.args.blocks.now block later cut can in
    c.confirm.ensures (confirm-rest c.args.owed.now c.confirm_if.new.owed c.args.plan.now block later c.in-Some-split_first.outcome.now own (c.confirm_if.ensures (confirm-first c.args.owed.now c.args.plan.now block later own)))
    ∙ ap (λ blocks. register_state_of (known_done can.state blocks (c.in-Some-split_first.outcome.now ∷ c.in-Some-split_first.others.now) can.known) can.state) (sym cut)
    ∙ ap (λ (all : List Outcome). register_state_of (known_done can.state c.args.blocks.now all can.known) can.state) (sym outcomes)

pub returns-in_default : goal.returns-in_default
returns-in_default t c = λ can.
    can.right ∙ ap (λ blocks. register_state_of (known_done can.state blocks c.args.outcomes.now can.known) can.state) (sym (no_items c.args.blocks.now c.in_default.ensures.cases))

pub returns-in_default-split_first : goal.returns-in_default-split_first
returns-in_default-split_first t c = λ can.
    can.right
    ∙ ap (λ blocks. register_state_of (known_done can.state blocks [] can.known) can.state) (sym c.in-Some.ensures.cases.0)
    ∙ ap (λ (all : List Outcome). register_state_of (known_done can.state c.args.blocks.now all can.known) can.state) (sym (no_items c.args.outcomes.now c.in_default-split_first.ensures.cases))
