use Rattle.std.proofs.Common.{◌∙◌, ap, sym, rules}
use Rattle.hc_owed.specs.RegisterState.{register_state_of}
use Rattle.hc_core.specs.Chosen.{known_sent}
use Rattle.hc_core.proofs.ChosenBlocks.{can-cut, unchanged-within, mark-first, mark-lacks, mark-rest, no_items}
use Rattle.hc_core.proofs.choosing.+mark_each.Goals as goal

pub sent-requires : goal.sent-requires
sent-requires t c =
    let first = c.in-Some.first.now in
    let rest = c.in-Some.rest.now in
    let can = can-cut c.args.owed.now c.args.blocks.now first rest c.in-Some.ensures.cases.0 c.requires in
    let at = mark-first c.args.owed.now first rest can in
    unchanged-within c.args.owed.now can.known can.state first.place first.block can.right at.is_placed

pub mark_each-requires : goal.mark_each-requires
mark_each-requires t c =
    let register_state = c.args.owed.now in
    let first = c.in-Some.first.now in
    let rest = c.in-Some.rest.now in
    let can = can-cut register_state c.args.blocks.now first rest c.in-Some.ensures.cases.0 c.requires in (
      search rules,
      mark-rest register_state c.sent.new.self first rest can (c.sent.ensures can.known can.state first.block (record { at = mark-first register_state first rest can; lacking = mark-lacks register_state first rest can })),
    )

pub returns-in-Some : goal.returns-in-Some
returns-in-Some t c = λ can.
    let register_state = c.args.owed.now in
    let first = c.in-Some.first.now in
    let rest = c.in-Some.rest.now in
    let cut = c.in-Some.ensures.cases.0 in
    let own = can-cut register_state c.args.blocks.now first rest cut can in
    c.mark_each.ensures (mark-rest register_state c.sent.new.self first rest own (c.sent.ensures own.known own.state first.block (record { at = mark-first register_state first rest own; lacking = mark-lacks register_state first rest own })))
    ∙ ap (λ blocks. register_state_of (known_sent blocks can.known) can.state) (sym cut)

pub returns-in_default : goal.returns-in_default
returns-in_default t c = λ can.
    can.right ∙ ap (λ blocks. register_state_of (known_sent blocks can.known) can.state) (sym (no_items c.args.blocks.now c.in_default.ensures.cases))
