use Rattle.std.proofs.Common.{◌≡◌, ◌∷◌, ◌∙◌, List, ap, length, sym}
use Rattle.std.proofs.lemmas.Bool.{eqb-true}
use Rattle.hc_owed.specs.RegisterState.{register_state_of}
use Rattle.hc_sendings.specs.declared.write_frames.PlacedBlock.{PlacedBlock}
use Rattle.hc_core.specs.Chosen.{known_sent}
use Rattle.hc_core.proofs.ChosenBlocks.{can-cut, mark-first, mark-lacks, mark-rest, no_items}
use Rattle.hc_core.proofs.choosing.mark_sent.Goals as goal

pub mark_each-requires : goal.mark_each-requires
mark_each-requires c =
    let register_state = c.args.owed.now in
    let first = c.in-Some.block.now in
    let rest = c.in-Some.later.now in
    let can = can-cut register_state c.args.blocks.now first rest c.in-Some.ensures.cases.0 c.requires in
    mark-rest register_state c.sent.new.self first rest can (c.sent.ensures can.known can.state first.block (record { at = mark-first register_state first rest can; lacking = mark-lacks register_state first rest can }))

pub returns-then-not-is_empty : goal.returns-then-not-is_empty
returns-then-not-is_empty c = λ can.
    let register_state = c.args.owed.now in
    let first = c.in-Some.block.now in
    let rest = c.in-Some.later.now in
    let cut = c.in-Some.ensures.cases.0 in
    let own = can-cut register_state c.args.blocks.now first rest cut can in
    c.mark_each.ensures (mark-rest register_state c.sent.new.self first rest own (c.sent.ensures own.known own.state first.block (record { at = mark-first register_state first rest own; lacking = mark-lacks register_state first rest own })))
    ∙ ap (λ blocks. register_state_of (known_sent blocks can.known) can.state) (sym cut)

pub returns-else-not-is_empty : goal.returns-else-not-is_empty
returns-else-not-is_empty c = λ can.
    let register_state = c.args.owed.now in
    let first = c.in-Some.block.now in
    let rest = c.in-Some.later.now in
    let cut = c.in-Some.ensures.cases.0 in
    let own = can-cut register_state c.args.blocks.now first rest cut can in
    let none : length rest ≡ 0 = eqb-true (length rest) 0 (sym c.is_empty.ensures ∙ c.if-not-is_empty.false) in
    c.sent.ensures own.known own.state first.block (record { at = mark-first register_state first rest own; lacking = mark-lacks register_state first rest own })
    ∙ ap (λ (others : List PlacedBlock). register_state_of (known_sent (first ∷ others) can.known) can.state) (sym (no_items rest none))
    ∙ ap (λ blocks. register_state_of (known_sent blocks can.known) can.state) (sym cut)
