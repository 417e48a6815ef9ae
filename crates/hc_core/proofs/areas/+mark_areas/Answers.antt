use Rattle.std.proofs.Common.{◌∙◌, ap, sym, rules}
use Rattle.hc_owed.specs.Readiness.{readiness_of}
use Rattle.hc_core.specs.Chosen.{known_sent}
use Rattle.hc_core.specs.Held.{held_sent}
use Rattle.hc_core.proofs.AreaBlocks.{area-cut, area-first, area-lacks, area-rest, areas-within}
use Rattle.hc_core.proofs.ChosenBlocks.{no_items}
use Rattle.hc_core.proofs.areas.+mark_areas.Goals as goal

pub sent-requires : goal.sent-requires
sent-requires t c =
    let first = c.in-Some.first.now in
    let rest = c.in-Some.rest.now in
    let can = area-cut c.args.readiness.now c.args.blocks.now first rest c.in-Some.ensures.cases.0 c.requires in
    let at = area-first c.args.readiness.now first rest can in
    areas-within c.args.readiness.now can.known can.held can.unplugged can.state first.place first.block can.right at.is_placed

pub mark_areas-requires : goal.mark_areas-requires
mark_areas-requires t c =
    let areas = c.args.readiness.now in
    let first = c.in-Some.first.now in
    let rest = c.in-Some.rest.now in
    let can = area-cut areas c.args.blocks.now first rest c.in-Some.ensures.cases.0 c.requires in (
      search rules,
      area-rest areas c.sent.new.self first rest can (c.sent.ensures can.known can.held can.unplugged can.state first.block (area-first areas first rest can) (area-lacks areas first rest can)),
    )

pub returns-in-Some : goal.returns-in-Some
returns-in-Some t c = λ can.
    let areas = c.args.readiness.now in
    let first = c.in-Some.first.now in
    let rest = c.in-Some.rest.now in
    let cut = c.in-Some.ensures.cases.0 in
    let own = area-cut areas c.args.blocks.now first rest cut can in
    c.mark_areas.ensures (area-rest areas c.sent.new.self first rest own (c.sent.ensures own.known own.held own.unplugged own.state first.block (area-first areas first rest own) (area-lacks areas first rest own)))
    ∙ ap (λ blocks. readiness_of (known_sent blocks can.known) (held_sent blocks can.held) can.unplugged can.state) (sym cut)

pub returns-in_default : goal.returns-in_default
returns-in_default t c = λ can.
    can.right ∙ ap (λ blocks. readiness_of (known_sent blocks can.known) (held_sent blocks can.held) can.unplugged can.state) (sym (no_items c.args.blocks.now c.in_default.ensures.cases))
