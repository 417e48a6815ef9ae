use Rattle.std.proofs.Common.{◌≡◌, ◌++◌, List, OnOk, subst, ◌∙◌}
use Rattle.hc_records.specs.Packing.{Placed}
use Rattle.hc_cuts.proofs.Walked.{span-carried}
use Rattle.hc_cuts.proofs.walk.add_span.Goals as goal

pub add_areas-requires-clause-packable : goal.add_areas-requires-clause-packable
add_areas-requires-clause-packable c =
    (span-carried c.args.datagram c.args.span.0 c.args.span.1 c.args.task.now.list c.as_slice.result.now c.requires.holds.list c.requires.ends (c.as_slice.ensures.value ∙ c.in_ok-areas.ensures.areas)).packable

pub add_areas-requires-clause-below : goal.add_areas-requires-clause-below
add_areas-requires-clause-below c =
    (span-carried c.args.datagram c.args.span.0 c.args.span.1 c.args.task.now.list c.as_slice.result.now c.requires.holds.list c.requires.ends (c.as_slice.ensures.value ∙ c.in_ok-areas.ensures.areas)).below

pub add_areas-requires-clause-room : goal.add_areas-requires-clause-room
add_areas-requires-clause-room c =
    (span-carried c.args.datagram c.args.span.0 c.args.span.1 c.args.task.now.list c.as_slice.result.now c.requires.holds.list c.requires.ends (c.as_slice.ensures.value ∙ c.in_ok-areas.ensures.areas)).room

pub returns : goal.returns
returns c =
    let span = span-carried c.args.datagram c.args.span.0 c.args.span.1 c.args.task.now.list c.as_slice.result.now c.requires.holds.list c.requires.ends (c.as_slice.ensures.value ∙ c.in_ok-areas.ensures.areas) in
    subst (λ (places : List Placed). OnOk c.add_areas.result (c.add_areas.new.places.items ≡ c.args.places.now.items ++ places)) span.carry c.add_areas.ensures
