use Rattle.std.proofs.Common.{◌∙◌, ◌≤◌, length, subst}
use Rattle.std.specs.Prelude.{vec_capacity}
use Rattle.std.specs.Option.{MatchOption}
use Rattle.hc_places.specs.Swap.{KeepRows, merged}
use Rattle.hc_places.proofs.Overwritten.{overwritten-merged}
use Rattle.hc_places.proofs.room.change_rows.Goals as goal

pub change_middle-requires-clause-room : goal.change_middle-requires-clause-room
change_middle-requires-clause-room c =
    let changed = c.args.changed.now in
    let rows = c.args.rows.now.items in
    subst (λ room. MatchOption room (KeepRows rows changed) (λ into. length (merged changed rows) ≤ vec_capacity into)) c.in-Some.is c.requires.room

pub returns-in-None : goal.returns-in-None
returns-in-None c =
    let changed = c.args.changed.now in
    let rows = c.args.rows.now.items in
    let keep = subst (λ room. MatchOption room (KeepRows rows changed) (λ into. length (merged changed rows) ≤ vec_capacity into)) c.in-None.is c.requires.room in
    c.overwrite.ensures ∙ overwritten-merged changed rows c.requires.changes c.requires.ascends keep
