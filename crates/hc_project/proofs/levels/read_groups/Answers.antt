use Rattle.std.proofs.Common.{refl}
use Rattle.hc_project.proofs.levels.read_groups.Goals as goal

pub returns : goal.returns
returns c =
    rw (
      c.in_ok-with_first.ensures,
      c.both-syntax_faults.ensures,
      c.in_ok-others.ensures,
      c.saturating_sub-room.ensures,
      c.len.ensures,
      c.in_ok-mandatory.ensures,
      c.get.ensures,
      c.get-2.ensures,
      c.document-top.ensures,
    ) refl
