use Rattle.std.proofs.Common.{refl}
use Rattle.hc_project.proofs.levels.PdoReadable.read.Goals as goal

pub returns : goal.returns
returns c =
    rw (
      c.joined.ensures,
      c.over.ensures,
      c.in_ok-entries.ensures,
      c.read_word-number.ensures,
      c.get.ensures,
      c.get-2.ensures,
      c.with_key.ensures,
      c.in_pdo-here.ensures,
    ) refl
