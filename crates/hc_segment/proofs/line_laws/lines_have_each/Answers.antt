use Rattle.std.proofs.Common.{◌∙◌}
use Rattle.hc_segment.proofs.lemmas.Counts.{after-count, edit-count, opened-count, poked-count}
use Rattle.hc_segment.proofs.line_laws.lines_have_each.Goals as goal

pub returns : goal.returns
returns c = record {
  opened = opened-count;
  edited = edit-count;
  passed = λ groups machines frames each. after-count machines frames ∙ each;
  written = λ groups machines position at part each. poked-count machines position at part ∙ each;
}
