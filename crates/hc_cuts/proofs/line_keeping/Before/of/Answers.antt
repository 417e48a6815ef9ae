use Rattle.hc_cuts.proofs.line_keeping.Before.of.Goals as goal

pub returns : goal.returns
returns c = λ old new lines is. record {
  starts = c.copied_starts.ensures.starts old is;
  hulls = λ task low. c.all_hulls.ensures old new lines task low;
}
