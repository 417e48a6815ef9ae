use Rattle.hc_core.proofs.choosing.+choose_further.Given as goal

abbrev pub decreases-choose_further : goal.decreases-choose_further
decreases-choose_further l = l.most
