use Rattle.hc_cuts.proofs.cuts.Cuts.place.Goals as goal

pub place_from-requires-clause-stood : goal.place_from-requires-clause-stood
place_from-requires-clause-stood c = c.start.ensures c.args.self.now.starts c.args.self.now.tree.list c.requires
