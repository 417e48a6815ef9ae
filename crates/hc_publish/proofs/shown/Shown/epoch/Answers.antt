use Rattle.std.proofs.Common.{◌∙◌, ap, sym, subst}
use Rattle.hc_publish.specs.Shown.{answered_in}
use Rattle.hc_publish.specs.ChangesSince.{IsLegal, epoch_shown}
use Rattle.hc_publish.proofs.Legal.{epoch-legal_shown}
use Rattle.hc_publish.proofs.shown.Shown.epoch.Goals as goal

pub returns-clause-legal : goal.returns-clause-legal
returns-clause-legal c legal =
    epoch-legal_shown (answered_in c.self.inside) c.self.inside.epoch c.self.invariant.epoch_is (subst IsLegal (sym c.self.view_is) legal)
    ∙ ap epoch_shown c.self.view_is
