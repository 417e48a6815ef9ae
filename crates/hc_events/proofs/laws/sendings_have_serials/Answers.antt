use Rattle.hc_events.proofs.lemmas.Once.{below-serial, serial-below}
use Rattle.hc_events.proofs.lemmas.Placing.{standing-found, is_placed-at}
use Rattle.hc_events.proofs.laws.sendings_have_serials.Goals as goal

pub returns : goal.returns
returns c history serial = record {
  below = (below-serial history serial, serial-below history serial);
  which = λ sending. (is_placed-at history serial sending, standing-found history serial sending);
}
