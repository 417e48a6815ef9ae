use Rattle.hc_records.proofs.lemmas.Addresses.{addresses-one}
use Rattle.hc_records.proofs.laws.addresses_have_one_datagram.Goals as goal

pub returns : goal.returns
returns c = addresses-one
