use Rattle.hc_plan.proofs.lemmas.Configured.{block-configured, configured-block}
use Rattle.hc_plan.proofs.laws.blocks_are_configured.Goals as goal

pub returns : goal.returns
returns c line station number block distinct = (
  λ is. block-configured line line station number block is,
  λ contained. configured-block line line (record { station = station; number = number; block = block }) distinct contained,
)
