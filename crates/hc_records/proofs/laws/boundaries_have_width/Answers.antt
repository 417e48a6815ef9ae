use Rattle.hc_records.proofs.Widths.{later_key-width}
use Rattle.hc_records.proofs.laws.boundaries_have_width.Goals as goal

pub returns : goal.returns
returns c = later_key-width
