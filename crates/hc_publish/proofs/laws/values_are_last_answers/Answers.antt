use Rattle.hc_publish.proofs.Read.{last-value_answered, value-changes_since}
use Rattle.hc_publish.proofs.laws.values_are_last_answers.Goals as goal

pub returns : goal.returns
returns c changes_since task variable number legal = (value-changes_since changes_since task variable number legal, last-value_answered changes_since task variable number legal)
