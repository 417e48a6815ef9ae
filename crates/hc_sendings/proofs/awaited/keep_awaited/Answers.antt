use Rattle.std.proofs.Common.{rules}
use Rattle.std.proofs.lemmas.Fn.{filter_same}
use Rattle.hc_sendings.proofs.awaited.keep_awaited.Goals as goal

pub returns-clause-frames : goal.returns-clause-frames
returns-clause-frames c = filter_same _ _ _ (λ x b f' k. search rules) _ _ c.retain.ensures.filtered
